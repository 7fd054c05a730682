use Rattle.std.proofs.Common.{ℕ, ◌+◌, List, replicate, None, Option, sym, subst, arith}
use Rattle.pairs.specs.Cells.{cell_at}
use Rattle.reduction.specs.Marking.{live_in}
use Rattle.trees.proofs.Ranks.{getD_constant}
use Rattle.reduction.proofs.Entering.{Seen, seen_none, seen_skip, seen_more}
use Rattle.reduction.proofs.numbering.number_classes.Goals as goal
use Rattle.reduction.proofs.numbering.number_classes.Goals.{then-has, else-has}

pub loop-q-init : goal.loop-q-init
loop-q-init c =
    seen_none (live_in c.args.life.now) (cell_at c.args.marks.now) (replicate 48 None) (omega arith) (λ q. getD_constant {X = Option ℕ} 48 q None)

pub loop-q-preserved : goal.loop-q-preserved
loop-q-preserved c =
    let live = live_in c.args.life.now in
    let marks = cell_at c.args.marks.now in
    elim c.if-has.branch [
      | then-has w ↦
          subst (λ (n : ℕ). Seen live marks c.if-has.of n (c.loop-q.q + 1)) (sym w.count-is)
          (subst (λ (xs : List (Option ℕ)). Seen live marks xs w.enter-count.result (c.loop-q.q + 1)) (sym w.of-is)
          (seen_more live marks c.loop-q.of c.loop-q.count c.loop-q.q c.loop-q.invariant (sym w.if-has.ensures) (omega arith) w.enter-count.new.places w.enter-count.result w.enter-count.ensures))
      | else-has w ↦
          subst (λ (n : ℕ). Seen live marks c.if-has.of n (c.loop-q.q + 1)) (sym w.count-is)
          (subst (λ (xs : List (Option ℕ)). Seen live marks xs c.loop-q.count (c.loop-q.q + 1)) (sym w.of-is)
          (seen_skip live marks c.loop-q.of c.loop-q.count c.loop-q.q c.loop-q.invariant (sym w.if-has.ensures)))
    ]
