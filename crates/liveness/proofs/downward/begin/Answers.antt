use Rattle.liveness.specs.Listings.{flags_of}
use Rattle.std.proofs.Common.{ℕ, ◌+◌, None, false, get_or, sym, subst, arith}
use Rattle.std.proofs.lemmas.Bool.{both_ways}
use Rattle.rules.specs.Shapes.{accepts_in}
use Rattle.liveness.specs.Listings.{Listed}
use Rattle.liveness.specs.Living.{Noted}
use Rattle.liveness.proofs.Onward.{Beginning, beginning_none, beginning_past, beginning_more}
use Rattle.liveness.proofs.downward.begin.Goals as goal
use Rattle.liveness.proofs.downward.begin.Goals.{then-is_accepting+then-has, else-is_accepting, else-is_accepting-via-then-is_accepting+else-has, else-is_accepting-via-else-is_accepting}

pub loop-q-init : goal.loop-q-init
loop-q-init c = subst (λ L. Beginning c.args.shape.now c.args.reach.now L 0) (sym c.none-life.ensures) (beginning_none c.args.shape.now c.args.reach.now)

pub note-requires : goal.note-requires
note-requires c =
    (omega arith, subst (λ (n : ℕ). Listed n (flags_of c.loop-q.life) c.loop-q.life.order c.loop-q.life.count) (sym c.states-states.ensures) c.loop-q.invariant.listed)

pub loop-q-preserved : goal.loop-q-preserved
loop-q-preserved c =
    elim c.if-is_accepting.branch [
      | then-is_accepting+then-has w ↦ subst (λ L. Beginning c.args.shape.now c.args.reach.now L (c.loop-q.q + 1)) (sym w.life-is)
          (beginning_more c.args.shape.now c.args.reach.now c.loop-q.life w.note.new.life c.loop-q.q None (omega arith) (omega arith) c.loop-q.invariant
          (sym w.if-is_accepting.ensures, sym w.if-has.ensures)
          (subst (λ (n : ℕ). Noted n c.loop-q.q None c.loop-q.life w.note.new.life) c.states-states.ensures w.note.ensures))
      | else-is_accepting w ↦ subst (λ L. Beginning c.args.shape.now c.args.reach.now L (c.loop-q.q + 1)) (sym w.life-is)
          (beginning_past c.args.shape.now c.args.reach.now c.loop-q.life c.loop-q.q c.loop-q.invariant (λ a.
          elim w.else-is_accepting.branch [
            | else-is_accepting-via-then-is_accepting+else-has v ↦ both_ways (get_or (flags_of c.args.reach.now) c.loop-q.q false) (sym v.if-has.ensures) a.1
            | else-is_accepting-via-else-is_accepting v ↦ both_ways (accepts_in c.args.shape.now c.loop-q.q) (sym v.if-is_accepting.ensures) a.0
          ]))
    ]

pub returns : goal.returns
returns c =
    record { listed = c.loop-q.invariant.listed; accepting = c.loop-q.invariant.accepting; begins = λ q h a. c.loop-q.invariant.begins q (omega arith) a }
