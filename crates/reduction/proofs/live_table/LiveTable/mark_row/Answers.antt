use Rattle.std.proofs.Common.{◌≡◌, ℕ, ◌+◌, true, false, sym, refl, subst, arith}
use Rattle.rules.specs.Shapes.{accepts_in}
use Rattle.reduction.specs.Marking.{live_in}
use Rattle.reduction.specs.Rounds.{AcceptApart}
use Rattle.reduction.proofs.Spreads.{Row, row_past, row_more}
use Rattle.reduction.proofs.live_table.LiveTable.mark_row.Goals as goal
use Rattle.reduction.proofs.live_table.LiveTable.mark_row.Goals.{then-accept_apart, else-accept_apart}

pub loop-q-preserved : goal.loop-q-preserved
loop-q-preserved g c =
    let D = AcceptApart (accepts_in c.args.self.now.table.shape.now) (live_in c.args.self.now.life.now) in
    elim c.if-accept_apart.branch [
      | then-accept_apart w ↦
          let here : D c.args.p c.loop-q.q = w.if-accept_apart.ensures.0 refl in
          let small = c.args.self.now.few c.args.p here.this_live in
          subst (λ t. Row D c.args.p (c.loop-q.q + 1) c.args.marks.now t) (sym w.marks-is)
          (row_more D c.args.p c.loop-q.q c.args.marks.now c.loop-q.marks w.mark.new.self here (w.mark.ensures.there (omega arith) (omega arith)) c.loop-q.invariant)
      | else-accept_apart w ↦
          subst (λ t. Row D c.args.p (c.loop-q.q + 1) c.args.marks.now t) (sym w.marks-is)
          (row_past D c.args.p c.loop-q.q c.args.marks.now c.loop-q.marks (λ d. let z : false ≡ true = w.if-accept_apart.ensures.1 d in let y : ◌≡◌ {A = ℕ} 0 1 = cc in omega arith) c.loop-q.invariant)
    ]

pub returns : goal.returns
returns g c = record {
  only = c.loop-q.invariant.only;
  kept = c.loop-q.invariant.kept;
  all = λ x y e d. let small = c.args.self.now.few y d.other_live in c.loop-q.invariant.all x y (e, omega arith) d;
}
