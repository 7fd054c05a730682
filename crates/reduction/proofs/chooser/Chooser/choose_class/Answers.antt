use Rattle.std.proofs.Common.{◌≡◌, ℕ, ◌+◌, Bool, not, ◌&&◌, List, length, get_or, sym, ap, ◌∙◌, subst₂, arith}
use Rattle.std.proofs.lemmas.List.{get_or-take}
use Rattle.std.proofs.lemmas.Bool.{both_ways, not-true, not_from_false, and_parts, and_from}
use Rattle.automata.specs.Trees.{rank}
use Rattle.rules.specs.Shapes.{children_in}
use Rattle.pairs.specs.Cells.{cell_at}
use Rattle.rules.specs.declared.place.Place.{Place}
use Rattle.rules.specs.Shapes.{ranks_in}
use Rattle.trees.proofs.Ranks.{rank_small}
use Rattle.reduction.specs.Choosing.{Grown}
use Rattle.reduction.specs.Marking.{live_in}
use Rattle.reduction.proofs.ClassTurns.{Turned, turned_none, turned_past, turned_more, turned_all}
use Rattle.reduction.proofs.Giving.{grown_none, grown_onward}
use Rattle.reduction.proofs.chooser.Chooser.choose_class.Goals as goal
use Rattle.reduction.proofs.chooser.Chooser.choose_class.Goals.{then-is_alike, else-is_alike}

pub bounds-children-place : goal.bounds-children-place
bounds-children-place g c = omega (arith, c.requires, rank_small c.args.self.now.live.now.table.shape.now.measure.alphabet c.args.rule.now.left.symbol)

pub offset_bounds-children-place : goal.offset_bounds-children-place
offset_bounds-children-place g c = omega (arith, c.requires, rank_small c.args.self.now.live.now.table.shape.now.measure.alphabet c.args.rule.now.left.symbol)

pub loop-q-init : goal.loop-q-init
loop-q-init g c =
    let four : length c.args.rule.now.left.children ≡ 4 = ap length (sym c.states-children.ensures) ∙ (omega arith) in (
      grown_none c.args.chosen.now,
      turned_none g.W.Kind.weights g.W.Kind.stands c.args.self.now c.args.rule.now c.args.place c.args.chosen.now c.args.work.now c.requires four,
    )

pub loop-q-preserved : goal.loop-q-preserved
loop-q-preserved g c =
    let K = g.W.Kind.weights in
    let four : length c.args.rule.now.left.children ≡ 4 = ap length (sym c.states-children.ensures) ∙ (omega arith) in
    let q = c.loop-q.q in
    let child : get_or c.states-children.result c.args.place 0 ≡ get_or (children_in c.args.self.now.live.now.table.shape.now c.args.rule.now.left) c.args.place 0 =
    ap (λ (xs : List ℕ). get_or xs c.args.place 0) c.states-children.ensures ∙ sym (get_or-take (rank (ranks_in c.args.self.now.live.now.table.shape.now) c.args.rule.now.left.symbol) c.args.rule.now.left.children c.args.place 0 c.requires) in
    let Turning = λ (flags : List Bool) (work : List (Place g.row.W.Denot)) (n : ℕ). Grown c.args.chosen.now flags × Turned K g.W.Kind.stands c.args.self.now c.args.rule.now c.args.place c.args.chosen.now c.args.work.now flags work n in
    let alike = live_in c.args.self.now.live.now.life.now q in
    let apart = cell_at c.args.self.now.marks.now (get_or c.states-children.result c.args.place 0) q in
    elim c.if-is_alike.branch [
      | then-is_alike w ↦
          let yes-parts = and_parts alike (not apart) (sym w.if-is_alike.ensures) in
          subst₂ (λ (flags : List Bool) (work : List (Place g.row.W.Denot)). Turning flags work (q + 1)) (sym w.chosen-is) (sym w.work-is) (
            grown_onward c.args.chosen.now c.loop-q.chosen w.choose_state.new.chosen c.loop-q.invariant.0 w.choose_state.ensures.grown,
            turned_more K g.W.Kind.stands c.args.self.now c.args.rule.now c.args.place c.args.chosen.now c.args.work.now c.requires four
                c.loop-q.chosen c.loop-q.work q c.loop-q.invariant.1 yes-parts.0 (ap (λ p. cell_at c.args.self.now.marks.now p q) (sym child) ∙ not-true apart yes-parts.1) (omega arith) (omega arith)
                w.choose_state.new.chosen w.choose_state.new.work w.choose_state.ensures.gets,
          )
      | else-is_alike w ↦
          subst₂ (λ (flags : List Bool) (work : List (Place g.row.W.Denot)). Turning flags work (q + 1)) (sym w.chosen-is) (sym w.work-is) (
            c.loop-q.invariant.0,
            turned_past K g.W.Kind.stands c.args.self.now c.args.rule.now c.args.place c.args.chosen.now c.args.work.now c.requires four
                c.loop-q.chosen c.loop-q.work q c.loop-q.invariant.1 (λ l e.
                both_ways (alike && not apart) (sym w.if-is_alike.ensures) (and_from alike (not apart) l (not_from_false apart (ap (λ p. cell_at c.args.self.now.marks.now p q) child ∙ e)))),
          )
    ]

pub returns : goal.returns
returns g c =
    let four : length c.args.rule.now.left.children ≡ 4 = ap length (sym c.states-children.ensures) ∙ (omega arith) in
    record {
      grown = c.loop-q.invariant.0;
      choice =
          turned_all g.W.Kind.weights g.W.Kind.stands c.args.self.now c.args.rule.now c.args.place c.args.chosen.now c.args.work.now c.requires four
          c.loop-q.chosen c.loop-q.work c.loop-q.q c.loop-q.invariant.1 (omega arith);
    }
