use Rattle.std.proofs.Common.{◌≡◌, ℕ, ◌+◌, Bool, List, length, get_or, sym, ap, ◌∙◌, subst₂, arith}
use Rattle.automata.specs.Trees.{rank}
use Rattle.rules.specs.Shapes.{children_in}
use Rattle.rules.specs.declared.place.Place.{Place}
use Rattle.rules.specs.Shapes.{ranks_in}
use Rattle.reduction.specs.Marking.{set_in}
use Rattle.reduction.proofs.Comparisons.{place_within}
use Rattle.reduction.proofs.Giving.{grown_none}
use Rattle.reduction.proofs.RuleTurns.{Followed, followed_none, followed_past, followed_more, followed_all, target_off, rule_off}
use Rattle.reduction.proofs.chooser.Chooser.choose_children.Goals as goal
use Rattle.reduction.proofs.chooser.Chooser.choose_children.Goals.{then-not-is_set-2, else-not-is_set-2}

pub returns-then-not-is_set : goal.returns-then-not-is_set
returns-then-not-is_set g c =
    record {
      grown = grown_none c.args.chosen.now;
      choice = target_off g.W.Kind.weights g.W.Kind.stands c.args.self.now c.args.rule.now c.args.chosen.now c.args.work.now
          (ap (set_in c.args.chosen.now) (sym c.from.ensures) ∙ sym c.if-not-is_set.ensures);
    }

pub returns-then-not-is_live_rule : goal.returns-then-not-is_live_rule
returns-then-not-is_live_rule g c =
    record {
      grown = grown_none c.args.chosen.now;
      choice = rule_off g.W.Kind.weights g.W.Kind.stands c.args.self.now c.args.rule.now c.args.chosen.now c.args.work.now
          (sym c.if-not-is_live_rule.ensures);
    }

pub loop-k-init : goal.loop-k-init
loop-k-init g c =
    followed_none g.W.Kind.weights g.W.Kind.stands c.args.self.now c.args.rule.now c.args.chosen.now c.args.work.now

pub choose_class-requires : goal.choose_class-requires
choose_class-requires g c =
    let long : length c.children-child-items.result.now ≡ length (children_in c.args.self.now.live.now.table.shape.now c.args.rule.now.left) = ap length c.children-child-items.ensures in
    place_within (rank (ranks_in c.args.self.now.live.now.table.shape.now) c.args.rule.now.left.symbol) c.args.rule.now.left.children c.loop-k.k (omega (arith, long, c.loop-k-test.true))

pub loop-k-preserved : goal.loop-k-preserved
loop-k-preserved g c =
    let k = c.loop-k.k in
    let child : c.from-in-loop-k.result ≡ get_or (children_in c.args.self.now.live.now.table.shape.now c.args.rule.now.left) k 0 = c.from-in-loop-k.ensures ∙ ap (λ (xs : List ℕ). get_or xs k 0) c.children-child-items.ensures in
    let Following = λ (flags : List Bool) (work : List (Place g.row.W.Denot)) (n : ℕ). Followed g.W.Kind.weights g.W.Kind.stands c.args.self.now c.args.rule.now c.args.chosen.now c.args.work.now flags work n in
    elim c.if-not-is_set-2.branch [
      | then-not-is_set-2 w ↦
          subst₂ (λ (flags : List Bool) (work : List (Place g.row.W.Denot)). Following flags work (k + 1)) (sym w.chosen-is) (sym w.work-is)
          (followed_more g.W.Kind.weights g.W.Kind.stands c.args.self.now c.args.rule.now c.args.chosen.now c.args.work.now
          (ap (set_in c.args.chosen.now) (sym c.from.ensures) ∙ sym c.if-not-is_set.ensures) (sym c.if-not-is_live_rule.ensures)
          c.loop-k.chosen w.choose_class.new.chosen c.loop-k.work w.choose_class.new.work k c.loop-k.auto.work
          (ap (set_in c.loop-k.chosen) (sym child) ∙ sym w.if-not-is_set-2.ensures) w.choose_class.ensures.grown w.choose_class.ensures.choice c.loop-k.invariant)
      | else-not-is_set-2 w ↦
          subst₂ (λ (flags : List Bool) (work : List (Place g.row.W.Denot)). Following flags work (k + 1)) (sym w.chosen-is) (sym w.work-is)
          (followed_past g.W.Kind.weights g.W.Kind.stands c.args.self.now c.args.rule.now c.args.chosen.now c.args.work.now
          c.loop-k.chosen c.loop-k.work k (ap (set_in c.loop-k.chosen) (sym child) ∙ sym w.if-not-is_set-2.ensures) c.loop-k.invariant)
    ]

pub returns : goal.returns
returns g c =
    let long : length c.children-child-items.result.now ≡ length (children_in c.args.self.now.live.now.table.shape.now c.args.rule.now.left) = ap length c.children-child-items.ensures in
    record {
      grown = c.loop-k.invariant.0;
      choice = followed_all g.W.Kind.weights g.W.Kind.stands c.args.self.now c.args.rule.now c.args.chosen.now c.args.work.now c.loop-k.chosen c.loop-k.work c.loop-k.k (omega (arith, long, c.loop-k-test.false)) c.loop-k.invariant;
    }
