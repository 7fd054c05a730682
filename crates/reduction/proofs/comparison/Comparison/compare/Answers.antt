use Rattle.std.proofs.Common.{false, refl, arith}
use Rattle.std.proofs.lemmas.Bool.{both_ways}
use Rattle.automata.specs.Trees.{rank}
use Rattle.trees.proofs.Ranks.{rank_small}
use Rattle.rules.specs.Shapes.{ranks_in, transition, automaton_of}
use Rattle.reduction.specs.Marking.{live_in}
use Rattle.reduction.specs.Rounds.{round_in}
use Rattle.reduction.proofs.Comparisons.{place_within, child_read, other_read, compared_marked, compared_alike, compared_new}
use Rattle.reduction.proofs.comparison.Comparison.compare.Goals as goal

pub bounds-rule-place : goal.bounds-rule-place
bounds-rule-place g c =
    omega (arith, place_within (rank (ranks_in c.args.self.now.live.now.table.shape.now) c.args.rule.now.left.symbol) c.args.rule.now.left.children c.in-Some.place c.in-Some.ensures.within, rank_small c.args.self.now.live.now.table.shape.now.measure.alphabet c.args.rule.now.left.symbol)

pub bounds-other-place : goal.bounds-other-place
bounds-other-place g c =
    omega (arith, place_within (rank (ranks_in c.args.self.now.live.now.table.shape.now) c.args.rule.now.left.symbol) c.args.rule.now.left.children c.in-Some.place c.in-Some.ensures.within, rank_small c.args.self.now.live.now.table.shape.now.measure.alphabet c.args.rule.now.left.symbol)

pub returns-then-get : goal.returns-then-get
returns-then-get g c =
    compared_marked g.W.Kind.weights (automaton_of g.W.Kind.stands c.args.self.now.live.now.table) (live_in c.args.self.now.live.now.life.now) (round_in g.W.Kind.stands g.W.Kind.weights c.args.self.now.factors)
    (transition g.W.Kind.stands (ranks_in c.args.self.now.live.now.table.shape.now) c.args.rule.now) (transition g.W.Kind.stands (ranks_in c.args.self.now.live.now.table.shape.now) c.args.other.now) c.args.marks.now c.in-Some.place c.from-p.result c.from-q.result c.in-Some.ensures
    (child_read (rank (ranks_in c.args.self.now.live.now.table.shape.now) c.args.rule.now.left.symbol) c.args.rule.now.left.children c.in-Some.place c.from-p.result c.in-Some.ensures.within c.from-p.ensures)
    (other_read (ranks_in c.args.self.now.live.now.table.shape.now) c.args.rule.now.left.symbol c.args.other.now.left.symbol c.args.rule.now.left.children c.args.other.now.left.children c.in-Some.place c.from-q.result c.in-Some.ensures.symbol c.in-Some.ensures.within c.from-q.ensures)
    c.if-get.ensures.there

pub returns-then-not-tells : goal.returns-then-not-tells
returns-then-not-tells g c =
    compared_alike g.W.Kind.weights (automaton_of g.W.Kind.stands c.args.self.now.live.now.table) (live_in c.args.self.now.live.now.life.now) (round_in g.W.Kind.stands g.W.Kind.weights c.args.self.now.factors)
    (transition g.W.Kind.stands (ranks_in c.args.self.now.live.now.table.shape.now) c.args.rule.now) (transition g.W.Kind.stands (ranks_in c.args.self.now.live.now.table.shape.now) c.args.other.now) c.args.marks.now c.in-Some.place c.from-p.result c.from-q.result c.in-Some.ensures
    (child_read (rank (ranks_in c.args.self.now.live.now.table.shape.now) c.args.rule.now.left.symbol) c.args.rule.now.left.children c.in-Some.place c.from-p.result c.in-Some.ensures.within c.from-p.ensures)
    (other_read (ranks_in c.args.self.now.live.now.table.shape.now) c.args.rule.now.left.symbol c.args.other.now.left.symbol c.args.rule.now.left.children c.args.other.now.left.children c.in-Some.place c.from-q.result c.in-Some.ensures.symbol c.in-Some.ensures.within c.from-q.ensures)
    (λ h. both_ways false refl (c.if-not-tells.ensures.1 h))

pub returns : goal.returns
returns g c =
    compared_new g.W.Kind.weights (automaton_of g.W.Kind.stands c.args.self.now.live.now.table) (live_in c.args.self.now.live.now.life.now) (round_in g.W.Kind.stands g.W.Kind.weights c.args.self.now.factors)
    (transition g.W.Kind.stands (ranks_in c.args.self.now.live.now.table.shape.now) c.args.rule.now) (transition g.W.Kind.stands (ranks_in c.args.self.now.live.now.table.shape.now) c.args.other.now) c.args.marks.now c.in-Some.place c.from-p.result c.from-q.result c.in-Some.ensures
    (child_read (rank (ranks_in c.args.self.now.live.now.table.shape.now) c.args.rule.now.left.symbol) c.args.rule.now.left.children c.in-Some.place c.from-p.result c.in-Some.ensures.within c.from-p.ensures)
    (other_read (ranks_in c.args.self.now.live.now.table.shape.now) c.args.rule.now.left.symbol c.args.other.now.left.symbol c.args.rule.now.left.children c.args.other.now.left.children c.in-Some.place c.from-q.result c.in-Some.ensures.symbol c.in-Some.ensures.within c.from-q.ensures)
    c.mark_both.new.self (λ q on. let small = c.args.self.now.live.now.few q on in omega arith) c.requires.0 c.requires.1.0 c.requires.1.1 (c.if-not-tells.ensures.0 refl) c.if-get.ensures.there c.mark_both.ensures.there
