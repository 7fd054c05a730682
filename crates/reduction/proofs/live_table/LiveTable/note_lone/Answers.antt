use Rattle.std.proofs.Common.{◌≡◌, ◌<◌, length, take, sym, ap, ◌∙◌, arith}
use Rattle.std.proofs.lemmas.List.{length-take-le}
use Rattle.std.proofs.lemmas.Bool.{both_ways}
use Rattle.automata.specs.Trees.{rank}
use Rattle.trees.proofs.Ranks.{rank_small}
use Rattle.rules.specs.Shapes.{ranks_in, transition, automaton_of}
use Rattle.pairs.specs.Cells.{cell_at}
use Rattle.reduction.specs.Marking.{live_in}
use Rattle.reduction.specs.Rounds.{round_one}
use Rattle.reduction.proofs.Telling.{grown_same}
use Rattle.reduction.proofs.Comparisons.{child_read}
use Rattle.reduction.proofs.Counterparts.{lone_grown, lone_here}
use Rattle.reduction.proofs.live_table.LiveTable.note_lone.Goals as goal

pub bounds-rule-place : goal.bounds-rule-place
bounds-rule-place g c = omega (arith, c.requires.1.1, rank_small c.args.self.now.table.shape.now.measure.alphabet c.args.rule.now.left.symbol)

pub returns-then-not-is_live : goal.returns-then-not-is_live
returns-then-not-is_live g c = record {
  grown = grown_same g.W.Kind.weights (automaton_of g.W.Kind.stands c.args.self.now.table) (live_in c.args.self.now.life.now) round_one c.args.marks.now;
  noted = λ a b on d. absurd (both_ways (live_in c.args.self.now.life.now c.args.other) (sym c.if-not-is_live.ensures) on);
}

pub returns-then-get : goal.returns-then-get
returns-then-get g c = record {
  grown = grown_same g.W.Kind.weights (automaton_of g.W.Kind.stands c.args.self.now.table) (live_in c.args.self.now.life.now) round_one c.args.marks.now;
  noted = λ a b on d. ap (λ x. cell_at c.args.marks.now x c.args.other) (child_read (rank (ranks_in c.args.self.now.table.shape.now) c.args.rule.now.left.symbol) c.args.rule.now.left.children c.args.place c.from-child.result b c.from-child.ensures) ∙ sym c.if-get.ensures.there;
}

pub returns-then-not-has_counterpart : goal.returns-then-not-has_counterpart
returns-then-not-has_counterpart g c =
    let K = g.W.Kind.weights in
    let A = automaton_of g.W.Kind.stands c.args.self.now.table in
    let n = rank (ranks_in c.args.self.now.table.shape.now) c.args.rule.now.left.symbol in
    let r = transition g.W.Kind.stands (ranks_in c.args.self.now.table.shape.now) c.args.rule.now in
    let four = c.has_counterpart.ensures.four in
    let low = c.requires.1.1 in
    let few = rank_small c.args.self.now.table.shape.now.measure.alphabet c.args.rule.now.left.symbol in
    let long : length (take n c.args.rule.now.left.children) ≡ n = length-take-le n c.args.rule.now.left.children (omega arith) in
    let within : c.args.place < length (take n c.args.rule.now.left.children) = omega arith in
    let this = child_read n c.args.rule.now.left.children c.args.place c.from-child.result within c.from-child.ensures in
    record {
      grown = lone_grown K A (live_in c.args.self.now.life.now) r c.args.place c.from-child.result c.args.other c.args.marks.now c.mark_both.new.self c.requires.0 c.requires.1.0 within this (sym c.if-not-is_live.ensures) (sym c.if-not-has_counterpart.ensures.found) (λ q on. let small = c.args.self.now.few q on in omega arith) c.mark_both.ensures.there;
      noted = lone_here K A (live_in c.args.self.now.life.now) r c.args.place c.from-child.result c.args.other c.args.marks.now c.mark_both.new.self c.requires.0 c.requires.1.0 within this (sym c.if-not-is_live.ensures) (sym c.if-not-has_counterpart.ensures.found) (λ q on. let small = c.args.self.now.few q on in omega arith) c.mark_both.ensures.there;
    }
