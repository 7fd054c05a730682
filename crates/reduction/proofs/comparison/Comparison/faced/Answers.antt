use Rattle.std.proofs.Common.{sym, ap, ◌∙◌}
use Rattle.rules.specs.Shapes.{ranks_in}
use Rattle.reduction.specs.Marking.{live_in}
use Rattle.reduction.proofs.Differences.{faces_none, faces_target, faces_child, faces_some}
use Rattle.reduction.proofs.comparison.Comparison.faced.Goals as goal

pub returns-in_err-place : goal.returns-in_err-place
returns-in_err-place g c =
    let four = c.difference.ensures.four in
    rw c.from_residual.ensures (
    faces_none g.W.Kind.stands (ranks_in c.args.self.now.live.now.table.shape.now) (live_in c.args.self.now.live.now.life.now) c.args.rule.now c.args.other.now c.from.result c.rank-rank.result c.if-rule-other.false c.from.ensures c.rank-rank.ensures.value c.rank-rank.ensures.small four.0 four.1 c.in_err-place.ensures.place)

pub returns-then-not-is_live : goal.returns-then-not-is_live
returns-then-not-is_live g c =
    let four = c.difference.ensures.four in
    faces_target g.W.Kind.stands (ranks_in c.args.self.now.live.now.table.shape.now) (live_in c.args.self.now.live.now.life.now) c.args.rule.now c.args.other.now c.from.result c.rank-rank.result c.if-rule-other.false c.from.ensures c.rank-rank.ensures.value c.rank-rank.ensures.small four.0 four.1 c.in_ok-place.place c.in_ok-place.ensures.place
    (ap (live_in c.args.self.now.live.now.life.now) (sym c.from-2.ensures) ∙ sym c.if-not-is_live.ensures)

pub returns-then-not-is_live-2 : goal.returns-then-not-is_live-2
returns-then-not-is_live-2 g c =
    let four = c.difference.ensures.four in
    faces_child g.W.Kind.stands (ranks_in c.args.self.now.live.now.table.shape.now) (live_in c.args.self.now.live.now.life.now) c.args.rule.now c.args.other.now c.from.result c.rank-rank.result c.if-rule-other.false c.from.ensures c.rank-rank.ensures.value c.rank-rank.ensures.small four.0 four.1 c.in_ok-place.place c.in_ok-place.ensures.place
    (ap (live_in c.args.self.now.live.now.life.now) (sym c.from-3.ensures) ∙ sym c.if-not-is_live-2.ensures)

pub returns : goal.returns
returns g c =
    let four = c.difference.ensures.four in
    faces_some g.W.Kind.stands (ranks_in c.args.self.now.live.now.table.shape.now) (live_in c.args.self.now.live.now.life.now) c.args.rule.now c.args.other.now c.from.result c.rank-rank.result c.if-rule-other.false c.from.ensures c.rank-rank.ensures.value c.rank-rank.ensures.small four.0 four.1 c.in_ok-place.place c.in_ok-place.ensures.place
    (ap (live_in c.args.self.now.live.now.life.now) (sym c.from-2.ensures) ∙ sym c.if-not-is_live.ensures)
    (ap (live_in c.args.self.now.live.now.life.now) (sym c.from-3.ensures) ∙ sym c.if-not-is_live-2.ensures)
