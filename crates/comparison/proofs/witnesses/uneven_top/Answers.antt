use Rattle.comparison.proofs.Unevens.{ready_again, first_found, second_found}
use Rattle.comparison.proofs.witnesses.uneven_top.Goals as goal

pub climb-two-requires : goal.climb-two-requires
climb-two-requires g c =
    ready_again g.W.Kind.weights g.W.Kind.stands c.args.tables.now.first c.args.tables.now.second c.args.survey.now c.args.work.now c.args.len c.args.entry c.args.other c.requires.matched c.requires.forest c.requires.known c.requires.below c.requires.other_below c.requires.ratios c.climb-one.new.work c.climb-one.result c.climb-one.ensures c.climb-one.auto.work c.requires.room

pub returns-then-differs : goal.returns-then-differs
returns-then-differs g c =
    first_found g.W.Kind.weights g.W.Kind.stands c.args.tables.now.first c.args.tables.now.second c.args.survey.now c.args.work.now c.args.len c.args.entry c.args.other c.requires.matched c.requires.forest c.requires.known c.requires.below c.requires.other_below c.requires.ratios c.climb-one.new.work c.climb-one.result c.climb-one.ensures c.climb-two.new.work c.climb-two.result c.climb-two.ensures (c.differs.ensures.0 c.if-differs.true)

pub returns-else-differs : goal.returns-else-differs
returns-else-differs g c =
    second_found g.W.Kind.weights g.W.Kind.stands c.args.tables.now.first c.args.tables.now.second c.args.survey.now c.args.work.now c.args.len c.args.entry c.args.other c.requires.matched c.requires.forest c.requires.known c.requires.below c.requires.other_below c.requires.ratios c.climb-one.new.work c.climb-one.result c.climb-one.ensures c.climb-two.new.work c.climb-two.result c.climb-two.ensures c.differs.result c.differs.ensures c.if-differs.false
