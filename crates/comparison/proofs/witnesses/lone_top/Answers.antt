use Rattle.comparison.proofs.Lonelies.{ready, lone_found}
use Rattle.comparison.proofs.witnesses.lone_top.Goals as goal

pub climb-requires : goal.climb-requires
climb-requires g c =
    ready g.W.Kind.weights g.W.Kind.stands c.args.tables.now.first c.args.tables.now.second c.args.side c.args.survey.now c.args.work.now c.args.len c.args.entry c.requires.matched c.requires.forest c.requires.known c.requires.below c.requires.room c.requires.lonely.there

pub returns : goal.returns
returns g c =
    lone_found g.W.Kind.weights g.W.Kind.stands c.args.tables.now.first c.args.tables.now.second c.args.side c.args.survey.now c.args.work.now c.args.len c.args.entry c.requires.matched c.requires.forest c.requires.known c.requires.below c.requires.lonely c.climb.new.work c.climb.result c.climb.ensures
