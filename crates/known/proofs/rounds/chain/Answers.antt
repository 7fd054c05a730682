use Rattle.tables.specs.Images.{draft_holds}
use Rattle.known.proofs.Fillings.{second_add}
use Rattle.known.proofs.rounds.chain.Goals as goal

pub returns : goal.returns
returns g c places o =
    second_add places (g.W.Kind.stands c.args.low) (g.W.Kind.stands c.args.high) (draft_holds g.W.Kind.stands c.args.draft.now) o
    (draft_holds g.W.Kind.stands c.accept.new.self) c.in_ok-accept.ensures
    (draft_holds g.W.Kind.stands c.add.new.self) c.in_ok-add.ensures
    (draft_holds g.W.Kind.stands c.add-2.new.self) _ c.add-2.result c.add-2.ensures
