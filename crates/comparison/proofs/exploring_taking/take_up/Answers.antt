use Rattle.std.proofs.Common.{refl}
use Rattle.pairs.specs.Cells.{cell_at}
use Rattle.rules.specs.declared.side.Side.TheVariants.{First, Second}
use Rattle.rules.specs.Shapes.{accepts_in}
use Rattle.comparison.specs.Differing.{weight_by}
use Rattle.comparison.specs.Scanning.{two, runs_in}
use Rattle.comparison.proofs.Plantings.{told_good}
use Rattle.comparison.proofs.Outcomes.{not_different}
use Rattle.comparison.proofs.Takings.{taken_differs, taken_lone, taken_uneven, taken_new}
use Rattle.comparison.proofs.exploring_taking.take_up.Goals as goal

pub plant-requires : goal.plant-requires
plant-requires g c =
    (c.requires.room, told_good g.W.Kind.weights (two g.W.Kind.stands c.args.tables.now) (runs_in g.W.Kind.stands c.args.work.now) (cell_at c.args.pairs.now) c.args.len c.args.finding c.requires.earlier c.requires.told)

pub returns-then-differs : goal.returns-then-differs
returns-then-differs g c base low live forest pairing =
    taken_differs g.W.Kind.weights g.W.Kind.stands c.args.tables.now c.args.work.now c.plant.new.work (cell_at c.args.pairs.now) c.args.len c.args.finding c.requires.same c.requires.room c.requires.told c.plant.ensures.grown c.plant.ensures.nodes c.plant.ensures.before base low live forest pairing (cell_at c.args.pairs.now) (c.if-differs.ensures.0 refl)

pub returns-else-differs : goal.returns-else-differs
returns-else-differs g c base low live forest pairing =
    let R = runs_in g.W.Kind.stands c.plant.new.work in
    taken_new g.W.Kind.weights g.W.Kind.stands c.args.tables.now c.args.work.now c.plant.new.work (cell_at c.args.pairs.now) c.args.len c.args.finding c.requires.same c.requires.room c.requires.told c.plant.ensures.grown c.plant.ensures.nodes c.plant.ensures.before base low live forest pairing (cell_at c.note_pair.new.pairs) c.in-NewPair.is
    (not_different g.W.Kind.weights c.differs.result (weight_by (accepts_in c.args.tables.now.tables.first.shape.now) (R First c.args.len)) (weight_by (accepts_in c.args.tables.now.tables.second.shape.now) (R Second c.args.len)) c.differs.ensures c.if-differs.false)
    c.note_pair.ensures

pub returns-in-Lone : goal.returns-in-Lone
returns-in-Lone g c base low live forest pairing =
    taken_lone g.W.Kind.weights g.W.Kind.stands c.args.tables.now c.args.work.now c.plant.new.work (cell_at c.args.pairs.now) c.args.len c.args.finding c.requires.same c.requires.room c.requires.told c.plant.ensures.grown c.plant.ensures.nodes c.plant.ensures.before base low live forest pairing (cell_at c.args.pairs.now) c.in-Lone.side c.in-Lone.is

pub returns-in-Uneven : goal.returns-in-Uneven
returns-in-Uneven g c base low live forest pairing =
    taken_uneven g.W.Kind.weights g.W.Kind.stands c.args.tables.now c.args.work.now c.plant.new.work (cell_at c.args.pairs.now) c.args.len c.args.finding c.requires.same c.requires.room c.requires.told c.plant.ensures.grown c.plant.ensures.nodes c.plant.ensures.before base low live forest pairing (cell_at c.args.pairs.now) c.in-Uneven.other c.in-Uneven.is
