use Rattle.std.proofs.Common.{◌<◌, length, rules, sym, refl, arith}
use Rattle.trees.proofs.Refusals.{refused_first, refused_none}
use Rattle.rules.specs.Books.{add_checks, holding}
use Rattle.rules.proofs.Adds.{fine, has_room, narrow, appended}
use Rattle.rules.proofs.adding.append.Goals as goal

pub returns-in-Some : goal.returns-in-Some
returns-in-Some g c =
    (refused_first (add_checks (holding g.W.Kind.stands c.args.shape.now c.args.memory.now c.args.count) c.args.symbol c.args.children.now c.args.target) c.in-Some.refusal (sym c.in-Some.ensures), refl)

pub left_side-left-requires : goal.left_side-left-requires
left_side-left-requires g c =
    narrow g.W.Kind.stands c.args.shape.now c.args.memory.now c.args.count c.args.symbol c.args.children.now c.args.target (fine _ _ _ _ (sym c.in_default.ensures))

pub bounds-memory-count : goal.bounds-memory-count
bounds-memory-count g c =
    omega (arith, has_room g.W.Kind.stands c.args.shape.now c.args.memory.now c.args.count c.args.symbol c.args.children.now c.args.target (fine (holding g.W.Kind.stands c.args.shape.now c.args.memory.now c.args.count) c.args.symbol c.args.children.now c.args.target (sym c.in_default.ensures)))

pub overflow_add-result : goal.overflow_add-result
overflow_add-result g c =
    record { fits = omega (arith, has_room g.W.Kind.stands c.args.shape.now c.args.memory.now c.args.count c.args.symbol c.args.children.now c.args.target (fine (holding g.W.Kind.stands c.args.shape.now c.args.memory.now c.args.count) c.args.symbol c.args.children.now c.args.target (sym c.in_default.ensures))) }

pub returns : goal.returns
returns g c = (
  refused_none (add_checks (holding g.W.Kind.stands c.args.shape.now c.args.memory.now c.args.count) c.args.symbol c.args.children.now c.args.target) (sym c.in_default.ensures),
  (
    refl,
    appended g.W.Kind.stands c.args.shape.now c.args.memory.now c.args.count c.args.symbol c.args.children.now c.args.target (fine (holding g.W.Kind.stands c.args.shape.now c.args.memory.now c.args.count) c.args.symbol c.args.children.now c.args.target (sym c.in_default.ensures)) c.left_side-left.result c.args.weight c.left_side-left.ensures.symbol c.left_side-left.ensures.children,
  ),
)

pub offset_bounds-memory-count : goal.offset_bounds-memory-count
offset_bounds-memory-count g c =
    let low : c.args.count < length c.args.memory.now = bounds-memory-count g c in
    search rules
