use Rattle.std.proofs.Common.{◌<◌, false, get_or, sym, refl, ap, ◌∙◌, inl, inr, arith}
use Rattle.std.proofs.lemmas.Bool.{both_ways}
use Rattle.automata.specs.Merging.{all_in}
use Rattle.automata.proofs.Drops.{all_in_all, all_all_in}
use Rattle.rules.specs.Shapes.{states_in, children_in}
use Rattle.liveness.specs.Listings.{flags_of}
use Rattle.liveness.proofs.Founds.{flags_long}
use Rattle.liveness.proofs.Listings.{room}
use Rattle.liveness.proofs.upward.try_rule.Goals as goal
use Rattle.liveness.proofs.upward.try_rule.Goals.{else-target-states-via-then-target-states+then-not-has+else-has_all, else-target-states-via-then-target-states+else-not-has, else-target-states-via-else-target-states}

pub add_reached-requires : goal.add_reached-requires
add_reached-requires c =
    let new : c.args.target < states_in c.args.shape.now = omega arith in
    let less = room (states_in c.args.shape.now) (flags_of c.args.found.now) c.args.found.now.order c.args.found.now.count (flags_long c.args.found.now (record { how = omega arith; order = omega arith }) c.args.target c.args.place) (omega arith) (omega arith) c.requires c.args.target new (sym c.if-not-has.ensures) in
    (omega arith, omega arith)

pub returns-then-has_all : goal.returns-then-has_all
returns-then-has_all c =
    inr (c.add_reached.ensures, omega arith, sym c.if-not-has.ensures, all_in_all (λ q. get_or (flags_of c.args.found.now) q false) (children_in c.args.shape.now c.args.left.now) (sym (c.if-has_all.ensures ∙ ap (all_in (λ q. get_or (flags_of c.args.found.now) q false)) c.children.ensures)))

pub returns-else-target-states : goal.returns-else-target-states
returns-else-target-states c =
    elim c.else-target-states.branch [
      | else-target-states-via-then-target-states+then-not-has+else-has_all w ↦ inl (
        refl,
        λ all new.
            absurd (both_ways (all_in (λ q. get_or (flags_of c.args.found.now) q false) (children_in c.args.shape.now c.args.left.now)) (sym (w.if-has_all.ensures ∙ ap (all_in (λ q. get_or (flags_of c.args.found.now) q false)) w.children.ensures)) (all_all_in (λ q. get_or (flags_of c.args.found.now) q false) (children_in c.args.shape.now c.args.left.now) all)),
      )
      | else-target-states-via-then-target-states+else-not-has w ↦ inl (refl, λ all new. sym w.if-not-has.ensures)
      | else-target-states-via-else-target-states w ↦ inl (refl, λ all new. absurd (omega (arith, w.if-target-states.false)))
    ]
