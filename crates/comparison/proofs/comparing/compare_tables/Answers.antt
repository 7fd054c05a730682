use Rattle.std.proofs.Common.{ℕ, ◌<◌, ◌⊎◌, length, Decides, refl, subst}
use Rattle.rules.specs.Shapes.{automaton_of}
use Rattle.comparison.specs.Witnesses.{places_needed}
use Rattle.comparison.proofs.Refusing.{long_enough, too_short, none_met}
use Rattle.comparison.proofs.comparing.compare_tables.Goals as goal

pub returns-then-is_short : goal.returns-then-is_short
returns-then-is_short g c = (
  too_short (automaton_of g.W.Kind.stands c.args.tables.now.first) (automaton_of g.W.Kind.stands c.args.tables.now.second) (length c.args.list.now) (length c.args.work.now) (c.share_alphabet.ensures.0 c.if-not-share_alphabet.false)
      (subst (λ (n : ℕ). (length c.args.list.now < n) ⊎ (length c.args.work.now < n)) c.places_for.ensures (c.is_short.ensures.0 c.if-is_short.true)),
  (refl, refl),
)

pub compare_alike-requires : goal.compare_alike-requires
compare_alike-requires g c =
    let long = long_enough c.is_short.result (length c.args.list.now) (length c.args.work.now) (places_needed (automaton_of g.W.Kind.stands c.args.tables.now.first) (automaton_of g.W.Kind.stands c.args.tables.now.second)) (subst (λ (n : ℕ). Decides c.is_short.result ((length c.args.list.now < n) ⊎ (length c.args.work.now < n))) c.places_for.ensures c.is_short.ensures) c.if-is_short.false in
    record { same = c.share_alphabet.ensures.0 c.if-not-share_alphabet.false; list_room = long.0; work_room = long.1 }

pub returns : goal.returns
returns g c =
    let long = long_enough c.is_short.result (length c.args.list.now) (length c.args.work.now) (places_needed (automaton_of g.W.Kind.stands c.args.tables.now.first) (automaton_of g.W.Kind.stands c.args.tables.now.second)) (subst (λ (n : ℕ). Decides c.is_short.result ((length c.args.list.now < n) ⊎ (length c.args.work.now < n))) c.places_for.ensures c.is_short.ensures) c.if-is_short.false in
    (none_met (automaton_of g.W.Kind.stands c.args.tables.now.first) (automaton_of g.W.Kind.stands c.args.tables.now.second) (length c.args.list.now) (length c.args.work.now) (c.share_alphabet.ensures.0 c.if-not-share_alphabet.false) long.0 long.1, c.compare_alike.ensures)
