-- A tree with a live state on one side only weighs something in a sign of life of that state there, and nothing on the other side.
use Rattle.std.proofs.Common.{◌≡◌, ℕ, ◌+◌, ◌<◌, ◌≤◌, List, length, Some, None, Option, sym, refl, ap, ◌∙◌, subst, arith}
use Rattle.kinds.specs.Weights.{Weights}
use Rattle.automata.specs.Trees.{Tree, Over}
use Rattle.automata.specs.Automata.{Automaton}
use Rattle.automata.specs.Runs.{At, run, weight_of}
use Rattle.automata.specs.Contexts.{OverContext, plug, Sign, Live}
use Rattle.automata.proofs.Signs.{weighs_sign, weighs_nothing, weighs_live}
use Rattle.trees.proofs.Ranks.{rank_small}
use Rattle.rules.specs.declared.place.Place.{Place}
use Rattle.rules.specs.declared.table.Table.{Table}
use Rattle.rules.specs.declared.side.Side.{Side}
use Rattle.rules.specs.declared.side.Side.TheVariants.{First, Second}
use Rattle.rules.specs.Shapes.{ranks_in, automaton_of}
use Rattle.comparison.specs.declared.climbed.Climbed.{Climbed}
use Rattle.comparison.specs.declared.survey.Survey.{Survey}
use Rattle.comparison.specs.Forest.{tree_in, Forest}
use Rattle.comparison.specs.Access.{sided, Prepared}
use Rattle.comparison.specs.Climbing.{Climbable, EndsLive, ClimbsOn}
use Rattle.comparison.specs.Scanning.{other_side}
use Rattle.comparison.specs.Surveying.{Matched, Known}
use Rattle.comparison.specs.Witnesses.{Found, Lonely}
use Rattle.comparison.proofs.AccessSigns.{access_sign}
use Rattle.comparison.proofs.OneSide.{side_ranks, side_run}
use Rattle.comparison.proofs.Overs.{forest_over}
use Rattle.comparison.proofs.Surveys.{known_prepared}

module _ {W : Type 0} (K : Weights W) where
  lone_apart : (A B : Automaton W) → A.ranks ≡ B.ranks → (t : Tree) (a : At W) (c : Sign K A a.state) → Over A.ranks t → run K A t ≡ Some a → ((b : At W) → run K B t ≡ Some b → Live K B b.state → ⊥) → weight_of K A (plug c.context t) ≡ weight_of K B (plug c.context t) → ⊥
  lone_apart A B ranks t a c over ran alone same = at (run K B t) refl (weighs_sign K A t a.state a.weight c ran)
    where
      at : (o : Option (At W)) → run K B t ≡ o → weight_of K A (plug c.context t) ≡ Some (K.times a.weight c.weight) → ⊥
      at None e mine =
          let nothing = weighs_nothing K B c.context t e in
          let z : ◌≡◌ {A = ℕ} 0 1 = cc in
          omega arith
      at (Some b) e mine =
          alone b e (weighs_live K B c.context t b.state b.weight (K.times a.weight c.weight) (subst (λ rs. OverContext rs c.context) ranks c.over) (subst (λ rs. Over rs t) ranks over) e (sym same ∙ mine))

  -- what differs from one side to the other differs from the first to the second
  apart_sides : (A B : Automaton W) (side : Side) (u : Tree) → (weight_of K (sided side A B) u ≡ weight_of K (sided (other_side side) A B) u → ⊥) → weight_of K A u ≡ weight_of K B u → ⊥
  apart_sides A B First u h e = h e
  apart_sides A B Second u h e = h (sym e)

module _ {V W : Type 0} (K : Weights W) (stands : V → W) (first second : Table V) (side : Side) (s : Survey) (work : List (Place V)) (len entry : ℕ) (m : Matched (automaton_of stands first) (automaton_of stands second)) (f : Forest K stands (automaton_of stands first) (automaton_of stands second) work len) (k : Known stands (automaton_of stands first) (automaton_of stands second) side s work len) (low : entry < len) where
  abbrev A : Automaton W
  A = automaton_of stands first

  abbrev B : Automaton W
  B = automaton_of stands second

  abbrev S : Automaton W
  S = sided side A B

  abbrev t : Tree
  t = tree_in (ranks_in first.shape.now) work len entry

  pub ready : len + S.states ≤ length work + 1 → EndsLive stands side s.life work entry → Prepared K stands A B side s.reach work len × (Climbable stands A B side s.reach s.life s.access work len entry × EndsLive stands side s.life work entry)
  ready room there = (
    known_prepared K stands A B m side s work len k f,
    (record { lively = k.lively; enters = k.enters; below = low; room = omega (arith, k.lively.listed.bounded) }, there),
  )

  pub lone_found : Lonely K stands A B side s.life work entry → (work' : List (Place V)) (r : Climbed) → ClimbsOn K stands A B side s.life s.access work len entry work' r → Found K stands A B (len + S.states) work' r.top
  lone_found lonely work' r climbs =
      let a = lonely.there.0 in
      let c = climbs a lonely.there.1 in
      let p = known_prepared K stands A B m side s work len k f in
      let sign = access_sign K stands first second side s.reach s.life s.access work len p k.lively k.enters a.state lonely.there.2 in
      let mine = side_ranks A B m.alphabet side in
      let other = side_ranks A B m.alphabet (other_side side) in
      let tree : tree_in (ranks_in first.shape.now) work' r.len r.top ≡ plug sign.0.context t = c.tree ∙ ap (λ d. plug d t) (sym sign.1) in
      let over : Over S.ranks t = subst (λ rs. Over rs t) (sym mine) (forest_over K stands A B work len (rank_small first.shape.now.measure.alphabet) f entry low) in
      record {
        len = r.len;
        forest = c.forest;
        below = c.top_below;
        few = omega (arith, c.few, k.lively.listed.bounded);
        apart = subst (λ u. weight_of K A u ≡ weight_of K B u → ⊥) (sym tree) (apart_sides K A B side (plug sign.0.context t)
            (lone_apart K S (sided (other_side side) A B) (mine ∙ sym other) t a sign.0 over (sym (side_run A B m.alphabet K stands work len f side entry low) ∙ lonely.there.1)
            (λ b e. lonely.no_other b (side_run A B m.alphabet K stands work len f (other_side side) entry low ∙ e))));
      }
