-- The context that climbing puts around a tree is a sign of life of the tree's state.
use Rattle.liveness.specs.Listings.{flags_of}
use Rattle.std.proofs.Common.{◌≡◌, ℕ, List, get_or, sym, subst}
use Rattle.kinds.specs.Weights.{Weights}
use Rattle.automata.specs.Trees.{Over}
use Rattle.automata.specs.Automata.{Automaton}
use Rattle.automata.specs.Contexts.{Sign}
use Rattle.trees.proofs.Ranks.{rank_small}
use Rattle.rules.specs.declared.place.Place.{Place}
use Rattle.rules.specs.declared.table.Table.{Table}
use Rattle.rules.specs.declared.side.Side.{Side}
use Rattle.rules.specs.Shapes.{ranks_in, automaton_of}
use Rattle.liveness.specs.Listings.{Reach}
use Rattle.liveness.specs.Living.{Life}
use Rattle.liveness.specs.Listings.{Flagged}
use Rattle.liveness.specs.Living.{Lively}
use Rattle.comparison.proofs.Overs.{forest_over}
use Rattle.comparison.specs.declared.access.Access.{Access}
use Rattle.comparison.specs.Access.{sided, Enters, Prepared}
use Rattle.comparison.specs.Climbing.{path, access_trees}
use Rattle.comparison.proofs.OneSide.{side_ranks, side_few}
use Rattle.comparison.proofs.Accesses.{enters_trees}
use Rattle.comparison.proofs.PathSigns.{path_sign}

module _ {V W : Type 0} (K : Weights W) (stands : V → W) (first second : Table V) (side : Side) (R : Reach) (L : Life) (access : Access) (work : List (Place V)) (len : ℕ) where
  abbrev A : Automaton W
  A = automaton_of stands first

  abbrev B : Automaton W
  B = automaton_of stands second

  abbrev S : Automaton W
  S = sided side A B

  pub access_sign : Prepared K stands A B side R work len → Lively S R L → Enters stands side (Flagged (flags_of R)) work len access.entry → (x : ℕ) → Flagged (flags_of L) x → (s : Sign K S x) × (s.context ≡ path S L (access_trees (ranks_in first.shape.now) work len access) 48 x)
  access_sign p lively enters x f =
      path_sign K S p.sound R L lively (access_trees (ranks_in first.shape.now) work len access)
      (λ q h. subst (λ (rs : List ℕ). Over rs (access_trees (ranks_in first.shape.now) work len access q)) (sym (side_ranks A B p.alphabet side)) (forest_over K stands A B work len (rank_small first.shape.now.measure.alphabet) p.forest (get_or access.entry q 0) (enters.below q h)))
      (enters_trees K stands first second p.alphabet side (Flagged (flags_of R)) work len access.entry p.forest enters)
      (side_few stands first second side) x f
