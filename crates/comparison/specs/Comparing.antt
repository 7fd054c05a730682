-- What a comparison of two tables answers and leaves.
use Rattle.std.specs.Prelude.{◌≡◌, ℕ, ◌+◌, ◌<◌, ◌⊎◌, List, [], ◌∷◌, length, take, drop, ◌≢◌, slice_index_or}
use Rattle.std.specs.List.{ContainsAt}
use Rattle.kinds.specs.Weights.{Weights}
use Rattle.automata.specs.Automata.{Automaton, Sound}
use Rattle.automata.specs.Runs.{Alike}
use Rattle.automata.specs.Comparing.{Witness}
use Rattle.trees.specs.declared.node.Node.{Node}
use Rattle.trees.specs.declared.refusal.Refusal.TheVariants.{Alphabets, Short}
use Rattle.trees.specs.Lists.{blank, children_of, IsTreeList, tree_of}
use Rattle.trees.specs.Refusals.{Test, when}
use Rattle.comparison.specs.declared.comparison.Comparison.{Comparison}
use Rattle.comparison.specs.declared.comparison.Comparison.TheVariants.{Same, Different}
use Rattle.comparison.specs.Witnesses.{places_needed}

-- the tests, in order: unequal rank lists, then a list that is too short
abbrev pub compare_tests : {W : Type 0} → Automaton W → Automaton W → ℕ → ℕ → List Test
compare_tests A B list work =
    when (A.ranks ≢ B.ranks) Alphabets ∷ when ((list < places_needed A B) ⊎ (work < places_needed A B)) Short ∷ []

-- the first k entries are a tree list of a tree that the two weigh differently, each but the last a child of a later one; the rest is untouched
pub record ToldApart {W : Type 0} (K : Weights W) (A B : Automaton W) (list list' : List Node) (k : ℕ) : Type 0 where
  pub is_list : IsTreeList A.ranks (take k list')
  pub witness : Witness K A B (tree_of A.ranks (take k list'))
  pub used : (i : ℕ) → i + 1 < k → (j : ℕ) × (i < j) × (j < k) × ContainsAt (children_of A.ranks (slice_index_or list' j blank)) i
  pub beyond : drop k list' ≡ drop k list
  pub same_length : length list' ≡ length list

-- Same: every tree weighs alike, and the list is untouched; Different: it tells a witness
abbrev pub Compared : {W : Type 0} → Weights W → Automaton W → Automaton W → List Node → List Node → Comparison → Type 0
Compared K A B list list' Same = Alike K A B × (list' ≡ list)
Compared K A B list list' (Different k) = ToldApart K A B list list' k

-- the answer about two sound automata
abbrev pub Compares : {W : Type 0} → Weights W → Automaton W → Automaton W → List Node → List Node → Comparison → Type 0
Compares K A B list list' answer = Sound A → Sound B → Compared K A B list list' answer
