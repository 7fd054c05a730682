-- Reachable states, found from the leaves up.
use Rattle.std.specs.Prelude.{◌≡◌, ℕ, ◌<◌, false, ◌⊎◌, List, take, Some, slice_index, slice_index_or}
use Rattle.std.specs.Option.{unwrap_or}
use Rattle.std.specs.List.{ContainsAt, AllByRecursion, slice_get}
use Rattle.automata.specs.Automata.{Transition, Automaton}
use Rattle.liveness.specs.Listings.{Reach, Flagged, Listed, flags_of, how_of, found_too}

-- the rule at the place j has the target q, and all its children come before
pub record Derived {W : Type 0} (A : Automaton W) (before : List ℕ) (q j : ℕ) : Type 0 where
  pub rule : Transition W
  pub there : slice_get A.rules j ≡ Some rule
  pub target : rule.target ≡ q
  pub children : AllByRecursion (ContainsAt before) rule.children

-- the place of the rule that reached a state first
abbrev pub rule_of : Reach → ℕ → ℕ
rule_of R q = unwrap_or (how_of R q) 0

-- every state of the list is derived from those before it
abbrev pub Derives : {W : Type 0} → Automaton W → Reach → Type 0
Derives A R = (i : ℕ) → i < R.count → Derived A (take i R.order) (slice_index R.order i) (rule_of R (slice_index R.order i))

-- the target of a rule is flagged if all its children are
abbrev pub Follows : {W : Type 0} → Automaton W → Reach → Transition W → Type 0
Follows A R r = AllByRecursion (Flagged (flags_of R)) r.children → r.target < A.states → Flagged (flags_of R) r.target

-- so it is for every rule
abbrev pub Settled : {W : Type 0} → Automaton W → Reach → Type 0
Settled {W} A R = (r : Transition W) → ContainsAt A.rules r → Follows A R r

pub record Reached {W : Type 0} (A : Automaton W) (R : Reach) : Type 0 where
  pub listed : Listed A.states (flags_of R) R.order R.count
  pub derived : Derives A R
  pub closed : Settled A R

-- what holds as the list grows
abbrev pub Reaching : {W : Type 0} → Automaton W → Reach → Type 0
Reaching A R = Listed A.states (flags_of R) R.order R.count × Derives A R

-- trying a rule with the target q, at the place j, leaves R as it is or adds q
abbrev pub Tried : ℕ → List ℕ → ℕ → ℕ → Reach → Reach → Type 0
Tried states children q j R R' =
    ((R' ≡ R) × (AllByRecursion (Flagged (flags_of R)) children → q < states → Flagged (flags_of R) q))
    ⊎ ((R' ≡ found_too R q j) × (q < states) × (slice_index_or (flags_of R) q false ≡ false) × AllByRecursion (Flagged (flags_of R)) children)
