-- Live states, found from the accepting ones down.
use Rattle.std.specs.Prelude.{◌≡◌, ℕ, ◌<◌, ◌≤◌, Bool, true, false, ◌⊎◌, List, take, Some, None, Option, slice_index, slice_index_or}
use Rattle.std.specs.Option.{unwrap_or}
use Rattle.std.specs.List.{ContainsAt, AllByRecursion, slice_get}
use Rattle.automata.specs.Automata.{Transition, Automaton}
use Rattle.rules.specs.declared.shape.Shape.{Shape}
use Rattle.rules.specs.Shapes.{states_in, accepts_in}
use Rattle.liveness.specs.declared.found.Found.{Found}
use Rattle.liveness.specs.declared.life.Lead.{Lead}
use Rattle.liveness.specs.Listings.{Reach, Flagged, Listed, flags_of, how_of, found_too}

-- the live states, each with the rule that leads it on; an accepting one may have none
abbrev pub Life : Type 0
Life = Found (Option Lead)

-- the rule that leads a state on; the first, at its first child, if there is none
abbrev pub lead_of : Life → ℕ → Lead
lead_of L q = unwrap_or (unwrap_or (how_of L q) None) (record { rule = 0; place = 0 })

-- the rule at the place j has q in its child place k, all its children are reached, and its target comes before
pub record Leads {W : Type 0} (A : Automaton W) (R : Reach) (before : List ℕ) (q j k : ℕ) : Type 0 where
  pub rule : Transition W
  pub there : slice_get A.rules j ≡ Some rule
  pub reached : AllByRecursion (Flagged (flags_of R)) rule.children
  pub child : slice_get rule.children k ≡ Some q
  pub target : ContainsAt before rule.target

abbrev pub Accepts : (ℕ → Bool) → Reach → ℕ → Type 0
Accepts accepting R q = (accepting q ≡ true) × Flagged (flags_of R) q

-- every state of the list is accepting and reached, or led on to one before it
abbrev pub Led : {W : Type 0} → Automaton W → Reach → Life → Type 0
Led A R L =
    (i : ℕ) → i < L.count → Accepts A.accepting R (slice_index L.order i) ⊎ Leads A R (take i L.order) (slice_index L.order i) (lead_of L (slice_index L.order i)).rule (lead_of L (slice_index L.order i)).place

pub record Lively {W : Type 0} (A : Automaton W) (R : Reach) (L : Life) : Type 0 where
  pub listed : Listed A.states (flags_of L) L.order L.count
  pub led : Led A R L
  pub begins : (q : ℕ) → Flagged (flags_of R) q → A.accepting q ≡ true → Flagged (flags_of L) q
  pub closed : (r : Transition W) → ContainsAt A.rules r → AllByRecursion (Flagged (flags_of R)) r.children → Flagged (flags_of L) r.target → AllByRecursion (Flagged (flags_of L)) r.children

-- noting the state q leaves L as it is or adds q
abbrev pub Noted : ℕ → ℕ → Option Lead → Life → Life → Type 0
Noted states q h L L' =
    ((L' ≡ L) × (q < states → Flagged (flags_of L) q)) ⊎ ((L' ≡ found_too L q h) × (q < states) × (slice_index_or (flags_of L) q false ≡ false))

-- the accepting states that are reached are flagged
abbrev pub Begins : ℕ → (ℕ → Bool) → Reach → Life → Type 0
Begins states accepting R L = (q : ℕ) → q < states → Accepts accepting R q → Flagged (flags_of L) q

-- and no other state is listed
pub record Begun (shape : Shape) (R : Reach) (L : Life) : Type 0 where
  pub listed : Listed (states_in shape) (flags_of L) L.order L.count
  pub accepting : (i : ℕ) → i < L.count → Accepts (accepts_in shape) R (slice_index L.order i)
  pub begins : Begins (states_in shape) (accepts_in shape) R L

-- what holds as the list grows
pub record Living {W : Type 0} (A : Automaton W) (R : Reach) (L : Life) : Type 0 where
  pub listed : Listed A.states (flags_of L) L.order L.count
  pub led : Led A R L
  pub begins : Begins A.states A.accepting R L

-- the children of a rule are flagged if its target is and all of them are reached
abbrev pub GoesOn : {W : Type 0} → Automaton W → Reach → Life → Transition W → Type 0
GoesOn A R L r =
    AllByRecursion (Flagged (flags_of R)) r.children → Flagged (flags_of L) r.target → AllByRecursion (λ c. c < A.states → Flagged (flags_of L) c) r.children

-- so it is for every rule
abbrev pub Rests : {W : Type 0} → Automaton W → Reach → Life → Type 0
Rests {W} A R L = (r : Transition W) → ContainsAt A.rules r → GoesOn A R L r

-- the rule at the place j has been followed from L to L'
pub record Followed {W : Type 0} (A : Automaton W) (R : Reach) (j : ℕ) (L L' : Life) : Type 0 where
  pub living : Living A R L'
  pub longer : L.count ≤ L'.count
  pub same : L'.count ≡ L.count → L' ≡ L
  pub goes_on : L'.count ≡ L.count → (r : Transition W) → slice_get A.rules j ≡ Some r → GoesOn A R L r
