-- Telling states apart by marking pairs, in two rounds.
use Rattle.std.specs.Prelude.{◌≡◌, ℕ, Bool, true, false, ◌↔◌, List, ◌∷◌, ◌++◌, Some, None, ◌≢◌}
use Rattle.kinds.specs.Weights.{Weights}
use Rattle.automata.specs.Automata.{Transition, Automaton, find}
use Rattle.automata.specs.Contexts.{Context, OverContext, value, Live, Equivalent}
use Rattle.automata.specs.Pushing.{reweighed}
use Rattle.automata.specs.Merging.{keeps}

-- two rules whose left sides differ in one child place, p against q; all states of the first, q and the second's target are live
pub record Swapped {W : Type 0} (A : Automaton W) (live : ℕ → Bool) (p q : ℕ) (r r' : Transition W) : Type 0 where
  pub symbol : ℕ
  pub before : List ℕ
  pub after : List ℕ
  pub first : find A.rules symbol (before ++ p ∷ after) ≡ Some r
  pub second : find A.rules symbol (before ++ q ∷ after) ≡ Some r'
  pub first_live : keeps live r ≡ true
  pub other_live : live q ≡ true
  pub second_live : live r'.target ≡ true

-- a rule with p in one child place, all its states live, has no counterpart for q with a live target
pub record Lone {W : Type 0} (A : Automaton W) (live : ℕ → Bool) (p q : ℕ) : Type 0 where
  pub symbol : ℕ
  pub before : List ℕ
  pub after : List ℕ
  pub rule : Transition W
  pub first : find A.rules symbol (before ++ p ∷ after) ≡ Some rule
  pub first_live : keeps live rule ≡ true
  pub other_live : live q ≡ true
  pub alone : (r' : Transition W) → find A.rules symbol (before ++ q ∷ after) ≡ Some r' → live r'.target ≢ true

-- the first round marks the pair p, q of live states, given the marks so far
pub data MarksFirst {W : Type 0} (A : Automaton W) (live : ℕ → Bool) (marks : ℕ → ℕ → Bool) (p q : ℕ) : Type 0 where
  acceptance : (A.accepting p ≢ A.accepting q) → MarksFirst A live marks p q
  lone : Lone A live p q → MarksFirst A live marks p q
  targets : (r r' : Transition W) → Swapped A live p q r r' → marks r.target r'.target ≡ true → MarksFirst A live marks p q

-- the second round marks also where the two rules weigh differently after the push
pub data MarksSecond {W : Type 0} (K : Weights W) (A : Automaton W) (live : ℕ → Bool) (f : ℕ → W) (marks : ℕ → ℕ → Bool) (p q : ℕ) : Type 0 where
  as_first : MarksFirst A live marks p q → MarksSecond K A live f marks p q
  uneven : (r r' : Transition W) → Swapped A live p q r r' → ((reweighed K f r).weight ≢ (reweighed K f r').weight) → MarksSecond K A live f marks p q

-- the test live is the definition of live
abbrev pub DecidesLive : {W : Type 0} → Weights W → Automaton W → (ℕ → Bool) → Type 0
DecidesLive K A live = (q : ℕ) → (live q ≡ true) ↔ Live K A q

-- no factor makes a marked pair equivalent
abbrev pub TrueMarks : {W : Type 0} → Weights W → Automaton W → (ℕ → ℕ → Bool) → Type 0
TrueMarks {W} K A marks = (p q : ℕ) → marks p q ≡ true → (a : W) → Equivalent K A a p q → ⊥

abbrev pub Symmetric : (ℕ → ℕ → Bool) → Type 0
Symmetric marks = (p q : ℕ) → marks p q ≡ marks q p

-- no pair of live states that the rule adds is unmarked
abbrev pub AtRest : (ℕ → Bool) → (ℕ → ℕ → Bool) → (ℕ → ℕ → Type 0) → Type 0
AtRest live marks adds = (p q : ℕ) → live p ≡ true → live q ≡ true → adds p q → marks p q ≡ true

-- the contexts that lead p to acceptance are those that lead q there
abbrev pub SameSigns : {W : Type 0} → Weights W → Automaton W → ℕ → ℕ → Type 0
SameSigns K A p q = (c : Context) → OverContext A.ranks c → (value K A c p ≡ None) ↔ (value K A c q ≡ None)

-- a marked pair has different signs of life
abbrev pub TrueSigns : {W : Type 0} → Weights W → Automaton W → (ℕ → ℕ → Bool) → Type 0
TrueSigns K A marks = (p q : ℕ) → marks p q ≡ true → SameSigns K A p q → ⊥

-- two unmarked states have a context in common in which each gives its factor, up to a weight that the two share
abbrev pub Chosen : {W : Type 0} → Weights W → Automaton W → (ℕ → Bool) → (ℕ → ℕ → Bool) → (ℕ → W) → Type 0
Chosen {W} K A live marks f =
    (p q : ℕ) → live p ≡ true → live q ≡ true → marks p q ≡ false
    → (c : Context) × (z : W) × OverContext A.ranks c × (value K A c p ≡ Some (K.times z (f p))) × (value K A c q ≡ Some (K.times z (f q)))

-- marked states have different signs of life, live states that stay unmarked have the same, and being unmarked is an equivalence relation of live states
pub record FirstRound {W : Type 0} (K : Weights W) (A : Automaton W) (live : ℕ → Bool) (marks : ℕ → ℕ → Bool) : Type 0 where
  pub truthful : TrueSigns K A marks → (p q : ℕ) → live p ≡ true → live q ≡ true → MarksFirst A live marks p q → SameSigns K A p q → ⊥
  pub complete : Symmetric marks → AtRest live marks (MarksFirst A live marks) → (p q : ℕ) → live p ≡ true → live q ≡ true → marks p q ≡ false → SameSigns K A p q
  pub unmarked_reflexive : TrueSigns K A marks → (p : ℕ) → marks p p ≡ false
  pub unmarked_transitive : TrueSigns K A marks → Symmetric marks → AtRest live marks (MarksFirst A live marks) → (p q r : ℕ) → live p ≡ true → live q ≡ true → live r ≡ true → marks p q ≡ false → marks q r ≡ false → marks p r ≡ false

-- the factors f were chosen by the marks of the first round
pub record SecondRound {W : Type 0} (K : Weights W) (A : Automaton W) (live : ℕ → Bool) (f : ℕ → W) (marks : ℕ → ℕ → Bool) : Type 0 where
  pub truthful : TrueMarks K A marks → (p q : ℕ) → live p ≡ true → live q ≡ true → MarksSecond K A live f marks p q → (a : W) → Equivalent K A a p q → ⊥
  pub complete : Symmetric marks → ((q : ℕ) → live q ≡ true → A.accepting q ≡ true → f q ≡ K.one) → AtRest live marks (MarksSecond K A live f marks) → (p q : ℕ) → live p ≡ true → live q ≡ true → marks p q ≡ false → Equivalent K A (K.times (f p) (K.inverse (f q))) p q
