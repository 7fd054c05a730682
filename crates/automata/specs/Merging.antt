-- Dropping states, and merging by a grouping: a class and a factor for each state that stays.
use Rattle.std.specs.Prelude.{◌≡◌, ℕ, zero, suc, ◌<◌, Bool, true, false, not, ◌&&◌, ◌||◌, ◌↔◌, List, [], ◌∷◌, ◌++◌, map, Some, filter, ◌==◌}
use Rattle.std.specs.List.{list_all}
use Rattle.kinds.specs.Weights.{Weights}
use Rattle.automata.specs.Automata.{Transition, Automaton, fits_left, find, Sound}
use Rattle.automata.specs.Runs.{Alike}
use Rattle.automata.specs.Contexts.{Live}
use Rattle.automata.specs.Pushing.{reweighed}

abbrev pub all_in : (ℕ → Bool) → List ℕ → Bool
all_in keep qs = list_all keep qs

-- all states of the rule are kept
abbrev pub keeps : {W : Type 0} → (ℕ → Bool) → Transition W → Bool
keeps keep r = keep r.target && all_in keep r.children

-- without the rules that have a state that is not kept
abbrev pub dropped : {W : Type 0} → (ℕ → Bool) → Automaton W → Automaton W
dropped keep A = record { ranks = A.ranks; states = A.states; accepting = A.accepting; rules = filter (keeps keep) A.rules }

-- dropping the states that are not live moves no tree's weight
abbrev pub Trimming : {W : Type 0} → Weights W → Type 0
Trimming {W} K =
    (A : Automaton W) (keep : ℕ → Bool) → Sound A → ((q : ℕ) → (keep q ≡ true) ↔ Live K A q) → Alike K A (dropped keep A)

-- a class, below count, and a factor for each member
pub record Grouping (W : Type 0) : Type 0 where
  pub member : ℕ → Bool
  pub class : ℕ → ℕ
  pub factor : ℕ → W
  pub count : ℕ

-- the rule that stands in the place of r, with classes for states
abbrev pub relabelled : {W : Type 0} → Weights W → Grouping W → Transition W → Transition W
relabelled K G r = record {
  symbol = r.symbol;
  children = map G.class r.children;
  target = G.class r.target;
  weight = (reweighed K G.factor r).weight;
}

-- the first of the rules with one left side, in the old order
abbrev pub firsts : {W : Type 0} → List (Transition W) → List (Transition W)
firsts [] = []
firsts (r ∷ rs) = r ∷ filter (λ x. not (fits_left x r.symbol r.children)) (firsts rs)

-- some number below n passes
abbrev pub some_below : ℕ → (ℕ → Bool) → Bool
some_below zero p = false
some_below (suc n) p = p n || some_below n p

-- the states are the classes; a class accepts if a member of it does
abbrev pub merged : {W : Type 0} → Weights W → Grouping W → Automaton W → Automaton W
merged K G A = record {
  ranks = A.ranks;
  states = G.count;
  accepting = λ c. some_below A.states (λ q. G.member q && (G.class q == c && A.accepting q));
  rules = firsts (map (relabelled K G) (filter (keeps G.member) A.rules));
}

-- a rule for the left side s(qs), all of whose states are members, with a target of r's class, that weighs as r does after the push
pub record Counterpart {W : Type 0} (K : Weights W) (A : Automaton W) (G : Grouping W) (r : Transition W) (s : ℕ) (qs : List ℕ) : Type 0 where
  pub other : Transition W
  pub there : find A.rules s qs ≡ Some other
  pub member_target : G.member other.target ≡ true
  pub same_class : G.class r.target ≡ G.class other.target
  pub same_weight : (reweighed K G.factor r).weight ≡ (reweighed K G.factor other).weight

-- what a merge asks of a grouping
pub record Admissible {W : Type 0} (K : Weights W) (A : Automaton W) (G : Grouping W) : Type 0 where
  pub member_within : (q : ℕ) → G.member q ≡ true → q < A.states
  pub class_within : (q : ℕ) → G.member q ≡ true → G.class q < G.count
  pub no_gap : (c : ℕ) → c < G.count → (q : ℕ) × (G.member q ≡ true) × (G.class q ≡ c)
  pub acceptance : (p q : ℕ) → G.member p ≡ true → G.member q ≡ true → G.class p ≡ G.class q → A.accepting p ≡ A.accepting q
  pub accepting_one : (q : ℕ) → G.member q ≡ true → A.accepting q ≡ true → G.factor q ≡ K.one
  pub swaps : (s : ℕ) (before after : List ℕ) (p q : ℕ) (r : Transition W) → find A.rules s (before ++ p ∷ after) ≡ Some r → keeps G.member r ≡ true → G.member q ≡ true → G.class p ≡ G.class q → Counterpart K A G r s (before ++ q ∷ after)

-- an admissible merge gives an automaton that weighs alike
pub record Merging {W : Type 0} (K : Weights W) (A : Automaton W) (G : Grouping W) : Type 0 where
  pub sound : Sound (merged K G A)
  pub alike_dropped : Alike K (dropped G.member A) (merged K G A)
  pub alike_whole : ((q : ℕ) → q < A.states → G.member q ≡ true) → Alike K A (merged K G A)
