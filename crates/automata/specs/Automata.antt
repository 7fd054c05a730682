-- Bottom-up deterministic weighted tree automata: finite, of any size, with at most one transition for each left side.
use Rattle.std.specs.Prelude.{◌≡◌, ℕ, ◌<◌, Bool, true, false, cond, ◌&&◌, List, [], ◌∷◌, length, Some, None, Option, ◌==◌}
use Rattle.std.specs.List.{AllByRecursion}
use Rattle.automata.specs.Trees.{rank}

-- a rule, symbol(children) → target / weight; symbol and children are its left side
pub record Transition (W : Type 0) : Type 0 where
  pub symbol : ℕ
  pub children : List ℕ
  pub target : ℕ
  pub weight : W

-- states are numbered from 0
pub record Automaton (W : Type 0) : Type 0 where
  pub ranks : List ℕ
  pub states : ℕ
  pub accepting : ℕ → Bool
  pub rules : List (Transition W)

abbrev pub same_list : List ℕ → List ℕ → Bool
same_list [] [] = true
same_list [] (q ∷ qs) = false
same_list (p ∷ ps) [] = false
same_list (p ∷ ps) (q ∷ qs) = p == q && same_list ps qs

-- the rule r has the left side s(qs)
abbrev pub fits_left : {W : Type 0} → Transition W → ℕ → List ℕ → Bool
fits_left r s qs = r.symbol == s && same_list r.children qs

-- the first rule with the left side s(qs)
abbrev pub find : {W : Type 0} → List (Transition W) → ℕ → List ℕ → Option (Transition W)
find [] s qs = None
find (r ∷ rs) s qs = cond (fits_left r s qs) (Some r) (find rs s qs)

-- the states and the symbol of a rule are the automaton's, and it has as many children as its symbol's rank
pub record Within {W : Type 0} (ranks : List ℕ) (states : ℕ) (r : Transition W) : Type 0 where
  pub symbol_within : r.symbol < length ranks
  pub children_rank : length r.children ≡ rank ranks r.symbol
  pub children_within : AllByRecursion (λ q. q < states) r.children
  pub target_within : r.target < states

-- no two rules have one left side
abbrev pub Single : {W : Type 0} → List (Transition W) → Type 0
Single [] = Unit {0}
Single (r ∷ rs) = (find rs r.symbol r.children ≡ None) × Single rs

pub record Sound {W : Type 0} (A : Automaton W) : Type 0 where
  pub within : AllByRecursion (Within A.ranks A.states) A.rules
  pub single : Single A.rules
