-- Looking up a rule with another state in one child place, and the factor that it leads to.
use Rattle.std.proofs.Common.{◌≡◌, ℕ, suc, ◌<◌, ◌≤◌, Bool, false, List, ◌∷◌, ◌++◌, map, length, get_or, take, drop, set, Some, None, Option, sym, ap, ◌∙◌, subst, ap₂, arith}
use Rattle.std.specs.Option.{option_map}
use Rattle.std.proofs.lemmas.List.{length-take-le, length-set, set_split, set-get_or}
use Rattle.kinds.specs.Weights.{Weights}
use Rattle.automata.specs.Trees.{rank}
use Rattle.automata.specs.Automata.{Automaton, find}
use Rattle.rules.specs.Shapes.{children_in}
use Rattle.rules.specs.declared.rule.Rule.{Rule}
use Rattle.rules.specs.declared.shape.Shape.{Shape}
use Rattle.rules.specs.Shapes.{ranks_in, automaton, transition}
use Rattle.rules.proofs.Rows.{take_set_lt}
use Rattle.reduction.specs.Choosing.{Given, Gets}

-- the state in one place stands between those before and those after it
pub place_split : (xs : List ℕ) (k : ℕ) → k < length xs → xs ≡ take k xs ++ get_or xs k 0 ∷ drop (suc k) xs
place_split xs k h = sym (set-get_or xs k 0) ∙ set_split xs k (get_or xs k 0) h

module _ {V W : Type 0} (K : Weights W) (stands : V → W) (shape : Shape) (rules : List (Rule V)) (rule : Rule V) (symbol n place state : ℕ) (is : symbol ≡ rule.left.symbol) (many : n ≡ rank (ranks_in shape) symbol) (low : place < rank (ranks_in shape) rule.left.symbol) where
  abbrev A : Automaton W
  A = automaton stands shape rules

  -- the rule that was looked up
  looked_up : (o : Option (Rule V)) (xs : List ℕ) → xs ≡ rule.left.children → n ≤ length xs → ((ranks : List ℕ) → length (take n (set xs place state)) ≡ rank ranks symbol → option_map (transition stands ranks) o ≡ find (map (transition stands ranks) rules) symbol (take n (set xs place state)))
      → option_map (transition stands (ranks_in shape)) o ≡ find A.rules rule.left.symbol (set (children_in shape rule.left) place state)
  looked_up o xs same short found =
      let m : n ≡ rank (ranks_in shape) rule.left.symbol = many ∙ ap (rank (ranks_in shape)) is in
      let cut : take n (set xs place state) ≡ set (children_in shape rule.left) place state =
      take_set_lt n xs place state (omega arith) ∙ ap₂ (λ (k : ℕ) (ys : List ℕ). set (take k ys) place state) m same in
      found (ranks_in shape) (length-take-le n (set xs place state) (omega (arith, length-set xs place state)) ∙ many)
      ∙ ap₂ (λ (s : ℕ) (ys : List ℕ). find A.rules s ys) is cut

  module _ (chosen chosen' : ℕ → Bool) (f f' : ℕ → W) where
    pub gets_some : (other : Rule V) (xs : List ℕ) (w : W) → xs ≡ rule.left.children → n ≤ length xs → ((ranks : List ℕ) → length (take n (set xs place state)) ≡ rank ranks symbol → Some (transition stands ranks other) ≡ find (map (transition stands ranks) rules) symbol (take n (set xs place state)))
        → w ≡ K.times (stands other.weight) (f other.target) → (chosen state ≡ false → Given state w chosen f chosen' f')
        → Gets K A rule.left.symbol (children_in shape rule.left) place state chosen f chosen' f'
    gets_some other xs w same short found weight given r there off =
        let look = looked_up (Some other) xs same short found in
        let is_other : transition stands (ranks_in shape) other ≡ r = cc in
        let led : w ≡ K.times r.weight (f r.target) =
        weight ∙ ap (λ x. K.times x.weight (f x.target)) is_other in
        subst (λ x. Given state x chosen f chosen' f') led (given off)

    pub gets_none : (xs : List ℕ) → xs ≡ rule.left.children → n ≤ length xs → ((ranks : List ℕ) → length (take n (set xs place state)) ≡ rank ranks symbol → None ≡ find (map (transition stands ranks) rules) symbol (take n (set xs place state)))
        → Gets K A rule.left.symbol (children_in shape rule.left) place state chosen f chosen' f'
    gets_none xs same short found r there off =
        let look = looked_up None xs same short found in
        let z : ◌≡◌ {A = ℕ} 0 1 = cc in absurd (omega arith)
