-- The look-up in a table's memory is the look-up among the automaton's rules.
use Rattle.std.proofs.Common.{◌≡◌, ℕ, Bool, true, false, cond, ◌&&◌, eqb, List, [], ◌∷◌, map, length, take, Some, sym, refl, ap, ◌∙◌}
use Rattle.std.specs.Option.{option_map}
use Rattle.std.specs.List.{find}
use Rattle.std.proofs.lemmas.Bool.{eqb-true}
use Rattle.automata.specs.Trees.{rank}
use Rattle.automata.specs.Automata.{same_list, fits_left, find as find_rule}
use Rattle.rules.specs.declared.rule.Rule.{Rule}
use Rattle.rules.specs.Lookup.{has_left}
use Rattle.rules.specs.Shapes.{transition}

module _ {V W : Type 0} (stands : V → W) (ranks : List ℕ) (s : ℕ) (qs : List ℕ) (fits : length qs ≡ rank ranks s) where
  -- a rule has the left side exactly if what it stands for does
  pub left_agrees : (r : Rule V) → fits_left (transition stands ranks r) s qs ≡ has_left s qs r.left
  left_agrees r = at (eqb r.left.symbol s) refl
    where
      at : (b : Bool) → eqb r.left.symbol s ≡ b → (b && same_list (take (rank ranks r.left.symbol) r.left.children) qs) ≡ (b && same_list (take (length qs) r.left.children) qs)
      at true e = ap (λ n. same_list (take n r.left.children) qs) (ap (rank ranks) (eqb-true r.left.symbol s e) ∙ sym fits)
      at false e = refl

  pub find_agrees : (rules : List (Rule V)) → option_map (transition stands ranks) (find (λ r. has_left s qs r.left) rules) ≡ find_rule (map (transition stands ranks) rules) s qs
  find_agrees [] = refl
  find_agrees (r ∷ rules) =
      at (has_left s qs r.left) (find_agrees rules)
      ∙ sym (ap (λ b. cond b (Some (transition stands ranks r)) (find_rule (map (transition stands ranks) rules) s qs)) (left_agrees r))
    where
      at : (b : Bool) → option_map (transition stands ranks) (find (λ r. has_left s qs r.left) rules) ≡ find_rule (map (transition stands ranks) rules) s qs → option_map (transition stands ranks) (cond b (Some r) (find (λ r. has_left s qs r.left) rules)) ≡ cond b (Some (transition stands ranks r)) (find_rule (map (transition stands ranks) rules) s qs)
      at true ih = refl
      at false ih = ih
