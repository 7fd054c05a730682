-- The look-up in a table's memory by the place of a rule.
use Rattle.std.proofs.Common.{◌≡◌, ℕ, suc, Bool, true, false, cond, List, [], ◌∷◌, map, length, Some, None, Option, sym, refl, ap, ◌∙◌}
use Rattle.std.specs.Option.{option_map}
use Rattle.std.specs.List.{slice_get}
use Rattle.automata.specs.Trees.{rank}
use Rattle.automata.specs.Automata.{find}
use Rattle.rules.specs.declared.rule.Rule.{Rule}
use Rattle.rules.specs.Lookup.{has_left}
use Rattle.rules.specs.Shapes.{transition}
use Rattle.rules.proofs.Lookups.{left_agrees}
use Rattle.lookup_index.specs.Indexes.{first_place}

-- what stands at a place that was found
abbrev pub located : {X Y : Type 0} → (X → Y) → List X → Option ℕ → Option Y
located f xs None = None
located f xs (Some i) = option_map f (slice_get xs i)

located_suc : {X Y : Type 0} (f : X → Y) (x : X) (xs : List X) (o : Option ℕ) → located f (x ∷ xs) (option_map suc o) ≡ located f xs o
located_suc f x xs None = refl
located_suc f x xs (Some i) = refl

module _ {V W : Type 0} (stands : V → W) (ranks : List ℕ) (s : ℕ) (qs : List ℕ) (fits : length qs ≡ rank ranks s) where
  pub find_located : (rules : List (Rule V)) → find (map (transition stands ranks) rules) s qs ≡ located (transition stands ranks) rules (first_place (λ r. has_left s qs r.left) rules)
  find_located [] = refl
  find_located (r ∷ rules) =
      ap (λ b. cond b (Some (transition stands ranks r)) (find (map (transition stands ranks) rules) s qs)) (left_agrees stands ranks s qs fits r)
      ∙ at (has_left s qs r.left) (find_located rules)
    where
      at : (b : Bool) → find (map (transition stands ranks) rules) s qs ≡ located (transition stands ranks) rules (first_place (λ x. has_left s qs x.left) rules) → cond b (Some (transition stands ranks r)) (find (map (transition stands ranks) rules) s qs) ≡ located (transition stands ranks) (r ∷ rules) (cond b (Some 0) (option_map suc (first_place (λ x. has_left s qs x.left) rules)))
      at true ih = refl
      at false ih = ih ∙ sym (located_suc (transition stands ranks) r rules (first_place (λ x. has_left s qs x.left) rules))
