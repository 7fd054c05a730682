-- States listed in the order of their discovery, each with how it was found.
use Rattle.std.specs.Prelude.{◌≡◌, ℕ, ◌+◌, ◌<◌, ◌≤◌, Bool, true, false, ◌↔◌, List, map, take, replicate, is_some, Some, None, Option, slice_index, slice_index_or, slice_set}
use Rattle.std.specs.List.{ContainsAt}
use Rattle.liveness.specs.declared.found.Found.{Found}

abbrev pub Flagged : List Bool → ℕ → Type 0
Flagged flags q = slice_index_or flags q false ≡ true

-- the first count places of order hold the states with a flag, each once
pub record Listed (states : ℕ) (flags : List Bool) (order : List ℕ) (count : ℕ) : Type 0 where
  pub bounded : count ≤ states
  pub within : (i : ℕ) → i < count → slice_index order i < states
  pub distinct : (i j : ℕ) → i < count → j < count → slice_index order i ≡ slice_index order j → i ≡ j
  pub flagged : (q : ℕ) → Flagged flags q ↔ ContainsAt (take count order) q

-- the states that trees have, each with the place of a rule
abbrev pub Reach : Type 0
Reach = Found ℕ

-- a flag for each state that was found
abbrev pub flags_of : {X : Type 0} → Found X → List Bool
flags_of F = map is_some F.how

-- how a state was found, if it was
abbrev pub how_of : {X : Type 0} → Found X → ℕ → Option X
how_of F q = slice_index_or F.how q None

abbrev pub none_found : {X : Type 0} → Found X
none_found = record { how = replicate 48 None; order = replicate 48 0; count = 0 }

-- with one state more
abbrev pub found_too : {X : Type 0} → Found X → ℕ → X → Found X
found_too F q h = record { how = slice_set F.how q (Some h); order = slice_set F.order F.count q; count = F.count + 1 }
