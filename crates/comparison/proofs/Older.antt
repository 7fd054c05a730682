-- Entries stay as they are while others are added behind them: their runs and their trees are the same.
use Rattle.std.proofs.Common.{◌≡◌, ℕ, zero, suc, ◌<◌, ◌≤◌, List, [], ◌∷◌, map, length, get_or, take, sym, refl, ap, ◌∙◌, le_of_suc-le-suc, arith}
use Rattle.std.specs.List.{slice_get}
use Rattle.std.proofs.lemmas.List.{take-map, take-take}
use Rattle.automata.specs.Trees.{node, none}
use Rattle.trees.specs.Lists.{tree_at}
use Rattle.trees.proofs.Entries.{trees_front}
use Rattle.rules.specs.declared.place.Place.{Place}
use Rattle.rules.specs.declared.side.Side.{Side}
use Rattle.rules.specs.Running.{place_run, run_at}
use Rattle.comparison.specs.Forest.{nodes, tree_in}
use Rattle.comparison.proofs.Plants.{length_nodes}
use Rattle.comparison.specs.Access.{Enters}

nth_front : {X : Type 0} (n : ℕ) (xs : List X) (i : ℕ) → i < n → slice_get (take n xs) i ≡ slice_get xs i
nth_front zero xs i h = absurd (omega arith)
nth_front (suc n) [] i h = refl
nth_front (suc n) (x ∷ xs) zero h = refl
nth_front (suc n) (x ∷ xs) (suc i) h = nth_front n xs i (le_of_suc-le-suc h)

module _ {V : Type 0} (work work' : List (Place V)) (len : ℕ) (same : take len work' ≡ take len work) where
  pub older_run : {W : Type 0} (stands : V → W) (side : Side) (i : ℕ) → i < len → run_at stands side work' i ≡ run_at stands side work i
  older_run stands side i h = ap (place_run stands side) (sym (nth_front len work' i h) ∙ ap (λ ps. slice_get ps i) same ∙ nth_front len work i h)

  pub older_tree : (ranks : List ℕ) (len' : ℕ) → len ≤ len' → len' ≤ length work' → (i : ℕ) → i < len → tree_in ranks work' len' i ≡ tree_in ranks work len i
  older_tree ranks len' more room i h =
      trees_front ranks (nodes work' len') len i (node 0 none) (omega (arith, length_nodes work' len' room)) h
      ∙ ap (λ ms. tree_at ranks ms i) (take-map (λ p. p.node) len (take len' work') ∙ ap (map (λ p. p.node)) (take-take len len' work' more ∙ same))

  pub enters_still : {W : Type 0} (stands : V → W) (side : Side) (P : ℕ → Type 0) (entries : List ℕ) (len' : ℕ) → len ≤ len' → Enters stands side P work len entries → Enters stands side P work' len' entries
  enters_still stands side P entries len' more e = record {
    below = λ q p. omega (arith, e.below q p);
    runs = λ q p. ((e.runs q p).0, older_run stands side (get_or entries q 0) (e.below q p) ∙ (e.runs q p).1);
  }
