-- What a measure holds, and what measuring answers and leaves.
use Rattle.std.specs.Prelude.{◌≡◌, ℕ, ◌<◌, List, [], ◌∷◌, Result}
use Rattle.trees.specs.declared.refusal.Refusal.{Refusal}
use Rattle.trees.specs.declared.refusal.Refusal.TheVariants.{States}
use Rattle.trees.specs.Refusals.{when, Answers}
use Rattle.trees.specs.Alphabets.{ranks_of, bad_ranks}
use Rattle.rules.specs.declared.measure.Measure.{Measure}

-- the ranks of the alphabet, in order
abbrev pub ranks : Measure → List ℕ
ranks m = ranks_of m.alphabet

-- measuring m by rs and n answers r and leaves m'
abbrev pub Measured : Measure → List ℕ → ℕ → Result (Unit {0}) Refusal → Measure → Type 0
Measured m rs n r m' =
    Answers (bad_ranks rs ∷ when (48 < n) States ∷ []) (λ _. (ranks m' ≡ rs) × (m'.states ≡ n)) (m' ≡ m) r
