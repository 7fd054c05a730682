-- What an alphabet stands for, and which lists of ranks are none.
use Rattle.std.specs.Prelude.{◌≡◌, ℕ, ◌<◌, ◌⊎◌, List, [], ◌∷◌, length, take, Result, slice_index}
use Rattle.trees.specs.declared.refusal.Refusal.{Refusal}
use Rattle.trees.specs.declared.refusal.Refusal.TheVariants.{Ranks}
use Rattle.trees.specs.declared.alphabet.Alphabet.{Alphabet}
use Rattle.trees.specs.Refusals.{Test, when, Answers}

-- the ranks of the symbols, in order
abbrev pub ranks_of : Alphabet → List ℕ
ranks_of a = take a.symbols a.ranks

-- no rank, more than 32, or one above 4
abbrev pub BadRanks : List ℕ → Type 0
BadRanks rs = (length rs ≡ 0) ⊎ ((32 < length rs) ⊎ ((k : ℕ) × (k < length rs) × (4 < slice_index rs k)))

abbrev pub bad_ranks : List ℕ → Test
bad_ranks rs = when (BadRanks rs) Ranks

-- the alphabet of a list of ranks
abbrev pub Formed : List ℕ → Result Alphabet Refusal → Type 0
Formed rs r = Answers (bad_ranks rs ∷ []) (λ a. ranks_of a ≡ rs) (Unit {0}) r
