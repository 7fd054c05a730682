-- What the two rounds of marking pairs of live states come to.
use Rattle.liveness.specs.Listings.{flags_of}
use Rattle.std.specs.Prelude.{ℕ, Bool, false, List, slice_index_or}
use Rattle.kinds.specs.Weights.{Weights}
use Rattle.automata.specs.Automata.{Automaton}
use Rattle.automata.specs.Marking.{MarksFirst, MarksSecond, TrueSigns, TrueMarks, Symmetric, AtRest}
use Rattle.liveness.specs.Living.{Life}

-- whether a flag is set
abbrev pub set_in : List Bool → ℕ → Bool
set_in flags q = slice_index_or flags q false

abbrev pub live_in : Life → ℕ → Bool
live_in life = set_in (flags_of life)

-- marked states have different signs of life, and the first round has no pair left to mark
pub record ToldFirst {W : Type 0} (K : Weights W) (A : Automaton W) (live : ℕ → Bool) (marks : ℕ → ℕ → Bool) : Type 0 where
  pub true_signs : TrueSigns K A marks
  pub symmetric : Symmetric marks
  pub at_rest : AtRest live marks (MarksFirst A live marks)

-- marked states are not equivalent, and the second round has no pair left to mark
pub record ToldSecond {W : Type 0} (K : Weights W) (A : Automaton W) (live : ℕ → Bool) (f : ℕ → W) (marks : ℕ → ℕ → Bool) : Type 0 where
  pub true_marks : TrueMarks K A marks
  pub symmetric : Symmetric marks
  pub at_rest : AtRest live marks (MarksSecond K A live f marks)
