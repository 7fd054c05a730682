-- What a reduction leaves: one state for each class of equivalent live states.
use Rattle.std.specs.Prelude.{◌≡◌, ℕ, ◌<◌, [], ◌∷◌, Result}
use Rattle.kinds.specs.Weights.{Weights}
use Rattle.automata.specs.Automata.{Sound}
use Rattle.automata.specs.Merging.{Grouping, merged}
use Rattle.trees.specs.declared.refusal.Refusal.{Refusal}
use Rattle.trees.specs.declared.refusal.Refusal.TheVariants.{Short}
use Rattle.trees.specs.Refusals.{when, Answers}
use Rattle.rules.specs.Books.{Book}
use Rattle.reduction.specs.Partitions.{Partition}

-- the numbers of states before and after, and the merge by such classes
pub record Reduction {W : Type 0} (K : Weights W) (b b' : Book W) (answer : ℕ × ℕ) : Type 0 where
  pub grouping : Grouping W
  pub partition : Partition K b.content grouping
  pub before : answer.0 ≡ b.content.states
  pub after : answer.1 ≡ grouping.count
  pub places : b'.places ≡ b.places
  pub content : b'.content ≡ merged K grouping b.content

-- a reduction of b with so many places answers r and leaves b'; what it leaves is said of every sound table
abbrev pub Reduces : {W : Type 0} → Weights W → Book W → ℕ → Result (ℕ × ℕ) Refusal → Book W → Type 0
Reduces K b places r b' =
    Answers (when (places < b.content.states) Short ∷ []) (λ answer. Sound b.content → Reduction K b b' answer) (b' ≡ b) r
