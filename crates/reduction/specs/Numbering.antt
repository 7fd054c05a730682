-- Classes of unmarked live states, numbered by their least members.
use Rattle.std.specs.Prelude.{◌≡◌, ℕ, ◌+◌, ◌<◌, ◌≤◌, Bool, true, false, ◌⊎◌, ◌↔◌, List, Some, None, Option, slice_index_or, slice_set}
use Rattle.automata.specs.Marking.{Symmetric}
use Rattle.reduction.specs.declared.classes.Classes.{Classes}
use Rattle.reduction.specs.Classes.{member_in, class_in}

-- being unmarked is an equivalence relation of live states
pub record UnmarkedAlike (live : ℕ → Bool) (marks : ℕ → ℕ → Bool) : Type 0 where
  pub reflexive : (p : ℕ) → live p ≡ true → marks p p ≡ false
  pub symmetric : Symmetric marks
  pub transitive : (p q r : ℕ) → live p ≡ true → live q ≡ true → live r ≡ true → marks p q ≡ false → marks q r ≡ false → marks p r ≡ false

-- the live states stay, two are of one class if they are not marked, and the classes are numbered by their least members
pub record Numbered (live : ℕ → Bool) (marks : ℕ → ℕ → Bool) (c : Classes) : Type 0 where
  pub members : (q : ℕ) → member_in c q ≡ live q
  pub classes : (p q : ℕ) → live p ≡ true → live q ≡ true → (class_in c p ≡ class_in c q) ↔ (marks p q ≡ false)
  pub within : (q : ℕ) → live q ≡ true → class_in c q < c.count
  pub least : ℕ → ℕ
  pub least_member : (d : ℕ) → d < c.count → (member_in c (least d) ≡ true) × (class_in c (least d) ≡ d)
  pub least_below : (q : ℕ) → member_in c q ≡ true → least (class_in c q) ≤ q
  pub ascending : (d e : ℕ) → d < e → e < c.count → least d < least e

-- a live state below q that is not marked with it
abbrev pub Earlier : (ℕ → Bool) → (ℕ → ℕ → Bool) → ℕ → Option ℕ → Type 0
Earlier live marks q None = (p : ℕ) → p < q → live p ≡ true → marks p q ≡ true
Earlier live marks q (Some p) = (p < q) × (live p ≡ true) × (marks p q ≡ false)

-- the state q takes the class of an earlier one, or opens the next class
abbrev pub Entered : (ℕ → Bool) → (ℕ → ℕ → Bool) → ℕ → List (Option ℕ) → ℕ → List (Option ℕ) → ℕ → Type 0
Entered live marks q places count places' count' =
    ((p : ℕ) × Earlier live marks q (Some p) × (places' ≡ slice_set places q (slice_index_or places p None)) × (count' ≡ count))
    ⊎ (Earlier live marks q None × (places' ≡ slice_set places q (Some count)) × (count' ≡ count + 1))
