-- The steps that the two rounds of marking share: pairs that a step may mark, and what it leaves to mark.
use Rattle.std.specs.Prelude.{◌≡◌, ℕ, ◌<◌, Bool, true, false, ◌⊎◌, List, length, Some, None, Option, ◌≢◌, slice_index, slice_set}
use Rattle.std.specs.List.{ContainsAt}
use denote.Ref.{Bor}
use Rattle.kinds.specs.Weights.{Weights}
use Rattle.automata.specs.Automata.{Transition, Automaton, find, Sound}
use Rattle.automata.specs.Pushing.{reweighed}
use Rattle.automata.specs.Merging.{keeps}
use Rattle.automata.specs.Marking.{DecidesLive, TrueSigns, TrueMarks, Symmetric, Chosen}
use Rattle.rules.specs.declared.place.Place.{Place}
use Rattle.pairs.specs.declared.pair_table.PairTable.{PairTable}
use Rattle.pairs.specs.Cells.{cell_at}
use Rattle.pairs.specs.Counts.{marked_count}
use Rattle.reduction.specs.Classes.{factor_at}

-- the second round compares also weights, pushed by factors
pub data Round (W : Type 0) : Type 0 where
  round_one : Round W
  round_two : (ℕ → W) → Round W

-- the second round, if there is a work list with factors
abbrev pub round_in : {V W : Type 0} → (V → W) → Weights W → Option (Bor (List (Place V))) → Round W
round_in stands K None = round_one
round_in stands K (Some work) = round_two (factor_at stands K work.now)

-- two live states of which one accepts
pub record AcceptApart (accepting live : ℕ → Bool) (p q : ℕ) : Type 0 where
  pub this_live : live p ≡ true
  pub other_live : live q ≡ true
  pub apart : accepting p ≡ accepting q → ⊥

-- from t to t' only such pairs have been marked, and those that are done have been
pub record Spread (D done : ℕ → ℕ → Type 0) (t t' : PairTable Bool) : Type 0 where
  pub only : (x y : ℕ) → cell_at t' x y ≡ true → (cell_at t x y ≡ true) ⊎ D x y
  pub kept : (x y : ℕ) → cell_at t x y ≡ true → cell_at t' x y ≡ true
  pub all : (x y : ℕ) → done x y → D x y → cell_at t' x y ≡ true

-- the rule that was found has a live target
abbrev pub live_target : {W : Type 0} → (ℕ → Bool) → Option (Transition W) → Bool
live_target live None = false
live_target live (Some r) = live r.target

-- just in the place k of n two lists may differ
abbrev pub OnlyPlace : ℕ → List ℕ → List ℕ → ℕ → Type 0
OnlyPlace n xs ys k = (j : ℕ) → j < n → (j ≢ k) → slice_index xs j ≡ slice_index ys j

-- the place in which the first n elements of two lists differ, if it is one
abbrev pub Differs : ℕ → List ℕ → List ℕ → Option ℕ → Type 0
Differs n xs ys None = (k : ℕ) → k < n → OnlyPlace n xs ys k → slice_index xs k ≡ slice_index ys k
Differs n xs ys (Some k) = (k < n) × OnlyPlace n xs ys k

-- two rules differ at most in the child place k, where the second has a live state, and its target is live
pub record Facing {W : Type 0} (live : ℕ → Bool) (r r' : Transition W) (k : ℕ) : Type 0 where
  pub symbol : r.symbol ≡ r'.symbol
  pub within : k < length r.children
  pub only : OnlyPlace (length r.children) r.children r'.children k
  pub other_live : live (slice_index r'.children k) ≡ true
  pub target_live : live r'.target ≡ true

-- the child place in which two rules face each other, if there is one
abbrev pub Faces : {W : Type 0} → (ℕ → Bool) → Transition W → Transition W → Option ℕ → Type 0
Faces live r r' None = (k : ℕ) → Facing live r r' k → slice_index r.children k ≡ slice_index r'.children k
Faces live r r' (Some k) = Facing live r r' k

module _ {W : Type 0} (K : Weights W) where
  -- the rules weigh differently after the push, in a round that compares weights
  abbrev pub Uneven : Round W → Transition W → Transition W → Type 0
  Uneven round_one r r' = ⊥
  Uneven (round_two f) r r' = (reweighed K f r).weight ≡ (reweighed K f r').weight → ⊥

  -- the targets are marked, or the rules weigh differently
  abbrev pub Tells : Round W → (ℕ → ℕ → Bool) → Transition W → Transition W → Type 0
  Tells ρ marks r r' = (marks r.target r'.target ≡ true) ⊎ Uneven ρ r r'

  module _ (A : Automaton W) (live : ℕ → Bool) where
    -- the marks so far are true
    abbrev pub Truth : Round W → (ℕ → ℕ → Bool) → Type 0
    Truth round_one marks = TrueSigns K A marks
    Truth (round_two f) marks = TrueMarks K A marks × Chosen K A live marks f

    pub record Good (ρ : Round W) (marks : ℕ → ℕ → Bool) : Type 0 where
      pub truth : Truth ρ marks
      pub symmetric : Symmetric marks

    -- marks are kept, and true ones are added
    pub record Grown (ρ : Round W) (t t' : PairTable Bool) : Type 0 where
      pub kept : (x y : ℕ) → cell_at t x y ≡ true → cell_at t' x y ≡ true
      pub good : Sound A → DecidesLive K A live → Good ρ (cell_at t) → Good ρ (cell_at t')

    -- and b says whether a pair was marked; if none was, there was none to mark as P says
    pub record Swept (ρ : Round W) (P : PairTable Bool → Type 0) (t t' : PairTable Bool) (b : Bool) : Type 0 where
      pub grown : Grown ρ t t'
      pub same : b ≡ false → t' ≡ t
      pub more : b ≡ true → marked_count t < marked_count t'
      pub rest : b ≡ false → P t

    -- the children in which two rules differ are marked if the rules tell them apart
    abbrev pub Compared : Round W → Transition W → Transition W → PairTable Bool → Type 0
    Compared ρ r r' t =
        keeps live r ≡ true → (k : ℕ) → Facing live r r' k → (slice_index r.children k ≢ slice_index r'.children k) → Tells ρ (cell_at t) r r' → cell_at t (slice_index r.children k) (slice_index r'.children k) ≡ true

    abbrev pub ComparedOne : Round W → Transition W → PairTable Bool → Type 0
    ComparedOne ρ r t = (r' : Transition W) → ContainsAt A.rules r' → Compared ρ r r' t

    abbrev pub ComparedAll : Round W → PairTable Bool → Type 0
    ComparedAll ρ t = (r : Transition W) → ContainsAt A.rules r → ComparedOne ρ r t

    -- the child k of the rule r is marked against q, if r has no counterpart for q
    abbrev pub LoneNoted : Transition W → ℕ → ℕ → PairTable Bool → Type 0
    LoneNoted r k q t =
        keeps live r ≡ true → k < length r.children → live q ≡ true → live_target live (find A.rules r.symbol (slice_set r.children k q)) ≡ false → cell_at t (slice_index r.children k) q ≡ true

    abbrev pub LonePlace : Transition W → ℕ → PairTable Bool → Type 0
    LonePlace r k t = (q : ℕ) → LoneNoted r k q t

    abbrev pub LoneRule : Transition W → PairTable Bool → Type 0
    LoneRule r t = (k : ℕ) → LonePlace r k t

    abbrev pub LoneAll : PairTable Bool → Type 0
    LoneAll t = (r : Transition W) → ContainsAt A.rules r → LoneRule r t
