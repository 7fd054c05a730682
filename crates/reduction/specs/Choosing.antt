-- Choosing a factor for each live state, class after class.
use Rattle.std.specs.Prelude.{◌≡◌, ℕ, ◌<◌, ◌≤◌, Bool, true, false, not, List, length, count_by, Some, ◌≢◌, slice_set}
use Rattle.std.specs.List.{AllByRecursion}
use Rattle.kinds.specs.Weights.{Weights}
use Rattle.automata.specs.Automata.{Transition, Automaton, find, Sound}
use Rattle.automata.specs.Contexts.{Context, OverContext, value}
use Rattle.automata.specs.Marking.{DecidesLive}
use Rattle.automata.specs.Merging.{keeps}
use Rattle.pairs.specs.Cells.{cell_at}
use Rattle.rules.specs.declared.place.Place.{Place}
use Rattle.rules.specs.declared.rule.Rule.{Rule}
use Rattle.rules.specs.declared.table.Table.{Table}
use Rattle.rules.specs.Shapes.{ranks_in, children_in, automaton_of, transition}
use Rattle.reduction.specs.declared.chooser.Chooser.{Chooser}
use Rattle.reduction.specs.Classes.{factor_at}
use Rattle.reduction.specs.Marking.{set_in, live_in, ToldFirst}

-- what the choice rests on, with so many places in the work list
pub record Ready {W : Type 0} (K : Weights W) (A : Automaton W) (live : ℕ → Bool) (marks : ℕ → ℕ → Bool) (places : ℕ) : Type 0 where
  pub sound : Sound A
  pub decides : DecidesLive K A live
  pub room : A.states ≤ places
  pub told : ToldFirst K A live marks

-- p and q have a context in common in which each gives its factor, up to a weight that the two share
abbrev pub Common : {W : Type 0} → Weights W → Automaton W → (ℕ → W) → ℕ → ℕ → Type 0
Common {W} K A f p q =
    (c : Context) × (z : W) × OverContext A.ranks c × (value K A c p ≡ Some (K.times z (f p))) × (value K A c q ≡ Some (K.times z (f q)))

-- the chosen states are live, whole classes with factors of one context, and all accepting states with factor one are among them
pub record Choosing {W : Type 0} (K : Weights W) (A : Automaton W) (live : ℕ → Bool) (marks : ℕ → ℕ → Bool) (chosen : ℕ → Bool) (f : ℕ → W) : Type 0 where
  pub living : (q : ℕ) → chosen q ≡ true → live q ≡ true
  pub accepting : (q : ℕ) → live q ≡ true → A.accepting q ≡ true → (chosen q ≡ true) × (f q ≡ K.one)
  pub closed : (p q : ℕ) → chosen p ≡ true → live q ≡ true → marks p q ≡ false → chosen q ≡ true
  pub common : (p q : ℕ) → chosen p ≡ true → chosen q ≡ true → marks p q ≡ false → Common K A f p q

abbrev pub Readiness : {V W : Type 0} → (V → W) → Weights W → Chooser V → List (Place V) → Type 0
Readiness stands K c work = Ready K (automaton_of stands c.live.now.table) (live_in c.live.now.life.now) (cell_at c.marks.now) (length work)

abbrev pub Choice : {V W : Type 0} → (V → W) → Weights W → Chooser V → List Bool → List (Place V) → Type 0
Choice stands K c flags work = Choosing K (automaton_of stands c.live.now.table) (live_in c.live.now.life.now) (cell_at c.marks.now) (set_in flags) (factor_at stands K work)

-- the rule is the one for its left side
abbrev pub IsRule : {V W : Type 0} → (V → W) → Table V → Rule V → Type 0
IsRule stands table rule =
    find (automaton_of stands table).rules rule.left.symbol (children_in table.shape.now rule.left) ≡ Some (transition stands (ranks_in table.shape.now) rule)

-- the children of a rule of live states are chosen if its target is
abbrev pub LeadsBack : {W : Type 0} → (ℕ → Bool) → List Bool → List Bool → Transition W → Type 0
LeadsBack live flags flags' r = keeps live r ≡ true → set_in flags r.target ≡ true → AllByRecursion (λ q. set_in flags' q ≡ true) r.children

-- how many flags are not set
abbrev pub unset : List Bool → ℕ
unset flags = count_by not flags

-- flags are set and none is taken back
pub record Grown (flags flags' : List Bool) : Type 0 where
  pub fewer : unset flags' ≤ unset flags
  pub same : unset flags' ≡ unset flags → flags' ≡ flags
  pub kept : (q : ℕ) → set_in flags q ≡ true → set_in flags' q ≡ true

-- q has the factor w, and all else is as it was
pub record Given {W : Type 0} (q : ℕ) (w : W) (chosen : ℕ → Bool) (f : ℕ → W) (chosen' : ℕ → Bool) (f' : ℕ → W) : Type 0 where
  pub flagged : chosen' q ≡ true
  pub factor : f' q ≡ w
  pub other_flags : (x : ℕ) → (x ≢ q) → chosen' x ≡ chosen x
  pub other_factors : (x : ℕ) → (x ≢ q) → f' x ≡ f x

-- the live accepting states below n are chosen, each with factor one, and no other is
pub record Accepting {W : Type 0} (K : Weights W) (accepting live : ℕ → Bool) (n : ℕ) (chosen : ℕ → Bool) (f : ℕ → W) : Type 0 where
  pub only : (q : ℕ) → chosen q ≡ true → (q < n) × (live q ≡ true) × (accepting q ≡ true) × (f q ≡ K.one)
  pub all : (q : ℕ) → q < n → live q ≡ true → accepting q ≡ true → chosen q ≡ true

-- the state q gets the factor that the rule r leads to with q in its child place k
abbrev pub Gets : {W : Type 0} → Weights W → Automaton W → ℕ → List ℕ → ℕ → ℕ → (ℕ → Bool) → (ℕ → W) → (ℕ → Bool) → (ℕ → W) → Type 0
Gets {W} K A symbol children k q chosen f chosen' f' =
    (r : Transition W) → find A.rules symbol (slice_set children k q) ≡ Some r → chosen q ≡ false → Given q (K.times r.weight (f r.target)) chosen f chosen' f'
