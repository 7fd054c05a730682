-- Searching through the pairs of live states that one tree has in two tables.
use Rattle.std.specs.Prelude.{◌≡◌, ℕ, ◌+◌, ◌*◌, ◌<◌, ◌≤◌, Bool, true, false, cond, List, length, take, Some, None, Option, ◌≢◌, nat_lt}
use Rattle.kinds.specs.Weights.{Weights}
use Rattle.automata.specs.Automata.{Sound}
use Rattle.automata.specs.Runs.{At}
use Rattle.automata.specs.Marking.{DecidesLive}
use Rattle.automata.specs.Comparing.{Exploration, Explored}
use Rattle.rules.specs.declared.place.Place.{Place}
use Rattle.rules.specs.declared.side.Side.{Side}
use Rattle.rules.specs.declared.side.Side.TheVariants.{First, Second}
use Rattle.comparison.specs.Forest.{Forest}
use Rattle.comparison.specs.Differing.{weight_by}
use Rattle.comparison.specs.declared.exploring_cursor.Cursor.{Cursor}
use Rattle.comparison.specs.declared.exploring_end.Exploring.{Exploring}
use Rattle.comparison.specs.declared.exploring_outcome.Outcome.{Outcome}
use Rattle.comparison.specs.declared.exploring_outcome.Outcome.TheVariants.{Differs, Lone, Uneven}
use Rattle.comparison.specs.Scanning.{Two, runs_in, ClearSince, Quiet}

-- live states are states
pub record LiveWithin {W : Type 0} (T : Two W) : Type 0 where
  pub first_within : (p : ℕ) → T.first_live p ≡ true → p < T.first.states
  pub second_within : (q : ℕ) → T.second_live q ≡ true → q < T.second.states

-- the entry e has the pair p, q of live states, of which both accept or none, and accepting with one weight
pub record Entry {W : Type 0} (T : Two W) (R : Side → ℕ → Option (At W)) (e p q : ℕ) : Type 0 where
  pub first_weight : W
  pub second_weight : W
  pub first_run : R First e ≡ Some (record { state = p; weight = first_weight })
  pub second_run : R Second e ≡ Some (record { state = q; weight = second_weight })
  pub first_is_live : T.first_live p ≡ true
  pub second_is_live : T.second_live q ≡ true
  pub agree : T.first.accepting p ≡ T.second.accepting q
  pub agree_one : T.first.accepting p ≡ true → first_weight ≡ second_weight

-- the entries from base to len are those of the known pairs, one for each
pub record Pairing {W : Type 0} (T : Two W) (R : Side → ℕ → Option (At W)) (N : ℕ → ℕ → Option ℕ) (base len : ℕ) : Type 0 where
  pub numbered : (p q e : ℕ) → N p q ≡ Some e → (base ≤ e) × (e < len) × Entry T R e p q
  pub entries : (e : ℕ) → base ≤ e → e < len → (p : ℕ) × (q : ℕ) × (N p q ≡ Some e)

-- the state of the search after it began at base with the work list before
pub record Searching {V W : Type 0} (K : Weights W) (stands : V → W) (T : Two W) (base : ℕ) (before work : List (Place V)) (N : ℕ → ℕ → Option ℕ) (len : ℕ) : Type 0 where
  pub forest : Forest K stands T.first T.second work len
  pub older : take base work ≡ take base before
  pub longer : base ≤ len
  pub pairing : Pairing T (runs_in stands work) N base len

-- a run to a live state, and none to a live state on the other side
pub record OneSided {W : Type 0} (live live' : ℕ → Bool) (x y : Option (At W)) : Type 0 where
  pub one : At W
  pub there : x ≡ Some one
  pub is_live : live one.state ≡ true
  pub no_other : (b : At W) → y ≡ Some b → live' b.state ≡ false

-- the runs of the entries e and o end in one pair of states, the first of them live, with two ratios of the run weights
pub record TwoRatios {W : Type 0} (K : Weights W) (live : ℕ → Bool) (R : Side → ℕ → Option (At W)) (e o : ℕ) : Type 0 where
  pub p : ℕ
  pub q : ℕ
  pub v : W
  pub w : W
  pub x : W
  pub y : W
  pub first_run : R First e ≡ Some (record { state = p; weight = v })
  pub second_run : R Second e ≡ Some (record { state = q; weight = w })
  pub first_other : R First o ≡ Some (record { state = p; weight = x })
  pub second_other : R Second o ≡ Some (record { state = q; weight = y })
  pub is_live : live p ≡ true
  pub apart : K.times v y ≡ K.times x w → ⊥

-- what an outcome says, where R has the runs of the first len entries; none says that every tree weighs alike
abbrev pub Ends : {W : Type 0} → Weights W → Two W → (Side → ℕ → Option (At W)) → ℕ → Option Outcome → Type 0
Ends {W} K T R len None =
    (E : Exploration W) × (DecidesLive K T.first T.first_live → DecidesLive K T.second T.second_live → Sound T.first → Sound T.second → Explored K T.first T.second E)
Ends K T R len (Some (Differs e)) = (e < len) × (weight_by T.first.accepting (R First e) ≢ weight_by T.second.accepting (R Second e))
Ends K T R len (Some (Lone First e)) = (e < len) × OneSided T.first_live T.second_live (R First e) (R Second e)
Ends K T R len (Some (Lone Second e)) = (e < len) × OneSided T.second_live T.first_live (R Second e) (R First e)
Ends K T R len (Some (Uneven e o)) = (e < len) × (o < len) × TwoRatios K T.first_live R e o

-- the search from the work list before, with len entries, ended with the work list after
pub record Explores {V W : Type 0} (K : Weights W) (stands : V → W) (T : Two W) (before : List (Place V)) (len : ℕ) (after : List (Place V)) (r : Exploring) : Type 0 where
  pub forest : Forest K stands T.first T.second after r.len
  pub longer : len ≤ r.len
  pub bounded : r.len ≤ len + T.first.states * T.second.states + 1
  pub older : take len after ≡ take len before
  pub outcome : Ends K T (runs_in stands after) r.len r.outcome

-- the runs of the first len entries and the entries of their pairs stay, and other pairs have later entries
pub record Grown {W : Type 0} (R R' : Side → ℕ → Option (At W)) (N N' : ℕ → ℕ → Option ℕ) (len : ℕ) : Type 0 where
  pub runs : (side : Side) (e : ℕ) → e < len → R' side e ≡ R side e
  pub known : (p q e : ℕ) → N p q ≡ Some e → (e < len) × (N' p q ≡ Some e)
  pub earlier : (p q e : ℕ) → N' p q ≡ Some e → e < len → N p q ≡ Some e

-- what a node that was taken up leads to: the search goes on with an entry more, or ends with it
abbrev pub Taken : {V W : Type 0} → Weights W → (V → W) → Two W → ℕ → List (Place V) → List (Place V) → (ℕ → ℕ → Option ℕ) → (ℕ → ℕ → Option ℕ) → ℕ → Option Outcome → Type 0
Taken K stands T base before work N N' len None = Searching K stands T base before work N' (len + 1) × Grown (runs_in stands before) (runs_in stands work) N N' len
Taken K stands T base before work N N' len (Some o) =
    Forest K stands T.first T.second work (len + 1) × (take base work ≡ take base before) × Ends K T (runs_in stands work) (len + 1) (Some o)

-- the cursor at the next of i and j rules, or once more at the first of them if there are entries since the pass began, and else none
abbrev pub advanced : ℕ → ℕ → ℕ → Cursor → Option Cursor
advanced i j len c =
    cond (nat_lt c.first i) (Some (record { first = c.first + 1; second = c.second; start = c.start; since = c.since }))
    (cond (nat_lt c.second j) (Some (record { first = c.first; second = c.second + 1; start = c.start; since = c.since }))
    (cond (nat_lt c.start len) (Some (record { first = 0; second = 0; start = len; since = Some c.start })) None))

-- without later pairs over their children, the rules before the cursor are clear since this pass began, and all rules since the pass before it began
pub record Passed {W : Type 0} (K : Weights W) (T : Two W) (R : Side → ℕ → Option (At W)) (N : ℕ → ℕ → Option ℕ) (len : ℕ) (c : Cursor) : Type 0 where
  pub first_low : c.first ≤ length T.first.rules
  pub second_low : c.second ≤ length T.second.rules
  pub start_low : c.start ≤ len
  pub since_low : (m : ℕ) → c.since ≡ Some m → m ≤ len
  pub clear : ClearSince K T R N c.start c.first c.second
  pub quiet : Quiet K T R N c.since
