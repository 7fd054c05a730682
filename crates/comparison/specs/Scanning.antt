-- What a node over entries with known pairs of live states adds to the pairs that one tree has in two tables.
use Rattle.liveness.specs.Listings.{flags_of}
use Rattle.std.specs.Prelude.{◌≡◌, ℕ, ◌<◌, ◌≤◌, Bool, true, false, cond, List, [], ◌∷◌, ◌++◌, map, length, take, Some, None, Option, slice_index, slice_index_or, nat_lt}
use Rattle.std.specs.List.{slice_get, list_all, range_with_len}
use Rattle.kinds.specs.Weights.{Weights}
use Rattle.automata.specs.Trees.{rank}
use Rattle.automata.specs.Automata.{Transition, Automaton}
use Rattle.automata.specs.Runs.{At, step}
use Rattle.trees.specs.declared.node.Node.{Node}
use Rattle.pairs.specs.Cells.{cell_at}
use Rattle.rules.specs.declared.place.Place.{Place}
use Rattle.rules.specs.declared.rule.Rule.{Rule}
use Rattle.rules.specs.declared.shape.Shape.{Shape}
use Rattle.rules.specs.declared.side.Side.{Side}
use Rattle.rules.specs.declared.side.Side.TheVariants.{First, Second}
use Rattle.rules.specs.Running.{run_at, row_runs}
use Rattle.rules.specs.Shapes.{automaton}
use Rattle.liveness.specs.Living.{Life}
use Rattle.comparison.specs.declared.scan.Scan.{Scan}
use Rattle.comparison.specs.declared.scan_finding.Finding.{Finding}
use Rattle.comparison.specs.declared.scan_tables.LiveTables.{LiveTables}
use Rattle.comparison.specs.declared.scan_verdict.Verdict.{Verdict}
use Rattle.comparison.specs.declared.scan_verdict.Verdict.TheVariants.{NewPair, Lone, Uneven}

-- two automata, with a test of live states for each
pub record Two (W : Type 0) : Type 0 where
  pub first : Automaton W
  pub second : Automaton W
  pub first_live : ℕ → Bool
  pub second_live : ℕ → Bool

abbrev pub live_in : Life → ℕ → Bool
live_in L q = slice_index_or (flags_of L) q false

abbrev pub two_of : {V W : Type 0} → (V → W) → Shape → List (Rule V) → Life → Shape → List (Rule V) → Life → Two W
two_of stands first first_rules first-life second second_rules second-life = record {
  first = automaton stands first first_rules;
  second = automaton stands second second_rules;
  first_live = live_in first-life;
  second_live = live_in second-life;
}

abbrev pub two : {V W : Type 0} → (V → W) → LiveTables V → Two W
two stands t = two_of stands t.tables.first.shape.now t.tables.first.rules.now t.first_life.now t.tables.second.shape.now t.tables.second.rules.now t.second_life.now

-- the automaton and the test of one side
abbrev pub of_side : {W : Type 0} → Two W → Side → Automaton W
of_side T First = T.first
of_side T Second = T.second

abbrev pub live_on : {W : Type 0} → Two W → Side → ℕ → Bool
live_on T First = T.first_live
live_on T Second = T.second_live

-- the runs of the entries of a work list, for each side
abbrev pub runs_in : {V W : Type 0} → (V → W) → List (Place V) → Side → ℕ → Option (At W)
runs_in stands work side i = run_at stands side work i

-- what a scan goes by: the automata, the runs of the entries, and the entries of the known pairs
abbrev pub tables_of : {V W : Type 0} → (V → W) → Scan V → Two W
tables_of stands s = two stands s.live

abbrev pub runs_of : {V W : Type 0} → (V → W) → Scan V → Side → ℕ → Option (At W)
runs_of stands s = runs_in stands s.work.now

abbrev pub entry_of : {V : Type 0} → Scan V → ℕ → ℕ → Option ℕ
entry_of s = cell_at s.pairs.now

-- a run that ends in a live state
abbrev pub to_live : {W : Type 0} → (ℕ → Bool) → Option (At W) → Option (At W)
to_live live None = None
to_live live (Some a) = cond (live a.state) (Some a) None

-- the run weights of the entry e have the ratio of v to w
abbrev pub Even : {W : Type 0} → Weights W → (Side → ℕ → Option (At W)) → ℕ → W → W → Type 0
Even {W} K R e v w = (a b : At W) → R First e ≡ Some a → R Second e ≡ Some b → K.times v b.weight ≡ K.times a.weight w

-- the entry e has runs on both sides, whose weights have another ratio
pub record Unequal {W : Type 0} (K : Weights W) (R : Side → ℕ → Option (At W)) (e : ℕ) (v w : W) : Type 0 where
  pub one : At W
  pub other : At W
  pub first_run : R First e ≡ Some one
  pub second_run : R Second e ≡ Some other
  pub apart : K.times v other.weight ≡ K.times one.weight w → ⊥

-- two runs to live states, and what is said of the two
pub record Both {W : Type 0} (x y : Option (At W)) (P : At W → At W → Type 0) : Type 0 where
  pub one : At W
  pub other : At W
  pub first_run : x ≡ Some one
  pub second_run : y ≡ Some other
  pub holds : P one other

-- a run to a live state on one side only
pub record Alone {W : Type 0} (x y : Option (At W)) : Type 0 where
  pub one : At W
  pub there : x ≡ Some one
  pub no_other : y ≡ None

-- neither run is there, or the two have a known pair of states with its ratio
abbrev pub Clears : {W : Type 0} → Weights W → (Side → ℕ → Option (At W)) → (ℕ → ℕ → Option ℕ) → Option (At W) → Option (At W) → Type 0
Clears K R N None None = Unit {0}
Clears K R N None (Some b) = ⊥
Clears K R N (Some a) None = ⊥
Clears K R N (Some a) (Some b) = (e : ℕ) × (N a.state b.state ≡ Some e) × Even K R e a.weight b.weight

-- what is said of a node with these runs to live states, where N has the entry of each known pair: nothing if it is clear
abbrev pub Judged : {W : Type 0} → Weights W → (Side → ℕ → Option (At W)) → (ℕ → ℕ → Option ℕ) → Option (At W) → Option (At W) → Option Verdict → Type 0
Judged K R N x y None = Clears K R N x y
Judged K R N x y (Some NewPair) = Both x y (λ a b. N a.state b.state ≡ None)
Judged K R N x y (Some (Lone First)) = Alone x y
Judged K R N x y (Some (Lone Second)) = Alone y x
Judged K R N x y (Some (Uneven e)) = Both x y (λ a b. (N a.state b.state ≡ Some e) × Unequal K R e a.weight b.weight)

-- the run of the symbol s over the entries es, to a live state
abbrev pub node_run : {W : Type 0} → Weights W → Two W → (Side → ℕ → Option (At W)) → Side → ℕ → List ℕ → Option (At W)
node_run K T R side s es = to_live (live_on T side) (step K (of_side T side) s (row_runs K (map (R side) es)))

-- what is said of the node s(es)
abbrev pub Said : {W : Type 0} → Weights W → Two W → (Side → ℕ → Option (At W)) → (ℕ → ℕ → Option ℕ) → ℕ → List ℕ → Option Verdict → Type 0
Said K T R N s es v = Judged K R N (node_run K T R First s es) (node_run K T R Second s es) v

abbrev pub other_side : Side → Side
other_side First = Second
other_side Second = First

-- the entry of the pair of p on the side and q on the other side
abbrev pub number_by : Side → (ℕ → ℕ → Option ℕ) → ℕ → ℕ → Option ℕ
number_by First N p q = N p q
number_by Second N p q = N q p

-- es are entries of known pairs whose states on the side are ps
abbrev pub Tuple : Side → (ℕ → ℕ → Option ℕ) → List ℕ → List ℕ → Type 0
Tuple side N [] [] = Unit {0}
Tuple side N [] (e ∷ es) = ⊥
Tuple side N (p ∷ ps) [] = ⊥
Tuple side N (p ∷ ps) (e ∷ es) = ((q : ℕ) × (number_by side N p q ≡ Some e)) × Tuple side N ps es

-- the entry, if there is one, is among the first m
abbrev pub is_before : Option ℕ → ℕ → Bool
is_before None m = true
is_before (Some e) m = nat_lt e m

-- whether the pairs of p on the side and a state below n are those of the first m entries only
abbrev pub early_pairs : Side → (ℕ → ℕ → Option ℕ) → ℕ → ℕ → ℕ → Bool
early_pairs side N m n p = list_all (λ q. is_before (number_by side N p q) m) (range_with_len 0 n)

-- the states of known pairs are states of the automata
abbrev pub PairsWithin : {W : Type 0} → Two W → (ℕ → ℕ → Option ℕ) → Type 0
PairsWithin T N = (p q e : ℕ) → N p q ≡ Some e → (p < T.first.states) × (q < T.second.states)

-- every node of the symbol s over the entries before, and behind them entries whose states on the side are ps, is clear
abbrev pub ClearOver : {W : Type 0} → Weights W → Two W → (Side → ℕ → Option (At W)) → (ℕ → ℕ → Option ℕ) → Side → ℕ → List ℕ → List ℕ → Type 0
ClearOver K T R N side s before ps = (es : List ℕ) → Tuple side N ps es → Said K T R N s (before ++ es) None

-- the node's first places hold entries of known pairs, and the others 0
pub record Filled (N : ℕ → ℕ → Option ℕ) (place : ℕ) (n : Node) : Type 0 where
  pub four : length n.children ≡ 4
  pub entries : (k : ℕ) → k < place → (p : ℕ) × (q : ℕ) × (N p q ≡ Some (slice_index n.children k))
  pub padded : (k : ℕ) → place ≤ k → k < 4 → slice_index n.children k ≡ 0

-- a node of the symbol s that is not clear
pub record Tells {W : Type 0} (K : Weights W) (T : Two W) (R : Side → ℕ → Option (At W)) (N : ℕ → ℕ → Option ℕ) (s : ℕ) (f : Finding) : Type 0 where
  pub symbol : f.node.symbol ≡ s
  pub filled : Filled N (rank T.first.ranks s) f.node
  pub said : Said K T R N s (take (rank T.first.ranks s) f.node.children) (Some f.verdict)

-- every node of the rule's symbol over entries whose states on the side are its children is clear, if its target is live
abbrev pub ClearRule : {W : Type 0} → Weights W → Two W → (Side → ℕ → Option (At W)) → (ℕ → ℕ → Option ℕ) → Side → Transition W → Type 0
ClearRule K T R N side r =
    r.symbol < length T.first.ranks → live_on T side r.target ≡ true → ClearOver K T R N side r.symbol [] r.children

-- the pairs of the states ps on the side are those of the first m entries only
abbrev pub Rested : Side → (ℕ → ℕ → Option ℕ) → ℕ → List ℕ → Type 0
Rested side N m ps = (k : ℕ) → k < length ps → (q e : ℕ) → number_by side N (slice_index ps k) q ≡ Some e → e < m

-- the rules before these places are clear, if the pairs over their children are those of the first m entries only
pub record ClearSince {W : Type 0} (K : Weights W) (T : Two W) (R : Side → ℕ → Option (At W)) (N : ℕ → ℕ → Option ℕ) (m i j : ℕ) : Type 0 where
  pub first_clear : (k : ℕ) (r : Transition W) → k < i → slice_get T.first.rules k ≡ Some r → Rested First N m r.children → ClearRule K T R N First r
  pub second_clear : (k : ℕ) (r : Transition W) → k < j → slice_get T.second.rules k ≡ Some r → Rested Second N m r.children → ClearRule K T R N Second r

-- every rule is clear, if the pairs over its children are those of the given number of first entries only
abbrev pub Quiet : {W : Type 0} → Weights W → Two W → (Side → ℕ → Option (At W)) → (ℕ → ℕ → Option ℕ) → Option ℕ → Type 0
Quiet K T R N since = (m : ℕ) → since ≡ Some m → ClearSince K T R N m (length T.first.rules) (length T.second.rules)

-- the rule at the place i of the first table, or from its end on the rule at the place j of the second, is clear
abbrev pub ClearAt : {W : Type 0} → Weights W → Two W → (Side → ℕ → Option (At W)) → (ℕ → ℕ → Option ℕ) → ℕ → ℕ → Type 0
ClearAt {W} K T R N i j =
    ((r : Transition W) → slice_get T.first.rules i ≡ Some r → ClearRule K T R N First r)
    × (length T.first.rules ≤ i → (r : Transition W) → slice_get T.second.rules j ≡ Some r → ClearRule K T R N Second r)

-- a node of a symbol of the alphabet that is not clear
pub record Told {W : Type 0} (K : Weights W) (T : Two W) (R : Side → ℕ → Option (At W)) (N : ℕ → ℕ → Option ℕ) (f : Finding) : Type 0 where
  pub symbol : ℕ
  pub symbol_within : symbol < length T.first.ranks
  pub tells : Tells K T R N symbol f
