-- The context that takes a live state to an accepting one, rule by rule.
use Rattle.liveness.specs.Living.{lead_of}
use Rattle.liveness.specs.Listings.{flags_of}
use Rattle.std.specs.Prelude.{◌≡◌, ℕ, zero, suc, ◌+◌, ◌<◌, ◌≤◌, cond, List, [], ◌∷◌, length, take, drop, Some, None, Option, slice_index}
use Rattle.std.specs.List.{slice_get}
use Rattle.kinds.specs.Weights.{Weights}
use Rattle.automata.specs.Trees.{Tree, Row, none, ◌▹◌}
use Rattle.automata.specs.Automata.{Transition, Automaton}
use Rattle.automata.specs.Runs.{At}
use Rattle.automata.specs.Contexts.{Context, hole, under, plug}
use Rattle.rules.specs.declared.place.Place.{Place}
use Rattle.rules.specs.declared.side.Side.{Side}
use Rattle.rules.specs.Running.{run_at}
use Rattle.liveness.specs.Listings.{Reach}
use Rattle.liveness.specs.Living.{Life}
use Rattle.liveness.specs.Listings.{Flagged}
use Rattle.liveness.specs.Living.{Lively}
use Rattle.comparison.specs.Forest.{tree_in, Forest}
use Rattle.comparison.specs.declared.climbed.Climbed.{Climbed}
use Rattle.comparison.specs.declared.access.Access.{Access}
use Rattle.comparison.specs.Access.{sided, Enters}

-- the trees of these states, in order
abbrev pub row_by : (ℕ → Tree) → List ℕ → Row
row_by trees [] = none
row_by trees (q ∷ qs) = trees q ▹ row_by trees qs

-- the context c in the child place k of a rule, and the trees of the other children beside it
abbrev pub within_rule : {W : Type 0} → (ℕ → Tree) → Transition W → ℕ → Context → Context
within_rule trees r k c = under r.symbol (row_by trees (take k r.children)) c (row_by trees (drop (suc k) r.children))

-- what comes of a rule if there is one, else c
abbrev pub led_by : {W : Type 0} → (Transition W → Context) → Option (Transition W) → Context → Context
led_by onward None c = c
led_by onward (Some r) c = onward r

-- the way from the state x to an accepting one, with c below it: x stands in its child place of its rule, and the way goes on from the rule's target
abbrev pub path_over : {W : Type 0} → Automaton W → Life → (ℕ → Tree) → ℕ → ℕ → Context → Context
path_over A L trees zero x c = c
path_over A L trees (suc fuel) x c =
    cond (A.accepting x) c (led_by (λ r. path_over A L trees fuel r.target (within_rule trees r (lead_of L x).place c)) (slice_get A.rules (lead_of L x).rule) c)

abbrev pub path : {W : Type 0} → Automaton W → Life → (ℕ → Tree) → ℕ → ℕ → Context
path A L trees fuel x = path_over A L trees fuel x hole

-- the live states of one side are known, every state that is reached has its entry, and there is room to climb from an entry
pub record Climbable {V W : Type 0} (stands : V → W) (A B : Automaton W) (side : Side) (R : Reach) (L : Life) (access : Access) (work : List (Place V)) (len entry : ℕ) : Type 0 where
  pub lively : Lively (sided side A B) R L
  pub enters : Enters stands side (Flagged (flags_of R)) work len access.entry
  pub below : entry < len
  pub room : len + L.count ≤ length work + 1

-- the run of the entry ends in a live state
abbrev pub EndsLive : {V W : Type 0} → (V → W) → Side → Life → List (Place V) → ℕ → Type 0
EndsLive {W = W} stands side L work entry = (a : At W) × (run_at stands side work entry ≡ Some a) × Flagged (flags_of L) a.state

-- the access trees, by the entries of states
abbrev pub access_trees : {V : Type 0} → List ℕ → List (Place V) → ℕ → Access → ℕ → Tree
access_trees ranks work len access q = tree_in ranks work len (slice_index access.entry q)

-- what climbing from an entry in the state x answers and leaves
pub record Climbs {V W : Type 0} (K : Weights W) (stands : V → W) (A B : Automaton W) (side : Side) (L : Life) (access : Access) (before : List (Place V)) (len entry x : ℕ) (after : List (Place V)) (r : Climbed) : Type 0 where
  pub forest : Forest K stands A B after r.len
  pub same : take len after ≡ take len before
  pub top_below : r.top < r.len
  pub longer : len ≤ r.len
  pub few : r.len < len + L.count
  pub tree : tree_in A.ranks after r.len r.top ≡ plug (path (sided side A B) L (access_trees A.ranks before len access) 48 x) (tree_in A.ranks before len entry)

-- x is the state in which the run of the entry ends
abbrev pub ClimbsOn : {V W : Type 0} → Weights W → (V → W) → Automaton W → Automaton W → Side → Life → Access → List (Place V) → ℕ → ℕ → List (Place V) → Climbed → Type 0
ClimbsOn {W = W} K stands A B side L access before len entry after r =
    (a : At W) → run_at stands side before entry ≡ Some a → Climbs K stands A B side L access before len entry a.state after r
