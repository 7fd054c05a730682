-- Contexts, and what a state gives in one: reachable, live and equivalent states.
use Rattle.std.specs.Prelude.{◌≡◌, ℕ, ◌+◌, ◌<◌, List, length, Some, None, Option}
use Rattle.kinds.specs.Weights.{Weights}
use Rattle.automata.specs.Trees.{Tree, Row, node, none, ◌▹◌, size, joined, rank, Over, Overs}
use Rattle.automata.specs.Automata.{Automaton}
use Rattle.automata.specs.Runs.{At, Ats, beside, step, run, runs, accepted}

-- a tree in which one leaf is a hole: the hole alone, or a symbol over trees, a context and trees
pub data Context : Type 0 where
  hole : Context
  under : ℕ → Row → Context → Row → Context

abbrev pub OverContext : List ℕ → Context → Type 0
OverContext ranks hole = Unit {0}
OverContext ranks (under s before c after) =
    (s < length ranks) × (size before + 1 + size after ≡ rank ranks s) × Overs ranks before × OverContext ranks c × Overs ranks after

-- the tree t in the hole
abbrev pub plug : Context → Tree → Tree
plug hole t = t
plug (under s before c after) t = node s (joined before (plug c t ▹ after))

-- the runs of a row of trees before the runs of the rest
abbrev pub ahead : {W : Type 0} → Weights W → Automaton W → Row → Option (Ats W) → Option (Ats W)
ahead K A none o = o
ahead K A (t ▹ ts) o = beside K (run K A t) (ahead K A ts o)

-- the run of a context, given the run of what stands in its hole
abbrev pub fill : {W : Type 0} → Weights W → Automaton W → Context → Option (At W) → Option (At W)
fill K A hole o = o
fill K A (under s before c after) o = step K A s (ahead K A before (beside K (fill K A c o) (runs K A after)))

-- the state q in the hole, at run weight one
abbrev pub starting : {W : Type 0} → Weights W → ℕ → Option (At W)
starting K q = Some (record { state = q; weight = K.one })

-- what the context gives with q in its hole
abbrev pub value : {W : Type 0} → Weights W → Automaton W → Context → ℕ → Option W
value K A c q = accepted A (fill K A c (starting K q))

-- a weight times a weight or nothing
abbrev pub scaled : {W : Type 0} → Weights W → W → Option W → Option W
scaled K a None = None
scaled K a (Some w) = Some (K.times a w)

-- some tree has the state
pub record Reachable {W : Type 0} (K : Weights W) (A : Automaton W) (q : ℕ) : Type 0 where
  pub tree : Tree
  pub over : Over A.ranks tree
  pub weight : W
  pub runs_to : run K A tree ≡ Some (record { state = q; weight = weight })

-- a sign of life: a context that takes the state to an accepting one
pub record Sign {W : Type 0} (K : Weights W) (A : Automaton W) (q : ℕ) : Type 0 where
  pub context : Context
  pub over : OverContext A.ranks context
  pub weight : W
  pub gives : value K A context q ≡ Some weight

pub record Live {W : Type 0} (K : Weights W) (A : Automaton W) (q : ℕ) : Type 0 where
  pub reachable : Reachable K A q
  pub sign : Sign K A q

-- in every context both give nothing, or p gives a times what q gives
abbrev pub Equivalent : {W : Type 0} → Weights W → Automaton W → W → ℕ → ℕ → Type 0
Equivalent K A a p q = (c : Context) → OverContext A.ranks c → value K A c p ≡ scaled K a (value K A c q)
