-- Access trees: for every state that is reached, an entry of a forest whose tree runs to it.
use Rattle.liveness.specs.Listings.{flags_of}
use Rattle.std.specs.Prelude.{◌≡◌, ℕ, ◌+◌, ◌<◌, ◌≤◌, List, length, take, Some, slice_index}
use Rattle.kinds.specs.Weights.{Weights}
use Rattle.automata.specs.Trees.{rank}
use Rattle.automata.specs.Automata.{Automaton, Sound}
use Rattle.trees.specs.declared.node.Node.{Node}
use Rattle.trees.specs.Lists.{children_of}
use Rattle.rules.specs.declared.place.Place.{Place}
use Rattle.rules.specs.declared.side.Side.{Side}
use Rattle.rules.specs.declared.side.Side.TheVariants.{First, Second}
use Rattle.rules.specs.Running.{run_at}
use Rattle.liveness.specs.Listings.{Reach}
use Rattle.liveness.specs.Listings.{Flagged}
use Rattle.liveness.specs.Reaching.{Reached}
use Rattle.comparison.specs.Forest.{Forest}
use Rattle.comparison.specs.declared.access.Access.{Access}

-- what belongs to one side
abbrev pub sided : {X : Type 0} → Side → X → X → X
sided First x y = x
sided Second x y = y

-- the node has the symbol s over these entries, and 0 in the other places
pub record NodeOver (ranks : List ℕ) (s : ℕ) (entries : List ℕ) (n : Node) : Type 0 where
  pub symbol : n.symbol ≡ s
  pub four : length n.children ≡ 4
  pub children : children_of ranks n ≡ entries
  pub padded : (k : ℕ) → rank ranks s ≤ k → k < 4 → slice_index n.children k ≡ 0

-- every state of P has an entry whose tree runs to it
pub record Enters {V W : Type 0} (stands : V → W) (side : Side) (P : ℕ → Type 0) (work : List (Place V)) (len : ℕ) (entries : List ℕ) : Type 0 where
  pub below : (q : ℕ) → P q → slice_index entries q < len
  pub runs : (q : ℕ) → P q → (w : W) × (run_at stands side work (slice_index entries q) ≡ Some (record { state = q; weight = w }))

-- the table on one side is sound and R has the states that it reaches; the work list holds entries for both tables, over one alphabet
pub record Prepared {V W : Type 0} (K : Weights W) (stands : V → W) (A B : Automaton W) (side : Side) (R : Reach) (work : List (Place V)) (len : ℕ) : Type 0 where
  pub sound : Sound (sided side A B)
  pub reached : Reached (sided side A B) R
  pub alphabet : A.ranks ≡ B.ranks
  pub forest : Forest K stands A B work len

-- what planting the access trees of one side answers and leaves
pub record Accessed {V W : Type 0} (K : Weights W) (stands : V → W) (A B : Automaton W) (side : Side) (R : Reach) (before : List (Place V)) (len : ℕ) (after : List (Place V)) (r : Access) : Type 0 where
  pub more : r.len ≡ len + R.count
  pub forest : Forest K stands A B after r.len
  pub same : take len after ≡ take len before
  pub enters : Enters stands side (Flagged (flags_of R)) after r.len r.entry
