-- The value of a pair of states, in 48 rows of 48 cells each.
use Rattle.std.specs.Prelude.{ℕ, cond, ◌&&◌, List, [], nat_lt, slice_index_or}
use Rattle.pairs.specs.declared.pair_table.PairTable.{PairTable}

-- the cell in the row p and the column q, and d for a state that is 48 or more
abbrev pub cell : {X : Type 0} → List (List X) → X → ℕ → ℕ → X
cell rows d p q = cond (nat_lt p 48 && nat_lt q 48) (slice_index_or (slice_index_or rows p []) q d) d

-- the value of the pair p, q
abbrev pub cell_at : {X : Type 0} → PairTable X → ℕ → ℕ → X
cell_at t p q = cell t.cells t.blank p q
