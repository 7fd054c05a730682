-- How many pairs of states are marked.
use Rattle.std.specs.Prelude.{ℕ, zero, suc, ◌+◌, Bool, cond}
use Rattle.pairs.specs.declared.pair_table.PairTable.{PairTable}
use Rattle.pairs.specs.Cells.{cell_at}

-- the sum of f over the numbers below n
unfoldable pub sum_below : (ℕ → ℕ) → ℕ → ℕ
sum_below f zero = 0
sum_below f (suc n) = sum_below f n + f n

unfoldable pub one_if : Bool → ℕ
one_if b = cond b 1 0

unfoldable pub marked_count : PairTable Bool → ℕ
marked_count t = sum_below (λ p. sum_below (λ q. one_if (cell_at t p q)) 48) 48
