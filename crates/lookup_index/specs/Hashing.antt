-- The hash of a left side.
use Rattle.std.specs.Prelude.{ℕ, ◌+◌, ◌*◌, ◌%◌, List, take, fold}
use Rattle.automata.specs.Trees.{rank}
use Rattle.rules.specs.declared.left_side.LeftSide.{LeftSide}

abbrev pub mixed : ℕ → ℕ → ℕ
mixed h n = ((h % 1024) * 49 + n % 1024) % 1024

-- the hash of s(qs)
abbrev pub hash_of : ℕ → List ℕ → ℕ
hash_of s qs = fold mixed (mixed 0 s) qs

abbrev pub left_hash : List ℕ → LeftSide → ℕ
left_hash ranks l = hash_of l.symbol (take (rank ranks l.symbol) l.children)
