-- The entry that a symbol and child numbers make.
use Rattle.std.specs.Prelude.{◌≡◌, ℕ, ◌-◌, List, ◌++◌, length, replicate, Some, None, Option}
use Rattle.trees.specs.declared.node.Node.{Node}
use Rattle.orders.specs.declared.symbol.Symbol.{Symbol}
use Rattle.orders.specs.Symbols.{symbol_number, symbol_rank}

-- the symbol over these children, with 0 in the other places; none if there are not as many as its rank
abbrev pub Made : Symbol → List ℕ → Option Node → Type 0
Made s is (Some n) = (length is ≡ symbol_rank s) × (n ≡ record { symbol = symbol_number s; children = is ++ replicate (4 - length is) 0 })
Made s is None = length is ≡ symbol_rank s → ⊥
