use Rattle.std.proofs.Common.{◌≡◌, map, length, take}
use Rattle.orders.specs.Tables.{state_number}
use Rattle.orders.proofs.table.numbers.Given as goal

abbrev pub invariant-loop-k : goal.invariant-loop-k
invariant-loop-k l = (length l.places ≡ 4) × (take l.k l.places ≡ take l.k (map state_number l.line.children.now))
