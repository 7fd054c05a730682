use Rattle.std.proofs.Common.{◌≡◌, length, take}
use Rattle.rules.proofs.adding.left_side.Given as goal

abbrev pub invariant-loop-k : goal.invariant-loop-k
invariant-loop-k l = (length l.places ≡ 4) × (take l.k l.places ≡ take l.k l.children)
