use Rattle.std.proofs.Common.{◌≡◌, ℕ, ◌≤◌, map, length, get_or, take}
use Rattle.comparison.specs.Marking.{marks, number}
use Rattle.comparison.proofs.writing.renumbered.Given as goal

abbrev pub invariant-loop-k : goal.invariant-loop-k
invariant-loop-k g l =
    (length l.children ≡ 4) × (take l.k l.children ≡ map (number (marks l.work)) (take l.k l.node.children)) × ((i : ℕ) → l.k ≤ i → get_or l.children i 0 ≡ 0)
