use Rattle.std.proofs.Common.{◌≡◌, ℕ, ◌<◌, get_or}
use Rattle.comparison.specs.Marking.{marks, Kept}
use Rattle.comparison.proofs.marking.clear.Given as goal

abbrev pub invariant-loop-place : goal.invariant-loop-place
invariant-loop-place g l = ((j : ℕ) → j < l.place-index → get_or (marks l.place-items) j 0 ≡ 0) × Kept l.initial.place-items l.place-items
