-- What a tree with a given run weighs.
use Rattle.std.specs.Prelude.{ℕ, Bool, cond, Some, None, Option}
use Rattle.automata.specs.Runs.{At}

-- a run to one of the accepting states weighs its run weight, and any other run nothing
abbrev pub weight_by : {W : Type 0} → (ℕ → Bool) → Option (At W) → Option W
weight_by accepting None = None
weight_by accepting (Some a) = cond (accepting a.state) (Some a.weight) None
