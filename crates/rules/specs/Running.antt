-- The runs that a work list holds, and what a row of them comes to.
use Rattle.std.specs.Prelude.{ℕ, List, [], ◌∷◌, take, Some, None, Option}
use Rattle.std.specs.Option.{option_map}
use Rattle.std.specs.List.{slice_get}
use Rattle.kinds.specs.Weights.{Weights}
use Rattle.automata.specs.Runs.{At, Ats, beside}
use Rattle.rules.specs.declared.run.Run.{Run}
use Rattle.rules.specs.declared.side.Side.{Side}
use Rattle.rules.specs.declared.side.Side.TheVariants.{First, Second}
use Rattle.rules.specs.declared.place.Place.{Place}

-- what a run stands for
abbrev pub at_of : {V W : Type 0} → (V → W) → Run V → At W
at_of stands r = record { state = r.state; weight = stands r.weight }

-- the run that a place holds for one side
abbrev pub side_run : {V : Type 0} → Side → Place V → Option (Run V)
side_run First p = p.first
side_run Second p = p.second

abbrev pub place_run : {V W : Type 0} → (V → W) → Side → Option (Place V) → Option (At W)
place_run stands side None = None
place_run stands side (Some p) = option_map (at_of stands) (side_run side p)

-- the run at the place i of a work list
abbrev pub run_at : {V W : Type 0} → (V → W) → Side → List (Place V) → ℕ → Option (At W)
run_at stands side work i = place_run stands side (slice_get work i)

-- the states of a row of runs, and the product of their weights
abbrev pub row_runs : {W : Type 0} → Weights W → List (Option (At W)) → Option (Ats W)
row_runs K [] = Some (record { states = []; weight = K.one })
row_runs K (o ∷ os) = beside K o (row_runs K os)

-- what the states in the first n places and the product of their weights stand for
abbrev pub ats_of : {V W : Type 0} → (V → W) → ℕ → List ℕ × V → Ats W
ats_of stands n r = record { states = take n r.0; weight = stands r.1 }
