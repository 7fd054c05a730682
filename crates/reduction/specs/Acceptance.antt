-- Which classes accept.
use Rattle.std.specs.Prelude.{ℕ, Bool, ◌&&◌, ◌==◌}
use Rattle.automata.specs.Merging.{some_below}
use Rattle.rules.specs.declared.shape.Shape.{Shape}
use Rattle.rules.specs.Shapes.{states_in, accepts_in}
use Rattle.reduction.specs.declared.classes.Classes.{Classes}
use Rattle.reduction.specs.Classes.{member_in, class_in}

-- the state q is of the class and accepts
abbrev pub accepts_as : Shape → Classes → ℕ → ℕ → Bool
accepts_as s c class q = member_in c q && (class_in c q == class && accepts_in s q)

-- a state of the class accepts
abbrev pub class_accepts : Shape → Classes → ℕ → Bool
class_accepts s c class = some_below (states_in s) (accepts_as s c class)
