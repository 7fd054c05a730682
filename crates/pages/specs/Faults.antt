-- The line, the layer and the number of each fault of a page.
use Rattle.std.specs.Prelude.{ℕ, List, [], ◌∷◌}
use Rattle.kinds.specs.Reading as kind
use Rattle.trees.specs.Refusals as table
use Rattle.pages.specs.declared.fault.Fault.{Fault}
use Rattle.pages.specs.declared.fault.Fault.TheVariants.{Layout, Kind, Table}

abbrev pub fault_numbers : Fault → List ℕ
fault_numbers (Layout line) = line ∷ 1 ∷ 13 ∷ []
fault_numbers (Kind line refusal) = line ∷ 3 ∷ kind.refusal_number refusal ∷ []
fault_numbers (Table line refusal) = line ∷ 2 ∷ table.refusal_number refusal ∷ []
