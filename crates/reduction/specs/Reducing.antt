-- What a reduction on plain slices leaves.
use Rattle.std.specs.Prelude.{◌≡◌, List, take}
use Rattle.kinds.specs.Weights.{Weights}
use Rattle.automata.specs.Automata.{Automaton}
use Rattle.automata.specs.Merging.{Grouping, merged}
use Rattle.rules.specs.declared.rule.Rule.{Rule}
use Rattle.rules.specs.Shapes.{states_in, automaton}
use Rattle.reduction.specs.declared.reduced.Reduced.{Reduced}
use Rattle.reduction.specs.Partitions.{Partition}

-- the new shape and the first rules of the memory are the merge of A by its classes of equivalent live states
pub record ReducedTo {V W : Type 0} (stands : V → W) (K : Weights W) (A : Automaton W) (x : Reduced) (memory : List (Rule V)) : Type 0 where
  pub grouping : Grouping W
  pub partition : Partition K A grouping
  pub states : states_in x.shape ≡ grouping.count
  pub content : automaton stands x.shape (take x.count memory) ≡ merged K grouping A
