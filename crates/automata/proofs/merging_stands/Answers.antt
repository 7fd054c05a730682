use Rattle.automata.proofs.Merges.{merging}
use Rattle.automata.proofs.merging_stands.Goals as goal

pub returns : goal.returns
returns g c = merging g.W.Kind.weights
