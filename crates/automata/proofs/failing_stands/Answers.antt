use Rattle.automata.proofs.Witnesses.{failing}
use Rattle.automata.proofs.failing_stands.Goals as goal

pub returns : goal.returns
returns g c = failing g.W.Kind.weights
