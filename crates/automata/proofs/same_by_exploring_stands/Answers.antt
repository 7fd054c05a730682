use Rattle.automata.proofs.Explores.{same_by_exploring}
use Rattle.automata.proofs.same_by_exploring_stands.Goals as goal

pub returns : goal.returns
returns g c = same_by_exploring g.W.Kind.weights
