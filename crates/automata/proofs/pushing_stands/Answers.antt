use Rattle.automata.proofs.Pushes.{pushing}
use Rattle.automata.proofs.pushing_stands.Goals as goal

pub returns : goal.returns
returns g c = pushing g.W.Kind.weights
