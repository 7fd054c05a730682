use Rattle.automata.proofs.Reduces.{reducing}
use Rattle.automata.proofs.reducing_stands.Goals as goal

pub returns : goal.returns
returns g c = reducing g.W.Kind.weights
