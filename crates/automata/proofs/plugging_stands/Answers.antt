use Rattle.automata.proofs.Plugs.{plugging}
use Rattle.automata.proofs.plugging_stands.Goals as goal

pub returns : goal.returns
returns g c = plugging g.W.Kind.weights
