use Rattle.automata.proofs.Bounds.{lower_bound}
use Rattle.automata.proofs.lower_bound_stands.Goals as goal

pub returns : goal.returns
returns g c = lower_bound g.W.Kind.weights
