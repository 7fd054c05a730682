use Rattle.automata.proofs.Marks.{first_round}
use Rattle.automata.proofs.first_round_stands.Goals as goal

pub returns : goal.returns
returns g c = first_round g.W.Kind.weights
