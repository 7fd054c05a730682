use Rattle.automata.proofs.SecondMarks.{second_round}
use Rattle.automata.proofs.second_round_stands.Goals as goal

pub returns : goal.returns
returns g c = second_round g.W.Kind.weights
