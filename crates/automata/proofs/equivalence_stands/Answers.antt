use Rattle.automata.proofs.Equivalents.{equivalences}
use Rattle.automata.proofs.equivalence_stands.Goals as goal

pub returns : goal.returns
returns g c = equivalences g.W.Kind.weights
