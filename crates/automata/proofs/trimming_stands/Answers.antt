use Rattle.automata.proofs.Trims.{trimming}
use Rattle.automata.proofs.trimming_stands.Goals as goal

pub returns : goal.returns
returns g c = trimming g.W.Kind.weights
