use Rattle.pages.proofs.Once.{read_once}
use Rattle.pages.proofs.laws.reading_is_unique.Goals as goal

pub returns : goal.returns
returns g c = read_once g.W.Kind.weights
