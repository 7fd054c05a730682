use Rattle.tables.proofs.Continuing.{pushed_on}
use Rattle.tables.proofs.closed.Closed.push.Goals as goal

pub returns : goal.returns
returns g c = record {
  answer = c.push_rules.ensures;
  unmoved = pushed_on g.W.Kind.weights g.W.Kind.stands c.args.self.now c.push_rules.new.self c.args.state (g.W.Kind.stands c.args.factor) c.push_rules.result c.push_rules.ensures;
}
