use Rattle.std.proofs.Common.{Some, None, ap, ◌∙◌, arith}
use Rattle.std.specs.Option.{option_map}
use Rattle.rules.specs.Running.{at_of, run_at}
use Rattle.rules.proofs.Rows.{run_is, node_lacks, node_runs}
use Rattle.rules.proofs.running.run_node.Goals as goal

pub returns-in_err-states : goal.returns-in_err-states
returns-in_err-states g c =
    ap (option_map (at_of g.W.Kind.stands)) c.from_residual.ensures
    ∙ node_lacks g.W.Kind.weights g.W.Kind.stands c.args.table.now.shape.now c.args.table.now.rules.now c.args.node.now.symbol (run_at g.W.Kind.stands c.args.side c.args.work.now) c.args.node.now.children c.args.node.now.children c.rank-rank.result (omega (arith, c.rank-rank.ensures.value)) (omega arith) c.in_err-states.ensures

pub returns-in_err-rule : goal.returns-in_err-rule
returns-in_err-rule g c =
    ap (option_map (at_of g.W.Kind.stands)) c.from_residual-in_err-rule.ensures
    ∙ node_runs g.W.Kind.weights g.W.Kind.stands c.args.table.now.shape.now c.args.table.now.rules.now c.args.node.now.symbol (run_at g.W.Kind.stands c.args.side c.args.work.now) c.args.node.now.children c.in_ok-states.states c.rank-rank.result (omega (arith, c.rank-rank.ensures.value)) (omega arith) c.in_ok-states.weight None (omega arith) c.in_ok-states.ensures c.in_err-rule.ensures

pub returns : goal.returns
returns g c =
    run_is c.run_by.ensures.state c.run_by.ensures.weight
    ∙ node_runs g.W.Kind.weights g.W.Kind.stands c.args.table.now.shape.now c.args.table.now.rules.now c.args.node.now.symbol (run_at g.W.Kind.stands c.args.side c.args.work.now) c.args.node.now.children c.in_ok-states.states c.rank-rank.result (omega (arith, c.rank-rank.ensures.value)) (omega arith) c.in_ok-states.weight (Some c.in_ok-rule.rule) (omega arith) c.in_ok-states.ensures c.in_ok-rule.ensures
