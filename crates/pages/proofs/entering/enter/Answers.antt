use Rattle.std.proofs.Common.{vec_items}
use Rattle.tables.specs.Images.{draft_holds}
use Rattle.pages.proofs.Said.{accept_line, rule_line}
use Rattle.pages.proofs.entering.enter.Goals as goal

pub returns-in-Accept : goal.returns-in-Accept
returns-in-Accept g c =
    accept_line g.W.Kind.weights (draft_holds g.W.Kind.stands c.args.draft.now) (draft_holds g.W.Kind.stands c.enter_accept.new.draft) c.args.line c.args.number c.enter_accept.result c.in-Accept.state c.in-Accept.is c.enter_accept.ensures

pub returns-in_ok-children-in-Rule : goal.returns-in_ok-children-in-Rule
returns-in_ok-children-in-Rule g c =
    rule_line g.W.Kind.weights (draft_holds g.W.Kind.stands c.args.draft.now) (draft_holds g.W.Kind.stands c.enter_rule.new.draft) c.args.line c.args.number c.enter_rule.result c.in-Rule.symbol c.in-Rule.target c.in-Rule.weight c.in-Rule.children (vec_items c.in_ok-children-in-Rule.children) c.deref.result.now c.in-Rule.is c.in_ok-children-in-Rule.ensures c.deref.ensures.value c.enter_rule.ensures
