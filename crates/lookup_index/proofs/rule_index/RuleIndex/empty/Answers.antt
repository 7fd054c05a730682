use Rattle.trees.proofs.Ranks.{getD_constant}
use Rattle.lookup_index.proofs.rule_index.RuleIndex.empty.Goals as goal

pub returns : goal.returns
returns c h = getD_constant 1024 h 0
