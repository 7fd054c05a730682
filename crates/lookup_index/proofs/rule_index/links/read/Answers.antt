use Rattle.std.proofs.Common.{sym, arith}
use Rattle.std.proofs.lemmas.List.{get_or_past}
use Rattle.lookup_index.proofs.rule_index.links.read.Goals as goal

pub returns-else-place-lt1024 : goal.returns-else-place-lt1024
returns-else-place-lt1024 c = sym (get_or_past c.args.links.now c.args.place 0 (omega arith))
