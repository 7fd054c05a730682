use Rattle.std.proofs.Common.{◌+◌, ap, length, add-one, arith}
use Rattle.layout.proofs.lines.read_line.Goals as goal

pub rule_line-requires : goal.rule_line-requires
rule_line-requires c = λ k less is. c.requires (k + 1) (omega (arith, ap length c.in_ok-letter.ensures.cases.0)) (rw (c.in_ok-letter.ensures.cases.0, add-one) is)
