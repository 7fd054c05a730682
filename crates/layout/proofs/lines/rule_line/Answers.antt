use Rattle.layout.proofs.Decided.{fails}
use Rattle.layout.proofs.Entries.{rule_found, rule_none}
use Rattle.layout.proofs.lines.rule_line.Goals as goal
use Rattle.layout.proofs.lines.rule_line.Goals.{else-are_few-via-then-are_few+else-are_numbers, else-are_few-via-else-are_few}

pub returns-in_err-symbol-2 : goal.returns-in_err-symbol-2
returns-in_err-symbol-2 c =
    rw c.from_residual-in_err-symbol-2.ensures
    (rule_none _ _ _ _ _ _ _ c.in_ok-symbol.ensures c.in_ok-target.ensures c.in_ok-weight.ensures.cases
    (λ s t qs short_s short_t all few symbol target others. c.in_err-symbol-2.ensures s short_s symbol))

pub returns-in_err-target-2 : goal.returns-in_err-target-2
returns-in_err-target-2 c =
    rw c.from_residual-in_err-target-2.ensures
    (rule_none _ _ _ _ _ _ _ c.in_ok-symbol.ensures c.in_ok-target.ensures c.in_ok-weight.ensures.cases
    (λ s t qs short_s short_t all few symbol target others. c.in_err-target-2.ensures t short_t target))

pub returns-then-are_numbers : goal.returns-then-are_numbers
returns-then-are_numbers c =
    rule_found _ _ _ _ _ c.in_ok-symbol-2.symbol c.in_ok-target-2.target c.in_ok-weight.weight c.in_ok-weight.children
    c.in_ok-symbol.ensures c.in_ok-target.ensures c.in_ok-weight.ensures.cases
    c.requires c.in_ok-symbol-2.ensures c.in_ok-target-2.ensures (c.are_few.ensures.0 c.if-are_few.true) (c.are_numbers.ensures.0 c.if-are_numbers.true)

pub returns-else-are_few : goal.returns-else-are_few
returns-else-are_few c =
    rule_none _ _ _ _ _ _ _ c.in_ok-symbol.ensures c.in_ok-target.ensures c.in_ok-weight.ensures.cases
    (λ s t qs short_s short_t all few symbol target others. elim c.else-are_few.branch [
      | else-are_few-via-then-are_few+else-are_numbers w ↦ fails w.are_numbers.result w.are_numbers.ensures w.if-are_numbers.false (qs, all, others)
      | else-are_few-via-else-are_few w ↦ fails c.are_few.result c.are_few.ensures w.if-are_few.false few
    ])
