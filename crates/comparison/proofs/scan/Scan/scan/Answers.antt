use Rattle.std.proofs.Common.{◌≡◌, ℕ, take, ap, ◌∙◌, subst}
use Rattle.automata.specs.Trees.{rank}
use Rattle.rules.specs.Shapes.{ranks_in}
use Rattle.comparison.specs.Scanning.{entry_of, Rested}
use Rattle.comparison.proofs.scan.Scan.scan.Goals as goal

pub returns-then-is_rested-clause-clear : goal.returns-then-is_rested-clause-clear
returns-then-is_rested-clause-clear g c e =
    let ranks = ranks_in c.args.self.now.live.tables.first.shape.now in
    let cut : c.rank.result ≡ rank ranks c.args.rule.now.left.symbol = c.rank.ensures.value ∙ ap (rank ranks) c.from-symbol.ensures in
    let early = c.is_rested.ensures c.if-is_rested.true in
    c.requires.quiet early.0 early.1 (subst (λ (n : ℕ). Rested c.args.side (entry_of c.args.self.now) early.0 (take n c.args.rule.now.left.children)) cut early.2)
