use Rattle.std.proofs.Common.{get_or, arith, rules}
use Rattle.trees.proofs.Arrays.{get_or-from_fn}
use Rattle.trees.proofs.alphabet.padded.Goals as goal

pub returns : goal.returns
returns c =
    λ k h. get_or-from_fn _ (λ i. get_or c.args.ranks.now i 0) _ (λ i y q called. search rules) c.from_fn.result 0 32 k 0 c.from_fn.ensures.items.each (omega arith) (omega arith)
