use Rattle.std.proofs.Common.{ℕ, arith}
use Rattle.trees.proofs.Ranks.{getD_constant}
use Rattle.trees.proofs.alphabet.Alphabet.fresh.Goals as goal

pub invariant_of-result-clause-small : goal.invariant_of-result-clause-small
invariant_of-result-clause-small c = λ k. omega (arith, getD_constant {X = ℕ} 32 k 0)
