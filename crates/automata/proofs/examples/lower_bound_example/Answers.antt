use Rattle.std.proofs.Common.{refl}
use Rattle.automata.specs.Examples.{residue, chain}
use Rattle.automata.proofs.Chains.{chain_reduced}
use Rattle.automata.proofs.examples.lower_bound_example.Goals as goal

pub returns : goal.returns
returns c = record {
  states = refl;
  minimal = c.lower_bound_stands.ensures (chain (residue 4 tt tt) (residue 8 tt tt)) (chain_reduced (residue 4 tt tt) (residue 8 tt tt));
}
