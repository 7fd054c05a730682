use Rattle.std.proofs.Common.{Some, sym, refl, ap, ◌∙◌}
use Rattle.kinds.specs.Residues.{residues, residue_path}
use Rattle.automata.specs.Runs.{Alike}
use Rattle.automata.specs.Examples.{residue, constant, above, chain, side_by_side}
use Rattle.automata.proofs.Chains.{chain_over, chains_explored}
use Rattle.automata.proofs.examples.same_by_exploring_example.Goals as goal

pub returns : goal.returns
returns c =
    let first = chain (residue 4 tt tt) (residue 8 tt tt) in
    let second = chain (residue 2 tt tt) (residue 16 tt tt) in
    let same : Alike residues first second = c.same_by_exploring_stands.ensures first second side_by_side refl chains_explored in
    record {
      same = same;
      weighs = sym (same.weights (above 1 (constant 0)) chain_over) ∙ ap Some (residue_path _ _ refl);
    }
