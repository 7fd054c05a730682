use Rattle.std.proofs.Common.{Some, sym, refl, ap, ◌∙◌, arith}
use Rattle.kinds.specs.Residues.{residues, residue_path}
use Rattle.automata.specs.Runs.{Alike}
use Rattle.automata.specs.Pushing.{pushed}
use Rattle.automata.specs.Examples.{constant, above, four, factor}
use Rattle.automata.proofs.FourStates.{four_over}
use Rattle.automata.proofs.FourGroups.{factor_one}
use Rattle.automata.proofs.examples.pushing_example.Goals as goal

pub returns : goal.returns
returns c =
    let p = c.pushing_stands.ensures four factor in
    let alike : Alike residues four (pushed residues factor four) = p.alike factor_one in
    record {
      gains = p.run_gains (constant 0) ∙ ap (λ w. Some (record { state = 0; weight = w })) (residue_path _ _ refl);
      alike = alike;
      weighs = sym (alike.weights (above 2 (constant 0)) (four_over 0 (omega arith))) ∙ ap Some (residue_path _ _ refl);
    }
