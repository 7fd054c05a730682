use Rattle.std.proofs.Common.{Some, sym, refl, ap, ◌∙◌, arith}
use Rattle.kinds.specs.Residues.{residues, residue_path}
use Rattle.automata.specs.Runs.{Alike}
use Rattle.automata.specs.Merging.{dropped}
use Rattle.automata.specs.Examples.{constant, above, four, member}
use Rattle.automata.proofs.FourStates.{four_sound, four_over, member_live}
use Rattle.automata.proofs.examples.trimming_example.Goals as goal

pub returns : goal.returns
returns c =
    let alike : Alike residues four (dropped member four) = c.trimming_stands.ensures four member four_sound member_live in
    record {
      before = refl;
      after = refl;
      alike = alike;
      weighs = sym (alike.weights (above 2 (constant 0)) (four_over 0 (omega arith))) ∙ ap Some (residue_path _ _ refl);
    }
