use Rattle.std.proofs.Common.{◌≤◌, Some, sym, refl, ap, ◌∙◌, arith}
use Rattle.kinds.specs.Residues.{residues, residue_path}
use Rattle.automata.specs.Runs.{Alike}
use Rattle.automata.specs.Merging.{merged, Admissible}
use Rattle.automata.specs.Examples.{constant, above, four, grouping}
use Rattle.automata.proofs.FourStates.{four_sound, four_over}
use Rattle.automata.proofs.FourGroups.{four_quotients, four_grouped}
use Rattle.automata.proofs.examples.reducing_example.Goals as goal

pub returns : goal.returns
returns c =
    let r = c.reducing_stands.ensures four grouping four_sound four_grouped in
    let h : Admissible residues four grouping = r.admissible four_quotients in
    let alike : Alike residues four (merged residues grouping four) = r.alike h in
    record {
      states = refl;
      rules = refl;
      alike = alike;
      minimal = r.minimal h;
      before = λ least. let l : 4 ≤ 2 = least (merged residues grouping four) (c.merging_stands.ensures four grouping four_sound h).sound alike in omega arith;
      weighs = sym (alike.weights (above 2 (constant 1)) (four_over 1 (omega arith))) ∙ ap Some (residue_path _ _ refl);
    }
