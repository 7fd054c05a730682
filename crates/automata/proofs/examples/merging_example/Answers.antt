use Rattle.std.proofs.Common.{Some, sym, refl, ap, ◌∙◌, arith}
use Rattle.std.proofs.lemmas.Bool.{lt-ltb}
use Rattle.kinds.specs.Residues.{residues, residue_path}
use Rattle.automata.specs.Runs.{Alike}
use Rattle.automata.specs.Merging.{merged}
use Rattle.automata.specs.Examples.{constant, above, four, whole_grouping}
use Rattle.automata.proofs.FourStates.{four_sound, four_over}
use Rattle.automata.proofs.FourGroups.{whole_admissible}
use Rattle.automata.proofs.examples.merging_example.Goals as goal

pub returns : goal.returns
returns c =
    let m = c.merging_stands.ensures four whole_grouping four_sound whole_admissible in
    let alike : Alike residues four (merged residues whole_grouping four) = m.alike_whole (λ q. lt-ltb q 4) in
    record {
      states = refl;
      rules = refl;
      sound = m.sound;
      alike = alike;
      weighs = sym (alike.weights (above 2 (constant 1)) (four_over 1 (omega arith))) ∙ ap Some (residue_path _ _ refl);
    }
