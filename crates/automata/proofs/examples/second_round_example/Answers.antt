use Rattle.std.proofs.Common.{refl, subst}
use Rattle.std.proofs.lemmas.Bool.{false≢true}
use Rattle.kinds.specs.Residues.{residues, residue_path}
use Rattle.automata.specs.Contexts.{Equivalent}
use Rattle.automata.specs.Marking.{TrueMarks, acceptance, as_first}
use Rattle.automata.specs.Examples.{four, member, factor, marks}
use Rattle.automata.proofs.Marks.{signs_marks}
use Rattle.automata.proofs.FourStates.{four_sound, member_live}
use Rattle.automata.proofs.FourMarks.{marks_symmetric, marks_signs, second_rest, factors_chosen}
use Rattle.automata.proofs.FourGroups.{factor_one}
use Rattle.automata.proofs.examples.second_round_example.Goals as goal

pub returns : goal.returns
returns c =
    let true_marks : TrueMarks residues four marks = signs_marks residues four marks marks_signs in
    let s = c.second_round_stands.ensures four member marks factor marks four_sound member_live true_marks factors_chosen in
    record {
      same = subst (λ a. Equivalent residues four a 0 1) (residue_path _ _ refl) (s.complete marks_symmetric (λ q l. factor_one q) second_rest 0 1 refl refl refl);
      apart = s.truthful true_marks 0 2 refl refl (as_first (acceptance false≢true));
    }
