use Rattle.std.proofs.Common.{refl}
use Rattle.std.proofs.lemmas.Bool.{false≢true}
use Rattle.automata.specs.Marking.{acceptance}
use Rattle.automata.specs.Examples.{four, member, marks}
use Rattle.automata.proofs.FourStates.{four_sound, member_live}
use Rattle.automata.proofs.FourMarks.{marks_symmetric, marks_signs, first_rest}
use Rattle.automata.proofs.examples.first_round_example.Goals as goal

pub returns : goal.returns
returns c =
    let f = c.first_round_stands.ensures four member marks four_sound member_live in
    record {
      same = f.complete marks_symmetric first_rest 0 1 refl refl refl;
      apart = f.truthful marks_signs 0 2 refl refl (acceptance false≢true);
    }
