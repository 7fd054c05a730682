use Rattle.std.proofs.Common.{[], refl, subst, arith}
use Rattle.kinds.specs.Residues.{residues, residue_path}
use Rattle.automata.specs.Contexts.{Equivalent}
use Rattle.automata.specs.Examples.{residue, edge, four}
use Rattle.automata.proofs.FourStates.{four_sound, zero_one, low_live}
use Rattle.automata.proofs.examples.equivalence_example.Goals as goal

pub returns : goal.returns
returns c =
    let e = c.equivalence_stands.ensures four four_sound in
    let two = residue 2 tt tt in
    record {
      twice = zero_one;
      back = subst (λ a. Equivalent residues four a 1 0) (residue_path _ _ refl) (e.symmetric two 0 1 zero_one);
      only = λ a h. e.unique a two 0 1 (low_live 1 (omega arith)) h zero_one;
      congruent = e.congruent 2 [] [] two 0 1 (edge 2 0 2 (residue 10 tt tt)) refl (low_live 0 (omega arith), tt) (low_live 2 (omega arith)) (low_live 1 (omega arith)) zero_one;
    }
