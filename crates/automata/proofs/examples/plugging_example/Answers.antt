use Rattle.std.proofs.Common.{Some, refl, ap, ◌∙◌}
use Rattle.kinds.specs.Residues.{residue_path}
use Rattle.automata.specs.Contexts.{hole}
use Rattle.automata.specs.Examples.{constant, above_context, four}
use Rattle.automata.proofs.examples.plugging_example.Goals as goal

pub returns : goal.returns
returns c = record {
  runs = ap (λ w. Some (record { state = 0; weight = w })) (residue_path _ _ refl);
  gives = ap Some (residue_path _ _ refl);
  weighs = c.plugging_stands.ensures four (above_context 2 hole) (constant 0) ∙ ap Some (residue_path _ _ refl);
}
