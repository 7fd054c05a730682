use Rattle.std.proofs.Common.{◌≡◌, ℕ, Some, refl, ap, arith}
use Rattle.std.proofs.lemmas.Bool.{true≢false}
use Rattle.kinds.specs.declared.residue.Residue.{Residue}
use Rattle.kinds.specs.Residues.{residues, residue_path}
use Rattle.automata.specs.Trees.{none, ◌▹◌}
use Rattle.automata.specs.Contexts.{hole}
use Rattle.automata.specs.Comparing.{Witness}
use Rattle.automata.specs.Examples.{residue, constant, above, edge, chain, cut, silent, constants}
use Rattle.automata.proofs.Chains.{chain_over}
use Rattle.automata.proofs.examples.failing_example.Goals as goal

-- weights with two codes
apart : (v w : Residue) → (v.code ≡ w.code → ⊥) → v ≡ w → ⊥
apart v w n e = n (ap (λ x. x.code) e)

pub returns : goal.returns
returns c =
    let failing = c.failing_stands.ensures in
    let first = chain (residue 4 tt tt) (residue 8 tt tt) in
    let other = chain (residue 2 tt tt) (residue 15 tt tt) in
    let t = above 1 (constant 0) in
    let unequal : Witness residues first other t = (failing first other refl).unequal t _ _ chain_over refl refl refl refl (apart _ _ (λ e. omega arith)) in
    record {
      first = ap Some (residue_path _ _ refl);
      second = ap Some (residue_path _ _ refl);
      unequal = unequal;
      apart = λ same. unequal.differs (same.weights t unequal.over);
      lone = (failing first cut refl).lone 1 (constant 0 ▹ none) _ _ (edge 1 0 1 (residue 8 tt tt)) (record { context = hole; over = tt; weight = _; gives = refl }) (omega arith) refl ((omega arith, refl, tt), tt) refl refl refl (λ o e l. let z : ◌≡◌ {A = ℕ} 0 1 = cc in omega arith);
      unlike = (failing first silent refl).unlike t _ _ chain_over refl refl true≢false;
      uneven = (failing (constants (residue 3 tt tt) (residue 6 tt tt)) (constants (residue 3 tt tt) (residue 7 tt tt)) refl).uneven (constant 0) (constant 1) 0 0 _ _ _ _ (record { context = hole; over = tt; weight = _; gives = refl }) (omega arith, refl, tt) (omega arith, refl, tt) refl refl refl refl (apart _ _ (λ e. omega arith));
    }
