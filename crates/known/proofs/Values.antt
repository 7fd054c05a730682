-- The cases that compute.
use Rattle.std.proofs.Common.{◌≡◌, [], ◌∷◌, pos, negsuc, ◌+ℤ◌, Some, None, Option, refl, ap, ◌∙◌, arith}
use Rattle.std.proofs.lemmas.Int.{ints}
use Rattle.kinds.specs.declared.residue.Residue.{Residue}
use Rattle.kinds.specs.Residues.{residues, residue_path}
use Rattle.kinds.specs.CostSums.{into_range, opposite}
use Rattle.kinds.specs.Costs.{cost, cost_code}
use Rattle.automata.specs.Trees.{Tree, node}
use Rattle.automata.specs.Runs.{At, Ats, step, run, runs, accepted}
use Rattle.automata.specs.Examples.{residue, chain, side_by_side, silent}
use Rattle.automata.proofs.Chains.{chains_explored}
use Rattle.automata.proofs.Explores.{same_by_exploring}
use Rattle.known.specs.Cases.{Holds, inverse_of_two, cost_beyond, least_cost, weighing, pushing, pushing_twice, alike_by_factor, nothing_accepted, first_chain, second_chain, stateless, fork}

pub two_inverse : Holds inverse_of_two
two_inverse = residue_path _ _ refl

pub beyond : Holds cost_beyond
beyond =
    ap (λ z. cost (into_range (z +ℤ (cost (pos 1)).code))) (cost_code (pos 2_147_483_647) (omega (arith, ints)))
    ∙ ap (λ z. cost (into_range (pos 2_147_483_647 +ℤ z))) (cost_code (pos 1) (omega (arith, ints)))

pub least : Holds least_cost
least = ap (λ z. cost (opposite z)) (cost_code (negsuc 2_147_483_647) (omega (arith, ints)))

pub weighs : Holds weighing
weighs = (ap Some (residue_path _ _ refl), ap (λ w. Some (record { state = 0; weight = w })) (residue_path _ _ refl), refl)

pub pushes : Holds pushing
pushes =
    let two : Residue = residue 2 tt tt in
    let low : residues.times (residues.times (residue 4 tt tt) two) residues.one ≡ residue 8 tt tt = residue_path _ _ refl in
    let high : residues.times (residues.times (residue 8 tt tt) residues.one) (residues.times (residues.inverse two) residues.one) ≡ residue 4 tt tt = residue_path _ _ refl in
    λ i. chain (low i) (high i)

pub pushes_twice : Holds pushing_twice
pushes_twice = ap (λ w. fork w ∷ []) (residue_path _ _ refl)

pub by_factor : Holds alike_by_factor
by_factor = same_by_exploring residues first_chain second_chain side_by_side refl chains_explored

-- without rules no tree has a run
no_run : (t : Tree) → run residues stateless t ≡ None
no_run (node s ts) = at (runs residues stateless ts)
  where
    at : (o : Option (Ats Residue)) → step residues stateless s o ≡ None
    at None = refl
    at (Some b) = refl

silent_none : (o : Option (At Residue)) → None ≡ accepted silent o
silent_none None = refl
silent_none (Some a) = refl

pub nothing : Holds nothing_accepted
nothing = record { alphabet = refl; weights = λ t o. ap (accepted stateless) (no_run t) ∙ silent_none (run residues silent t) }
