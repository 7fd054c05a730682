-- The tests of a comparison.
use Rattle.std.proofs.Common.{◌≡◌, ℕ, ◌<◌, ◌≤◌, Bool, false, ◌⊎◌, Decides, refl, inl, inr, ⊎_elim, arith}
use Rattle.std.proofs.lemmas.Bool.Decides.{not_from_Decides}
use Rattle.std.proofs.lemmas.Bool.{cases_lt}
use Rattle.automata.specs.Automata.{Automaton}
use Rattle.trees.specs.declared.refusal.Refusal.TheVariants.{Short}
use Rattle.trees.specs.Refusals.{FirstMet, NoneMet}
use Rattle.comparison.specs.Witnesses.{places_needed}
use Rattle.comparison.specs.Comparing.{compare_tests}

-- neither list is too short
pub long_enough : (r : Bool) (list work needed : ℕ) → Decides r ((list < needed) ⊎ (work < needed)) → r ≡ false → (needed ≤ list) × (needed ≤ work)
long_enough r list work needed d e =
    let long = not_from_Decides r d e in
    (⊎_elim (λ l. absurd (long (inl l))) (λ l. l) (cases_lt list needed), ⊎_elim (λ l. absurd (long (inr l))) (λ l. l) (cases_lt work needed))

module _ {W : Type 0} (A B : Automaton W) (list work : ℕ) (same : A.ranks ≡ B.ranks) where
  pub too_short : (list < places_needed A B) ⊎ (work < places_needed A B) → FirstMet (compare_tests A B list work) Short
  too_short short = inr ((λ x h. h.0 same), inl (short, refl))

  pub none_met : places_needed A B ≤ list → places_needed A B ≤ work → NoneMet (compare_tests A B list work)
  none_met h l = ((λ x m. m.0 same), ((λ x m. ⊎_elim (λ s. omega arith) (λ s. omega arith) m.0), tt))
