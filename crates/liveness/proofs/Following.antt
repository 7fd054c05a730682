-- Following one rule of a table, read from its memory: it adds nothing, or the children that are new.
use Rattle.liveness.specs.Listings.{flags_of}
use Rattle.std.proofs.Common.{◌≡◌, ℕ, ◌+◌, ◌<◌, ◌≤◌, true, false, List, length, get_or, Some, sym, refl, ap, ◌∙◌, subst, arith}
use Rattle.std.specs.List.{slice_get}
use Rattle.std.proofs.lemmas.Bool.{both_ways}
use Rattle.automata.specs.Automata.{Transition, Automaton}
use Rattle.automata.specs.Merging.{all_in}
use Rattle.automata.proofs.Drops.{all_in_all, all_all_in}
use Rattle.rules.specs.declared.rule.Rule.{Rule}
use Rattle.rules.specs.declared.shape.Shape.{Shape}
use Rattle.rules.specs.Shapes.{ranks_in, states_in, children_in, transition, automaton}
use Rattle.liveness.specs.Listings.{Reach}
use Rattle.liveness.specs.Living.{Life}
use Rattle.liveness.specs.Living.{Noted, Living, Followed}
use Rattle.liveness.proofs.Founds.{Sized}
use Rattle.liveness.proofs.Onward.{Leading, followed_still, leading_more, leading_all}

-- the rule stands at the place j; its target was read as q
module _ {V W : Type 0} (stands : V → W) (shape : Shape) (rules : List (Rule V)) (R : Reach) (L : Life) (j : ℕ) (rule : Rule V) (there : slice_get (automaton stands shape rules).rules j ≡ Some (transition stands (ranks_in shape) rule)) where
  abbrev A : Automaton W
  A = automaton stands shape rules

  abbrev r : Transition W
  r = transition stands (ranks_in shape) rule

  pub target_off : Living A R L → (q : ℕ) → q ≡ rule.target → false ≡ get_or (flags_of L) q false → Followed A R j L L
  target_off g q e off =
      followed_still A R r L j g there (λ all on. absurd (both_ways (get_or (flags_of L) q false) (sym off) (ap (λ p. get_or (flags_of L) p false) e ∙ on)))

  pub children_off : Living A R L → false ≡ all_in (λ q. get_or (flags_of R) q false) (children_in shape rule.left) → Followed A R j L L
  children_off g off =
      followed_still A R r L j g there (λ all on. absurd (both_ways (all_in (λ q. get_or (flags_of R) q false) r.children) (sym off) (all_all_in (λ q. get_or (flags_of R) q false) r.children all)))

  pub leading_none : Sized L → Living A R L → (q : ℕ) → q ≡ rule.target → true ≡ get_or (flags_of L) q false → Leading A R r L L 0
  leading_none s g q e on = record {
    sized = s;
    living = g;
    longer = omega arith;
    target = ap (λ p. get_or (flags_of L) p false) (sym e) ∙ sym on;
    same = λ i. refl;
    noted = λ i k h. absurd (omega arith);
  }

  -- the child in the place k was read as q
  pub child_noted : states_in shape ≤ 48 → true ≡ all_in (λ q. get_or (flags_of R) q false) r.children → (L' L'' : Life) (n q k : ℕ) → n ≡ states_in shape → q ≡ get_or r.children k 0 → k < length r.children → Leading A R r L L' k → Noted n q (Some (record { rule = j; place = k })) L' L'' → Leading A R r L L'' (k + 1)
  child_noted few all L' L'' n q k states child low g noted =
      leading_more A R few r L L' L'' j k there (all_in_all (λ p. get_or (flags_of R) p false) r.children (sym all)) low g
      (subst (λ (p : ℕ). Noted (states_in shape) p (Some (record { rule = j; place = k })) L' L'') child (subst (λ (x : ℕ). Noted x q (Some (record { rule = j; place = k })) L' L'') states noted))

  pub children_noted : (L' : Life) (k : ℕ) → length r.children ≤ k → Leading A R r L L' k → Followed A R j L L'
  children_noted L' k high g = leading_all A R r L L' j k there high g
