-- Chains: their states are live and not equivalent, and two chains whose weights have one product are explored alike.
use Rattle.std.proofs.Common.{◌≡◌, ℕ, zero, suc, ◌<◌, true, eqb, ltb, ◌⊎◌, List, [], ◌∷◌, Some, sym, refl, ap, ◌∙◌, subst, inl, inr, arith}
use Rattle.std.proofs.lemmas.Bool.{true≢false, false≢true, eqb-true, and_parts}
use Rattle.kinds.specs.declared.residue.Residue.{Residue}
use Rattle.kinds.specs.Residues.{residues, residue_path}
use Rattle.automata.specs.Trees.{Over}
use Rattle.automata.specs.Automata.{Transition, Automaton, find}
use Rattle.automata.specs.Contexts.{hole, Live}
use Rattle.automata.specs.Minimality.{Reduced}
use Rattle.automata.specs.Comparing.{Paired, Answered, Explored}
use Rattle.automata.specs.Examples.{residue, constant, above, above_context, leaf, edge, chain, ratio, side_by_side}
use Rattle.automata.proofs.Finds.{find_symbol, find_children, find_all}
use Rattle.automata.proofs.Equivalents.{alike_accepting}
use Rattle.automata.proofs.FourStates.{low_pairs}

pub chain_over : Over (0 ∷ 1 ∷ []) (above 1 (constant 0))
chain_over = (omega arith, refl, ((omega arith, refl, tt), tt))

module _ (v w : Residue) where
  pub chain_live : (q : ℕ) → q < 2 → Live residues (chain v w) q
  chain_live zero l = record {
    reachable = record { tree = constant 0; over = (omega arith, refl, tt); weight = _; runs_to = refl };
    sign = record { context = above_context 1 hole; over = (omega arith, refl, tt, tt, tt); weight = _; gives = refl };
  }
  chain_live (suc zero) l = record {
    reachable = record { tree = above 1 (constant 0); over = chain_over; weight = _; runs_to = refl };
    sign = record { context = hole; over = tt; weight = _; gives = refl };
  }
  chain_live (suc (suc q)) l = absurd (omega arith)

  -- only the state 1 accepts
  pub chain_reduced : Reduced residues (chain v w)
  chain_reduced = record { live = chain_live; apart = λ p q l m a e. apart p q l m (alike_accepting residues (chain v w) a p q e) }
    where
      apart : (p q : ℕ) → p < 2 → q < 2 → eqb p 1 ≡ eqb q 1 → p ≡ q
      apart = low_pairs (λ p q. eqb p 1 ≡ eqb q 1 → p ≡ q) (λ e. refl) (λ e. absurd (false≢true e)) (λ e. absurd (true≢false e)) (λ e. refl)

  -- the left side and the rule are those of the constant, or those of the unary symbol
  abbrev Either : ℕ → List ℕ → Transition Residue → Type 0
  Either s qs r = ((s ≡ 0) × (qs ≡ []) × (r ≡ leaf 0 0 v)) ⊎ ((s ≡ 1) × (qs ≡ 0 ∷ []) × (r ≡ edge 1 0 1 w))

  chain_rule : (s : ℕ) (qs : List ℕ) (r : Transition Residue) → find (chain v w).rules s qs ≡ Some r → Either s qs r
  chain_rule s qs r e = at (find_all One (chain v w).rules s qs r (inl refl, (inr refl, tt)) e)
    where
      One : Transition Residue → Type 0
      One x = (x ≡ leaf 0 0 v) ⊎ (x ≡ edge 1 0 1 w)

      at : One r → Either s qs r
      at (inl i) = inl (sym (find_symbol (chain v w).rules s qs r e) ∙ ap (λ x. x.symbol) i, sym (find_children (chain v w).rules s qs r e) ∙ ap (λ x. x.children) i, i)
      at (inr i) = inr (sym (find_symbol (chain v w).rules s qs r e) ∙ ap (λ x. x.symbol) i, sym (find_children (chain v w).rules s qs r e) ∙ ap (λ x. x.children) i, i)

found_same : (p q : ℕ) → side_by_side.found p q ≡ true → p ≡ q
found_same p q e = eqb-true p q (and_parts (eqb p q) (ltb p 2) e).0

paired_same : (ps qs : List ℕ) → Paired side_by_side ps qs → qs ≡ ps
paired_same [] [] h = refl
paired_same [] (q ∷ qs) h = absurd h
paired_same (p ∷ ps) [] h = absurd h
paired_same (p ∷ ps) (q ∷ qs) h = let e = found_same p q h.0 in let k = paired_same ps qs h.1 in cc

abbrev first : Automaton Residue
first = chain (residue 4 tt tt) (residue 8 tt tt)

abbrev second : Automaton Residue
second = chain (residue 2 tt tt) (residue 16 tt tt)

-- 4 is 2 times 2, and so 2 times 8 is 16
pub chains_explored : Explored residues first second side_by_side
chains_explored = record {
  forth = λ s ps qs r h e l. subst (λ x. Answered residues second side_by_side s ps x r) (sym (paired_same ps qs h)) (forth s ps r (chain_rule (residue 4 tt tt) (residue 8 tt tt) s ps r e));
  back = λ s ps qs r h e l. back s ps (chain_rule (residue 2 tt tt) (residue 16 tt tt) s ps r (rw (← paired_same ps qs h) e));
  agree = λ p q e. ap (λ x. eqb x 1) (found_same p q e);
  agree_one = λ p q e a. ap (λ x. ratio x q) (eqb-true p 1 a);
}
  where
    forth : (s : ℕ) (ps : List ℕ) (r : Transition Residue) → Either (residue 4 tt tt) (residue 8 tt tt) s ps r → Answered residues second side_by_side s ps ps r
    forth s ps r (inl e) = rw (e.0, e.1, e.2) (record { other = leaf 0 0 (residue 2 tt tt); there = refl; live_target = chain_live (residue 2 tt tt) (residue 16 tt tt) 0 (omega arith); target_found = refl; recorded = residue_path _ _ refl })
    forth s ps r (inr e) = rw (e.0, e.1, e.2) (record { other = edge 1 0 1 (residue 16 tt tt); there = refl; live_target = chain_live (residue 2 tt tt) (residue 16 tt tt) 1 (omega arith); target_found = refl; recorded = residue_path _ _ refl })

    back : (s : ℕ) (ps : List ℕ) {r : Transition Residue} → Either (residue 2 tt tt) (residue 16 tt tt) s ps r → (o : Transition Residue) × (find first.rules s ps ≡ Some o) × Live residues first o.target
    back s ps (inl e) = rw (e.0, e.1) (leaf 0 0 (residue 4 tt tt), refl, chain_live (residue 4 tt tt) (residue 8 tt tt) 0 (omega arith))
    back s ps (inr e) = rw (e.0, e.1) (edge 1 0 1 (residue 8 tt tt), refl, chain_live (residue 4 tt tt) (residue 8 tt tt) 1 (omega arith))
