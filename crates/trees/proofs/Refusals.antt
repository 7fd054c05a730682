-- Which refusal comes first, and what rules one out: ranks within their bounds, and a tree list.
use Rattle.std.proofs.Common.{◌≡◌, ℕ, ◌<◌, Bool, true, false, cond, ◌⊎◌, List, [], ◌∷◌, length, Some, None, sym, refl, ap, ◌∙◌, inl, inr, arith}
use Rattle.std.proofs.lemmas.Bool.{both_ways}
use Rattle.trees.specs.declared.node.Node.{Node}
use Rattle.trees.specs.declared.refusal.Refusal.{Refusal}
use Rattle.trees.specs.Refusals.{Check, when, checks, first_met, FirstMet, NoneMet}
use Rattle.trees.specs.Lists.{IsTreeList, bad_list}

unmet : (b : Bool) (x : Refusal) → b ≡ false → (e : Refusal) → when (b ≡ true) x e → ⊥
unmet b x f e m = both_ways b f m.0

pub refused_first : (cs : List Check) (e : Refusal) → first_met cs ≡ Some e → FirstMet (checks cs) e
refused_first [] e h = cc
refused_first (c ∷ cs) e h = at c.met refl h (refused_first cs e)
  where
    at : (b : Bool) → c.met ≡ b → cond b (Some c.refusal) (first_met cs) ≡ Some e → (first_met cs ≡ Some e → FirstMet (checks cs) e) → FirstMet (checks (c ∷ cs)) e
    at true m k ih = inl (m, cc)
    at false m k ih = inr (unmet c.met c.refusal m, ih k)

pub refused_none : (cs : List Check) → first_met cs ≡ None → NoneMet (checks cs)
refused_none [] h = tt
refused_none (c ∷ cs) h = at c.met refl h (refused_none cs)
  where
    at : (b : Bool) → c.met ≡ b → cond b (Some c.refusal) (first_met cs) ≡ None → (first_met cs ≡ None → NoneMet (checks cs)) → NoneMet (checks (c ∷ cs))
    at true m k ih = cc
    at false m k ih = (unmet c.met c.refusal m, ih k)

pub list_fine : (ranks : List ℕ) (ns : List Node) → IsTreeList ranks ns → (e : Refusal) → bad_list ranks ns e → ⊥
list_fine ranks ns is e (inl (wrong)) = go wrong.0
  where
    go : (length ns ≡ 0) ⊎ (8192 < length ns) → ⊥
    go (inl none) = omega (arith, is.some)
    go (inr many) = omega (arith, is.few)
list_fine ranks ns is e (inr first) = first.2.bad (is.good first.0 first.2.within)

-- and back: which refusal the checks give, from which tests are met
pub none_met : (cs : List Check) → NoneMet (checks cs) → first_met cs ≡ None
none_met [] n = refl
none_met (c ∷ cs) n = at c.met refl (none_met cs n.1)
  where
    at : (b : Bool) → c.met ≡ b → first_met cs ≡ None → cond c.met (Some c.refusal) (first_met cs) ≡ None
    at true m ih = absurd (n.0 c.refusal (m, refl))
    at false m ih = ap (λ b. cond b (Some c.refusal) (first_met cs)) m ∙ ih

pub first_is_met : (cs : List Check) (e : Refusal) → FirstMet (checks cs) e → first_met cs ≡ Some e
first_is_met [] e m = absurd m
first_is_met (c ∷ cs) e (inl here) =
    ap (λ b. cond b (Some c.refusal) (first_met cs)) here.0 ∙ ap Some (sym here.1)
first_is_met (c ∷ cs) e (inr there) = at c.met refl (first_is_met cs e there.1)
  where
    at : (b : Bool) → c.met ≡ b → first_met cs ≡ Some e → cond c.met (Some c.refusal) (first_met cs) ≡ Some e
    at true m ih = absurd (there.0 c.refusal (m, refl))
    at false m ih = ap (λ b. cond b (Some c.refusal) (first_met cs)) m ∙ ih
