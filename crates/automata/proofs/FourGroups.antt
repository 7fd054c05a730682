-- The automaton with four states: its groupings meet the premises of merging and reducing.
use Rattle.std.proofs.Common.{◌≡◌, ℕ, zero, suc, ◌<◌, true, false, cond, eqb, ◌⊎◌, List, [], ◌∷◌, ◌++◌, Some, sym, refl, ap, ◌∙◌, subst, inl, inr, arith}
use Rattle.std.proofs.lemmas.Bool.{ltb-true, lt-ltb, eqb-true, ne_eqb}
use Rattle.kinds.specs.declared.residue.Residue.{Residue}
use Rattle.kinds.specs.Residues.{residues, residue_path}
use Rattle.automata.specs.Automata.{Transition, find}
use Rattle.automata.specs.Contexts.{Equivalent}
use Rattle.automata.specs.Pushing.{reweighed}
use Rattle.automata.specs.Merging.{keeps, Counterpart, Admissible}
use Rattle.automata.specs.Minimality.{ByEquivalence, Quotients}
use Rattle.automata.specs.Examples.{residue, edge, four, class, factor, grouping, whole_grouping}
use Rattle.automata.proofs.Drops.{kept_target}
use Rattle.automata.proofs.Equivalents.{alike_accepting, equivalences}
use Rattle.automata.proofs.FourStates.{low_pairs, four_sound, the_rule, zero_one, member_live}

-- the states of one class are 0 and 1, or one state twice
same_class : (p q : ℕ) → class p ≡ class q → (p ≡ q) ⊎ ((p < 2) × (q < 2))
same_class zero zero e = inl refl
same_class zero (suc q) e = inr (omega arith, omega arith)
same_class (suc p) zero e = inr (omega arith, omega arith)
same_class (suc p) (suc q) e = inl (ap suc e)

low_accepting : (q : ℕ) → q < 2 → eqb q 2 ≡ false
low_accepting q l = ne_eqb q 2 (λ e. omega arith)

pub factor_one : (q : ℕ) → eqb q 2 ≡ true → factor q ≡ residues.one
factor_one q e = ap factor (eqb-true q 2 e)

-- the rules of two states are counterparts
counterparts : (p q : ℕ) (a b : Transition Residue) → find four.rules 2 (p ∷ []) ≡ Some a → find four.rules 2 (q ∷ []) ≡ Some b → a.target ≡ 2 → b.target ≡ 2 → (reweighed residues factor a).weight ≡ (reweighed residues factor b).weight
    → (s : ℕ) (before after : List ℕ) (r : Transition Residue) → find four.rules s (before ++ p ∷ after) ≡ Some r → Counterpart residues four whole_grouping r s (before ++ q ∷ after)
counterparts p q a b first second i j w s before after r e =
    let o = the_rule p q a b first second s before after r e in
    record {
      other = b;
      there = o.1;
      member_target = rw j;
      same_class = ap (λ x. class x.target) o.0 ∙ ap class (i ∙ sym j);
      same_weight = ap (λ x. (reweighed residues factor x).weight) o.0 ∙ w;
    }

swaps : (s : ℕ) (before after : List ℕ) (p q : ℕ) (r : Transition Residue) → find four.rules s (before ++ p ∷ after) ≡ Some r → keeps whole_grouping.member r ≡ true → class p ≡ class q → Counterpart residues four whole_grouping r s (before ++ q ∷ after)
swaps s before after p q r e k c = at p q (same_class p q c) e
  where
    itself : (x : ℕ) → find four.rules s (before ++ x ∷ after) ≡ Some r → Counterpart residues four whole_grouping r s (before ++ x ∷ after)
    itself x f = record { other = r; there = f; member_target = kept_target whole_grouping.member r k; same_class = refl; same_weight = refl }

    a : Transition Residue
    a = edge 2 0 2 (residue 10 tt tt)

    b : Transition Residue
    b = edge 2 1 2 (residue 5 tt tt)

    low : (x y : ℕ) → x < 2 → y < 2 → find four.rules s (before ++ x ∷ after) ≡ Some r → Counterpart residues four whole_grouping r s (before ++ y ∷ after)
    low = low_pairs (λ x y. find four.rules s (before ++ x ∷ after) ≡ Some r → Counterpart residues four whole_grouping r s (before ++ y ∷ after))
        (itself 0)
        (counterparts 0 1 a b refl refl refl refl (residue_path _ _ refl) s before after r)
        (counterparts 1 0 b a refl refl refl refl (residue_path _ _ refl) s before after r)
        (itself 1)

    at : (x y : ℕ) → (x ≡ y) ⊎ ((x < 2) × (y < 2)) → find four.rules s (before ++ x ∷ after) ≡ Some r → Counterpart residues four whole_grouping r s (before ++ y ∷ after)
    at x y (inl i) f = subst (λ z. Counterpart residues four whole_grouping r s (before ++ z ∷ after)) i (itself x f)
    at x y (inr l) f = low x y l.0 l.1 f

pub whole_admissible : Admissible residues four whole_grouping
whole_admissible = record {
  member_within = λ q m. ltb-true q 4 m;
  class_within = λ q m. within q (ltb-true q 4 m);
  no_gap = λ c l. (suc c, lt-ltb (suc c) 4 (omega arith), refl);
  acceptance = λ p q m n e. alike p q (same_class p q e);
  accepting_one = λ q m. factor_one q;
  swaps = λ s before after p q r e k m. swaps s before after p q r e k;
}
  where
    within : (q : ℕ) → q < 4 → class q < 3
    within zero l = omega arith
    within (suc q) l = omega arith

    alike : (p q : ℕ) → (p ≡ q) ⊎ ((p < 2) × (q < 2)) → eqb p 2 ≡ eqb q 2
    alike p q (inl e) = ap (λ x. eqb x 2) e
    alike p q (inr l) = low_accepting p l.0 ∙ sym (low_accepting q l.1)

itself : (q : ℕ) → Equivalent residues four (residues.times (factor q) (residues.inverse (factor q))) q q
itself q = rw (residues.cancel (factor q)) ((equivalences residues four four_sound).reflexive q)

pub four_quotients : Quotients residues four grouping
four_quotients = record {
  class_within = λ q m. within q (ltb-true q 3 m);
  no_gap = λ c l. (suc c, lt-ltb (suc c) 3 (omega arith), refl);
  accepting_one = λ q m. factor_one q;
  quotient = λ p q m n e. quotient p q (same_class p q e);
}
  where
    within : (q : ℕ) → q < 3 → class q < 2
    within zero l = omega arith
    within (suc q) l = omega arith

    low : (p q : ℕ) → p < 2 → q < 2 → Equivalent residues four (residues.times (factor p) (residues.inverse (factor q))) p q
    low = low_pairs (λ p q. Equivalent residues four (residues.times (factor p) (residues.inverse (factor q))) p q)
        (itself 0)
        (subst (λ a. Equivalent residues four a 0 1) (residue_path _ _ refl) zero_one)
        (subst (λ a. Equivalent residues four a 1 0) (residue_path _ _ refl) ((equivalences residues four four_sound).symmetric (residue 2 tt tt) 0 1 zero_one))
        (itself 1)

    quotient : (p q : ℕ) → (p ≡ q) ⊎ ((p < 2) × (q < 2)) → Equivalent residues four (residues.times (factor p) (residues.inverse (factor q))) p q
    quotient p q (inl e) = subst (λ x. Equivalent residues four (residues.times (factor p) (residues.inverse (factor x))) p x) e (itself p)
    quotient p q (inr l) = low p q l.0 l.1

pub four_grouped : ByEquivalence residues four grouping
four_grouped = record {
  live_members = member_live;
  shared = λ p q m n a e. class_is p (ltb-true p 3 m) ∙ ap (λ b. cond b 1 0) (alike_accepting residues four a p q e) ∙ sym (class_is q (ltb-true q 3 n));
}
  where
    class_is : (q : ℕ) → q < 3 → class q ≡ cond (eqb q 2) 1 0
    class_is zero l = refl
    class_is (suc zero) l = refl
    class_is (suc (suc zero)) l = refl
    class_is (suc (suc (suc q))) l = absurd (omega arith)
