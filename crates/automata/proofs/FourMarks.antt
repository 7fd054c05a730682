-- The automaton with four states: its marks meet the premises of both rounds of marking.
use Rattle.std.proofs.Common.{◌≡◌, ℕ, zero, suc, ◌<◌, Bool, true, false, cond, not, eqb, ◌⊎◌, [], ◌∷◌, Some, sym, refl, ap, inl, inr, arith}
use Rattle.std.proofs.lemmas.Bool.{false≢true, both_ways, ltb-true, ne_eqb, cases_eq}
use Rattle.kinds.specs.declared.residue.Residue.{Residue}
use Rattle.kinds.specs.Residues.{residues, residue_path}
use Rattle.automata.specs.Automata.{Transition, find}
use Rattle.automata.specs.Contexts.{Context, hole, OverContext, value}
use Rattle.automata.specs.Pushing.{reweighed}
use Rattle.automata.specs.Merging.{keeps}
use Rattle.automata.specs.Marking.{Swapped, MarksFirst, acceptance, lone, targets, MarksSecond, as_first, uneven, Symmetric, AtRest, TrueSigns, Chosen}
use Rattle.automata.specs.Examples.{residue, above_context, edge, four, member, factor, marks}
use Rattle.automata.proofs.SameSigns.{signs_accepting}
use Rattle.automata.proofs.FourStates.{low_pairs, the_rule}

pub marks_symmetric : Symmetric marks
marks_symmetric p q = at (eqb p 2) (eqb q 2)
  where
    at : (b d : Bool) → cond b (not d) d ≡ cond d (not b) b
    at true true = refl
    at true false = refl
    at false true = refl
    at false false = refl

-- the hole is a sign of life of the accepting state alone
pub marks_signs : TrueSigns residues four marks
marks_signs p q m same = both_ways (marks p q) (at (eqb p 2) (eqb q 2) (signs_accepting residues four p q same)) m
  where
    at : (b d : Bool) → b ≡ d → cond b (not d) d ≡ false
    at true true e = refl
    at true false e = e
    at false true e = sym e
    at false false e = refl

-- the states 0 and 1, or the state 2 twice
abbrev Sides : ℕ → ℕ → Type 0
Sides p q = ((p < 2) × (q < 2)) ⊎ ((p ≡ 2) × (q ≡ 2))

sides : (p q : ℕ) → p < 3 → q < 3 → marks p q ≡ false → Sides p q
sides p q l m e = at (cases_eq p 2) (cases_eq q 2)
  where
    at : (p ≡ 2) ⊎ (p ≡ 2 → ⊥) → (q ≡ 2) ⊎ (q ≡ 2 → ⊥) → Sides p q
    at (inl i) (inl j) = inr (i, j)
    at (inl i) (inr j) = let h : marks p q ≡ true = rw (i, ne_eqb q 2 j) in absurd (both_ways (marks p q) e h)
    at (inr i) (inl j) = let h : marks p q ≡ true = rw (j, ne_eqb p 2 i) in absurd (both_ways (marks p q) e h)
    at (inr i) (inr j) = inl (omega arith, omega arith)

-- the rules of a pair of states, below which nothing is marked
module _ (p q : ℕ) (a b : Transition Residue) (first : find four.rules 2 (p ∷ []) ≡ Some a) (second : find four.rules 2 (q ∷ []) ≡ Some b) where
  the_rules : (r r' : Transition Residue) → Swapped four member p q r r' → (r ≡ a) × (r' ≡ b)
  the_rules r r' h =
      let i = the_rule p q a b first second h.symbol h.before h.after r h.first in
      let j = h.second in
      let k = i.1 in
      (i.0, cc)

  no_mark : four.accepting p ≡ four.accepting q → (keeps member a ≡ true → (member b.target ≡ true) × (marks a.target b.target ≡ false)) → MarksFirst four member marks p q → ⊥
  no_mark alike below (acceptance n) = n alike
  no_mark alike below (lone h) =
      let i = the_rule p q a b first second h.symbol h.before h.after h.rule h.first in
      h.alone b i.1 (below (rw i.0 at h.first_live)).0
  no_mark alike below (targets r r' h m) =
      let i = the_rules r r' h in
      both_ways (marks a.target b.target) (below (rw i.0 at h.first_live)).1 (rw (i.0, i.1) at m)

  no_mark_second : four.accepting p ≡ four.accepting q → (keeps member a ≡ true → (member b.target ≡ true) × (marks a.target b.target ≡ false) × ((reweighed residues factor a).weight ≡ (reweighed residues factor b).weight)) → MarksSecond residues four member factor marks p q → ⊥
  no_mark_second alike below (as_first h) = no_mark alike (λ k. ((below k).0, (below k).1)) h
  no_mark_second alike below (uneven r r' h n) =
      let i = the_rules r r' h in
      n (rw (i.0, i.1) (below (rw i.0 at h.first_live)).2)

-- the rule of the state 2 leads to a state that is not live
quiet : (p q : ℕ) → p < 3 → q < 3 → marks p q ≡ false → MarksSecond residues four member factor marks p q → ⊥
quiet p q l m e h = at p q (sides p q l m e) h
  where
    a : Transition Residue
    a = edge 2 0 2 (residue 10 tt tt)

    b : Transition Residue
    b = edge 2 1 2 (residue 5 tt tt)

    low : (x y : ℕ) → x < 2 → y < 2 → MarksSecond residues four member factor marks x y → ⊥
    low = low_pairs (λ x y. MarksSecond residues four member factor marks x y → ⊥)
        (no_mark_second 0 0 a a refl refl refl (λ k. (refl, refl, refl)))
        (no_mark_second 0 1 a b refl refl refl (λ k. (refl, refl, residue_path _ _ refl)))
        (no_mark_second 1 0 b a refl refl refl (λ k. (refl, refl, residue_path _ _ refl)))
        (no_mark_second 1 1 b b refl refl refl (λ k. (refl, refl, refl)))

    at : (x y : ℕ) → Sides x y → MarksSecond residues four member factor marks x y → ⊥
    at x y (inl k) = low x y k.0 k.1
    at x y (inr k) = rw (k.0, k.1) (no_mark_second 2 2 (edge 2 2 3 (residue 7 tt tt)) (edge 2 2 3 (residue 7 tt tt)) refl refl refl (λ j. absurd (false≢true j)))

pub second_rest : AtRest member marks (MarksSecond residues four member factor marks)
second_rest p q l m h = at (marks p q) refl
  where
    at : (b : Bool) → marks p q ≡ b → b ≡ true
    at true e = refl
    at false e = absurd (quiet p q (ltb-true p 3 l) (ltb-true q 3 m) e h)

pub first_rest : AtRest member marks (MarksFirst four member marks)
first_rest p q l m h = second_rest p q l m (as_first h)

-- the symbol over the hole gives each of the states 0 and 1 its factor, and the hole gives 2 its own
pub factors_chosen : Chosen residues four member marks factor
factors_chosen p q l m e = at p q (sides p q (ltb-true p 3 l) (ltb-true q 3 m) e)
  where
    low : (x : ℕ) → x < 2 → value residues four (above_context 2 hole) x ≡ Some (residues.times residues.one (factor x))
    low zero k = ap Some (residue_path _ _ refl)
    low (suc zero) k = ap Some (residue_path _ _ refl)
    low (suc (suc x)) k = absurd (omega arith)

    at : (x y : ℕ) → Sides x y → (c : Context) × (z : Residue) × OverContext four.ranks c × (value residues four c x ≡ Some (residues.times z (factor x))) × (value residues four c y ≡ Some (residues.times z (factor y)))
    at x y (inl k) = (above_context 2 hole, residues.one, (omega arith, refl, tt, tt, tt), low x k.0, low y k.1)
    at x y (inr k) = rw (k.0, k.1) (hole, residues.one, tt, ap Some (residue_path _ _ refl), ap Some (residue_path _ _ refl))
