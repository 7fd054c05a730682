-- Looking up a rule: what is found has the left side and whatever all rules have.
use Rattle.std.proofs.Common.{◌≡◌, ℕ, Bool, true, false, cond, eqb, List, [], ◌∷◌, length, Some, sym, refl, ap, ◌∙◌, arith}
use Rattle.std.specs.List.{AllByRecursion}
use Rattle.std.proofs.lemmas.Bool.{eqb-true, eq-eqb, and_parts, and_from}
use Rattle.automata.specs.Trees.{rank}
use Rattle.automata.specs.Automata.{Transition, Automaton, same_list, fits_left, find, Within, Sound}

pub eqb_self : (n : ℕ) → eqb n n ≡ true
eqb_self n = eq-eqb n n refl

pub same_list_true : (ps qs : List ℕ) → same_list ps qs ≡ true → ps ≡ qs
same_list_true [] [] e = refl
same_list_true [] (q ∷ qs) e = let z : ◌≡◌ {A = ℕ} 0 1 = cc in absurd (omega arith)
same_list_true (p ∷ ps) [] e = let z : ◌≡◌ {A = ℕ} 0 1 = cc in absurd (omega arith)
same_list_true (p ∷ ps) (q ∷ qs) e =
    let h = and_parts (eqb p q) (same_list ps qs) e in
    let i : p ≡ q = eqb-true p q h.0 in
    let j : ps ≡ qs = same_list_true ps qs h.1 in
    cc

pub same_list_self : (qs : List ℕ) → same_list qs qs ≡ true
same_list_self [] = refl
same_list_self (q ∷ qs) = and_from (eqb q q) (same_list qs qs) (eqb_self q) (same_list_self qs)

module _ {W : Type 0} where
  -- the left side of r is s(qs)
  pub fits_symbol : (r : Transition W) (s : ℕ) (qs : List ℕ) → fits_left r s qs ≡ true → r.symbol ≡ s
  fits_symbol r s qs e = eqb-true r.symbol s (and_parts (eqb r.symbol s) (same_list r.children qs) e).0

  pub fits_children : (r : Transition W) (s : ℕ) (qs : List ℕ) → fits_left r s qs ≡ true → r.children ≡ qs
  fits_children r s qs e = same_list_true r.children qs (and_parts (eqb r.symbol s) (same_list r.children qs) e).1

  pub fits_itself : (r : Transition W) → fits_left r r.symbol r.children ≡ true
  fits_itself r = and_from (eqb r.symbol r.symbol) (same_list r.children r.children) (eqb_self r.symbol) (same_list_self r.children)

  -- what is found has the left side that was looked for
  pub find_fits : (rs : List (Transition W)) (s : ℕ) (qs : List ℕ) (r : Transition W) → find rs s qs ≡ Some r → fits_left r s qs ≡ true
  find_fits [] s qs r e = let z : ◌≡◌ {A = ℕ} 0 1 = cc in absurd (omega arith)
  find_fits (x ∷ rs) s qs r e = at (fits_left x s qs) refl e (find_fits rs s qs r)
    where
      at : (b : Bool) → fits_left x s qs ≡ b → cond b (Some x) (find rs s qs) ≡ Some r → (find rs s qs ≡ Some r → fits_left r s qs ≡ true) → fits_left r s qs ≡ true
      at true h k ih = let i : x ≡ r = cc in ap (λ y. fits_left y s qs) (sym i) ∙ h
      at false h k ih = ih k

  pub find_symbol : (rs : List (Transition W)) (s : ℕ) (qs : List ℕ) (r : Transition W) → find rs s qs ≡ Some r → r.symbol ≡ s
  find_symbol rs s qs r e = fits_symbol r s qs (find_fits rs s qs r e)

  pub find_children : (rs : List (Transition W)) (s : ℕ) (qs : List ℕ) (r : Transition W) → find rs s qs ≡ Some r → r.children ≡ qs
  find_children rs s qs r e = fits_children r s qs (find_fits rs s qs r e)

  -- what all rules have, the rule that is found has
  pub find_all : (P : Transition W → Type 0) (rs : List (Transition W)) (s : ℕ) (qs : List ℕ) (r : Transition W) → AllByRecursion P rs → find rs s qs ≡ Some r → P r
  find_all P [] s qs r all e = let z : ◌≡◌ {A = ℕ} 0 1 = cc in absurd (omega arith)
  find_all P (x ∷ rs) s qs r all e = at (fits_left x s qs) e (find_all P rs s qs r all.1)
    where
      at : (b : Bool) → cond b (Some x) (find rs s qs) ≡ Some r → (find rs s qs ≡ Some r → P r) → P r
      at true k ih = let i : x ≡ r = cc in rw i at all.0
      at false k ih = ih k

  -- a left side that is found has as many states as its symbol's rank
  pub find_rank : (A : Automaton W) → Sound A → (s : ℕ) (qs : List ℕ) (r : Transition W) → find A.rules s qs ≡ Some r → length qs ≡ rank A.ranks s
  find_rank A sound s qs r e =
      let w : Within A.ranks A.states r = find_all (Within A.ranks A.states) A.rules s qs r sound.within e in
      ap length (sym (find_children A.rules s qs r e)) ∙ w.children_rank ∙ ap (rank A.ranks) (find_symbol A.rules s qs r e)
