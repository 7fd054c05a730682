-- Marking a pair both ways: what is marked then, and that marks stay symmetric.
use Rattle.std.proofs.Common.{◌≡◌, ℕ, Bool, true, false, cond, ◌&&◌, ◌||◌, eqb, ◌⊎◌, sym, refl, ap, ◌∙◌, ap₂, inl, inr, ⊎_elim}
use Rattle.std.proofs.lemmas.Bool.{eqb-true, eq-eqb, and_parts, and_from, or_cases, or_left}
use Rattle.automata.specs.Marking.{Symmetric}
use Rattle.pairs.specs.declared.pair_table.PairTable.{PairTable}
use Rattle.pairs.specs.Cells.{cell_at}

-- two tests that pass together are one
pub same_tests : (b c : Bool) → (b ≡ true → c ≡ true) → (c ≡ true → b ≡ true) → b ≡ c
same_tests true c f g = sym (f refl)
same_tests false true f g = g refl
same_tests false false f g = refl

stays : (b c : Bool) → c ≡ true → cond b true c ≡ true
stays true c e = refl
stays false c e = e

either : (b c : Bool) → cond b true c ≡ true → (c ≡ true) ⊎ (b ≡ true)
either true c e = inr refl
either false c e = inl e

-- t' has besides the marks of t that of p, q
module _ (t t' : PairTable Bool) (p q : ℕ) (marks : (x y : ℕ) → cell_at t' x y ≡ cond (eqb x p && eqb y q) true (cell_at t x y)) where
  pub mark_kept : (x y : ℕ) → cell_at t x y ≡ true → cell_at t' x y ≡ true
  mark_kept x y e = marks x y ∙ stays (eqb x p && eqb y q) (cell_at t x y) e

  pub mark_here : cell_at t' p q ≡ true
  mark_here = marks p q ∙ ap (λ b. cond b true (cell_at t p q)) (and_from (eqb p p) (eqb q q) (eq-eqb p p refl) (eq-eqb q q refl))

  pub mark_only : (x y : ℕ) → cell_at t' x y ≡ true → (cell_at t x y ≡ true) ⊎ ((x ≡ p) × (y ≡ q))
  mark_only x y e =
      ⊎_elim inl (λ b. let h = and_parts (eqb x p) (eqb y q) b in inr (eqb-true x p h.0, eqb-true y q h.1))
      (either (eqb x p && eqb y q) (cell_at t x y) (sym (marks x y) ∙ e))

-- and that of q, p
module _ (t t' : PairTable Bool) (p q : ℕ) (marks : (x y : ℕ) → cell_at t' x y ≡ cond ((eqb x p && eqb y q) || (eqb x q && eqb y p)) true (cell_at t x y)) where
  pub both_kept : (x y : ℕ) → cell_at t x y ≡ true → cell_at t' x y ≡ true
  both_kept x y e = marks x y ∙ stays ((eqb x p && eqb y q) || (eqb x q && eqb y p)) (cell_at t x y) e

  pub both_here : cell_at t' p q ≡ true
  both_here =
      marks p q
      ∙ ap (λ b. cond b true (cell_at t p q)) (or_left (eqb p p && eqb q q) (eqb p q && eqb q p) (and_from (eqb p p) (eqb q q) (eq-eqb p p refl) (eq-eqb q q refl)))

  pub both_only : (x y : ℕ) → cell_at t' x y ≡ true → (cell_at t x y ≡ true) ⊎ (((x ≡ p) × (y ≡ q)) ⊎ ((x ≡ q) × (y ≡ p)))
  both_only x y e =
      ⊎_elim inl
      (λ b. inr (⊎_elim
      (λ k. let h = and_parts (eqb x p) (eqb y q) k in inl (eqb-true x p h.0, eqb-true y q h.1))
      (λ k. let h = and_parts (eqb x q) (eqb y p) k in inr (eqb-true x q h.0, eqb-true y p h.1))
      (or_cases (eqb x p && eqb y q) (eqb x q && eqb y p) b)))
      (either ((eqb x p && eqb y q) || (eqb x q && eqb y p)) (cell_at t x y) (sym (marks x y) ∙ e))

  swapped_tests : (a b c d : Bool) → ((a && b) || (c && d)) ≡ ((d && c) || (b && a))
  swapped_tests true true c d = rest d c
    where
      rest : (x y : Bool) → true ≡ ((x && y) || true)
      rest true true = refl
      rest true false = refl
      rest false y = refl
  swapped_tests true false true true = refl
  swapped_tests true false true false = refl
  swapped_tests true false false true = refl
  swapped_tests true false false false = refl
  swapped_tests false true true true = refl
  swapped_tests false true true false = refl
  swapped_tests false true false true = refl
  swapped_tests false true false false = refl
  swapped_tests false false true true = refl
  swapped_tests false false true false = refl
  swapped_tests false false false true = refl
  swapped_tests false false false false = refl

  pub both_symmetric : Symmetric (cell_at t) → Symmetric (cell_at t')
  both_symmetric symmetric x y =
      marks x y
      ∙ ap₂ (λ b m. cond b true m) (swapped_tests (eqb x p) (eqb y q) (eqb x q) (eqb y p)) (symmetric x y)
      ∙ sym (marks y x)
