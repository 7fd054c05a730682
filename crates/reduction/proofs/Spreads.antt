-- Marking pair after pair, row by row.
use Rattle.std.proofs.Common.{◌≡◌, ℕ, ◌+◌, ◌<◌, Bool, true, false, cond, ◌&&◌, eqb, List, length, get_or, sym, subst, inr, ⊎_elim, arith}
use Rattle.std.proofs.lemmas.List.{get_or_past}
use Rattle.std.proofs.lemmas.Bool.{both_ways, cases_eq, cases_lt}
use Rattle.pairs.specs.declared.pair_table.PairTable.{PairTable}
use Rattle.pairs.specs.Cells.{cell_at}
use Rattle.reduction.specs.Rounds.{Spread}
use Rattle.reduction.proofs.PairMarks.{mark_kept, mark_here, mark_only}

-- a state with a flag is below the number of flags
pub flag_small : (flags : List Bool) (q : ℕ) → get_or flags q false ≡ true → q < length flags
flag_small flags q on = ⊎_elim (λ h. h) (λ h. absurd (both_ways (get_or flags q false) (get_or_past flags q false h) on)) (cases_lt q (length flags))

module _ (D : ℕ → ℕ → Type 0) where
  -- the first q pairs of the row p are done
  abbrev pub Row : ℕ → ℕ → PairTable Bool → PairTable Bool → Type 0
  Row p q t t' = Spread D (λ x y. (x ≡ p) × (y < q)) t t'

  pub row_past : (p q : ℕ) (t t' : PairTable Bool) → (D p q → ⊥) → Row p q t t' → Row p (q + 1) t t'
  row_past p q t t' fails s = record {
    only = s.only;
    kept = s.kept;
    all = λ x y h d. ⊎_elim
        (λ e. absurd (fails (subst (λ (z : ℕ). D p z) e (subst (λ (z : ℕ). D z y) h.0 d))))
        (λ n. s.all x y (h.0, omega (arith, h.1)) d) (cases_eq y q);
  }

  pub row_more : (p q : ℕ) (t t' t'' : PairTable Bool) → D p q → ((x y : ℕ) → cell_at t'' x y ≡ cond (eqb x p && eqb y q) true (cell_at t' x y)) → Row p q t t' → Row p (q + 1) t t''
  row_more p q t t' t'' here marks s = record {
    only = λ x y e. ⊎_elim (s.only x y) (λ h. inr (subst (λ (z : ℕ). D x z) (sym h.1) (subst (λ (z : ℕ). D z q) (sym h.0) here))) (mark_only t' t'' p q marks x y e);
    kept = λ x y e. mark_kept t' t'' p q marks x y (s.kept x y e);
    all = λ x y h d. ⊎_elim
        (λ e. subst (λ (z : ℕ). cell_at t'' x z ≡ true) (sym e) (subst (λ (z : ℕ). cell_at t'' z q ≡ true) (sym h.0) (mark_here t' t'' p q marks)))
        (λ n. mark_kept t' t'' p q marks x y (s.all x y (h.0, omega (arith, h.1)) d)) (cases_eq y q);
  }

  -- the first p rows are done, from no marks on
  pub record Rows (p : ℕ) (t : PairTable Bool) : Type 0 where
    pub only : (x y : ℕ) → cell_at t x y ≡ true → D x y
    pub all : (x y : ℕ) → x < p → D x y → cell_at t x y ≡ true
