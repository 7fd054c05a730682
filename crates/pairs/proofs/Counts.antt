-- Marking a pair that was not marked raises the number of marked pairs, which is at most 2304.
use Rattle.std.proofs.Common.{◌≡◌, ℕ, ◌+◌, ◌<◌, ◌≤◌, Bool, true, false, cond, ◌&&◌, eqb, refl, ap, ◌∙◌, arith}
use Rattle.std.proofs.lemmas.Bool.{and_from, and_left, and_right, eq-eqb, ne_eqb}
use Rattle.pairs.specs.declared.pair_table.PairTable.{PairTable}
use Rattle.pairs.specs.Cells.{cell_at}
use Rattle.pairs.specs.Counts.{sum_below, one_if, marked_count}
use Rattle.pairs.proofs.Sums.{sum_bound, sum_same, sum_le, sum_less, sum_more}

at_most_one : (b : Bool) → one_if b ≤ 1
unfolding one_if
at_most_one true = omega arith
at_most_one false = omega arith

one_le : (b c : Bool) → (b ≡ true → c ≡ true) → one_if b ≤ one_if c
unfolding one_if
one_le true c keeps = rw (keeps refl) (omega arith)
one_le false c keeps = omega arith

pub marked_bound : (t : PairTable Bool) → marked_count t ≤ 2304
unfolding marked_count
marked_bound t =
    sum_bound (λ p. sum_below (λ q. one_if (cell_at t p q)) 48) 48 48 (λ p. sum_bound (λ q. one_if (cell_at t p q)) 1 48 (λ q. at_most_one (cell_at t p q)))

pub marked_none : (t : PairTable Bool) → ((p q : ℕ) → cell_at t p q ≡ false) → marked_count t ≡ 0
unfolding marked_count one_if
marked_none t none =
    omega (arith, sum_bound (λ p. sum_below (λ q. one_if (cell_at t p q)) 48) 0 48 (λ p. sum_bound (λ q. one_if (cell_at t p q)) 0 48 (λ q. rw (none p q) (omega arith))))

-- what was marked is marked still, and p, q is marked for the first time
pub marked_grows : (t t' : PairTable Bool) (p q : ℕ) → p < 48 → q < 48 → ((x y : ℕ) → cell_at t x y ≡ true → cell_at t' x y ≡ true) → cell_at t p q ≡ false → cell_at t' p q ≡ true → marked_count t < marked_count t'
unfolding marked_count one_if
marked_grows t t' p q hp hq keeps before after =
    sum_less _ _ 48 p hp (λ x. sum_le _ _ 48 (λ y. one_le (cell_at t x y) (cell_at t' x y) (keeps x y)))
    (sum_less (λ y. one_if (cell_at t p y)) (λ y. one_if (cell_at t' p y)) 48 q hq (λ y. one_le (cell_at t p y) (cell_at t' p y) (keeps p y)) (rw (before, after) (omega arith)))

-- p, q is marked, and nothing else changes
module _ (t t' : PairTable Bool) (p q : ℕ) (marks : (x y : ℕ) → cell_at t' x y ≡ cond (eqb x p && eqb y q) true (cell_at t x y)) where
  marked_here : cell_at t' p q ≡ true
  marked_here = marks p q ∙ ap (λ b. cond b true (cell_at t p q)) (and_from (eqb p p) (eqb q q) (eq-eqb p p refl) (eq-eqb q q refl))

  other_row : (x y : ℕ) → (x ≡ p → ⊥) → cell_at t' x y ≡ cell_at t x y
  other_row x y n = marks x y ∙ ap (λ b. cond b true (cell_at t x y)) (and_left (eqb x p) (eqb y q) (ne_eqb x p n))

  other_column : (x y : ℕ) → (y ≡ q → ⊥) → cell_at t' x y ≡ cell_at t x y
  other_column x y n = marks x y ∙ ap (λ b. cond b true (cell_at t x y)) (and_right (eqb x p) (eqb y q) (ne_eqb y q n))

  pub marked_more : p < 48 → q < 48 → cell_at t p q ≡ false → marked_count t' ≡ marked_count t + 1
  unfolding marked_count one_if
  marked_more hp hq before =
      let here : one_if (cell_at t' p q) ≡ one_if (cell_at t p q) + 1 = rw (before, marked_here) refl in
      sum_more _ _ 48 p hp
      (sum_more (λ y. one_if (cell_at t p y)) (λ y. one_if (cell_at t' p y)) 48 q hq here (λ y n. ap one_if (other_column p y n)))
      (λ x n. sum_same _ _ 48 (λ y l. ap one_if (other_row x y n)))
