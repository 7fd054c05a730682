-- Sums over the numbers below a bound.
use Rattle.std.proofs.Common.{◌≡◌, ℕ, zero, suc, ◌+◌, ◌*◌, ◌<◌, ◌≤◌, sym, refl, ⊎_elim, suc-mul, arith}
use Rattle.std.proofs.lemmas.Bool.{cases_eq}
use Rattle.pairs.specs.Counts.{sum_below}

pub sum_bound : (f : ℕ → ℕ) (m n : ℕ) → ((k : ℕ) → f k ≤ m) → sum_below f n ≤ n * m
unfolding sum_below
sum_bound f m zero low = omega arith
sum_bound f m (suc n) low = omega (arith, low n, sum_bound f m n low, suc-mul n m)

pub sum_same : (f g : ℕ → ℕ) (n : ℕ) → ((k : ℕ) → k < n → g k ≡ f k) → sum_below g n ≡ sum_below f n
unfolding sum_below
sum_same f g zero same = refl
sum_same f g (suc n) same = omega (arith, sum_same f g n (λ k h. same k (omega arith)), same n (omega arith))

pub sum_le : (f g : ℕ → ℕ) (n : ℕ) → ((k : ℕ) → f k ≤ g k) → sum_below f n ≤ sum_below g n
unfolding sum_below
sum_le f g zero low = omega arith
sum_le f g (suc n) low = omega (arith, sum_le f g n low, low n)

-- one term that is less
pub sum_less : (f g : ℕ → ℕ) (n i : ℕ) → i < n → ((k : ℕ) → f k ≤ g k) → f i < g i → sum_below f n < sum_below g n
unfolding sum_below
sum_less f g zero i h low less = absurd (omega arith)
sum_less f g (suc n) i h low less =
    ⊎_elim
    (λ e. let here : f n < g n = rw e at less in omega (arith, sum_le f g n low))
    (λ apart. omega (arith, sum_less f g n i (omega arith) low less, low n)) (cases_eq i n)

-- one term that is larger by one
pub sum_more : (f g : ℕ → ℕ) (n i : ℕ) → i < n → g i ≡ f i + 1 → ((k : ℕ) → (k ≡ i → ⊥) → g k ≡ f k) → sum_below g n ≡ sum_below f n + 1
unfolding sum_below
sum_more f g zero i h more same = absurd (omega arith)
sum_more f g (suc n) i h more same =
    ⊎_elim
    (λ e. let here : g n ≡ f n + 1 = rw e at more in omega (arith, sum_same f g n (λ k l. same k (λ z. omega arith))))
    (λ apart. omega (arith, sum_more f g n i (omega arith) more same, same n (λ z. apart (sym z)))) (cases_eq i n)
