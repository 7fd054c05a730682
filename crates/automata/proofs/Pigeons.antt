-- The pigeonhole principle: where no two of m numbers share one of n places, m ≤ n.
use Rattle.std.proofs.Common.{◌≡◌, ℕ, zero, suc, ◌<◌, ◌≤◌, ◌⊎◌, refl, inl, inr, arith}
use native.Mathlib.Decide.{dec_lt}

-- every number below m has a place below n
abbrev pub Placed : ℕ → ℕ → (ℕ → ℕ → Type 0) → Type 0
Placed m n has = (i : ℕ) → i < m → (k : ℕ) × (k < n) × has i k

-- no two numbers below m share a place
abbrev pub Unshared : ℕ → (ℕ → ℕ → Type 0) → Type 0
Unshared m has = (i j k : ℕ) → i < m → j < m → has i k → has j k → i ≡ j

-- the place n is given up for the place k
abbrev Moved : ℕ → ℕ → (ℕ → ℕ → Type 0) → ℕ → ℕ → Type 0
Moved n k has i l = has i l ⊎ (has i n × (l ≡ k))

-- the place k of m becomes free when m is left out
moved_placed : (m n k : ℕ) (has : ℕ → ℕ → Type 0) → k < suc n → has m k → Placed (suc m) (suc n) has → Unshared (suc m) has → Placed m n (Moved n k has)
moved_placed m n k has b h placed unshared i c = at (placed i (omega arith)).0 (placed i (omega arith)).1 (placed i (omega arith)).2
  where
    last : has i n → Dec (k < n) → (l : ℕ) × (l < n) × Moved n k has i l
    last g (yes e) = (k, e, inr (g, refl))
    last g (no e) =
        let full : k ≡ n = omega arith in
        let same : i ≡ m = unshared i m n (omega arith) (omega arith) g (rw full at h) in
        absurd (omega arith)

    at : (l : ℕ) → l < suc n → has i l → (l : ℕ) × (l < n) × Moved n k has i l
    at l d g = one (dec_lt l n)
      where
        one : Dec (l < n) → (l : ℕ) × (l < n) × Moved n k has i l
        one (yes e) = (l, e, inl g)
        one (no e) = let full : l ≡ n = omega arith in last (rw full at g) (dec_lt k n)

moved_unshared : (m n k : ℕ) (has : ℕ → ℕ → Type 0) → has m k → Unshared (suc m) has → Unshared m (Moved n k has)
moved_unshared m n k has h unshared i j l c d (inl p) (inl q) = unshared i j l (omega arith) (omega arith) p q
moved_unshared m n k has h unshared i j l c d (inl p) (inr q) =
    let same : i ≡ m = unshared i m k (omega arith) (omega arith) (rw q.1 at p) h in
    absurd (omega arith)
moved_unshared m n k has h unshared i j l c d (inr p) (inl q) =
    let same : j ≡ m = unshared j m k (omega arith) (omega arith) (rw p.1 at q) h in
    absurd (omega arith)
moved_unshared m n k has h unshared i j l c d (inr p) (inr q) = unshared i j n (omega arith) (omega arith) p.0 q.0

pub pigeonhole : (n m : ℕ) (has : ℕ → ℕ → Type 0) → Placed m n has → Unshared m has → m ≤ n
pigeonhole n zero has placed unshared = omega arith
pigeonhole zero (suc m) has placed unshared = let first : (placed m (omega arith)).0 < 0 = (placed m (omega arith)).1 in absurd (omega arith)
pigeonhole (suc n) (suc m) has placed unshared =
    let last = placed m (omega arith) in
    let fewer : m ≤ n = pigeonhole n m (Moved n last.0 has) (moved_placed m n last.0 has last.1 last.2 placed unshared) (moved_unshared m n last.0 has last.2 unshared) in
    omega arith
