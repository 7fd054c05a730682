-- The known pairs: none at first, one more, and at most as many as there are pairs of states.
use Rattle.std.proofs.Common.{◌≡◌, ℕ, suc, ◌+◌, ◌-◌, Some, None, ◌*◌, ◌<◌, ◌≤◌, cond, ◌&&◌, eqb, Option, sym, refl, ap, ◌∙◌, subst, ap₂, ⊎_elim, mul-le-mul_right, suc-mul, arith}
use Rattle.std.proofs.lemmas.Bool.{cases_lt, cases_Bool, cases_order, and_parts, and_from, eqb-true, eq-eqb, cond-true, cond-false}
use Rattle.automata.specs.Runs.{At}
use Rattle.automata.proofs.Pigeons.{Placed, Unshared, pigeonhole}
use Rattle.rules.specs.declared.side.Side.{Side}
use Rattle.rules.specs.declared.side.Side.TheVariants.{First, Second}
use Rattle.comparison.specs.Scanning.{Two, PairsWithin}
use Rattle.comparison.specs.Exploring.{LiveWithin, Entry, Pairing, Grown}

none_some : (e : ℕ) → ◌≡◌ {A = Option ℕ} None (Some e) → ⊥
none_some e h = let z : ◌≡◌ {A = ℕ} 0 1 = cc in omega arith

module _ {W : Type 0} (T : Two W) where
  pub pairing_none : (R : Side → ℕ → Option (At W)) (N : ℕ → ℕ → Option ℕ) (base : ℕ) → ((p q : ℕ) → N p q ≡ None) → Pairing T R N base base
  pairing_none R N base none = record {
    numbered = λ p q e h. let z = none p q in absurd (none_some e (cc));
    entries = λ e h l. absurd (omega arith);
  }

  pub pairs_within : (R : Side → ℕ → Option (At W)) (N : ℕ → ℕ → Option ℕ) (base len : ℕ) → LiveWithin T → Pairing T R N base len → PairsWithin T N
  pairs_within R N base len live pairing p q e known =
      let entry = (pairing.numbered p q e known).2 in
      (live.first_within p entry.first_is_live, live.second_within q entry.second_is_live)

  -- an entry keeps its runs
  entry_kept : (R R' : Side → ℕ → Option (At W)) (e p q : ℕ) → R' First e ≡ R First e → R' Second e ≡ R Second e → Entry T R e p q → Entry T R' e p q
  entry_kept R R' e p q f s entry = record {
    first_weight = entry.first_weight;
    second_weight = entry.second_weight;
    first_run = f ∙ entry.first_run;
    second_run = s ∙ entry.second_run;
    first_is_live = entry.first_is_live;
    second_is_live = entry.second_is_live;
    agree = entry.agree;
    agree_one = entry.agree_one;
  }

  -- one pair more, in the entry behind the last
  module _ (R R' : Side → ℕ → Option (At W)) (N N' : ℕ → ℕ → Option ℕ) (base len p q : ℕ) (low : base ≤ len) (kept : (side : Side) (e : ℕ) → e < len → R' side e ≡ R side e) (noted : (x y : ℕ) → N' x y ≡ cond (eqb x p && eqb y q) (Some len) (N x y)) (new : N p q ≡ None) (entry : Entry T R' len p q) (pairing : Pairing T R N base len) where
    here : N' p q ≡ Some len
    here = noted p q ∙ cond-true (eqb p p && eqb q q) (Some len) (N p q) (and_from (eqb p p) (eqb q q) (eq-eqb p p refl) (eq-eqb q q refl))

    numbered_more : (x y e : ℕ) → N' x y ≡ Some e → (base ≤ e) × (e < len + 1) × Entry T R' e x y
    numbered_more x y e known = ⊎_elim
        (λ t.
        let both = and_parts (eqb x p) (eqb y q) t in
        let x_is : p ≡ x = sym (eqb-true x p both.0) in
        let y_is : q ≡ y = sym (eqb-true y q both.1) in
        let at : N' x y ≡ Some len = noted x y ∙ cond-true (eqb x p && eqb y q) (Some len) (N x y) t in
        let e_is : len ≡ e = cc in
        let moved : Entry T R' e x y = subst (λ (k : ℕ). Entry T R' k x y) e_is (subst (λ (k : ℕ). Entry T R' len x k) y_is (subst (λ (k : ℕ). Entry T R' len k q) x_is entry)) in
        (omega arith, omega arith, moved))
        (λ f.
        let old = pairing.numbered x y e (sym (noted x y ∙ cond-false (eqb x p && eqb y q) (Some len) (N x y) f) ∙ known) in
        (old.0, (omega (arith, old.1)), entry_kept R R' e x y (kept First e old.1) (kept Second e old.1) old.2)) (cases_Bool (eqb x p && eqb y q))

    -- a known pair keeps its number
    known_more : (x y e : ℕ) → N x y ≡ Some e → N' x y ≡ Some e
    known_more x y e known = ⊎_elim
        (λ t.
        let both = and_parts (eqb x p) (eqb y q) t in
        let same : N x y ≡ N p q = ap₂ N (eqb-true x p both.0) (eqb-true y q both.1) in
        absurd (none_some e (sym new ∙ sym same ∙ known)))
        (λ f. noted x y ∙ cond-false (eqb x p && eqb y q) (Some len) (N x y) f ∙ known) (cases_Bool (eqb x p && eqb y q))

    -- a pair of an earlier entry was known
    earlier_more : (x y e : ℕ) → N' x y ≡ Some e → e < len → N x y ≡ Some e
    earlier_more x y e known low = ⊎_elim
        (λ t. let at : N' x y ≡ Some len = noted x y ∙ cond-true (eqb x p && eqb y q) (Some len) (N x y) t in let same : len ≡ e = cc in absurd (omega arith))
        (λ f. sym (noted x y ∙ cond-false (eqb x p && eqb y q) (Some len) (N x y) f) ∙ known) (cases_Bool (eqb x p && eqb y q))

    pub grown_more : Grown R R' N N' len
    grown_more = record { runs = kept; known = λ x y e h. ((pairing.numbered x y e h).1, known_more x y e h); earlier = earlier_more }

    entries_more : (e : ℕ) → base ≤ e → e < len + 1 → (x : ℕ) × (y : ℕ) × (N' x y ≡ Some e)
    entries_more e h l = ⊎_elim
        (λ less.
        let old = pairing.entries e h less in
        let x = old.0 in
        let y = old.1 in
        (x, y, known_more x y e old.2))
        (λ most. let same : len ≡ e = omega arith in (p, q, here ∙ ap Some same)) (cases_lt e len)

    pub pairing_more : Pairing T R' N' base (len + 1)
    pairing_more = record { numbered = numbered_more; entries = entries_more }

-- the number of a pair among all pairs with a second part below m
cell_below : (n m p q : ℕ) → p < n → q < m → p * m + q < n * m
cell_below n m p q hp hq = omega (arith, suc-mul p m, mul-le-mul_right {m = suc p} {n = n} m hp)

row_less : (m p q x y : ℕ) → q < m → p < x → p * m + q < x * m + y
row_less m p q x y hq h = omega (arith, suc-mul p m, mul-le-mul_right {m = suc p} {n = x} m h)

same_row : (m p q x y : ℕ) → q < m → y < m → p * m + q ≡ x * m + y → p ≡ x
same_row m p q x y hq hy e = ⊎_elim (λ s. s) (⊎_elim (λ l. absurd (omega (arith, row_less m p q x y hq l))) (λ l. absurd (omega (arith, row_less m x y p q hy l)))) (cases_order p x)

module _ {W : Type 0} (T : Two W) (R : Side → ℕ → Option (At W)) (N : ℕ → ℕ → Option ℕ) (base len : ℕ) (within : PairsWithin T N) (pairing : Pairing T R N base len) where
  -- the pair of the entry base + i has this number
  record Numbered (i k : ℕ) : Type 0 where
    p : ℕ
    q : ℕ
    known : N p q ≡ Some (base + i)
    cell : k ≡ p * T.second.states + q

  placed : Placed (len - base) (T.first.states * T.second.states) Numbered
  placed i h =
      let e = pairing.entries (base + i) (omega arith) (omega arith) in
      let low = within e.0 e.1 (base + i) e.2 in
      (e.0 * T.second.states + e.1, cell_below T.first.states T.second.states e.0 e.1 low.0 low.1, record { p = e.0; q = e.1; known = e.2; cell = refl })

  unshared : Unshared (len - base) Numbered
  unshared i j k hi hj a b =
      let m = T.second.states in
      let la = within a.p a.q (base + i) a.known in
      let lb = within b.p b.q (base + j) b.known in
      let one : a.p * m + a.q ≡ b.p * m + b.q = sym a.cell ∙ b.cell in
      let same_p : a.p ≡ b.p = same_row m a.p a.q b.p b.q la.1 lb.1 one in
      let rows : a.p * m ≡ b.p * m = ap (λ x. x * m) same_p in
      let same_q : a.q ≡ b.q = omega arith in
      let same : N a.p a.q ≡ N b.p b.q = ap₂ N same_p same_q in
      let both : Some (base + i) ≡ Some (base + j) = sym a.known ∙ same ∙ b.known in
      let entries : base + i ≡ base + j = cc in
      omega arith

  pub pairing_bound : len ≤ base + T.first.states * T.second.states
  pairing_bound = omega (arith, pigeonhole (T.first.states * T.second.states) (len - base) Numbered placed unshared)
