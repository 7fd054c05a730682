-- Going through the rules of two tables until a whole pass finds nothing new.
use Rattle.std.proofs.Common.{◌≡◌, ℕ, ◌+◌, ◌-◌, ◌*◌, ◌<◌, ◌≤◌, Bool, true, false, cond, ltb, ◌⊎◌, length, Some, None, Option, sym, refl, ap, ◌∙◌, subst, inl, inr, ⊎_elim, add-mul, arith}
use Rattle.std.specs.List.{slice_get}
use Rattle.std.proofs.lemmas.Bool.{ltb-true, ltb-false, lt-ltb, le-ltb, cases_eq, cond-true, cond-false}
use Rattle.kinds.specs.Weights.{Weights}
use Rattle.automata.specs.Runs.{At}
use Rattle.rules.specs.declared.side.Side.{Side}
use Rattle.comparison.specs.declared.exploring_cursor.Cursor.{Cursor}
use Rattle.comparison.specs.Scanning.{Two, ClearAt, ClearSince}
use Rattle.comparison.specs.Exploring.{Grown, advanced, Passed}
use Rattle.comparison.proofs.Restings.{since_kept}

-- the ways on
abbrev pub Way : ℕ → ℕ → ℕ → Cursor → Cursor → Type 0
Way i j len c d =
    ((c.first < i) × (d ≡ record { first = c.first + 1; second = c.second; start = c.start; since = c.since }))
    ⊎ (((i ≤ c.first) × (c.second < j) × (d ≡ record { first = c.first; second = c.second + 1; start = c.start; since = c.since }))
    ⊎ ((i ≤ c.first) × (j ≤ c.second) × (c.start < len) × (d ≡ record { first = 0; second = 0; start = len; since = Some c.start })))

pub ways : (i j len : ℕ) (c d : Cursor) → advanced i j len c ≡ Some d → Way i j len c d
ways i j len c d e = at (ltb c.first i) (ltb c.second j) (ltb c.start len) refl refl refl e
  where
    at : (x y z : Bool) → ltb c.first i ≡ x → ltb c.second j ≡ y → ltb c.start len ≡ z → cond x (Some (record { first = c.first + 1; second = c.second; start = c.start; since = c.since })) (cond y (Some (record { first = c.first; second = c.second + 1; start = c.start; since = c.since })) (cond z (Some (record { first = 0; second = 0; start = len; since = Some c.start })) None)) ≡ Some d → Way i j len c d
    at true y z f g h k = inl (ltb-true c.first i f, cc)
    at false true z f g h k = inr (inl (ltb-false c.first i f, ltb-true c.second j g, cc))
    at false false true f g h k = inr (inr (ltb-false c.first i f, ltb-false c.second j g, ltb-true c.start len h, cc))
    at false false false f g h k = let w : ◌≡◌ {A = ℕ} 0 1 = cc in absurd (omega arith)

-- no way on: the pass is over, and it found nothing
pub at_end : (i j len : ℕ) (c : Cursor) → advanced i j len c ≡ None → (i ≤ c.first) × (j ≤ c.second) × (len ≤ c.start)
at_end i j len c e = at (ltb c.first i) (ltb c.second j) (ltb c.start len) refl refl refl e
  where
    at : (x y z : Bool) → ltb c.first i ≡ x → ltb c.second j ≡ y → ltb c.start len ≡ z → cond {A = Option Cursor} x (Some (record { first = c.first + 1; second = c.second; start = c.start; since = c.since })) (cond y (Some (record { first = c.first; second = c.second + 1; start = c.start; since = c.since })) (cond z (Some (record { first = 0; second = 0; start = len; since = Some c.start })) None)) ≡ None → (i ≤ c.first) × (j ≤ c.second) × (len ≤ c.start)
    at true y z f g h k = let w : ◌≡◌ {A = ℕ} 0 1 = cc in absurd (omega arith)
    at false true z f g h k = let w : ◌≡◌ {A = ℕ} 0 1 = cc in absurd (omega arith)
    at false false true f g h k = let w : ◌≡◌ {A = ℕ} 0 1 = cc in absurd (omega arith)
    at false false false f g h k = (ltb-false c.first i f, ltb-false c.second j g, ltb-false c.start len h)

module _ {W : Type 0} (K : Weights W) (T : Two W) (R : Side → ℕ → Option (At W)) (N : ℕ → ℕ → Option ℕ) where
  clear_none : (m : ℕ) → ClearSince K T R N m 0 0
  clear_none m = record { first_clear = λ k r h. absurd (omega arith); second_clear = λ k r h. absurd (omega arith) }

  pub passed_none : (len : ℕ) → Passed K T R N len (record { first = 0; second = 0; start = len; since = None })
  passed_none len = record {
    first_low = omega arith;
    second_low = omega arith;
    start_low = omega arith;
    since_low = λ m e. let z : ◌≡◌ {A = ℕ} 0 1 = cc in absurd (omega arith);
    clear = clear_none len;
    quiet = λ m e. let z : ◌≡◌ {A = ℕ} 0 1 = cc in absurd (omega arith);
  }

  pub passed_found : (R' : Side → ℕ → Option (At W)) (N' : ℕ → ℕ → Option ℕ) (len : ℕ) (c : Cursor) → Grown R R' N N' len → Passed K T R N len c → Passed K T R' N' (len + 1) c
  passed_found R' N' len c grown p = record {
    first_low = p.first_low;
    second_low = p.second_low;
    start_low = omega (arith, p.start_low);
    since_low = λ m e. omega (arith, p.since_low m e);
    clear = since_kept K T R R' N N' len grown c.start c.first c.second p.start_low p.clear;
    quiet = λ m e. since_kept K T R R' N N' len grown m (length T.first.rules) (length T.second.rules) (p.since_low m e) (p.quiet m e);
  }

  first_more : (m i j : ℕ) → ClearAt K T R N i j → ClearSince K T R N m i j → ClearSince K T R N m (i + 1) j
  first_more m i j here before = record {
    first_clear = λ k r h e rested. ⊎_elim (λ same. here.0 r (ap (slice_get T.first.rules) (sym same) ∙ e)) (λ apart. before.first_clear k r (omega arith) e rested) (cases_eq k i);
    second_clear = before.second_clear;
  }

  second_more : (m i j : ℕ) → length T.first.rules ≤ i → ClearAt K T R N i j → ClearSince K T R N m i j → ClearSince K T R N m i (j + 1)
  second_more m i j past here before = record {
    first_clear = before.first_clear;
    second_clear = λ k r h e rested. ⊎_elim (λ same. here.1 past r (ap (slice_get T.second.rules) (sym same) ∙ e)) (λ apart. before.second_clear k r (omega arith) e rested) (cases_eq k j);
  }

  -- fewer rules
  clear_fewer : (m i j i' j' : ℕ) → i' ≤ i → j' ≤ j → ClearSince K T R N m i j → ClearSince K T R N m i' j'
  clear_fewer m i j i' j' low low' clear = record {
    first_clear = λ k r h. clear.first_clear k r (omega arith);
    second_clear = λ k r h. clear.second_clear k r (omega arith);
  }

  pub passed_on : (i j len : ℕ) (c d : Cursor) → length T.first.rules ≡ i → length T.second.rules ≡ j → ClearAt K T R N c.first c.second → Passed K T R N len c → advanced i j len c ≡ Some d → Passed K T R N len d
  passed_on i j len c d i-is j-is here p e = at (ways i j len c d e)
    where
      at : Way i j len c d → Passed K T R N len d
      at (inl w) = subst (Passed K T R N len) (sym w.1) (record {
        first_low = omega (arith, w.0);
        second_low = p.second_low;
        start_low = p.start_low;
        since_low = p.since_low;
        clear = first_more c.start c.first c.second here p.clear;
        quiet = p.quiet;
      })
      at (inr (inl w)) = subst (Passed K T R N len) (sym w.2) (record {
        first_low = p.first_low;
        second_low = omega (arith, w.1);
        start_low = p.start_low;
        since_low = p.since_low;
        clear = second_more c.start c.first c.second (omega (arith, w.0)) here p.clear;
        quiet = p.quiet;
      })
      at (inr (inr w)) = subst (Passed K T R N len) (sym w.3) (record {
        first_low = omega arith;
        second_low = omega arith;
        start_low = omega arith;
        since_low = λ m f. let same : c.start ≡ m = cc in omega (arith, w.2);
        clear = clear_none len;
        quiet = λ m f.
            let same : c.start ≡ m = cc in
            subst (λ (n : ℕ). ClearSince K T R N n (length T.first.rules) (length T.second.rules)) same
            (clear_fewer c.start c.first c.second (length T.first.rules) (length T.second.rules) (omega (arith, w.0)) (omega (arith, w.1)) p.clear);
      })

cond_most : (b : Bool) (n : ℕ) → cond b n 0 ≤ n
cond_most true n = omega arith
cond_most false n = omega arith

-- how much of the passes is left, and of the search in a work list of room places
abbrev pub pass_left : ℕ → ℕ → ℕ → Cursor → ℕ
pass_left i j len c = cond (ltb c.start len) (i + j + 1) 0 + (i + j - (c.first + c.second))

abbrev pub search_left : ℕ → ℕ → ℕ → ℕ → Cursor → ℕ
search_left room i j len c = (room - len) * (2 * (i + j) + 3) + pass_left i j len c

pub pass_falls : (i j len : ℕ) (c d : Cursor) → c.first ≤ i → c.second ≤ j → advanced i j len c ≡ Some d → pass_left i j len d < pass_left i j len c
pass_falls i j len c d l m e = at (ways i j len c d e)
  where
    at : Way i j len c d → pass_left i j len d < pass_left i j len c
    at (inl w) = subst (λ (x : Cursor). pass_left i j len x < pass_left i j len c) (sym w.1) (omega (arith, w.0))
    at (inr (inl w)) = subst (λ (x : Cursor). pass_left i j len x < pass_left i j len c) (sym w.2) (omega (arith, w.0, w.1))
    at (inr (inr w)) =
        let was : cond (ltb c.start len) (i + j + 1) 0 ≡ i + j + 1 = cond-true (ltb c.start len) (i + j + 1) 0 (lt-ltb c.start len w.2) in
        let is : cond (ltb len len) (i + j + 1) 0 ≡ 0 = cond-false (ltb len len) (i + j + 1) 0 (le-ltb len len (omega arith)) in
        subst (λ (x : Cursor). pass_left i j len x < pass_left i j len c) (sym w.3) (omega (arith, was, is))

pub search_falls : (room i j len : ℕ) (c : Cursor) → len < room → search_left room i j (len + 1) c < search_left room i j len c
search_falls room i j len c h =
    let step : room - len ≡ (room - (len + 1)) + 1 = omega arith in
    let size = 2 * (i + j) + 3 in
    let wide : (room - len) * size ≡ ((room - (len + 1)) + 1) * size = ap (λ n. n * size) step in
    let most : cond (ltb c.start (len + 1)) (i + j + 1) 0 ≤ i + j + 1 = cond_most (ltb c.start (len + 1)) (i + j + 1) in
    omega (arith, wide, most, add-mul (room - (len + 1)) 1 size)
