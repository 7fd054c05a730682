-- Classes that one live state after another enters, up to the whole numbering.
use Rattle.std.proofs.Common.{◌≡◌, ℕ, ◌+◌, ◌<◌, ◌≤◌, Bool, true, false, not, ◌&&◌, List, length, get_or, set, is_some, Some, None, Option, unwrap_or, sym, refl, ap, ◌∙◌, subst, inl, inr, ⊎_elim, arith, length-set}
use Rattle.std.proofs.lemmas.List.{get_or-set_other}
use Rattle.std.proofs.lemmas.Bool.{both_ways, and_cases, and_parts, not-true, not-false}
use Rattle.std.specs.Option.{MatchOption}
use Rattle.reduction.specs.Numbering.{UnmarkedAlike, Earlier, Entered}
use Rattle.reduction.proofs.Numbers.{class_of, Numbering, numbering_none, numbering_skip, numbering_join, numbering_open}

pub found_earlier : (live : ℕ → Bool) (marks : ℕ → ℕ → Bool) (q : ℕ) (o : Option ℕ) → MatchOption o ((k : ℕ) → 0 ≤ k → k < q → (live k && not (marks k q)) ≡ false) (λ i. (0 ≤ i) × (i < q) × ((live i && not (marks i q)) ≡ true) × ((k : ℕ) → 0 ≤ k → k < i → (live k && not (marks k q)) ≡ false)) → Earlier live marks q o
found_earlier live marks q None n = λ p l h. ⊎_elim (λ e. let z : ◌≡◌ {A = ℕ} 0 1 = cc in absurd (omega arith)) (not-false (marks p q)) (and_cases (live p) (not (marks p q)) (n p (omega arith) l))
found_earlier live marks q (Some p) f = let both = and_parts (live p) (not (marks p q)) f.2 in (f.1, both.0, not-true (marks p q) both.1)

some_value : (o : Option ℕ) → is_some o ≡ true → o ≡ Some (unwrap_or o 0)
some_value None e = let z : ◌≡◌ {A = ℕ} 0 1 = cc in absurd (omega arith)
some_value (Some m) e = refl

module _ (live : ℕ → Bool) (marks : ℕ → ℕ → Bool) where
  -- the states below n have been seen
  pub record Seen (places : List (Option ℕ)) (count n : ℕ) : Type 0 where
    pub long : length places ≡ 48
    pub small : count ≤ n
    pub empty : (q : ℕ) → n ≤ q → get_or places q None ≡ None
    pub numbered : UnmarkedAlike live marks → Numbering live marks places count n

  pub seen_none : (places : List (Option ℕ)) → length places ≡ 48 → ((q : ℕ) → get_or places q None ≡ None) → Seen places 0 0
  seen_none places long empty = record {
    long = long;
    small = omega arith;
    empty = λ q h. empty q;
    numbered = λ alike. numbering_none live marks places;
  }

  module _ (places : List (Option ℕ)) (count n : ℕ) (g : Seen places count n) where
    pub seen_skip : live n ≡ false → Seen places count (n + 1)
    seen_skip off = record {
      long = g.long;
      small = omega (arith, g.small);
      empty = λ q h. g.empty q (omega arith);
      numbered = λ alike. numbering_skip live marks places count n (g.numbered alike) off (g.empty n (omega arith));
    }

    later : (o : Option ℕ) (q : ℕ) → n + 1 ≤ q → get_or (set places n o) q None ≡ None
    later o q h = get_or-set_other places n q o None (λ e. omega arith) ∙ g.empty q (omega arith)

    pub seen_more : live n ≡ true → n < 48 → (places' : List (Option ℕ)) (count' : ℕ) → Entered live marks n places count places' count' → Seen places' count' (n + 1)
    seen_more on low places' count' (inl (p, early, put, same)) = record {
      long = ap length put ∙ length-set places n (get_or places p None) ∙ g.long;
      small = omega (arith, g.small);
      empty = λ q h. ap (λ xs. get_or xs q None) put ∙ later (get_or places p None) q h;
      numbered = λ alike.
          let x : Numbering live marks places count n = g.numbered alike in
          let m = class_of places p in
          let there : get_or places p None ≡ Some m = some_value (get_or places p None) (x.members p early.0 ∙ early.1) in
          let joined : Numbering live marks (set places n (Some m)) count (n + 1) =
          numbering_join live marks places count n x alike on m (omega (arith, g.long))
          (λ q h a. (
            (λ e. alike.transitive q p n a early.1 on ((x.classes q p h early.0 a early.1).0 e) early.2),
            (λ e. (x.classes q p h early.0 a early.1).1 (alike.transitive q n p a on early.1 e (alike.symmetric n p ∙ early.2))),
          ))
          (x.within p early.0 early.1) (omega (arith, x.least_below p early.0 early.1, early.0)) in
          subst (λ (k : ℕ). Numbering live marks places' k (n + 1)) (sym same)
          (subst (λ (xs : List (Option ℕ)). Numbering live marks xs count (n + 1)) (sym (put ∙ ap (set places n) there)) joined);
    }
    seen_more on low places' count' (inr (none, put, next)) = record {
      long = ap length put ∙ length-set places n (Some count) ∙ g.long;
      small = omega (arith, g.small);
      empty = λ q h. ap (λ xs. get_or xs q None) put ∙ later (Some count) q h;
      numbered = λ alike.
          let x : Numbering live marks places count n = g.numbered alike in
          let opened : Numbering live marks (set places n (Some count)) (count + 1) (n + 1) =
          numbering_open live marks places count n x alike on count (omega (arith, g.long))
          (λ q h a. ((λ e. absurd (omega (arith, x.within q h a))), (λ e. absurd (both_ways (marks q n) e (none q h a))))) refl in
          subst (λ (k : ℕ). Numbering live marks places' k (n + 1)) (sym next)
          (subst (λ (xs : List (Option ℕ)). Numbering live marks xs (count + 1) (n + 1)) (sym put) opened);
    }
