-- A pass over the rules from the leaves up: each state that is added is derived, and a pass that adds none leaves nothing to add.
use Rattle.liveness.specs.Reaching.{rule_of}
use Rattle.liveness.specs.Listings.{none_found, flags_of, found_too}
use Rattle.std.proofs.Common.{◌≡◌, ℕ, ◌+◌, ◌<◌, ◌≤◌, false, List, map, length, get_or, take, Some, sym, refl, ap, ◌∙◌, subst, inl, inr, arith, below_more}
use Rattle.std.specs.List.{ContainsAt, AllByRecursion, slice_get}
use Rattle.std.proofs.lemmas.List.{length-map, get_or-map}
use Rattle.std.proofs.lemmas.Option.{slice_get-get_or}
use Rattle.std.proofs.ByRecursion.{All-weaker}
use Rattle.automata.specs.Automata.{Transition, Automaton}
use Rattle.liveness.specs.Listings.{Reach}
use Rattle.liveness.specs.Listings.{Flagged}
use Rattle.liveness.specs.Reaching.{Derived, Follows, Reaching, Tried}
use Rattle.std.specs.Option.{unwrap_or}
use Rattle.liveness.proofs.Listings.{listed_none, traced_more}
use Rattle.liveness.proofs.Founds.{Sized, sized_more, flags_long, how_here, how_other, listed_too}

-- the element that was read at a place of a list, under a map
pub nth_mapped : {X Y : Type 0} (f : X → Y) (xs : List X) (i : ℕ) (x : X) → i < length xs → x ≡ get_or xs i x → slice_get (map f xs) i ≡ Some (f x)
nth_mapped f xs i x h e =
    let l : i < length (map f xs) = rw (length-map xs f) h in
    slice_get-get_or (map f xs) i (f x) l ∙ ap Some (get_or-map f xs i x (f x) h ∙ ap f (sym e))

-- what holds at every place below n holds of every element
pub has_below : {X : Type 0} (P : X → Type 0) (xs : List X) (n : ℕ) → length xs ≤ n → ((k : ℕ) → k < n → (x : X) → slice_get xs k ≡ Some x → P x) → (x : X) → ContainsAt xs x → P x
has_below P xs n long all x h = all h.0 (omega (arith, h.1)) x (slice_get-get_or xs h.0 x h.1 ∙ ap Some (h.2 x))

module _ {W : Type 0} (A : Automaton W) where
  -- the list has grown since it was b long, or the first i rules follow
  abbrev pub Rising : ℕ → Reach → ℕ → Type 0
  Rising b R i =
      Sized R × Reaching A R × (b ≤ R.count) × (R.count ≡ b → (k : ℕ) → k < i → (r : Transition W) → slice_get A.rules k ≡ Some r → Follows A R r)

  module _ (few : A.states ≤ 48) (R : Reach) (sized : Sized R) (g : Reaching A R) where
    reaching_more : (r : Transition W) (j : ℕ) → slice_get A.rules j ≡ Some r → r.target < A.states → get_or (flags_of R) r.target false ≡ false → AllByRecursion (Flagged (flags_of R)) r.children → Reaching A (found_too R r.target j)
    reaching_more r j there new off all =
        let q = r.target in
        let last : Derived A (take R.count R.order) q j = record {
          rule = r;
          there = there;
          target = refl;
          children = All-weaker (Flagged (flags_of R)) (ContainsAt (take R.count R.order)) (λ p f. (g.0.flagged p).0 f) r.children all;
        } in (
          listed_too R sized q j A.states few g.0 new off,
          traced_more A.states (flags_of R) R.order R.count (flags_long R sized q j) sized.order few g.0 q new off
              (λ xs p. Derived A xs p (rule_of R p)) (λ xs p. Derived A xs p (rule_of (found_too R q j) p))
              (λ xs p n d. subst (Derived A xs p) (sym (ap (λ o. unwrap_or o 0) (how_other R sized q j p n))) d)
              (subst (Derived A (take R.count R.order) q) (sym (ap (λ o. unwrap_or o 0) (how_here R sized q j (omega arith)))) last)
              g.1,
        )

  pub tried_more : A.states ≤ 48 → (R R' : Reach) (r : Transition W) (j b : ℕ) → slice_get A.rules j ≡ Some r → Tried A.states r.children r.target j R R' → Rising b R j → Rising b R' (j + 1)
  tried_more few R R' r j b there (inl t) g =
      subst (λ S. Rising b S (j + 1)) (sym t.0)
      (g.0, g.1, g.2, λ e. below_more _ _ (g.3 e) (λ x h. let same : r ≡ x = cc in subst (Follows A R) same t.1))
  tried_more few R R' r j b there (inr t) g =
      subst (λ S. Rising b S (j + 1)) (sym t.0)
      (sized_more R g.0 r.target j, reaching_more few R g.0 g.1 r j there t.1 t.2 t.3, omega (arith, g.2), λ e. absurd (omega (arith, g.2)))

pub reaching_none : {W : Type 0} (A : Automaton W) → Reaching A none_found
reaching_none A = (listed_none A.states, λ i h. absurd (omega arith))
