-- The states of one class get their factors by a rule whose target is chosen.
use Rattle.std.proofs.Common.{◌≡◌, ℕ, ◌+◌, ◌<◌, ◌≤◌, Bool, true, false, ◌⊎◌, List, ◌∷◌, ◌++◌, Some, sym, refl, ap, ◌∙◌, subst, inl, inr, ⊎_elim, arith}
use Rattle.std.proofs.lemmas.Bool.{both_ways, cases_Bool, cases_eq, cases_lt}
use Rattle.kinds.specs.Weights.{Weights}
use Rattle.automata.specs.Automata.{Transition, Automaton, find}
use Rattle.automata.specs.Runs.{applied}
use Rattle.automata.specs.Contexts.{Context, value, scaled}
use Rattle.automata.specs.Marking.{FirstRound}
use Rattle.automata.specs.Merging.{keeps}
use Rattle.automata.specs.Pushing.{given}
use Rattle.automata.proofs.Groups.{exchange}
use Rattle.automata.proofs.Lives.{state_within}
use Rattle.automata.proofs.Marks.{counterpart, children_all_live, first_round}
use Rattle.automata.proofs.Rows.{Access}
use Rattle.automata.proofs.Plugs.{nested, over_nested}
use Rattle.automata.proofs.SameSigns.{among, around, value_among, accesses, over_among}
use Rattle.reduction.specs.Choosing.{Ready, Common, Choosing, Given}

-- a rule r with p in one child place
module _ {W : Type 0} (K : Weights W) (A : Automaton W) (live : ℕ → Bool) (marks : ℕ → ℕ → Bool) (chosen : ℕ → Bool) (f : ℕ → W) (s : ℕ) (before after : List ℕ) (p : ℕ) (r : Transition W) where
  -- q has a rule in the place of p, and the weight that it leads to
  pub record Led (q : ℕ) (w : W) : Type 0 where
    pub rule : Transition W
    pub found : find A.rules s (before ++ q ∷ after) ≡ Some rule
    pub target_chosen : chosen rule.target ≡ true
    pub target_unmarked : marks r.target rule.target ≡ false
    pub leads : w ≡ K.times rule.weight (f rule.target)

  -- the states of the class below n have their factors, and nothing else has changed
  pub record Following (chosen' : ℕ → Bool) (f' : ℕ → W) (n : ℕ) : Type 0 where
    pub kept : (q : ℕ) → chosen q ≡ true → (chosen' q ≡ true) × (f' q ≡ f q)
    pub got : (q : ℕ) → q < n → live q ≡ true → marks p q ≡ false → (chosen' q ≡ true) × Led q (f' q)
    pub only : (q : ℕ) → chosen' q ≡ true → (chosen q ≡ true) ⊎ ((q < n) × (live q ≡ true) × (marks p q ≡ false))

module _ {W : Type 0} (K : Weights W) (A : Automaton W) (live : ℕ → Bool) (marks : ℕ → ℕ → Bool) (places : ℕ) (ready : Ready K A live marks places) where
  abbrev Round : Type 0
  Round = FirstRound K A live marks

  round : Round
  round = first_round K A live marks ready.sound ready.decides

  pub unmarked_self : (p : ℕ) → marks p p ≡ false
  unmarked_self p = round.unmarked_reflexive ready.told.true_signs p

  pub unmarked_onward : (p q r : ℕ) → live p ≡ true → live q ≡ true → live r ≡ true → marks p q ≡ false → marks q r ≡ false → marks p r ≡ false
  unmarked_onward = round.unmarked_transitive ready.told.true_signs ready.told.symmetric ready.told.at_rest

  pub unmarked_swapped : (p q : ℕ) → marks p q ≡ false → marks q p ≡ false
  unmarked_swapped p q e = ready.told.symmetric q p ∙ e

  -- a live state is one of the automaton's
  pub live_within : (q : ℕ) → live q ≡ true → q < A.states
  live_within q l =
      let r = ((ready.decides q).0 l).reachable in
      state_within K A ready.sound r.tree (record { state = q; weight = r.weight }) r.runs_to

  -- a rule whose states are live, with p in one child place and a chosen target, while p is not chosen
  module _ (chosen : ℕ → Bool) (f : ℕ → W) (g : Choosing K A live marks chosen f) (s : ℕ) (before after : List ℕ) (p : ℕ) (r : Transition W)
      (there : find A.rules s (before ++ p ∷ after) ≡ Some r) (keep : keeps live r ≡ true) (on : live p ≡ true) (target : chosen r.target ≡ true) (off : chosen p ≡ false) where
    abbrev Leading : ℕ → W → Type 0
    Leading = Led K A live marks chosen f s before after p r

    abbrev Classed : (ℕ → Bool) → (ℕ → W) → ℕ → Type 0
    Classed = Following K A live marks chosen f s before after p r

    -- no state of the class of p is chosen
    not_chosen : (q : ℕ) → chosen q ≡ true → marks p q ≡ false → ⊥
    not_chosen q h e = both_ways (chosen p) off (g.closed q p h on (unmarked_swapped p q e))

    -- the rule that there is for each state of the class
    pub other_rule : (q : ℕ) → live q ≡ true → marks p q ≡ false → (r' : Transition W) × (find A.rules s (before ++ q ∷ after) ≡ Some r') × (chosen r'.target ≡ true) × (marks r.target r'.target ≡ false)
    other_rule q l e =
        let k = counterpart K A live ready.decides marks ready.told.at_rest s before after p q r (record { this_live = on; other_live = l; unmarked = e }) there keep in
        (k.0, k.1, g.closed r.target k.0.target target k.3.other_live k.3.unmarked, k.3.unmarked)

    pub following_none : Classed chosen f 0
    following_none = record { kept = λ q h. (h, refl); got = λ q h. absurd (omega arith); only = λ q h. inl h }

    module _ (chosen' : ℕ → Bool) (f' : ℕ → W) (n : ℕ) (h : Classed chosen' f' n) where
      only_more : (q : ℕ) → chosen' q ≡ true → (chosen q ≡ true) ⊎ ((q < n + 1) × (live q ≡ true) × (marks p q ≡ false))
      only_more q k = ⊎_elim (λ x. inl x) (λ x. inr (omega (arith, x.0), x.1, x.2)) (h.only q k)

      -- the next state is not of the class
      pub following_past : (live n ≡ true → marks p n ≡ false → ⊥) → Classed chosen' f' (n + 1)
      following_past past = record {
        kept = h.kept;
        got = λ q low l e. ⊎_elim (λ k. h.got q k l e) (λ k. let i : q ≡ n = omega arith in absurd (past (ap live (sym i) ∙ l) (ap (marks p) (sym i) ∙ e))) (cases_lt q n);
        only = only_more;
      }

      -- the next state is of the class
      module _ (l : live n ≡ true) (e : marks p n ≡ false) where
        pub next_off : chosen' n ≡ false
        next_off = ⊎_elim (λ k. absurd (⊎_elim (λ x. not_chosen n x e) (λ x. omega (arith, x.0)) (h.only n k))) (λ k. k) (cases_Bool (chosen' n))

        pub following_more : (chosen'' : ℕ → Bool) (f'' : ℕ → W) → ((r' : Transition W) → find A.rules s (before ++ n ∷ after) ≡ Some r' → chosen' n ≡ false → Given n (K.times r'.weight (f' r'.target)) chosen' f' chosen'' f'') → Classed chosen'' f'' (n + 1)
        following_more chosen'' f'' gives =
            let k = other_rule n l e in
            let d : Given n (K.times k.0.weight (f' k.0.target)) chosen' f' chosen'' f'' = gives k.0 k.1 next_off in
            let leads : f'' n ≡ K.times k.0.weight (f k.0.target) = d.factor ∙ ap (K.times k.0.weight) (h.kept k.0.target k.2).1 in
            record {
              kept = λ q c.
                  let x = h.kept q c in
                  let n_other : q ≡ n → ⊥ = λ i. not_chosen q c (ap (marks p) i ∙ e) in
                  (d.other_flags q n_other ∙ x.0, d.other_factors q n_other ∙ x.1);
              got = λ q low m j.
                  ⊎_elim
                  (λ k'. let x = h.got q k' m j in let n_other : q ≡ n → ⊥ = λ i. omega arith in
                  (d.other_flags q n_other ∙ x.0, subst (Leading q) (sym (d.other_factors q n_other)) x.1))
                  (λ k'. let i : n ≡ q = omega arith in
                  subst (λ (y : ℕ). (chosen'' y ≡ true) × Leading y (f'' y)) i (d.flagged, record { rule = k.0; found = k.1; target_chosen = k.2; target_unmarked = k.3; leads = leads })) (cases_lt q n);
              only = λ q c.
                  ⊎_elim (λ i. inr (omega arith, ap live i ∙ l, ap (marks p) i ∙ e))
                  (λ i. only_more q (sym (d.other_flags q i) ∙ c)) (cases_eq q n);
            }

    module _ (chosen' : ℕ → Bool) (f' : ℕ → W) (n : ℕ) (all : A.states ≤ n) (h : Classed chosen' f' n) where
      -- every state of the class
      mate : (q : ℕ) → live q ≡ true → marks p q ≡ false → (chosen' q ≡ true) × Leading q (f' q)
      mate q l e = h.got q (omega (arith, live_within q l)) l e

      pub first_chosen : chosen' p ≡ true
      first_chosen = (mate p on (unmarked_self p)).0

      -- the context of the targets' class, with the rule's symbol and siblings in its hole
      led_common : (x y : ℕ) → Leading x (f' x) → Leading y (f' y) → Common K A f' x y
      led_common x y a b =
          let t = accesses K A s before after p r there (children_all_live K A live ready.decides r keep) in
          let w = around K A before after t.0 t.1 in
          let target_live = λ (q : Transition W) (c : chosen q.target ≡ true). g.living q.target c in
          let j = g.common a.rule.target b.rule.target a.target_chosen b.target_chosen
          (unmarked_onward a.rule.target r.target b.rule.target (target_live a.rule a.target_chosen) (target_live r target) (target_live b.rule b.target_chosen)
          (unmarked_swapped r.target a.rule.target a.target_unmarked) b.target_unmarked) in
          let c = j.0 in
          let z = j.1 in (
            nested c (among K A s before after t.0 t.1),
            K.times w z,
            over_nested A.ranks c (among K A s before after t.0 t.1) j.2 (over_among K A ready.sound s before after t.0 t.1 p r there),
            gives t c z x (f' x) a.rule a.found j.3 a.leads,
            gives t c z y (f' y) b.rule b.found j.4 b.leads,
          )
        where
          gives : (t : Access K A before × Access K A after) (c : Context) (z : W) (q : ℕ) (v : W) (r' : Transition W) → find A.rules s (before ++ q ∷ after) ≡ Some r' → value K A c r'.target ≡ Some (K.times z (f r'.target)) → v ≡ K.times r'.weight (f r'.target)
              → value K A (nested c (among K A s before after t.0 t.1)) q ≡ Some (K.times (K.times (around K A before after t.0 t.1) z) v)
          gives t c z q v r' found value-is leads =
              let w = around K A before after t.0 t.1 in
              value_among K A c s before after t.0 t.1 q
              ∙ ap (λ o. given K A c (applied K w o)) found
              ∙ ap (scaled K (K.times w r'.weight)) value-is
              ∙ ap Some (exchange K w r'.weight z (f r'.target) ∙ ap (K.times (K.times w z)) (sym leads))

      pub following_all : Choosing K A live marks chosen' f'
      following_all = record {
        living = λ q c. ⊎_elim (g.living q) (λ x. x.1) (h.only q c);
        accepting = λ q l a. let x = g.accepting q l a in let y = h.kept q x.0 in (y.0, y.1 ∙ x.1);
        closed = λ x y c l e.
            ⊎_elim (λ k. (h.kept y (g.closed x y k l e)).0)
            (λ k. (mate y l (unmarked_onward p x y on k.1 l k.2 e)).0) (h.only x c);
        common = λ x y c d e. at x y c d e (h.only x c) (⊎_elim (g.living y) (λ k. k.1) (h.only y d));
      }
        where
          old : (x y : ℕ) → Common K A f x y → f' x ≡ f x → f' y ≡ f y → Common K A f' x y
          old x y j a b =
              (j.0, j.1, j.2, j.3 ∙ ap (λ v. Some (K.times j.1 v)) (sym a), j.4 ∙ ap (λ v. Some (K.times j.1 v)) (sym b))

          at : (x y : ℕ) → chosen' x ≡ true → chosen' y ≡ true → marks x y ≡ false → (chosen x ≡ true) ⊎ ((x < n) × (live x ≡ true) × (marks p x ≡ false)) → live y ≡ true → Common K A f' x y
          at x y c d e (inl k) l =
              let m = g.closed x y k l e in
              old x y (g.common x y k m e) (h.kept x k).1 (h.kept y m).1
          at x y c d e (inr k) l =
              led_common x y (mate x k.1 k.2).1 (mate y l (unmarked_onward p x y on k.1 l k.2 e)).1
