-- Marking, round two: the marks are true, and states that stay unmarked are equivalent by the quotient of their factors.
use Rattle.std.proofs.Common.{◌≡◌, ℕ, Bool, true, ◌∷◌, ◌++◌, Some, None, Option, sym, refl, ap, ◌∙◌, ap₂}
use Rattle.std.proofs.lemmas.Bool.{both_ways}
use Rattle.kinds.specs.Weights.{Weights}
use Rattle.automata.specs.Automata.{Transition, Automaton, Sound}
use Rattle.automata.specs.Runs.{At, Ats}
use Rattle.automata.specs.Contexts.{value, scaled, Equivalent}
use Rattle.automata.specs.Pushing.{reweighed}
use Rattle.automata.specs.Marking.{Swapped, MarksFirst, MarksSecond, as_first, uneven, DecidesLive, TrueMarks, Symmetric, AtRest, Chosen, SecondRound}
use Rattle.automata.proofs.Groups.{unit_right, cancel_left, undo, left_injective, exchange, left_comm, weight_discrete}
use Rattle.automata.proofs.Finds.{find_children}
use Rattle.automata.proofs.Drops.{kept_target}
use Rattle.automata.proofs.Places.{shifted, even_place, even_forced}
use Rattle.automata.proofs.Simulations.{reached, Kept, Gives, value_simulated}
use Rattle.automata.proofs.Marks.{Unmarked, unmarked_back, not_marked, live_keeps, swapped_equivalent, true_marks, accept_alike, counterpart, nothing_back}

module _ {W : Type 0} (K : Weights W) where
  -- ((b (x d)) v) t = ((b d) ((v t) y⁻¹)) (x y)
  gathered : (b x d v t y : W) → K.times (K.times (K.times b (K.times x d)) v) t ≡ K.times (K.times (K.times b d) (K.times (K.times v t) (K.inverse y))) (K.times x y)
  gathered b x d v t y =
      let m : W = K.times (K.times v t) (K.inverse y) in
      K.assoc (K.times b (K.times x d)) v t
      ∙ ap₂ K.times
      (ap (K.times b) (K.comm x d) ∙ sym (K.assoc b d x))
      (sym (K.assoc (K.times v t) (K.inverse y) y ∙ ap (K.times (K.times v t)) (cancel_left K y) ∙ unit_right K (K.times v t)))
      ∙ exchange K (K.times b d) x m y

  -- a run weight times the factor of its state, and the same for another run, differ by k
  abbrev pub Differ : (f : ℕ → W) (k : W) → At W → At W → Type 0
  Differ f k x y = K.times (K.times x.weight (f x.state)) k ≡ K.times y.weight (f y.state)

  pub differ_reached : (f : ℕ → W) (k : W) (b d : Ats W) (x y : At W) (r r' : Transition W) → shifted K f r x.state ≡ shifted K f r' y.state → Differ f k x y → Differ f k (reached K b x d r) (reached K b y d r')
  differ_reached f k b d x y r r' e h =
      let n : W = K.times b.weight d.weight in
      ap (λ z. K.times z k) (gathered b.weight x.weight d.weight r.weight (f r.target) (f x.state))
      ∙ K.assoc (K.times n (shifted K f r x.state)) (K.times x.weight (f x.state)) k
      ∙ ap₂ (λ z v. K.times (K.times n z) v) e h
      ∙ sym (gathered b.weight y.weight d.weight r'.weight (f r'.target) (f y.state))

  -- the factor by which the states p and q differ at the start
  start_differ : (f : ℕ → W) (p q : ℕ) → Differ f (K.times (f q) (K.inverse (f p))) (record { state = p; weight = K.one }) (record { state = q; weight = K.one })
  start_differ f p q =
      ap (λ x. K.times x (K.times (f q) (K.inverse (f p)))) (K.unit (f p))
      ∙ left_comm K (f p) (f q) (K.inverse (f p))
      ∙ ap (K.times (f q)) (K.cancel (f p))
      ∙ K.comm (f q) K.one

  -- x (b a⁻¹) = y says that x = (a b⁻¹) y
  quotient_back : (a b x y : W) → K.times x (K.times b (K.inverse a)) ≡ y → x ≡ K.times (K.times a (K.inverse b)) y
  quotient_back a b x y e =
      let i : K.times (K.times a (K.inverse b)) (K.times b (K.inverse a)) ≡ K.one =
      K.assoc a (K.inverse b) (K.times b (K.inverse a)) ∙ ap (K.times a) (undo K b (K.inverse a)) ∙ K.cancel a in
      sym (ap (K.times (K.times a (K.inverse b))) (sym e) ∙ left_comm K (K.times a (K.inverse b)) x (K.times b (K.inverse a)) ∙ ap (K.times x) i ∙ unit_right K x)

module _ {W : Type 0} (K : Weights W) (A : Automaton W) (live : ℕ → Bool) (decides : DecidesLive K A live) (f : ℕ → W) (marks : ℕ → ℕ → Bool) where
  module _ (sound : Sound A) (first : ℕ → ℕ → Bool) (true_first : TrueMarks K A first) (chosen : Chosen K A live first f) where
    -- the factors of equivalent states have the quotient by which the states are equivalent
    factors : (p q : ℕ) → live p ≡ true → live q ≡ true → (a : W) → Equivalent K A a p q → f p ≡ K.times a (f q)
    factors p q l m a e =
        let c = chosen p q l m (not_marked (first p q) (λ n. true_first p q n a e)) in
        let z : W = c.1 in
        let g : Some (K.times z (f p)) ≡ Some (K.times a (K.times z (f q))) = sym c.3 ∙ e c.0 c.2 ∙ ap (scaled K a) c.4 in
        let h : K.times z (f p) ≡ K.times a (K.times z (f q)) = cc in
        left_injective K z (f p) (K.times a (f q)) (h ∙ left_comm K a z (f q))

    true_second : TrueMarks K A marks → (p q : ℕ) → live p ≡ true → live q ≡ true → MarksSecond K A live f marks p q → (a : W) → Equivalent K A a p q → ⊥
    true_second true-so-far p q l m (as_first h) a e = true_marks K A live decides sound marks true-so-far p q h a e
    true_second true-so-far p q l m (uneven r r' h n) a e =
        let t = kept_target live r h.first_live in
        let i = factors r.target r'.target t h.second_live (K.times a (K.times r'.weight (K.inverse r.weight))) (swapped_equivalent K A live decides sound a p q r r' h e) in
        let j = factors p q l m a e in
        n (even_forced K f a r r' h.before h.after p q (find_children A.rules h.symbol (h.before ++ p ∷ h.after) r h.first) (find_children A.rules h.symbol (h.before ++ q ∷ h.after) r' h.second) j i)

  module _ (rest : AtRest live marks (MarksSecond K A live f marks)) where
    rest_first : AtRest live marks (MarksFirst A live marks)
    rest_first p q l m h = rest p q l m (as_first h)

    -- the rules of an unmarked pair weigh the same after the push
    even : (p q : ℕ) (r r' : Transition W) → Unmarked live marks p q → Swapped A live p q r r' → (reweighed K f r).weight ≡ (reweighed K f r').weight
    even p q r r' u h = elim (weight_discrete K (reweighed K f r).weight (reweighed K f r').weight) [
      | yes e ↦ e
      | no n ↦ absurd (both_ways (marks p q) u.unmarked (rest p q u.this_live u.other_live (uneven r r' h n)))
    ]

    -- the states of two runs are not marked, and their weights with the factors differ by k
    abbrev Related : W → At W → At W → Type 0
    Related k x y = Unmarked live marks x.state y.state × Differ K f k x y

    kept : (k : W) → Kept K A (Related k)
    kept k s b d x y r h e children target =
        let g = counterpart K A live decides marks rest_first s b.states d.states x.state y.state r h.0 e (live_keeps K A live decides r children target) in
        let r' = g.0 in
        let shift = even_place K f r r' b.states d.states x.state y.state (find_children A.rules s (b.states ++ x.state ∷ d.states) r e) (find_children A.rules s (b.states ++ y.state ∷ d.states) r' g.1) (even x.state y.state r r' h.0 g.2) in
        (r', g.1, (g.3, differ_reached K f k b d x y r r' shift h.1))

    complete_second : Symmetric marks → ((q : ℕ) → live q ≡ true → A.accepting q ≡ true → f q ≡ K.one) → (p q : ℕ) → Unmarked live marks p q → Equivalent K A (K.times (f p) (K.inverse (f q))) p q
    complete_second symmetric ones p q u c over = at (value K A c p) refl
      where
        k : W
        k = K.times (f q) (K.inverse (f p))

        same : (x y : At W) → Related k x y → A.accepting x.state ≡ A.accepting y.state
        same x y h = accept_alike K A live decides marks rest_first x.state y.state h.0

        at : (o : Option W) → value K A c p ≡ o → o ≡ scaled K (K.times (f p) (K.inverse (f q))) (value K A c q)
        at None h = sym (ap (scaled K (K.times (f p) (K.inverse (f q)))) (nothing_back K A live decides marks rest_first q p (unmarked_back live marks symmetric p q u) c over h))
        at (Some w) h =
            let g : Gives K A (Related k) w (value K A c q) = value_simulated K A (Related k) (kept k) same c p q w over ((decides p).0 u.this_live).reachable (u, start_differ K f p q) h in
            let x = g.this in
            let y = g.other in
            let i : f x.state ≡ K.one = ones x.state g.related.0.this_live g.accepts in
            let j : f y.state ≡ K.one = ones y.state g.related.0.other_live (sym (same x y g.related) ∙ g.accepts) in
            let d : K.times w k ≡ y.weight =
            ap (λ z. K.times z k) (sym (unit_right K w))
            ∙ ap₂ (λ z v. K.times (K.times z v) k) (sym g.this_weight) (sym i)
            ∙ g.related.1
            ∙ ap (K.times y.weight) j
            ∙ unit_right K y.weight in
            ap Some (quotient_back K (f p) (f q) w y.weight d) ∙ ap (scaled K (K.times (f p) (K.inverse (f q)))) (sym g.other_gives)

pub second_round : {W : Type 0} (K : Weights W) (A : Automaton W) (live : ℕ → Bool) (first : ℕ → ℕ → Bool) (f : ℕ → W) (marks : ℕ → ℕ → Bool) → Sound A → DecidesLive K A live → TrueMarks K A first → Chosen K A live first f → SecondRound K A live f marks
second_round K A live first f marks sound decides true_first chosen = record {
  truthful = true_second K A live decides f marks sound first true_first chosen;
  complete = λ symmetric ones rest p q l m u. complete_second K A live decides f marks rest symmetric ones p q (record { this_live = l; other_live = m; unmarked = u });
}
