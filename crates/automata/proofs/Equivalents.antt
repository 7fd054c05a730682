-- Equivalence of states up to a factor is an equivalence relation and a congruence.
use Rattle.std.proofs.Common.{◌≡◌, ℕ, List, ◌∷◌, ◌++◌, Some, None, Option, sym, refl, ap, ◌∙◌}
use Rattle.std.specs.List.{AllByRecursion}
use Rattle.kinds.specs.Weights.{Weights}
use Rattle.automata.specs.Automata.{Transition, Automaton, find, Sound}
use Rattle.automata.specs.Runs.{applied}
use Rattle.automata.specs.Contexts.{Context, OverContext, value, scaled, Live, Equivalent}
use Rattle.automata.specs.Pushing.{given}
use Rattle.automata.specs.Equivalence.{Congruent, Equivalences}
use Rattle.automata.specs.Marking.{SameSigns}
use Rattle.automata.proofs.Groups.{cancel_left, right_injective, exchange, left_comm, inverse_times}
use Rattle.automata.proofs.Plugs.{nested, over_nested}
use Rattle.automata.proofs.SameSigns.{scaled_none, among, around, value_among, accesses, over_among, signs_accepting, signs_rule}

module _ {W : Type 0} (K : Weights W) where
  pub scaled_one : (o : Option W) → scaled K K.one o ≡ o
  scaled_one None = refl
  scaled_one (Some w) = ap Some (K.unit w)

  pub scaled_twice : (a b : W) (o : Option W) → scaled K a (scaled K b o) ≡ scaled K (K.times a b) o
  scaled_twice a b None = refl
  scaled_twice a b (Some w) = ap Some (sym (K.assoc a b w))

  -- a factor goes to the other side as its inverse
  pub scaled_back : (a : W) (o u : Option W) → scaled K a o ≡ u → o ≡ scaled K (K.inverse a) u
  scaled_back a o u e = sym (scaled_one o) ∙ ap (λ x. scaled K x o) (sym (cancel_left K a)) ∙ sym (scaled_twice (K.inverse a) a o) ∙ ap (scaled K (K.inverse a)) e

  -- (w v)⁻¹ (a (w u)) = a (u v⁻¹)
  forced : (w v a u : W) → K.times (K.inverse (K.times w v)) (K.times a (K.times w u)) ≡ K.times a (K.times u (K.inverse v))
  forced w v a u =
      ap (λ x. K.times x (K.times a (K.times w u))) (inverse_times K w v)
      ∙ left_comm K (K.times (K.inverse w) (K.inverse v)) a (K.times w u)
      ∙ ap (K.times a) (exchange K (K.inverse w) (K.inverse v) w u ∙ ap (λ x. K.times x (K.times (K.inverse v) u)) (cancel_left K w) ∙ K.unit (K.times (K.inverse v) u) ∙ K.comm (K.inverse v) u)

module _ {W : Type 0} (K : Weights W) (A : Automaton W) where
  reflexive : (p : ℕ) → Equivalent K A K.one p p
  reflexive p c o = sym (scaled_one K (value K A c p))

  symmetric : (a : W) (p q : ℕ) → Equivalent K A a p q → Equivalent K A (K.inverse a) q p
  symmetric a p q e c o = scaled_back K a (value K A c q) (value K A c p) (sym (e c o))

  transitive : (a b : W) (p q r : ℕ) → Equivalent K A a p q → Equivalent K A b q r → Equivalent K A (K.times a b) p r
  transitive a b p q r e k c o = e c o ∙ ap (scaled K a) (k c o) ∙ scaled_twice K a b (value K A c r)

  unique : (a b : W) (p q : ℕ) → Live K A q → Equivalent K A a p q → Equivalent K A b p q → a ≡ b
  unique a b p q l e k =
      let c : Context = l.sign.context in
      let w : W = l.sign.weight in
      let g : value K A c q ≡ Some w = l.sign.gives in
      let x : value K A c p ≡ scaled K a (value K A c q) = e c l.sign.over in
      let y : value K A c p ≡ scaled K b (value K A c q) = k c l.sign.over in
      let z : Some (K.times a w) ≡ Some (K.times b w) = sym (x ∙ ap (scaled K a) g) ∙ (y ∙ ap (scaled K b) g) in
      let v : K.times a w ≡ K.times b w = cc in
      right_injective K w a b v

  pub equivalent_signs : (a : W) (p q : ℕ) → Equivalent K A a p q → SameSigns K A p q
  equivalent_signs a p q e c o = ((λ h. scaled_none K a (value K A c q) (sym (e c o) ∙ h)), (λ h. e c o ∙ ap (scaled K a) h))

  pub alike_accepting : (a : W) (p q : ℕ) → Equivalent K A a p q → A.accepting p ≡ A.accepting q
  alike_accepting a p q e = signs_accepting K A p q (equivalent_signs a p q e)

  -- what a rule, and what is found for another left side, give above children of run weight w in every context
  abbrev Scales : W → W → Transition W → Option (Transition W) → Type 0
  Scales a w r o = (c : Context) → OverContext A.ranks c → scaled K (K.times w r.weight) (value K A c r.target) ≡ scaled K a (given K A c (applied K w o))

  targets_equivalent : (a w : W) (r r' : Transition W) → Scales a w r (Some r') → Equivalent K A (K.times a (K.times r'.weight (K.inverse r.weight))) r.target r'.target
  targets_equivalent a w r r' h c o =
      let u : W = K.times w r.weight in
      let v : W = K.times w r'.weight in
      let x : Option W = value K A c r'.target in
      scaled_back K u (value K A c r.target) (scaled K a (scaled K v x)) (h c o)
      ∙ ap (scaled K (K.inverse u)) (scaled_twice K a v x)
      ∙ scaled_twice K (K.inverse u) (K.times a v) x
      ∙ ap (λ y. scaled K y x) (forced K w r.weight a r'.weight)

  congruent : Sound A → (s : ℕ) (before after : List ℕ) (a : W) (p q : ℕ) (r : Transition W) → find A.rules s (before ++ p ∷ after) ≡ Some r → AllByRecursion (Live K A) r.children → Live K A r.target → Live K A q → Equivalent K A a p q → Congruent K A a r s (before ++ q ∷ after)
  congruent sound s before after a p q r e lives target l h =
      let t = accesses K A s before after p r e lives in
      let w : W = around K A before after t.0 t.1 in
      let d : Context = among K A s before after t.0 t.1 in
      let over : OverContext A.ranks d = over_among K A sound s before after t.0 t.1 p r e in
      let scales : Scales a w r (find A.rules s (before ++ q ∷ after)) = λ c o.
      sym (value_among K A c s before after t.0 t.1 p ∙ ap (λ x. given K A c (applied K w x)) e)
      ∙ h (nested c d) (over_nested A.ranks c d o over)
      ∙ ap (scaled K a) (value_among K A c s before after t.0 t.1 q) in
      let f = signs_rule K A sound s before after p q r e lives (equivalent_signs a p q h) target l in
      record {
        other = f.0;
        there = f.1;
        live_target = f.2;
        equivalent = targets_equivalent a w r f.0 (rw f.1 at scales);
      }

  pub equivalences : Sound A → Equivalences K A
  equivalences sound = record { reflexive = reflexive; symmetric = symmetric; transitive = transitive; unique = unique; congruent = congruent sound }
