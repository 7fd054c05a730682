-- Two rules whose left sides differ in one place: when they weigh the same after a push.
use Rattle.std.proofs.Common.{◌≡◌, ℕ, List, [], ◌∷◌, ◌++◌, sym, refl, ap, ◌∙◌, ap₂}
use Rattle.kinds.specs.Weights.{Weights}
use Rattle.automata.specs.Automata.{Transition}
use Rattle.automata.specs.Pushing.{undone, reweighed}
use Rattle.automata.proofs.Groups.{redo, right_injective, exchange, left_comm, inverse_times}

module _ {W : Type 0} (K : Weights W) where
  -- a rule's weight times its target's factor and the inverse of the factor at one child place
  abbrev pub shifted : (f : ℕ → W) → Transition W → ℕ → W
  shifted f r p = K.times (K.times r.weight (f r.target)) (K.inverse (f p))

  undone_place : (f : ℕ → W) (xs ys : List ℕ) (p : ℕ) → undone K f (xs ++ p ∷ ys) ≡ K.times (K.inverse (f p)) (undone K f (xs ++ ys))
  undone_place f [] ys p = refl
  undone_place f (x ∷ xs) ys p =
      ap (K.times (K.inverse (f x))) (undone_place f xs ys p) ∙ left_comm K (K.inverse (f x)) (K.inverse (f p)) (undone K f (xs ++ ys))

  reweighed_place : (f : ℕ → W) (r : Transition W) (xs ys : List ℕ) (p : ℕ) → r.children ≡ xs ++ p ∷ ys → (reweighed K f r).weight ≡ K.times (shifted f r p) (undone K f (xs ++ ys))
  reweighed_place f r xs ys p e =
      ap (λ x. K.times (K.times r.weight (f r.target)) (undone K f x)) e
      ∙ ap (K.times (K.times r.weight (f r.target))) (undone_place f xs ys p)
      ∙ sym (K.assoc (K.times r.weight (f r.target)) (K.inverse (f p)) (undone K f (xs ++ ys)))

  -- two rules whose left sides differ in one place weigh the same after the push if they do so by that place alone, and only if
  pub even_whole : (f : ℕ → W) (r r' : Transition W) (xs ys : List ℕ) (p q : ℕ) → r.children ≡ xs ++ p ∷ ys → r'.children ≡ xs ++ q ∷ ys → shifted f r p ≡ shifted f r' q → (reweighed K f r).weight ≡ (reweighed K f r').weight
  even_whole f r r' xs ys p q e k h =
      reweighed_place f r xs ys p e ∙ ap (λ x. K.times x (undone K f (xs ++ ys))) h ∙ sym (reweighed_place f r' xs ys q k)

  pub even_place : (f : ℕ → W) (r r' : Transition W) (xs ys : List ℕ) (p q : ℕ) → r.children ≡ xs ++ p ∷ ys → r'.children ≡ xs ++ q ∷ ys → (reweighed K f r).weight ≡ (reweighed K f r').weight → shifted f r p ≡ shifted f r' q
  even_place f r r' xs ys p q e k h =
      right_injective K (undone K f (xs ++ ys)) (shifted f r p) (shifted f r' q) (sym (reweighed_place f r xs ys p e) ∙ h ∙ reweighed_place f r' xs ys q k)

  -- w ((a (v w⁻¹)) x) (a y)⁻¹ = (v x) y⁻¹
  shift_forced : (w v a x y : W) → K.times (K.times w (K.times (K.times a (K.times v (K.inverse w))) x)) (K.inverse (K.times a y)) ≡ K.times (K.times v x) (K.inverse y)
  shift_forced w v a x y =
      let i : K.times a (K.times v (K.inverse w)) ≡ K.times (K.inverse w) (K.times a v) = ap (K.times a) (K.comm v (K.inverse w)) ∙ left_comm K a (K.inverse w) v in
      let j : K.times w (K.times (K.times a (K.times v (K.inverse w))) x) ≡ K.times a (K.times v x) =
      ap (λ z. K.times w (K.times z x)) i ∙ ap (K.times w) (K.assoc (K.inverse w) (K.times a v) x) ∙ redo K w (K.times (K.times a v) x) ∙ K.assoc a v x in
      ap₂ K.times j (inverse_times K a y)
      ∙ exchange K a (K.times v x) (K.inverse a) (K.inverse y)
      ∙ ap (λ z. K.times z (K.times (K.times v x) (K.inverse y))) (K.cancel a)
      ∙ K.unit (K.times (K.times v x) (K.inverse y))

  -- so they do if the factors of the two states have the quotient a, and those of the targets the one that a and the weights force
  pub even_forced : (f : ℕ → W) (a : W) (r r' : Transition W) (xs ys : List ℕ) (p q : ℕ) → r.children ≡ xs ++ p ∷ ys → r'.children ≡ xs ++ q ∷ ys → f p ≡ K.times a (f q) → f r.target ≡ K.times (K.times a (K.times r'.weight (K.inverse r.weight))) (f r'.target) → (reweighed K f r).weight ≡ (reweighed K f r').weight
  even_forced f a r r' xs ys p q e k i j =
      let even : shifted f r p ≡ shifted f r' q =
      ap₂ (λ x y. K.times (K.times r.weight x) (K.inverse y)) j i ∙ shift_forced r.weight r'.weight a (f r'.target) (f q) in
      even_whole f r r' xs ys p q e k even
