-- What the laws of a kind give: the unit on the right, cancelling, inverses of one and of products, and deciding equality.
use Rattle.std.proofs.Common.{◌≡◌, sym, ap, ◌∙◌}
use mathlib.Core.HLevel.{Discrete}
use lib.IntN.{ℤ_discrete}
use Rattle.kinds.specs.Weights.{Weights}

module _ {W : Type 0} (K : Weights W) where
  pub unit_right : (a : W) → K.times a K.one ≡ a
  unit_right a = K.comm a K.one ∙ K.unit a

  pub cancel_left : (a : W) → K.times (K.inverse a) a ≡ K.one
  cancel_left a = K.comm (K.inverse a) a ∙ K.cancel a

  -- a⁻¹ (a b) = b
  pub undo : (a b : W) → K.times (K.inverse a) (K.times a b) ≡ b
  undo a b = sym (K.assoc (K.inverse a) a b) ∙ ap (λ x. K.times x b) (cancel_left a) ∙ K.unit b

  -- a (a⁻¹ b) = b
  pub redo : (a b : W) → K.times a (K.times (K.inverse a) b) ≡ b
  redo a b = sym (K.assoc a (K.inverse a) b) ∙ ap (λ x. K.times x b) (K.cancel a) ∙ K.unit b

  pub left_injective : (a b c : W) → K.times a b ≡ K.times a c → b ≡ c
  left_injective a b c e = sym (undo a b) ∙ ap (K.times (K.inverse a)) e ∙ undo a c

  pub right_injective : (a b c : W) → K.times b a ≡ K.times c a → b ≡ c
  right_injective a b c e = left_injective a b c (K.comm a b ∙ e ∙ K.comm c a)

  -- the inverse is the only weight that gives one
  pub inverse_unique : (a b : W) → K.times a b ≡ K.one → b ≡ K.inverse a
  inverse_unique a b e = left_injective a b (K.inverse a) (e ∙ sym (K.cancel a))

  pub inverse_one : K.inverse K.one ≡ K.one
  inverse_one = sym (inverse_unique K.one K.one (K.unit K.one))

  pub inverse_inverse : (a : W) → K.inverse (K.inverse a) ≡ a
  inverse_inverse a = sym (inverse_unique (K.inverse a) a (cancel_left a))

  -- (a b) (c d) = (a c) (b d)
  pub exchange : (a b c d : W) → K.times (K.times a b) (K.times c d) ≡ K.times (K.times a c) (K.times b d)
  exchange a b c d =
      let p = K.assoc a b (K.times c d) in
      let q = K.assoc b c d in
      let r = K.comm b c in
      let s = K.assoc c b d in
      let t = K.assoc a c (K.times b d) in
      cc

  -- a (b c) = b (a c)
  pub left_comm : (a b c : W) → K.times a (K.times b c) ≡ K.times b (K.times a c)
  left_comm a b c = sym (K.assoc a b c) ∙ ap (λ x. K.times x c) (K.comm a b) ∙ K.assoc b a c

  pub inverse_times : (a b : W) → K.inverse (K.times a b) ≡ K.times (K.inverse a) (K.inverse b)
  inverse_times a b =
      sym (inverse_unique (K.times a b) (K.times (K.inverse a) (K.inverse b)) (exchange a b (K.inverse a) (K.inverse b) ∙ ap (λ x. K.times x (K.times b (K.inverse b))) (K.cancel a) ∙ K.unit (K.times b (K.inverse b)) ∙ K.cancel b))

  -- weights are told apart by their codes
  pub weight_discrete : Discrete W
  weight_discrete a b = decide (ℤ_discrete (K.code a) (K.code b))
    where
      decide : Dec (K.code a ≡ K.code b) → Dec (a ≡ b)
      decide (yes e) = yes (K.distinct a b e)
      decide (no n) = no (λ e. n (ap K.code e))
