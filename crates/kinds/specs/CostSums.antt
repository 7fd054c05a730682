-- Sums and opposites in the range from -2³¹ to 2³¹ - 1: what they are, that wrapping to 32 bits gives them, and their laws.
use Rattle.std.specs.Prelude.{◌≡◌, ◌^◌, Bool, true, false, cond, ℤ, pos, negsuc, ◌+ℤ◌, ◌-ℤ◌, neg_ℤ, ◌≤ℤ◌, FitsSigned, int_lt, refl}
use Rattle.std.proofs.Common.{sym, ap, ◌∙◌, arith}
use Rattle.std.proofs.Math.IntN.{+ℤ_idl, +ℤ_idr, +ℤ_assoc, +ℤ_invr}
use Rattle.std.specs.Int.Signed.{le_z_yes}
use Rattle.std.specs.Int.{int_wrap, w32}
use Rattle.std.proofs.lemmas.Int.{ints, int_wrap_fits, int_wrap-add_left, int_wrap-add_right, SFits-int_wrap}

abbrev pub least : ℤ
least = negsuc 2_147_483_647

abbrev pub greatest : ℤ
greatest = pos 2_147_483_647

-- lessened by 2³² if it is above the range, and raised by 2³² if it is below
abbrev pub into_range : ℤ → ℤ
into_range z = cond (int_lt greatest z) (z -ℤ pos (2 ^ 32)) (cond (int_lt z least) (z +ℤ pos (2 ^ 32)) z)

-- -c, but the least number is its own opposite
abbrev pub opposite : ℤ → ℤ
opposite c = cond (int_lt least c) (neg_ℤ c) c

pub record InRange (z : ℤ) : Type 0 where
  pub low : least ≤ℤ z
  pub high : z ≤ℤ greatest

fits : (z : ℤ) → InRange z → FitsSigned w32 z
fits z h = omega (arith, ints)

pub fitting_range : (z : ℤ) → FitsSigned w32 z → InRange z
fitting_range z h = omega (arith, ints)

pub wrapped_range : (z : ℤ) → InRange (int_wrap w32 z)
wrapped_range z = fitting_range (int_wrap w32 z) (SFits-int_wrap w32 z)

pub stays : (z : ℤ) → InRange z → int_wrap w32 z ≡ z
stays z h = int_wrap_fits w32 z (fits z h)

-- to add or take away 2³² changes nothing once the number is wrapped to 32 bits
full_turn : int_wrap w32 (pos (2 ^ 32)) ≡ pos 0
unfolding int_wrap
full_turn = refl

full_turn_back : int_wrap w32 (neg_ℤ (pos (2 ^ 32))) ≡ pos 0
unfolding int_wrap
full_turn_back = refl

wrapped_raised : (z : ℤ) → int_wrap w32 (z +ℤ pos (2 ^ 32)) ≡ int_wrap w32 z
wrapped_raised z = sym (int_wrap-add_right w32 z (pos (2 ^ 32))) ∙ ap (λ t. int_wrap w32 (z +ℤ t)) full_turn ∙ ap (int_wrap w32) (+ℤ_idr z)

wrapped_lessened : (z : ℤ) → int_wrap w32 (z -ℤ pos (2 ^ 32)) ≡ int_wrap w32 z
wrapped_lessened z = sym (int_wrap-add_right w32 z (neg_ℤ (pos (2 ^ 32)))) ∙ ap (λ t. int_wrap w32 (z +ℤ t)) full_turn_back ∙ ap (int_wrap w32) (+ℤ_idr z)

-- a number at most 2³² away from 0 is brought into the range by wrapping
module _ (z : ℤ) (low : negsuc 4_294_967_295 ≤ℤ z) (high : z ≤ℤ pos 4_294_967_295) where
  wraps_not_above : (below : Bool) → int_lt z least ≡ below → int_lt greatest z ≡ false → cond below (z +ℤ pos (2 ^ 32)) z ≡ int_wrap w32 z
  wraps_not_above true e n = sym (stays (z +ℤ pos (2 ^ 32)) (omega (arith, ints))) ∙ wrapped_raised z
  wraps_not_above false e n = sym (stays z (omega (arith, ints)))

  wraps : (above : Bool) → int_lt greatest z ≡ above → cond above (z -ℤ pos (2 ^ 32)) (cond (int_lt z least) (z +ℤ pos (2 ^ 32)) z) ≡ int_wrap w32 z
  wraps true e = sym (stays (z -ℤ pos (2 ^ 32)) (omega (arith, ints))) ∙ wrapped_lessened z
  wraps false e = wraps_not_above (int_lt z least) refl e

-- the sum of two numbers of the range
module _ (a b : ℤ) (ra : InRange a) (rb : InRange b) where
  pub sum_wraps : into_range (a +ℤ b) ≡ int_wrap w32 (a +ℤ b)
  sum_wraps = wraps (a +ℤ b) (omega (arith, ints)) (omega (arith, ints)) (int_lt greatest (a +ℤ b)) refl

  pub sum_range : InRange (into_range (a +ℤ b))
  sum_range = rw sum_wraps (wrapped_range (a +ℤ b))

pub sum_assoc : (a b c : ℤ) → InRange a → InRange b → InRange c → into_range (into_range (a +ℤ b) +ℤ c) ≡ into_range (a +ℤ into_range (b +ℤ c))
sum_assoc a b c ra rb rc =
    sum_wraps (into_range (a +ℤ b)) c (sum_range a b ra rb) rc ∙ ap (λ x. int_wrap w32 (x +ℤ c)) (sum_wraps a b ra rb)
    ∙ int_wrap-add_left w32 (a +ℤ b) c ∙ ap (int_wrap w32) (+ℤ_assoc a b c) ∙ sym (int_wrap-add_right w32 a (b +ℤ c))
    ∙ ap (λ x. int_wrap w32 (a +ℤ x)) (sym (sum_wraps b c rb rc)) ∙ sym (sum_wraps a (into_range (b +ℤ c)) ra (sum_range b c rb rc))

pub zero_range : InRange (pos 0)
zero_range = record { low = le_z_yes tt; high = le_z_yes tt }

pub sum_unit : (a : ℤ) → InRange a → into_range (pos 0 +ℤ a) ≡ a
sum_unit a ra = sum_wraps (pos 0) a zero_range ra ∙ ap (int_wrap w32) (+ℤ_idl a) ∙ stays a ra

least_wraps : int_wrap w32 (neg_ℤ least) ≡ least
unfolding int_wrap
least_wraps = refl

pub opposite_wraps : (a : ℤ) → InRange a → opposite a ≡ int_wrap w32 (neg_ℤ a)
opposite_wraps a ra = go (int_lt least a) refl
  where
    go : (above : Bool) → int_lt least a ≡ above → cond above (neg_ℤ a) a ≡ int_wrap w32 (neg_ℤ a)
    go true e = sym (stays (neg_ℤ a) (omega (arith, ints)))
    go false e = let is : a ≡ least = omega (arith, ints) in is ∙ sym least_wraps ∙ ap (λ x. int_wrap w32 (neg_ℤ x)) (sym is)

pub opposite_range : (a : ℤ) → InRange a → InRange (opposite a)
opposite_range a ra = rw (opposite_wraps a ra) (wrapped_range (neg_ℤ a))

pub opposite_cancels : (a : ℤ) → InRange a → into_range (a +ℤ opposite a) ≡ pos 0
opposite_cancels a ra =
    sum_wraps a (opposite a) ra (opposite_range a ra) ∙ ap (λ x. int_wrap w32 (a +ℤ x)) (opposite_wraps a ra)
    ∙ int_wrap-add_right w32 a (neg_ℤ a) ∙ ap (int_wrap w32) (+ℤ_invr a) ∙ stays (pos 0) zero_range
