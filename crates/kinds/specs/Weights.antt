-- A kind of weight, as mathematics: a commutative group whose elements are told apart by their codes.
use Rattle.std.specs.Prelude.{◌≡◌, ℤ, pos, negsuc, ◌≤ℤ◌}

pub record Weights (W : Type 0) : Type 0 where
  pub one : W
  pub times : W → W → W
  pub inverse : W → W
  pub code : W → ℤ
  pub assoc : (a b c : W) → times (times a b) c ≡ times a (times b c)
  pub comm : (a b : W) → times a b ≡ times b a
  pub unit : (a : W) → times one a ≡ a
  pub cancel : (a : W) → times a (inverse a) ≡ one
  pub distinct : (a b : W) → code a ≡ code b → a ≡ b
  pub low : (a : W) → negsuc 99_999_999_998 ≤ℤ code a
  pub high : (a : W) → code a ≤ℤ pos 999_999_999_999
