-- Residues: the numbers 1 to 256, with the product modulo 257.
use Rattle.std.specs.Prelude.{◌≡◌, ◌*◌, ◌%◌, ◌^◌, ◌≤◌, pos}
use Rattle.std.proofs.Common.{ap, mul_comm, arith, lit≤}
use mathlib.Core.HLevel.{is_prop→PathP}
use Rattle.std.proofs.Math.Bridge.{le_prop}
use Rattle.std.specs.Int.Signed.{le_z_yes}
use Rattle.std.proofs.lemmas.Int.{ints}
use Rattle.kinds.specs.declared.residue.Residue.{Residue}
use Rattle.kinds.specs.Weights.{Weights}
use Rattle.kinds.specs.Modulo.{mod_mul_assoc}
use Rattle.kinds.specs.ResidueLaws.{power_cancels, power_low, product_low, remainder_high}

abbrev pub one_residue : Residue
one_residue = record { code = 1; low = lit≤ tt; high = lit≤ tt }

abbrev pub residue_times : Residue → Residue → Residue
residue_times a b =
    record {
      code = a.code * b.code % 257;
      low = product_low a.code b.code a.low a.high b.low b.high;
      high = remainder_high (a.code * b.code);
    }

abbrev pub residue_inverse : Residue → Residue
residue_inverse a =
    record { code = a.code ^ 255 % 257; low = power_low a.code a.low a.high; high = remainder_high (a.code ^ 255) }

-- a residue is told by its code
pub residue_path : (a b : Residue) → a.code ≡ b.code → a ≡ b
residue_path a b p = λ i. record {
  code = p i;
  low = is_prop→PathP (λ j. 1 ≤ p j) (λ j. le_prop) a.low b.low i;
  high = is_prop→PathP (λ j. p j ≤ 256) (λ j. le_prop) a.high b.high i;
}

pub residue_distinct : (a b : Residue) → pos a.code ≡ pos b.code → a ≡ b
residue_distinct a b e = residue_path a b (cc)

abbrev pub residues : Weights Residue
residues = record {
  one = one_residue;
  times = residue_times;
  inverse = residue_inverse;
  code = λ a. pos a.code;
  assoc = λ a b c. residue_path _ _ (mod_mul_assoc 257 a.code b.code c.code);
  comm = λ a b. residue_path _ _ (ap (λ n. n % 257) (mul_comm a.code b.code));
  unit = λ a. residue_path _ _ (omega arith);
  cancel = λ a. residue_path _ _ (power_cancels a.code a.low a.high);
  distinct = residue_distinct;
  low = λ a. le_z_yes tt;
  high = λ a. omega (arith, ints);
}
