-- Costs: the numbers from -2,147,483,648 to 2,147,483,647, with the sum brought into that range.
use Rattle.std.specs.Prelude.{◌≡◌, ℤ, pos, ◌+ℤ◌, ◌≤ℤ◌}
use Rattle.std.proofs.Common.{ap, sym, ◌∙◌, arith}
use mathlib.Core.HLevel.{is_prop→PathP}
use Rattle.std.proofs.Math.IntN.{+ℤ_comm}
use Rattle.std.proofs.Props.{props}
use Rattle.std.specs.Int.{int_wrap, w32}
use Rattle.std.proofs.lemmas.Int.{ints}
use Rattle.kinds.specs.declared.cost.Cost.{Cost}
use Rattle.kinds.specs.Weights.{Weights}
use Rattle.kinds.specs.CostSums.{least, greatest, into_range, opposite, InRange, wrapped_range, stays, zero_range, sum_range, sum_assoc, sum_unit, opposite_range, opposite_cancels}

-- the cost with this code; a number out of the range is wrapped to 32 bits first
unfoldable pub cost : ℤ → Cost
cost z = let r = wrapped_range z in record { code = int_wrap w32 z; low = r.low; high = r.high }

pub cost_code : (z : ℤ) → InRange z → (cost z).code ≡ z
unfolding cost
cost_code z h = stays z h

-- a cost is told by its code
pub cost_path : (a b : Cost) → a.code ≡ b.code → a ≡ b
cost_path a b p = λ i. record {
  code = p i;
  low = is_prop→PathP (λ j. least ≤ℤ p j) (λ j. hlevel props) a.low b.low i;
  high = is_prop→PathP (λ j. p j ≤ℤ greatest) (λ j. hlevel props) a.high b.high i;
}

cost_range : (a : Cost) → InRange a.code
cost_range a = record { low = a.low; high = a.high }

pub cost_of : (a : Cost) → cost a.code ≡ a
cost_of a = cost_path (cost a.code) a (cost_code a.code (cost_range a))

abbrev pub cost_times : Cost → Cost → Cost
cost_times a b = cost (into_range (a.code +ℤ b.code))

abbrev pub cost_inverse : Cost → Cost
cost_inverse a = cost (opposite a.code)

pub times_code : (a b : Cost) → (cost_times a b).code ≡ into_range (a.code +ℤ b.code)
times_code a b = cost_code _ (sum_range a.code b.code (cost_range a) (cost_range b))

pub cost_assoc : (a b c : Cost) → cost_times (cost_times a b) c ≡ cost_times a (cost_times b c)
cost_assoc a b c =
    ap (λ z. cost (into_range (z +ℤ c.code))) (times_code a b)
    ∙ ap cost (sum_assoc a.code b.code c.code (cost_range a) (cost_range b) (cost_range c))
    ∙ ap (λ z. cost (into_range (a.code +ℤ z))) (sym (times_code b c))

pub cost_unit : (a : Cost) → cost_times (cost (pos 0)) a ≡ a
cost_unit a =
    ap (λ z. cost (into_range (z +ℤ a.code))) (cost_code (pos 0) zero_range)
    ∙ ap cost (sum_unit a.code (cost_range a)) ∙ cost_of a

pub cost_cancel : (a : Cost) → cost_times a (cost_inverse a) ≡ cost (pos 0)
cost_cancel a =
    ap (λ z. cost (into_range (a.code +ℤ z))) (cost_code (opposite a.code) (opposite_range a.code (cost_range a)))
    ∙ ap cost (opposite_cancels a.code (cost_range a))

abbrev pub costs : Weights Cost
costs = record {
  one = cost (pos 0);
  times = cost_times;
  inverse = cost_inverse;
  code = λ a. a.code;
  assoc = cost_assoc;
  comm = λ a b. ap (λ z. cost (into_range z)) (+ℤ_comm a.code b.code);
  unit = cost_unit;
  cancel = cost_cancel;
  distinct = cost_path;
  low = λ a. omega (arith, ints);
  high = λ a. omega (arith, ints);
}
