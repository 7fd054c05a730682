-- Which of two weighings is better.
use Rattle.std.specs.Prelude.{◌≡◌, ◌↔◌, ℤ, ◌<ℤ◌, Some, None, Option}
use Rattle.kinds.specs.declared.cost.Cost.{Cost}
use Rattle.rules.specs.declared.weighing.Weighing.{Weighing}
use Rattle.rules.specs.declared.weighing.Weighing.TheVariants.{NoRun, Ended, Weighs}
use Rattle.orders.specs.declared.choice.Which.{Which}
use Rattle.orders.specs.declared.choice.Which.TheVariants.{Second}

-- the cost that a weighing gives, if it gives a weight
abbrev pub cost_in : Weighing Cost → Option ℤ
cost_in NoRun = None
cost_in (Ended q) = None
cost_in (Weighs q v) = Some v.code

-- a cost beats no cost, and a lower cost a higher one
abbrev pub Beats : Option ℤ → Option ℤ → Type 0
Beats (Some a) (Some b) = a <ℤ b
Beats (Some a) None = Unit {0}
Beats None b = ⊥

-- the second is chosen just if it beats the first, so that of two alike the first is
abbrev pub Chooses : Option ℤ → Option ℤ → Which → Type 0
Chooses first second which = (which ≡ Second) ↔ Beats second first
