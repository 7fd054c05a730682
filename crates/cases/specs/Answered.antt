-- What the answers of calls come to in the tests.
use Rattle.std.specs.Prelude.{ℕ, ℤ, Ok, Err, Result}
use Rattle.trees.specs.declared.refusal.Refusal.{Refusal}
use Rattle.trees.specs.Refusals.{refusal_number}
use Rattle.rules.specs.declared.weighing.Weighing.{Weighing}
use Rattle.rules.specs.declared.weighing.Weighing.TheVariants.{NoRun, Ended, Weighs}
use Rattle.cases.specs.declared.answers.Answer.{Answer}
use Rattle.cases.specs.declared.answers.Answer.TheVariants.{NoRun as nothing, Ended as ended, Weighs as weighs}

-- a refusal by its number
abbrev pub numbered : {X : Type 0} → Result X Refusal → Result X ℕ
numbered (Ok x) = Ok x
numbered (Err e) = Err (refusal_number e)

-- a weight by its code
abbrev pub answer : {V : Type 0} → (V → ℤ) → Weighing V → Answer
answer code NoRun = nothing
answer code (Ended q) = ended q
answer code (Weighs q v) = weighs q (code v)

-- both
abbrev pub answered : {V : Type 0} → (V → ℤ) → Result (Weighing V) Refusal → Result Answer ℕ
answered code (Ok w) = Ok (answer code w)
answered code (Err e) = Err (refusal_number e)
