use Rattle.std.proofs.Common.{◌≡◌, ℕ, ◌<◌, ◌≤◌, ◌⊎◌, length, ap, ◌∙◌, subst, inr, arith}
use Rattle.kinds.specs.Residues.{residues}
use Rattle.rules.specs.Shapes.{states_in}
use Rattle.tables.specs.Images.{closed_holds}
use Rattle.known.specs.Rounds.{chain_opening, second_calls, reduced_calls}
use Rattle.known.proofs.Questions.{lived_on, asked_refused, weigh_let_in, weighs_32, compared_same, compare_let_in, compare_long}
use Rattle.known.proofs.rounds.ask.Goals as goal

pub returns-in_err-weighing : goal.returns-in_err-weighing
returns-in_err-weighing c n m room₁ room₂ l₁ l₂ =
    let work = length c.args.work.now in
    let red = c.in_ok-states.ensures n room₁ l₁ in
    let short = weigh_let_in n work c.in_ok-states.states room₁ (closed_holds (λ v. v) c.push_and_reduce.new.table) red.3 c.tree.result (length c.push_and_reduce.new.work) _ c.tree.ensures c.in_err-weighing.ensures.answer.0 in
    let same = c.push_and_reduce.auto.work in
    asked_refused (length c.args.list.now) work c.from_residual-in_err-weighing.result c.from_residual-in_err-weighing.ensures.0 (inr (omega arith))

pub returns-in_err-comparison : goal.returns-in_err-comparison
returns-in_err-comparison c n m room₁ room₂ l₁ l₂ =
    let work = length c.args.work.now in
    let answer = c.in_ok-states.states in
    let red = c.in_ok-states.ensures n room₁ l₁ in
    let same = c.in_ok-weighing.ensures.same in
    let b = closed_holds (λ v. v) c.weigh.new.self in
    let lived = lived_on residues (λ v. v) (chain_opening n) (reduced_calls work answer) c.push_and_reduce.new.table c.weigh.new.self same red.3 in
    let two : b.content.states ≡ 2 = ap states_in same.shape ∙ red.2 in
    let whole = c.in_err-comparison.ensures.whole (chain_opening n) (chain_opening m) (reduced_calls work answer) second_calls lived l₂ in
    let short = compare_let_in n work answer room₁ b lived m room₂ (closed_holds (λ v. v) c.args.second.now) l₂ two c.args.list.now c.compare.new.list (length c.weigh.new.work) _ whole in
    asked_refused (length c.args.list.now) work c.from_residual-in_err-comparison.result c.from_residual-in_err-comparison.ensures.0
    (subst (λ (k : ℕ). (length c.args.list.now < 18) ⊎ (k < 18)) (c.weigh.auto.work ∙ c.push_and_reduce.auto.work) short)

pub returns : goal.returns
returns c n m room₁ room₂ l₁ l₂ =
    let work = length c.args.work.now in
    let answer = c.in_ok-states.states in
    let red = c.in_ok-states.ensures n room₁ l₁ in
    let weighed = c.in_ok-weighing.ensures in
    let same = weighed.same in
    let b = closed_holds (λ v. v) c.weigh.new.self in
    let b₂ = closed_holds (λ v. v) c.args.second.now in
    let lived = lived_on residues (λ v. v) (chain_opening n) (reduced_calls work answer) c.push_and_reduce.new.table c.weigh.new.self same red.3 in
    let two : b.content.states ≡ 2 = ap states_in same.shape ∙ red.2 in
    let compared = c.in_ok-comparison.ensures in
    let whole = compared.whole (chain_opening n) (chain_opening m) (reduced_calls work answer) second_calls lived l₂ in
    let long = compare_long n work answer room₁ b lived m room₂ b₂ l₂ two (length c.args.list.now) (length c.weigh.new.work) compared.answer.0 in (
      long.0,
      subst (λ (k : ℕ). 18 ≤ k) (c.weigh.auto.work ∙ c.push_and_reduce.auto.work) long.1,
      record {
        weight = weighs_32 n work answer room₁ (closed_holds (λ v. v) c.push_and_reduce.new.table) red.3 c.tree.result c.in_ok-weighing.weighing c.tree.ensures (weighed.booked (chain_opening n) (reduced_calls work answer) red.3);
        states = red.1;
        comparison = compared_same n work answer room₁ b lived m room₂ b₂ l₂ c.args.list.now c.compare.new.list (length c.weigh.new.work) c.in_ok-comparison.comparison whole;
      },
    )
