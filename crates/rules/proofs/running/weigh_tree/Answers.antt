use Rattle.std.proofs.Common.{ℕ, ◌-◌, List, length, refl, ◌∙◌, subst, inl, inr, arith}
use Rattle.trees.specs.declared.refusal.Refusal.{Refusal}
use Rattle.trees.specs.Lists.{IsTreeList, bad_list}
use Rattle.trees.proofs.Entries.{trees_over}
use Rattle.trees.proofs.Ranks.{rank_small}
use Rattle.rules.specs.Shapes.{ranks_in, accepts_in}
use Rattle.rules.specs.Weighing.{Said}
use Rattle.rules.proofs.running.weigh_tree.Goals as goal

pub returns-then-work-list : goal.returns-then-work-list
returns-then-work-list g c =
    let fine = subst (λ (rs : List ℕ). (x : Refusal) → bad_list rs c.args.list.now x → ⊥) c.alphabet.ensures c.in_ok-check_list.ensures.0.0 in
    (inr (fine, inl (c.if-work-list.true, refl)), refl)

pub returns : goal.returns
returns g c =
    let fine = subst (λ (rs : List ℕ). (x : Refusal) → bad_list rs c.args.list.now x → ⊥) c.alphabet.ensures c.in_ok-check_list.ensures.0.0 in
    let some = c.in_ok-check_list.ensures.1.some in
    let over = trees_over (ranks_in c.args.table.now.shape.now) c.args.list.now (rank_small c.args.table.now.shape.now.measure.alphabet) (subst (λ (rs : List ℕ). IsTreeList rs c.args.list.now) c.alphabet.ensures c.in_ok-check_list.ensures.1).good (length c.args.list.now - 1) (omega arith) in
    let ran = c.run_of.ensures ∙ c.run_entries.ensures (length c.args.list.now - 1) (omega arith) in
    ((fine, ((λ x m. omega (arith, m.0)), tt)), record { over = over; says = subst (λ o. Said g.W.Kind.stands (accepts_in c.args.table.now.shape.now) o c.verdict.result) ran c.verdict.ensures })
