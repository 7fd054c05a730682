use Rattle.std.proofs.Common.{◌≡◌, ℕ, ◌+◌, ◌-◌, cond, eqb, sym, ap, ◌∙◌, subst, arith}
use Rattle.rules.specs.Shapes.{ranks_in}
use Rattle.lookup_index.specs.Hashing.{left_hash}
use Rattle.lookup_index.specs.Indexes.{head_of, next_of, IndexesFrom}
use Rattle.lookup_index.proofs.Chains.{chains_none, chains_more}
use Rattle.lookup_index.proofs.Hashes.{left_hash_small}
use Rattle.lookup_index.proofs.rule_index.RuleIndex.new.Goals as goal

pub loop-k-init : goal.loop-k-init
loop-k-init g c few = chains_none (ranks_in c.args.shape.now) c.args.rules.now c.empty-index.result _ (omega arith) c.empty-index.ensures

pub put_first-requires : goal.put_first-requires
put_first-requires g c =
    (omega (arith, c.rule_hash.ensures, left_hash_small (ranks_in c.args.shape.now) c.left_at-left.result), omega arith)

pub loop-k-preserved : goal.loop-k-preserved
loop-k-preserved g c few =
    let x = c.loop-k.index in
    let i = c.loop-k.k - 1 in
    let rule = c.left_at-left.ensures.0 in
    let same : c.rule_hash.result ≡ left_hash (ranks_in c.args.shape.now) rule.left =
    c.rule_hash.ensures ∙ ap (left_hash (ranks_in c.args.shape.now)) (sym c.left_at-left.ensures.2) in
    chains_more (ranks_in c.args.shape.now) c.args.rules.now x c.put_first.new.self c.loop-k.k rule (omega arith) c.left_at-left.ensures.1
    (λ h. c.put_first.ensures.heads h ∙ ap (λ n. cond (eqb h n) (i + 1) (head_of x h)) same)
    (λ j. c.put_first.ensures.nexts j ∙ ap (λ n. cond (eqb j i) (head_of x n) (next_of x j)) same)
    (c.loop-k.invariant few)

pub returns : goal.returns
returns g c few = subst (λ (k : ℕ). IndexesFrom (ranks_in c.args.shape.now) c.loop-k.index c.args.rules.now k) (let end : c.loop-k.k ≡ 0 = omega arith in end) (c.loop-k.invariant few)
