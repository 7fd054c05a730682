use Rattle.std.proofs.Common.{◌≡◌, ℕ, ◌-◌, sym, ap, ◌∙◌, subst, inl, inr, arith}
use Rattle.rules.specs.Lookup.{has_left}
use Rattle.lookup_index.specs.Hashing.{hash_of}
use Rattle.lookup_index.specs.Indexes.{head_of}
use Rattle.lookup_index.proofs.Positions.{position_first}
use Rattle.lookup_index.proofs.Walks.{Walked, walk_start, walk_end, walk_found, walk_more}
use Rattle.lookup_index.proofs.rule_index.RuleIndex.find.Goals as goal

pub loop-past-init : goal.loop-past-init
loop-past-init g c ranks indexed fits =
    let first : head_of c.args.self.now (hash_of c.args.symbol c.args.children.now) ≡ c.head-next.result =
    ap (head_of c.args.self.now) (sym c.hash.ensures) ∙ sym c.head-next.ensures in
    subst (λ (n : ℕ). Walked ranks c.args.rules.now c.args.symbol c.args.children.now 0 n) first
    (walk_start ranks c.args.self.now c.args.rules.now c.args.symbol c.args.children.now indexed fits)

pub returns-then-is_left : goal.returns-then-is_left
returns-then-is_left g c = record {
  within = λ i e. let same : c.loop-past.next - 1 ≡ i = cc in omega arith;
  first = λ ranks indexed fits.
      sym (sym (position_first (λ rule. has_left c.args.symbol c.args.children.now rule.left) c.args.rules.now) ∙ walk_found ranks c.args.self.now c.args.rules.now c.args.symbol c.args.children.now indexed fits c.loop-past.past c.loop-past.next (c.loop-past.invariant ranks indexed fits) c.loop-past-test.true c.if-next-rules.true c.left_at-left.ensures.0 c.left_at-left.ensures.1
      (ap (has_left c.args.symbol c.args.children.now) c.left_at-left.ensures.2 ∙ sym c.if-is_left.ensures));
}

pub loop-past-preserved : goal.loop-past-preserved
loop-past-preserved g c ranks indexed fits =
    subst (λ (n : ℕ). Walked ranks c.args.rules.now c.args.symbol c.args.children.now c.loop-past.next n) (sym c.next-next.ensures)
    (walk_more ranks c.args.self.now c.args.rules.now c.args.symbol c.args.children.now indexed fits c.loop-past.past c.loop-past.next (c.loop-past.invariant ranks indexed fits) c.loop-past-test.true c.if-next-rules.true c.left_at-left.ensures.0 c.left_at-left.ensures.1
    (ap (has_left c.args.symbol c.args.children.now) c.left_at-left.ensures.2 ∙ sym c.if-is_left.ensures))

pub returns-else-next-rules : goal.returns-else-next-rules
returns-else-next-rules g c = record {
  within = λ i e. let z : ◌≡◌ {A = ℕ} 0 1 = cc in absurd (omega arith);
  first = λ ranks indexed fits.
      sym (sym (position_first (λ rule. has_left c.args.symbol c.args.children.now rule.left) c.args.rules.now) ∙ walk_end ranks c.args.self.now c.args.rules.now c.args.symbol c.args.children.now indexed fits c.loop-past.past c.loop-past.next (c.loop-past.invariant ranks indexed fits) (inr c.if-next-rules.false));
}

pub returns-after-loop-past : goal.returns-after-loop-past
returns-after-loop-past g c = record {
  within = λ i e. let z : ◌≡◌ {A = ℕ} 0 1 = cc in absurd (omega arith);
  first = λ ranks indexed fits.
      sym (sym (position_first (λ rule. has_left c.args.symbol c.args.children.now rule.left) c.args.rules.now) ∙ walk_end ranks c.args.self.now c.args.rules.now c.args.symbol c.args.children.now indexed fits c.loop-past.past c.loop-past.next (c.loop-past.invariant ranks indexed fits) (inl c.loop-past-test.false));
}
