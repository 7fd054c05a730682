use Rattle.std.proofs.Common.{◌≡◌, ℕ, ◌+◌, ◌∙◌, subst, arith}
use Rattle.rules.specs.Shapes.{ranks_in}
use Rattle.comparison.specs.Forest.{nodes}
use Rattle.comparison.specs.Marking.{marks, Numbering}
use Rattle.comparison.proofs.Kept.{kept_entries}
use Rattle.comparison.proofs.Numbers.{drop_later}
use Rattle.comparison.proofs.writing.write_marked.Goals as goal

pub write_entry-count-requires : goal.write_entry-count-requires
write_entry-count-requires g c =
    record {
      within = c.loop-e-test.true;
      room = omega arith;
      entries = kept_entries c.args.work.now c.loop-e.work c.loop-e.invariant.1 (ranks_in c.args.shape.now) c.args.top c.requires.entries;
      numbering = c.loop-e.invariant.0;
    }

pub loop-e-preserved : goal.loop-e-preserved
loop-e-preserved g c = (
  c.write_entry-count.ensures.numbering,
  c.write_entry-count.ensures.kept ∙ c.loop-e.invariant.1,
  c.write_entry-count.ensures.beyond ∙ drop_later c.loop-e.list c.args.list.now c.loop-e.count c.write_entry-count.result c.write_entry-count.ensures.more c.loop-e.invariant.2,
)

pub returns : goal.returns
returns g c =
    let end : c.loop-e.e ≡ c.args.top + 1 = omega arith in
    record {
      numbering = subst (λ (e : ℕ). Numbering (ranks_in c.args.shape.now) (nodes c.loop-e.work (c.args.top + 1)) c.args.top (marks c.loop-e.work) c.loop-e.list e c.loop-e.count) end c.loop-e.invariant.0;
      kept = c.loop-e.invariant.1;
      beyond = c.loop-e.invariant.2;
    }
