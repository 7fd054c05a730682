use Rattle.std.proofs.Common.{◌≡◌, ℕ, ◌+◌, ◌-◌, List, sym, refl, ◌∙◌, subst, arith}
use Rattle.rules.specs.Shapes.{ranks_in}
use Rattle.comparison.specs.Forest.{nodes}
use Rattle.comparison.specs.Marking.{marks, Kept, Marking}
use Rattle.comparison.proofs.Kept.{length_marks, kept_length, kept_entries}
use Rattle.comparison.proofs.Marks.{marking_none}
use Rattle.comparison.proofs.marking.mark_used.Goals as goal

pub loop-e-init : goal.loop-e-init
loop-e-init g c =
    let ns = nodes c.put_mark.new.work (c.args.top + 1) in (
      subst (λ (m : List ℕ). Marking (ranks_in c.args.shape.now) ns c.args.top m (c.args.top + 1)) (sym c.put_mark.ensures.marks)
          (marking_none (ranks_in c.args.shape.now) ns c.args.top (marks c.clear.new.work) (omega (arith, length_marks c.clear.new.work, kept_length c.args.work.now c.clear.new.work c.clear.ensures.kept, c.requires.entries.within)) c.clear.ensures.none),
      refl,
    )

pub mark_below-requires : goal.mark_below-requires
mark_below-requires g c =
    let kept : Kept c.args.work.now c.loop-e.work = c.loop-e.invariant.1 ∙ c.put_mark.ensures.kept ∙ c.clear.ensures.kept in
    let up : c.loop-e.e ≡ c.loop-e.e - 1 + 1 = omega arith in
    record {
      within = omega arith;
      entries = kept_entries c.args.work.now c.loop-e.work kept (ranks_in c.args.shape.now) c.args.top c.requires.entries;
      marking = subst (λ (e : ℕ). Marking (ranks_in c.args.shape.now) (nodes c.loop-e.work (c.args.top + 1)) c.args.top (marks c.loop-e.work) e) up c.loop-e.invariant.0;
    }

pub returns : goal.returns
returns g c =
    let end : c.loop-e.e ≡ 0 = omega arith in
    record {
      marking = subst (λ (e : ℕ). Marking (ranks_in c.args.shape.now) (nodes c.loop-e.work (c.args.top + 1)) c.args.top (marks c.loop-e.work) e) end c.loop-e.invariant.0;
      kept = c.loop-e.invariant.1 ∙ c.put_mark.ensures.kept ∙ c.clear.ensures.kept;
    }
