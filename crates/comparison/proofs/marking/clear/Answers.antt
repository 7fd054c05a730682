use Rattle.std.proofs.Common.{◌≡◌, ℕ, ◌+◌, ◌<◌, List, length, get_or, take, None, sym, ◌∙◌, subst, arith}
use Rattle.std.proofs.lemmas.List.{length-take-le}
use Rattle.comparison.specs.Marking.{marks}
use Rattle.comparison.proofs.Kept.{mark_put, mark_keeps, length_marks, kept_front, marks_front}
use Rattle.comparison.proofs.Marks.{cleared_more}
use Rattle.comparison.proofs.marking.clear.Goals as goal

pub loop-place-preserved : goal.loop-place-preserved
loop-place-preserved g c =
    let items = c.loop-place.place-items in
    let i = c.loop-place.place-index in (
      subst (λ (m : List ℕ). (j : ℕ) → j < i + 1 → get_or m j 0 ≡ 0) (sym (mark_put items i c.place-item.result None))
          (cleared_more (marks items) i (omega (arith, length_marks items)) c.loop-place.invariant.0),
      mark_keeps items i c.place-item.result None ∙ c.loop-place.invariant.1,
    )

pub returns : goal.returns
returns g c =
    let items = c.loop-place.place-items in
    let long : length (take c.args.top c.args.work.now) ≡ c.args.top = length-take-le c.args.top c.args.work.now (omega arith) in
    record {
      none = λ i h. marks_front c.args.work.now items c.args.top i (omega arith) ∙ c.loop-place.invariant.0 i (omega arith);
      kept = kept_front c.args.work.now items c.args.top c.loop-place.invariant.1;
    }
