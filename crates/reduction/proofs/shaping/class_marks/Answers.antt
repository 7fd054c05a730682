use Rattle.std.proofs.Common.{rules, tests, false}
use Rattle.reduction.specs.Acceptance.{class_accepts}
use Rattle.reduction.proofs.Marks.{made_at}
use Rattle.reduction.proofs.shaping.class_marks.Goals as goal

pub returns-clause-marks : goal.returns-clause-marks
returns-clause-marks c = made_at _ _ (class_accepts c.args.shape.now c.args.classes.now) (λ x b q k. search (rules, tests)) c.from_fn.result false 48 c.from_fn.ensures.items
