use Rattle.reduction.proofs.Reductions.{reduced_rules}
use Rattle.reduction.proofs.reducing.reduce_rules.Goals as goal

pub returns : goal.returns
returns g c = record {
  few = c.merge_rules-count.ensures.few;
  reduced = λ room sound.
      reduced_rules g.W.Kind.stands g.W.Kind.weights c.args.shape.now (record { shape = c.merged_shape.result; count = c.merge_rules-count.result }) c.args.rules.now c.merge_rules-count.new.rules c.analyse-classes.result c.analyse-classes.new.work
      (c.analyse-classes.ensures sound room) c.merged_shape.ensures.ranks c.merged_shape.ensures.states c.merged_shape.ensures.marks c.merged_shape.ensures.past c.merge_rules-count.ensures.rules;
}
