use Rattle.std.proofs.Common.{◌≡◌, ◌<◌, [], ◌∷◌, length}
use Rattle.trees.specs.declared.refusal.Refusal.TheVariants.{Short}
use Rattle.trees.specs.Lists.{bad_list, tree_of}
use Rattle.trees.specs.Refusals.{when}
use Rattle.rules.specs.Shapes.{ranks_in}
use Rattle.tables.specs.Images.{closed_holds}
use Rattle.tables.proofs.Weighings.{booked}
use Rattle.tables.proofs.closed.Closed.weigh.Goals as goal

pub returns : goal.returns
returns g c =
    record {
      answer = c.weigh_rules.ensures.answer;
      same = c.weigh_rules.ensures.same;
      booked = λ o h l.
          booked g.W.Kind.weights g.W.Kind.stands
          (bad_list (ranks_in c.args.self.now.shape) c.args.list.now ∷ when (length c.args.work.now < length c.args.list.now) Short ∷ [])
          (closed_holds g.W.Kind.stands c.args.self.now) (tree_of (ranks_in c.args.self.now.shape) c.args.list.now) (c.weigh_rules.new.work ≡ c.args.work.now)
          c.weigh_rules.result o h c.weigh_rules.ensures.answer l;
    }
