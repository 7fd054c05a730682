use Rattle.std.proofs.Common.{length, arith}
use Rattle.tables.specs.Images.{closed_holds}
use Rattle.pages.proofs.Judged.{weighed_code, weighed_never}
use Rattle.pages.proofs.judging.weigh_code.Goals as goal

pub returns-in_err-weighing : goal.returns-in_err-weighing
returns-in_err-weighing g c =
    record {
      answer = λ o h l good.
          absurd (weighed_never g.W.Kind.weights _ _ (closed_holds g.W.Kind.stands c.args.table.now) c.args.list.now (length c.deref_mut.result.now) c.weigh.result c.at_line.result c.in_err-weighing.field-0.0 c.at_line.ensures c.in_err-weighing.was (omega (arith, c.deref_mut.ensures.len, c.args.work.now.enough)) c.weigh.ensures.answer o h l good);
      same = c.weigh.ensures.same;
    }

pub returns : goal.returns
returns g c =
    record {
      answer = λ o h l good.
          weighed_code g.W.Kind.weights g.W.Kind.stands (closed_holds g.W.Kind.stands c.args.table.now) c.args.list.now c.weigh.result c.at_line.result c.in_ok-weighing.weighing c.code_of.result c.at_line.ensures c.in_ok-weighing.was c.code_of.ensures c.weigh.ensures.booked o h l;
      same = c.weigh.ensures.same;
    }
