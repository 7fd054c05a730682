use Rattle.std.proofs.Common.{◌+◌, sym, ap, ◌∙◌, subst, arith, length-set}
use Rattle.std.specs.Option.{option_map}
use Rattle.rules.specs.Running.{at_of, run_at, ats_of}
use Rattle.rules.proofs.Rows.{row_lacks, Gathering, gathering_more, gathering_all}
use Rattle.rules.proofs.running.gather.Goals as goal

pub returns-in_err-run : goal.returns-in_err-run
returns-in_err-run g c =
    ap (option_map (ats_of g.W.Kind.stands _)) c.from_residual.ensures
    ∙ sym (row_lacks g.W.Kind.weights (run_at g.W.Kind.stands c.args.side c.args.work.now) c.args.entries.now c.loop-k.k c.loop-k-test.true (sym c.run_of.ensures ∙ ap (option_map (at_of g.W.Kind.stands)) c.in_err-run.was))

pub loop-k-preserved : goal.loop-k-preserved
loop-k-preserved g c =
    let K = g.W.Kind.weights in
    let f = run_at g.W.Kind.stands c.args.side c.args.work.now in
    let run = c.in_ok-run.run' in (
      length-set c.loop-k.states c.loop-k.k run.state ∙ c.loop-k.invariant.0,
      subst (Gathering K f c.args.entries.now _ (c.loop-k.k + 1)) (sym c.times-weight.ensures)
          (gathering_more K f c.args.entries.now c.loop-k.states c.loop-k.k (g.W.Kind.stands c.loop-k.weight) (at_of g.W.Kind.stands run) c.loop-k-test.true (omega (arith, c.loop-k.invariant.0, c.loop-k-test.true, c.requires)) c.loop-k.invariant.1 (sym c.run_of.ensures ∙ ap (option_map (at_of g.W.Kind.stands)) c.in_ok-run.was)),
    )

pub returns : goal.returns
returns g c =
    sym (gathering_all g.W.Kind.weights (run_at g.W.Kind.stands c.args.side c.args.work.now) c.args.entries.now c.loop-k.states c.loop-k.k (g.W.Kind.stands c.loop-k.weight) (omega (arith, c.loop-k-test.false, c.loop-k.auto.k-end)) c.loop-k.invariant.1)
