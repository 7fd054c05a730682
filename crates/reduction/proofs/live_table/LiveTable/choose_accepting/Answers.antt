use Rattle.std.proofs.Common.{◌≡◌, ℕ, ◌+◌, Bool, false, ◌&&◌, List, replicate, sym, subst, subst₂, arith}
use Rattle.std.proofs.lemmas.Bool.{both_ways, and_parts, and_from}
use Rattle.rules.specs.declared.place.Place.{Place}
use Rattle.rules.specs.Shapes.{states_in, accepts_in}
use Rattle.trees.proofs.Ranks.{getD_constant}
use Rattle.reduction.specs.Choosing.{Accepting}
use Rattle.reduction.specs.Marking.{live_in, set_in}
use Rattle.reduction.specs.Classes.{factor_at}
use Rattle.reduction.proofs.Beginnings.{accepting_none, accepting_past, accepting_more}
use Rattle.reduction.proofs.live_table.LiveTable.choose_accepting.Goals as goal
use Rattle.reduction.proofs.live_table.LiveTable.choose_accepting.Goals.{then-is_final, else-is_final}

pub loop-q-init : goal.loop-q-init
loop-q-init g c room =
    accepting_none g.W.Kind.weights (accepts_in c.args.self.now.table.shape.now) (live_in c.args.self.now.life.now) (set_in (replicate 48 false)) (factor_at g.W.Kind.stands g.W.Kind.weights c.args.work.now) (λ q. getD_constant {X = Bool} 48 q false)

pub loop-q-preserved : goal.loop-q-preserved
loop-q-preserved g c room =
    let q = c.loop-q.q in
    let K = g.W.Kind.weights in
    let accepts = accepts_in c.args.self.now.table.shape.now in
    let live = live_in c.args.self.now.life.now in
    let f = λ (work : List (Place g.row.W.Denot)). factor_at g.W.Kind.stands K work in
    elim c.if-is_final.branch [
      | then-is_final w ↦
          let yes-parts = and_parts (live q) (accepts q) (sym w.if-is_final.ensures) in
          subst₂ (λ (flags : List Bool) (work : List (Place g.row.W.Denot)). Accepting K accepts live (q + 1) (set_in flags) (f work)) (sym w.chosen-is) (sym w.work-is)
          (accepting_more K accepts live q (set_in c.loop-q.chosen) (f c.loop-q.work) (c.loop-q.invariant room) yes-parts.0 yes-parts.1
          (set_in w.give.new.chosen) (f w.give.new.work) (g.W.Kind.stands w.one.result) w.one.ensures (w.give.ensures.given (omega arith) (omega arith)))
      | else-is_final w ↦
          subst₂ (λ (flags : List Bool) (work : List (Place g.row.W.Denot)). Accepting K accepts live (q + 1) (set_in flags) (f work)) (sym w.chosen-is) (sym w.work-is)
          (accepting_past K accepts live q (set_in c.loop-q.chosen) (f c.loop-q.work) (c.loop-q.invariant room) (λ l a.
          both_ways (live q && accepts q) (sym w.if-is_final.ensures) (and_from (live q) (accepts q) l a)))
    ]

pub returns : goal.returns
returns g c room =
    let end : c.loop-q.q ≡ states_in c.args.self.now.table.shape.now = omega arith in
    subst (λ (n : ℕ). Accepting g.W.Kind.weights (accepts_in c.args.self.now.table.shape.now) (live_in c.args.self.now.life.now) n (set_in c.loop-q.chosen) (factor_at g.W.Kind.stands g.W.Kind.weights c.loop-q.work)) end (c.loop-q.invariant room)
