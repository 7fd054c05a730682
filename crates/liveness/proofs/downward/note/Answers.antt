use Rattle.std.proofs.Common.{sym, arith}
use Rattle.liveness.specs.Listings.{flags_of}
use Rattle.liveness.proofs.Listings.{room}
use Rattle.liveness.proofs.Founds.{flags_long}
use Rattle.liveness.proofs.downward.note.Goals as goal

pub add-requires : goal.add-requires
add-requires c =
    let less = room c.args.states (flags_of c.args.life.now) c.args.life.now.order c.args.life.now.count (flags_long c.args.life.now (record { how = omega arith; order = omega arith }) c.args.state c.args.lead) (omega arith) (omega arith) c.requires.1 c.args.state (omega arith) (sym c.if-not-has.ensures) in
    (omega arith, omega arith)
