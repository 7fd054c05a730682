use Rattle.std.proofs.Common.{length, refl}
use Rattle.automata.specs.Examples.{residue}
use Rattle.rules.specs.Measures.{ranks}
use Rattle.tables.specs.Images.{draft_holds, closed_holds}
use Rattle.known.proofs.Roundings.{opens_chain, closed_lived, rounded}
use Rattle.known.proofs.rounds.round.Goals as goal

pub returns : goal.returns
returns c =
    let n = length c.args.first_memory.now in
    let m = length c.args.second_memory.now in
    let measured = c.in_ok-measure.ensures.1 in
    let first = c.in_ok-chain.ensures n (opens_chain (ranks c.measure.new.self) c.measure.new.self.states n (draft_holds (λ v. v) c.open-draft.result) measured c.open-draft.ensures) in
    let second = c.in_ok-chain-2.ensures m (opens_chain (ranks c.measure.new.self) c.measure.new.self.states m (draft_holds (λ v. v) c.open-other.result) measured c.open-other.ensures) in
    let one = closed_lived n c.residue.result c.residue-2.result (residue 4 tt tt) (residue 8 tt tt) (draft_holds (λ v. v) c.chain.new.draft) (closed_holds (λ v. v) c.close-first.result) (c.residue.ensures (residue 4 tt tt) refl) (c.residue-2.ensures (residue 8 tt tt) refl) first.1 c.close-first.ensures in
    let two = closed_lived m c.residue-3.result c.residue-4.result (residue 2 tt tt) (residue 16 tt tt) (draft_holds (λ v. v) c.chain-2.new.draft) (closed_holds (λ v. v) c.close-second.result) (c.residue-3.ensures (residue 2 tt tt) refl) (c.residue-4.ensures (residue 16 tt tt) refl) second.1 c.close-second.ensures in
    rounded n m (length c.args.list.now) (length c.args.work.now) c.ask.result first.0 second.0 (c.ask.ensures n m first.0 second.0 one two)
