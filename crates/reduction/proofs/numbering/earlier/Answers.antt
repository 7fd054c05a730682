use Rattle.std.proofs.Common.{rules, tests, ◌≡◌, ℕ, Bool, not, ◌&&◌, true, false}
use Rattle.std.proofs.lemmas.Iterator.{first_from_Range}
use Rattle.pairs.specs.Cells.{cell_at}
use Rattle.reduction.specs.Marking.{live_in}
use Rattle.reduction.proofs.Entering.{found_earlier}
use Rattle.reduction.proofs.numbering.earlier.Goals as goal

pub returns : goal.returns
returns c =
    let test : ℕ → Bool = λ p. live_in c.args.life.now p && not (cell_at c.args.marks.now p c.args.state) in
    found_earlier (live_in c.args.life.now) (cell_at c.args.marks.now) c.args.state c.find.result
    (first_from_Range _ _ _ c.find.result (λ p. test p ≡ true) (λ p. test p ≡ false) c.find.ensures.ran (λ x q k. search (rules, tests)) (λ x q k. search (rules, tests)))
