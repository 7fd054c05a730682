use Rattle.std.proofs.Common.{◌≡◌, ◌<◌, map, length, get_or, ap, set, take, sym, ◌+◌, ◌∙◌, arith, length-set}
use Rattle.std.proofs.lemmas.List.{get_or-map, length-map}
use Rattle.trees.proofs.Ranks.{copy_more}
use Rattle.orders.specs.Tables.{state_number}
use Rattle.orders.proofs.table.numbers.Goals as goal

pub loop-k-preserved : goal.loop-k-preserved
loop-k-preserved c =
    let k = c.loop-k.k in
    let states = c.args.line.now.children.now in
    let inside : k < length (map state_number states) = rw (length-map states state_number) c.loop-k-test.true in
    let is : c.from.result ≡ get_or (map state_number states) k 0 = c.from.ensures ∙ sym (get_or-map state_number states k _ 0 c.loop-k-test.true) in
    (length-set _ _ _ ∙ c.loop-k.invariant.0, ap (λ x. take (k + 1) (set c.loop-k.places k x)) is ∙ copy_more c.loop-k.places (map state_number states) k 0 (omega (arith, c.loop-k.invariant.0)) inside c.loop-k.invariant.1)
