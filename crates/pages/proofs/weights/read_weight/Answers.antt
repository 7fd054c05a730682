use Rattle.std.proofs.Common.{refl, subst, w64, SFits, rules}
use Rattle.std.proofs.lemmas.Int.{to_z-of_z}
use Rattle.kinds.specs.Reading.{Reads}
use Rattle.pages.proofs.Codes.{weight_read}
use Rattle.pages.proofs.weights.read_weight.Goals as goal

pub returns-in-Some : goal.returns-in-Some
returns-in-Some g c =
    let fits : SFits w64 c.in-Some.code = search rules in
    let reads = subst (λ z. Reads g.W.Kind.weights g.W.Kind.stands z c.read.result) (to_z-of_z w64 c.in-Some.code fits) c.read.ensures in
    weight_read g.W.Kind.weights g.W.Kind.stands c.args.field.now c.in-Some.code c.read.result c.in-Some.ensures.0 c.in-Some.ensures.1 reads

pub returns-in-None : goal.returns-in-None
returns-in-None g c =
    let K = g.W.Kind.weights in
    (refl, λ x s. c.in-None.ensures (K.code x) (K.low x, K.high x) s)
