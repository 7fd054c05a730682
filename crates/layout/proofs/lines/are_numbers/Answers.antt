use Rattle.std.proofs.Common.{rules}
use Rattle.layout.proofs.Sixes.{numbers_decided}
use Rattle.layout.proofs.lines.are_numbers.Goals as goal

pub returns : goal.returns
returns c =
    let ran = c.all.ensures.ran in
    let decided = numbers_decided _ (λ f x b q call. search rules) c.fields_of.result c.all.new.self ran.0 ran.1 _ ran.2 c.all.result c.fields_of.ensures.size ran.3 ran.4 ran.5 in
    rw c.fields_of.ensures.rest at decided
