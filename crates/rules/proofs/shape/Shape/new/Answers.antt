use Rattle.std.proofs.Common.{false, ap, ◌∙◌}
use Rattle.trees.proofs.Ranks.{getD_constant}
use Rattle.rules.specs.Shapes.{accepts_in}
use Rattle.rules.proofs.shape.Shape.new.Goals as goal

pub returns : goal.returns
returns c =
    record {
      measure = ap (λ s. s.measure) c.of_parts.ensures;
      none = λ q. ap (λ s. accepts_in s q) c.of_parts.ensures ∙ getD_constant 48 q false;
    }
