-- Lines that are added one by one.
use Rattle.std.proofs.Common.{◌≡◌, ℕ, ◌+◌, ◌<◌, List, [], ◌∷◌, ◌++◌, length, get_or, take, refl, ap}
use Rattle.std.proofs.lemmas.List.{take_more}
use Rattle.kinds.specs.declared.cost.Cost.{Cost}
use Rattle.rules.specs.Books.{Book, added}
use Rattle.orders.specs.declared.line.Line.{Line}
use Rattle.orders.specs.Tables.{line_rule, lines_added}

added_last : (b : Book Cost) (ls : List Line) (l : Line) → lines_added b (ls ++ l ∷ []) ≡ added (lines_added b ls) (line_rule l)
added_last b [] l = refl
added_last b (k ∷ ls) l = added_last (added b (line_rule k)) ls l

pub added_more : (b b₁ b₂ : Book Cost) (ls : List Line) (i : ℕ) (d : Line) → i < length ls → b₁ ≡ lines_added b (take i ls) → b₂ ≡ added b₁ (line_rule (get_or ls i d)) → b₂ ≡ lines_added b (take (i + 1) ls)
added_more b b₁ b₂ ls i d h e f = let more = ap (lines_added b) (take_more ls i d h) in let last = added_last b (take i ls) (get_or ls i d) in cc
