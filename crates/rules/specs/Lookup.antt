-- Looking up by a test: the first place that passes.
use Rattle.std.specs.Prelude.{ℕ, Bool, ◌&&◌, List, length, take, ◌==◌}
use Rattle.automata.specs.Automata.{same_list}
use Rattle.rules.specs.declared.left_side.LeftSide.{LeftSide}

-- the left side is s(qs)
abbrev pub has_left : ℕ → List ℕ → LeftSide → Bool
has_left s qs l = l.symbol == s && same_list (take (length qs) l.children) qs
