-- What a merge makes of one rule, and whether its left side is taken.
use Rattle.std.specs.Prelude.{ℕ, Bool, cond, List, map, is_some, Some, None, Option}
use Rattle.kinds.specs.Weights.{Weights}
use Rattle.automata.specs.Automata.{Transition, find}
use Rattle.automata.specs.Merging.{all_in, keeps, Grouping, relabelled}
use Rattle.reduction.specs.declared.classes.Classes.{Classes}
use Rattle.reduction.specs.Classes.{member_in, class_in}

-- the classes of states, if all of them stay
abbrev pub classes_of : Classes → List ℕ → Option (List ℕ)
classes_of c qs = cond (all_in (member_in c) qs) (Some (map (class_in c) qs)) None

-- the rule that stands in the place of t, if all its states stay
abbrev pub renamed : {W : Type 0} → Weights W → Grouping W → Transition W → Option (Transition W)
renamed K G t = cond (keeps G.member t) (Some (relabelled K G t)) None

-- one of the rules has the left side of t
abbrev pub taken : {W : Type 0} → List (Transition W) → Transition W → Bool
taken rs t = is_some (find rs t.symbol t.children)
