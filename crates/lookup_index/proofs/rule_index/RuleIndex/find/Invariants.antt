use Rattle.std.proofs.Common.{◌≡◌, ℕ, ◌-◌, List, length}
use Rattle.automata.specs.Trees.{rank}
use Rattle.lookup_index.specs.Indexes.{Indexes}
use Rattle.lookup_index.proofs.Walks.{Walked}
use Rattle.lookup_index.proofs.rule_index.RuleIndex.find.Given as goal

abbrev pub invariant-loop-past : goal.invariant-loop-past
invariant-loop-past g l = (ranks : List ℕ) → Indexes ranks l.self l.rules → length l.children ≡ rank ranks l.symbol → Walked ranks l.rules l.symbol l.children l.past l.next

abbrev pub decreases-loop-past : goal.decreases-loop-past
decreases-loop-past g l = length l.initial.rules - l.past
