use Rattle.std.proofs.Common.{take}
use Rattle.automata.specs.Automata.{Sound}
use Rattle.rules.specs.Shapes.{automaton}
use Rattle.comparison.proofs.soundness.is_sound.Given as goal

abbrev pub invariant-loop-i : goal.invariant-loop-i
invariant-loop-i g l = Sound (automaton g.W.Kind.stands l.table.shape.now (take l.i l.table.rules.now))
