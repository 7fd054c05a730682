-- What a shape and a list of rules stand for: an automaton over the weights of a kind.
use Rattle.std.specs.Prelude.{◌≡◌, ℕ, Bool, true, false, cond, List, map, take, ◌==◌, slice_index_or}
use Rattle.automata.specs.Trees.{rank}
use Rattle.automata.specs.Automata.{Transition, Automaton}
use Rattle.rules.specs.Measures.{ranks}
use Rattle.rules.specs.declared.left_side.LeftSide.{LeftSide}
use Rattle.rules.specs.declared.shape.Shape.{Shape}
use Rattle.rules.specs.declared.rule.Rule.{Rule}
use Rattle.rules.specs.declared.table.Table.{Table}

abbrev pub ranks_in : Shape → List ℕ
ranks_in s = ranks s.measure

abbrev pub states_in : Shape → ℕ
states_in s = s.measure.states

abbrev pub accepts_in : Shape → ℕ → Bool
accepts_in s q = slice_index_or s.accepting q false

-- the children of a left side
abbrev pub children_in : Shape → LeftSide → List ℕ
children_in s l = take (rank (ranks_in s) l.symbol) l.children

-- the state q is marked too, and nothing else has changed
pub record Marked (q : ℕ) (s s' : Shape) : Type 0 where
  pub measure : s'.measure ≡ s.measure
  pub marks : (p : ℕ) → accepts_in s' p ≡ cond (p == q) true (accepts_in s p)

-- what a rule stands for, at the ranks of the alphabet
abbrev pub transition : {V W : Type 0} → (V → W) → List ℕ → Rule V → Transition W
transition stands rs r = record {
  symbol = r.left.symbol;
  children = take (rank rs r.left.symbol) r.left.children;
  target = r.target;
  weight = stands r.weight;
}

abbrev pub automaton : {V W : Type 0} → (V → W) → Shape → List (Rule V) → Automaton W
automaton stands s rules = record {
  ranks = ranks_in s;
  states = states_in s;
  accepting = accepts_in s;
  rules = map (transition stands (ranks_in s)) rules;
}

-- what a table to read stands for
abbrev pub automaton_of : {V W : Type 0} → (V → W) → Table V → Automaton W
automaton_of stands t = automaton stands t.shape.now t.rules.now
