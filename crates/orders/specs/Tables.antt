-- The table that a list of lines stands for, and the book that they give.
use Rattle.std.specs.Prelude.{◌≡◌, ℕ, List, [], ◌∷◌, map, ◌==◌}
use Rattle.kinds.specs.declared.cost.Cost.{Cost}
use Rattle.kinds.specs.Costs.{cost, costs}
use Rattle.automata.specs.Automata.{Transition, Automaton}
use Rattle.trees.specs.declared.node.Node.{Node}
use Rattle.trees.specs.Lists.{tree_of}
use Rattle.rules.specs.declared.weighing.Weighing.{Weighing}
use Rattle.rules.specs.Books.{Book, added}
use Rattle.rules.specs.Weighing.{Says}
use Rattle.orders.specs.declared.state.State.{State}
use Rattle.orders.specs.declared.state.State.TheVariants.{Text, Whole, Decimal, Missing, Customer, Quantity, Price, Note, Item, Items, Order}
use Rattle.orders.specs.declared.line.Line.{Line}
use Rattle.orders.specs.declared.reading.Reading.{Reading}
use Rattle.orders.specs.declared.table.Weighed.{Weighed}
use Rattle.orders.specs.Symbols.{symbol_number, order_ranks}

abbrev pub state_number : State → ℕ
state_number Text = 0
state_number Whole = 1
state_number Decimal = 2
state_number Missing = 3
state_number Customer = 4
state_number Quantity = 5
state_number Price = 6
state_number Note = 7
state_number Item = 8
state_number Items = 9
state_number Order = 10

-- the rule of a line
abbrev pub line_rule : Line → Transition Cost
line_rule l = record {
  symbol = symbol_number l.symbol;
  children = map state_number l.children.now;
  target = state_number l.target;
  weight = cost l.cost;
}

-- the book with the rules of these lines behind its own
abbrev pub lines_added : Book Cost → List Line → Book Cost
lines_added b [] = b
lines_added b (l ∷ ls) = lines_added (added b (line_rule l)) ls

-- the table of the lines: 11 states, of which that of a whole order accepts
abbrev pub order_table : List Line → Automaton Cost
order_table ls = record { ranks = order_ranks; states = 11; accepting = λ q. (q == 10); rules = map line_rule ls }

-- what that table says of the tree of a list
abbrev pub SaysOrder : List Line → List Node → Weighing Cost → Type 0
SaysOrder ls ns w = Says (λ v. v) costs (order_table ls) (tree_of order_ranks ns) w

-- the reading is this one, and what is said of it is what the table says of its tree
abbrev pub Judges : List Line → Reading → Weighed → Type 0
Judges ls r w = (w.reading.now ≡ r) × SaysOrder ls r.entries.items w.weighing
