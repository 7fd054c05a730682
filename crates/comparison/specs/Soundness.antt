-- One rule more behind the rules of a sound automaton.
use Rattle.std.specs.Prelude.{◌≡◌, ℕ, List, None}
use Rattle.automata.specs.Automata.{Transition, find, Within}

-- the rule t may stand behind the rules ts: its symbol and states are the automaton's, and its left side is new
pub record Next {W : Type 0} (ranks : List ℕ) (states : ℕ) (ts : List (Transition W)) (t : Transition W) : Type 0 where
  pub within : Within ranks states t
  pub free : find ts t.symbol t.children ≡ None
