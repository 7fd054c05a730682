-- What contracts see of a table of pairs: its rows of cells, and the value of a pair with a state past the last.
use Rattle.std.specs.Prelude.{List}

pub record Grid (X : Type 0) : Type 0 where
  pub blank : X
  pub cells : List (List X)
