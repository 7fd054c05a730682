-- Trees over a ranked alphabet. An alphabet is the list of the ranks of its symbols, which are numbered from 0.
use Rattle.std.specs.Prelude.{◌≡◌, ℕ, suc, ◌<◌, List, length, slice_index}

infixr 5 ◌▹◌
-- a tree is a symbol over a row of trees
mutual
  pub data Tree : Type 0 where
    node : ℕ → Row → Tree

  pub data Row : Type 0 where
    none : Row
    ◌▹◌ : Tree → Row → Row

abbrev pub size : Row → ℕ
size none = 0
size (t ▹ ts) = suc (size ts)

-- one row after another
abbrev pub joined : Row → Row → Row
joined none us = us
joined (t ▹ ts) us = t ▹ joined ts us

-- the rank of a symbol
abbrev pub rank : List ℕ → ℕ → ℕ
rank ranks s = slice_index ranks s

-- every symbol is of the alphabet and has as many trees below it as its rank
abbrev mutual
  pub Over : List ℕ → Tree → Type 0
  Over ranks (node s ts) = (s < length ranks) × (size ts ≡ rank ranks s) × Overs ranks ts

  pub Overs : List ℕ → Row → Type 0
  Overs ranks none = Unit {0}
  Overs ranks (t ▹ ts) = Over ranks t × Overs ranks ts
