-- The symbols of a purchase order: names, ranks, and numbers in the order in which they are declared.
use Rattle.std.specs.Prelude.{◌≡◌, ℕ, List, [], ◌∷◌, Some, None, codes, Option, ◌≢◌}
use Rattle.orders.specs.declared.symbol.Symbol.{Symbol}
use Rattle.orders.specs.declared.symbol.Symbol.TheVariants.{Text, Whole, Decimal, Missing, Customer, Quantity, Price, Note, Item, Empty, Items, Order}

abbrev pub symbol_number : Symbol → ℕ
symbol_number Text = 0
symbol_number Whole = 1
symbol_number Decimal = 2
symbol_number Missing = 3
symbol_number Customer = 4
symbol_number Quantity = 5
symbol_number Price = 6
symbol_number Note = 7
symbol_number Item = 8
symbol_number Empty = 9
symbol_number Items = 10
symbol_number Order = 11

abbrev pub symbol_rank : Symbol → ℕ
symbol_rank Text = 0
symbol_rank Whole = 0
symbol_rank Decimal = 0
symbol_rank Missing = 0
symbol_rank Customer = 1
symbol_rank Quantity = 1
symbol_rank Price = 1
symbol_rank Note = 1
symbol_rank Item = 3
symbol_rank Empty = 0
symbol_rank Items = 2
symbol_rank Order = 4

abbrev pub order_ranks : List ℕ
order_ranks = 0 ∷ 0 ∷ 0 ∷ 0 ∷ 1 ∷ 1 ∷ 1 ∷ 1 ∷ 3 ∷ 0 ∷ 2 ∷ 4 ∷ []

abbrev pub symbol_name : Symbol → List ℕ
symbol_name Text = codes "text"
symbol_name Whole = codes "whole"
symbol_name Decimal = codes "decimal"
symbol_name Missing = codes "missing"
symbol_name Customer = codes "customer"
symbol_name Quantity = codes "quantity"
symbol_name Price = codes "price"
symbol_name Note = codes "note"
symbol_name Item = codes "item"
symbol_name Empty = codes "empty"
symbol_name Items = codes "items"
symbol_name Order = codes "order"

-- the symbol of that name, if there is one
abbrev pub Named : List ℕ → Option Symbol → Type 0
Named word (Some s) = word ≡ symbol_name s
Named word None = (s : Symbol) → word ≢ symbol_name s

-- the symbol of that number, if there is one
abbrev pub Numbered : ℕ → Option Symbol → Type 0
Numbered n (Some s) = n ≡ symbol_number s
Numbered n None = (s : Symbol) → n ≢ symbol_number s
