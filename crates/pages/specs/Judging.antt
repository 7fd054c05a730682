-- What the parts of the answer to two tables are, of every history of the tables.
use Rattle.std.specs.Prelude.{◌≡◌, ℕ, ◌+◌, ◌<◌, List, length, ℤ, Ok, Err, vec_items, Option, Result, Vec, ◌≢◌, slice_index_or}
use Rattle.std.specs.Option.{option_map}
use Rattle.std.specs.List.{ContainsAt}
use Rattle.kinds.specs.Weights.{Weights}
use Rattle.automata.specs.Runs.{weight_of, Alike}
use Rattle.automata.specs.Comparing.{Witness}
use Rattle.trees.specs.declared.node.Node.{Node}
use Rattle.trees.specs.declared.refusal.Refusal.TheVariants.{Alphabets}
use Rattle.trees.specs.Lists.{blank, children_of, IsTreeList, tree_of}
use Rattle.rules.specs.Books.{Book}
use Rattle.tables.specs.Histories.{Opening, Call, Lived, book}
use Rattle.pages.specs.declared.fault.Fault.TheVariants.{Table}
use Rattle.pages.specs.declared.trouble.Trouble.{Trouble}
use Rattle.pages.specs.declared.trouble.Trouble.TheVariants.{Fault as refused, NoMemory}
use Rattle.pages.specs.Answering.{Verdict}

-- what holds of the book of every history that leads to what a table holds
abbrev pub ByHistory : {W : Type 0} → Weights W → Book W → (Book W → Type 0) → Type 0
ByHistory {W} K held P = (o : Opening) (h : List (Call W)) → Lived K o h held → P (book o h)

-- and of two tables
abbrev pub ByHistories : {W : Type 0} → Weights W → Book W → Book W → (Book W → Book W → Type 0) → Type 0
ByHistories K first second P = ByHistory K first (λ b. ByHistory K second (P b))

-- an error that only want of memory can cause
abbrev pub NoFault : Trouble → Type 0
NoFault (refused f) = ⊥
NoFault NoMemory = Unit {0}

-- there is no fault, and with memory enough the value is of this kind
abbrev pub Faultless : {T : Type 0} → (T → Type 0) → Result T Trouble → Type 0
Faultless P (Ok v) = P v
Faultless P (Err x) = NoFault x

-- the code of what the tree of a list weighs by the book
abbrev pub Codes : {W : Type 0} → Weights W → Book W → List Node → Option ℤ → Type 0
Codes K b list code = code ≡ option_map K.code (weight_of K b.content (tree_of b.content.ranks list))

-- the list tells a tree that the two weigh differently, each entry but the last a child of a later one
pub record Apart {W : Type 0} (K : Weights W) (b c : Book W) (list : List Node) : Type 0 where
  pub one_alphabet : b.content.ranks ≡ c.content.ranks
  pub is_list : IsTreeList b.content.ranks list
  pub used : (i : ℕ) → i + 1 < length list → (j : ℕ) × (i < j) × (j < length list) × ContainsAt (children_of b.content.ranks (slice_index_or list j blank)) i
  pub witness : Witness K b.content c.content (tree_of b.content.ranks list)

-- the verdict on tables that weigh every tree alike, and on tables that a list tells apart
abbrev pub TellsSame : {W Z : Type 0} → Weights W → Book W → Book W → Result (Vec ℕ Z) Trouble → Type 0
TellsSame K first second r = ByHistories K first second (λ b c. Alike K b.content c.content → Faultless (λ out. Verdict K b c (vec_items out)) r)

abbrev pub TellsDifferent : {W Z : Type 0} → Weights W → Book W → Book W → List Node → Result (Vec ℕ Z) Trouble → Type 0
TellsDifferent K first second list r = ByHistories K first second (λ b c. Apart K b c list → Faultless (λ out. Verdict K b c (vec_items out)) r)

-- the verdict on two tables over one alphabet, or that there are two
abbrev pub Judges : {W Z : Type 0} → Weights W → Book W → Book W → Result (Vec ℕ Z) Trouble → Type 0
Judges K b c (Ok out) = (b.content.ranks ≡ c.content.ranks) × Verdict K b c (vec_items out)
Judges K b c (Err (refused f)) = (f ≡ Table 0 Alphabets) × (b.content.ranks ≢ c.content.ranks)
Judges K b c (Err NoMemory) = Unit {0}
