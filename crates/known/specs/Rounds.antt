-- A round of calls on two tables that weigh alike, and what it shows.
use Rattle.std.specs.Prelude.{◌≡◌, ℕ, ◌<◌, ◌≤◌, ◌⊎◌, List, [], ◌∷◌, Some, Ok, Err, Result}
use Rattle.kinds.specs.declared.residue.Residue.{Residue}
use Rattle.kinds.specs.Residues.{residues}
use Rattle.automata.specs.Examples.{residue}
use Rattle.trees.specs.declared.node.Node.{Node}
use Rattle.trees.specs.declared.refusal.Refusal.{Refusal}
use Rattle.rules.specs.Books.{Book}
use Rattle.rules.specs.Weighing.{weight_said}
use Rattle.comparison.specs.declared.comparison.Comparison.TheVariants.{Same}
use Rattle.tables.specs.Histories.{Opening, Call, accept, add, close, push, reduce, Drafted, Lived}
use Rattle.known.specs.declared.shown.Shown.{Shown}

-- how a chain is opened
abbrev pub chain_opening : ℕ → Opening
chain_opening places = record { ranks = 0 ∷ 1 ∷ []; states = 2; places = places }

-- the calls that draft the rules 0 → 0 / v and 1(0) → 1 / w, the newest first
abbrev pub drafting : {W : Type 0} → W → W → List (Call W)
drafting v w = add 1 (0 ∷ []) 1 w (Ok tt) ∷ add 0 [] 0 v (Ok tt) ∷ accept 1 (Ok tt) ∷ []

-- a memory with two places takes the rules
abbrev pub Filled : {W : Type 0} → ℕ → W → W → Book W → Result (Unit {0}) Refusal → Type 0
Filled places v w b (Ok u) = (2 ≤ places) × Drafted (chain_opening places) (drafting v w) b
Filled places v w b (Err e) = places < 2

-- the calls that lead to the closed chain with the weights v and w
abbrev pub closed_chain : {W : Type 0} → W → W → List (Call W)
closed_chain v w = close ∷ drafting v w

abbrev pub first_calls : List (Call Residue)
first_calls = closed_chain (residue 4 tt tt) (residue 8 tt tt)

abbrev pub second_calls : List (Call Residue)
second_calls = closed_chain (residue 2 tt tt) (residue 16 tt tt)

-- and those that push the state 0 of the first chain by 2 and reduce it with so many places
abbrev pub reduced_calls : ℕ → ℕ × ℕ → List (Call Residue)
reduced_calls places answer = reduce places (Ok answer) ∷ push 0 (residue 2 tt tt) (Ok tt) ∷ first_calls

-- two places are enough for that, and two states stay
abbrev pub ReducedChain : ℕ → ℕ → Book Residue → Result (ℕ × ℕ) Refusal → Type 0
ReducedChain places work b (Ok answer) =
    (2 ≤ work) × (answer.1 ≡ 2) × (b.content.states ≡ 2) × Lived residues (chain_opening places) (reduced_calls work answer) b
ReducedChain places work b (Err e) = work < 2

-- the list of the tree 1(0)
abbrev pub entries : List Node
entries = record { symbol = 0; children = 0 ∷ 0 ∷ 0 ∷ 0 ∷ [] } ∷ record { symbol = 1; children = 0 ∷ 0 ∷ 0 ∷ 0 ∷ [] } ∷ []

-- the tree weighs 32, two states stay, and the two tables weigh alike
pub record Shows (s : Shown) : Type 0 where
  pub weight : weight_said (λ v. v) s.weighing ≡ Some (residue 32 tt tt)
  pub states : s.states.1 ≡ 2
  pub comparison : s.comparison ≡ Same

-- the questions are answered if the tree list and the work list have eighteen places, and refused only if one has fewer
abbrev pub Asked : ℕ → ℕ → Result Shown Refusal → Type 0
Asked list work (Ok s) = (18 ≤ list) × (18 ≤ work) × Shows s
Asked list work (Err e) = (list < 18) ⊎ (work < 18)

-- the same of the whole round, with two places in each rule memory
abbrev pub Rounded : ℕ → ℕ → ℕ → ℕ → Result Shown Refusal → Type 0
Rounded first second list work (Ok s) = (2 ≤ first) × (2 ≤ second) × (18 ≤ list) × (18 ≤ work) × Shows s
Rounded first second list work (Err e) = (first < 2) ⊎ ((second < 2) ⊎ ((list < 18) ⊎ (work < 18)))
