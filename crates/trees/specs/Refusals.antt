-- The number of each refusal of the table layer, and how the tests of a call decide its answer.
use Rattle.std.specs.Prelude.{◌≡◌, ℕ, Bool, true, cond, ◌⊎◌, List, [], ◌∷◌, Some, None, Ok, Err, Option, Result}
use Rattle.trees.specs.declared.refusal.Refusal.{Refusal}
use Rattle.trees.specs.declared.refusal.Refusal.TheVariants.{Ranks, States, State, Symbol, Children, Taken, Full, Accepting, TreeList, Alphabets, Short}

abbrev pub refusal_number : Refusal → ℕ
refusal_number Ranks = 1
refusal_number States = 2
refusal_number State = 3
refusal_number Symbol = 4
refusal_number Children = 5
refusal_number Taken = 6
refusal_number Full = 7
refusal_number Accepting = 9
refusal_number (TreeList entry) = 10
refusal_number Alphabets = 11
refusal_number Short = 12

-- a test says for which refusals it is met
abbrev pub Test : Type 1
Test = Refusal → Type 0

-- the test that is met, by one refusal, if the condition holds
abbrev pub when : Type 0 → Refusal → Test
when P x e = P × (e ≡ x)

-- a condition that can be computed, and its refusal
pub record Check : Type 0 where
  pub met : Bool
  pub refusal : Refusal

abbrev pub checks : List Check → List Test
checks [] = []
checks (c ∷ cs) = when (c.met ≡ true) c.refusal ∷ checks cs

-- the refusal of the first check that is met
abbrev pub first_met : List Check → Option Refusal
first_met [] = None
first_met (c ∷ cs) = cond c.met (Some c.refusal) (first_met cs)

-- e is the refusal of the first test that is met
abbrev pub FirstMet : List Test → Refusal → Type 0
FirstMet [] e = ⊥
FirstMet (t ∷ ts) e = t e ⊎ (((x : Refusal) → t x → ⊥) × FirstMet ts e)

abbrev pub NoneMet : List Test → Type 0
NoneMet [] = Unit {0}
NoneMet (t ∷ ts) = ((x : Refusal) → t x → ⊥) × NoneMet ts

-- a call with these tests: done if none is met, and otherwise refused by the first that is
abbrev pub Answers : {V : Type 0} → List Test → (V → Type 0) → Type 0 → Result V Refusal → Type 0
Answers tests Done Unchanged (Ok v) = NoneMet tests × Done v
Answers tests Done Unchanged (Err e) = FirstMet tests e × Unchanged
