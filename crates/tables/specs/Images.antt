-- What a draft and a closed table hold, as a book.
use Rattle.std.specs.Prelude.{◌≡◌, ℕ, Ok, Err, Result}
use Rattle.kinds.specs.Weights.{Weights}
use Rattle.trees.specs.declared.refusal.Refusal.{Refusal}
use Rattle.rules.specs.Books.{Book, holding}
use Rattle.rules.specs.Pushing.{Pushes}
use Rattle.reduction.specs.declared.reduced.Reduced.{Reduced}
use Rattle.tables.specs.declared.draft.Draft.{Draft}
use Rattle.tables.specs.declared.closed.Closed.{Closed}

abbrev pub draft_holds : {V W : Type 0} → (V → W) → Draft V → Book W
draft_holds stands d = holding stands d.shape d.rules.now d.count

abbrev pub closed_holds : {V W : Type 0} → (V → W) → Closed V → Book W
closed_holds stands c = holding stands c.shape c.rules.now c.count

-- nothing has changed, the memory beyond the rules included
pub record SameDraft {V : Type 0} (d d' : Draft V) : Type 0 where
  pub shape : d'.shape ≡ d.shape
  pub count : d'.count ≡ d.count
  pub memory : d'.rules.now ≡ d.rules.now

pub record SameClosed {V : Type 0} (c c' : Closed V) : Type 0 where
  pub shape : c'.shape ≡ c.shape
  pub count : c'.count ≡ c.count
  pub memory : c'.rules.now ≡ c.rules.now

-- the state was pushed: shape and number of rules stay, the rules are the pushed ones, the memory beyond them is as it was, and so is every tree's weight
pub record PushedClosed {V W : Type 0} (K : Weights W) (stands : V → W) (q : ℕ) (f : W) (c c' : Closed V) : Type 0 where
  pub shape : c'.shape ≡ c.shape
  pub count : c'.count ≡ c.count
  pub pushes : Pushes K stands c.shape c.count q f c.rules.now c'.rules.now

-- the shape and the number of rules of a table
abbrev pub extent : {V : Type 0} → Closed V → Reduced
extent c = record { shape = c.shape; count = c.count }

-- what holds if the call is refused
abbrev pub IfRefused : {V : Type 0} → Result V Refusal → Type 0 → Type 0
IfRefused (Ok v) P = Unit {0}
IfRefused (Err e) P = P
