-- The calls that a table has seen, the book that they keep, and what a table can hold after them.
use Rattle.std.specs.Prelude.{◌≡◌, ℕ, List, [], ◌∷◌, Some, None, Ok, Err, Option, Result}
use Rattle.kinds.specs.Weights.{Weights}
use Rattle.automata.specs.Automata.{Sound}
use Rattle.automata.specs.Trees.{Tree}
use Rattle.automata.specs.Runs.{weight_of, Alike, Minimal}
use Rattle.trees.specs.declared.refusal.Refusal.{Refusal}
use Rattle.trees.specs.Refusals.{checks, first_met, Answers}
use Rattle.rules.specs.Books.{Book, opened, Opens, accept_checks, accepted, Accepts, add_checks, added}
use Rattle.rules.specs.Pushing.{push_checks, pushed_book}
use Rattle.rules.specs.Weighing.{weight_said}
use Rattle.rules.specs.declared.weighing.Weighing.{Weighing}
use Rattle.tables.specs.Reductions.{Reduces}

-- how a table was opened: the measure's ranks and states, and the places of the rule memory
pub record Opening : Type 0 where
  pub ranks : List ℕ
  pub states : ℕ
  pub places : ℕ

-- a call with its answer
pub data Call (W : Type 0) : Type 0 where
  accept : ℕ → Result (Unit {0}) Refusal → Call W
  add : ℕ → List ℕ → ℕ → W → Result (Unit {0}) Refusal → Call W
  close : Call W
  push : ℕ → W → Result (Unit {0}) Refusal → Call W
  reduce : ℕ → Result (ℕ × ℕ) Refusal → Call W

-- a call that its tests refuse leaves the book; otherwise the book is the new one
abbrev pub unless : {W : Type 0} → Option Refusal → Book W → Book W → Book W
unless (Some e) b b' = b
unless None b b' = b'

-- the book of a table, kept from its calls alone, the newest first; no answer is looked at
abbrev pub book : {W : Type 0} → Opening → List (Call W) → Book W
book o [] = opened o.ranks o.states o.places
book o (accept q r ∷ h) = unless (first_met (accept_checks (book o h) q)) (book o h) (accepted (book o h) q)
book o (add s qs t w r ∷ h) =
    unless (first_met (add_checks (book o h) s qs t)) (book o h) (added (book o h) (record { symbol = s; children = qs; target = t; weight = w }))
book o (close ∷ h) = book o h
book o (push q f r ∷ h) = book o h
book o (reduce n r ∷ h) = book o h

-- what a draft can hold that came from opening and has seen these calls: each step is the promise of the call
pub data Drafted {W : Type 0} (o : Opening) : List (Call W) → Book W → Type 0 where
  opening : {b : Book W} → Opens o.ranks o.states o.places b → Drafted o [] b
  accepting : {h : List (Call W)} {b b' : Book W} (q : ℕ) (r : Result (Unit {0}) Refusal) → Drafted o h b → Answers (checks (accept_checks b q)) (λ _. Accepts q b b') (b' ≡ b) r → Drafted o (accept q r ∷ h) b'
  adding : {h : List (Call W)} {b b' : Book W} (s : ℕ) (qs : List ℕ) (t : ℕ) (w : W) (r : Result (Unit {0}) Refusal) → Drafted o h b → Answers (checks (add_checks b s qs t)) (λ _. b' ≡ added b (record { symbol = s; children = qs; target = t; weight = w })) (b' ≡ b) r → Drafted o (add s qs t w r ∷ h) b'

-- and what a closed table can hold
pub data Lived {W : Type 0} (K : Weights W) (o : Opening) : List (Call W) → Book W → Type 0 where
  closing : {h : List (Call W)} {b b' : Book W} → Drafted o h b → b' ≡ b → Lived K o (close ∷ h) b'
  pushing : {h : List (Call W)} {b b' : Book W} (q : ℕ) (f : W) (r : Result (Unit {0}) Refusal) → Lived K o h b → Answers (checks (push_checks b q)) (λ _. b' ≡ pushed_book K b q f) (b' ≡ b) r → Lived K o (push q f r ∷ h) b'
  reducing : {h : List (Call W)} {b b' : Book W} (n : ℕ) (r : Result (ℕ × ℕ) Refusal) → Lived K o h b → Reduces K b n r b' → Lived K o (reduce n r ∷ h) b'

-- the answer of the last reduction that was let in
abbrev pub last_reduction : {W : Type 0} → List (Call W) → Option (ℕ × ℕ)
last_reduction [] = None
last_reduction (accept q r ∷ h) = last_reduction h
last_reduction (add s qs t w r ∷ h) = last_reduction h
last_reduction (close ∷ h) = last_reduction h
last_reduction (push q f r ∷ h) = last_reduction h
last_reduction (reduce n (Ok answer) ∷ h) = Some answer
last_reduction (reduce n (Err e) ∷ h) = last_reduction h

-- what the calls of a closed table promise of what it holds: every tree weighs what it weighs by the book,
-- and after a reduction no automaton of any size that weighs alike has fewer states
pub record Faithful {W : Type 0} (K : Weights W) (o : Opening) (h : List (Call W)) (b : Book W) : Type 0 where
  pub sound : Sound b.content
  pub weighs : Alike K (book o h).content b.content
  pub fewest : (answer : ℕ × ℕ) → last_reduction h ≡ Some answer → (b.content.states ≡ answer.1) × Minimal K b.content

-- the newest of these calls took b to b': the table is what they lead to, it is faithful to its book, and no tree's weight has moved
pub record Continues {W : Type 0} (K : Weights W) (o : Opening) (h : List (Call W)) (b b' : Book W) : Type 0 where
  pub lived : Lived K o h b'
  pub faithful : Faithful K o h b'
  pub unmoved : Alike K b.content b'.content

-- an answer of weigh says what the tree weighs by the book
abbrev pub WeighsAsBooked : {V W : Type 0} → Weights W → (V → W) → Book W → Tree → Result (Weighing V) Refusal → Type 0
WeighsAsBooked K stands b t (Ok w) = weight_of K b.content t ≡ weight_said stands w
WeighsAsBooked K stands b t (Err e) = Unit {0}
