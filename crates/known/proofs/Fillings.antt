-- A chain is drafted by an accept and two adds, given two places for rules.
use Rattle.std.proofs.Common.{◌≡◌, ℕ, ◌<◌, ◌≤◌, min, Bool, true, false, cond, eqb, leb, [], ◌∷◌, Some, None, Ok, Err, Result, sym, refl, ap, ◌∙◌, arith}
use Rattle.std.proofs.lemmas.Bool.{leb-true, leb-false, lt-leb}
use Rattle.kinds.specs.declared.residue.Residue.{Residue}
use Rattle.automata.specs.Examples.{leaf, edge, chain}
use Rattle.trees.specs.declared.refusal.Refusal.{Refusal}
use Rattle.trees.specs.declared.refusal.Refusal.TheVariants.{Full}
use Rattle.trees.specs.Refusals.{checks, first_met, NoneMet, Answers}
use Rattle.trees.proofs.Refusals.{none_met, first_is_met}
use Rattle.rules.specs.Books.{Book, opened, Opens, accept_checks, accepted, Accepts, add_checks, added}
use Rattle.rules.proofs.Books.{opens_is, accepts_is}
use Rattle.tables.specs.Histories.{book, opening, accepting, adding}
use Rattle.known.specs.Rounds.{chain_opening, drafting, Filled}

-- whether k rules fill a memory with n places
full : (n k : ℕ) (e : Refusal) → cond (leb (min n 1024) k) (Some Full) None ≡ Some e → min n 1024 ≤ k
full n k e h = at (leb (min n 1024) k) refl h
  where
    at : (b : Bool) → leb (min n 1024) k ≡ b → cond b (Some Full) None ≡ Some e → min n 1024 ≤ k
    at true i j = leb-true (min n 1024) k i
    at false i j = let z : ◌≡◌ {A = ℕ} 0 1 = cc in absurd (omega arith)

not_full : (n k : ℕ) → cond (leb (min n 1024) k) (Some Full) None ≡ None → k < min n 1024
not_full n k h = at (leb (min n 1024) k) refl h
  where
    at : (b : Bool) → leb (min n 1024) k ≡ b → cond b (Some Full) None ≡ None → k < min n 1024
    at true i j = let z : ◌≡◌ {A = ℕ} 0 1 = cc in absurd (omega arith)
    at false i j = leb-false (min n 1024) k i

module _ {W : Type 0} (n : ℕ) (v w : W) where
  -- the book after the accept, and after the first add
  abbrev marked : Book W
  marked = accepted (opened (0 ∷ 1 ∷ []) 2 n) 1

  abbrev half : Book W
  half = added marked (leaf 0 0 v)

  module _ (b : Book W) (o : Opens (0 ∷ 1 ∷ []) 2 n b) where
    opened_is : b ≡ opened (0 ∷ 1 ∷ []) 2 n
    opened_is = opens_is (0 ∷ 1 ∷ []) 2 n b o

    module _ (b₁ : Book W) (a₁ : NoneMet (checks (accept_checks b 1)) × Accepts 1 b b₁) where
      marked_is : b₁ ≡ marked
      marked_is = accepts_is 1 b b₁ a₁.1 ∙ ap (λ x. accepted x 1) opened_is

      module _ (b₂ : Book W) (a₂ : NoneMet (checks (add_checks b₁ 0 [] 0)) × (b₂ ≡ added b₁ (leaf 0 0 v))) where
        half_is : b₂ ≡ half
        half_is = a₂.1 ∙ ap (λ x. added x (leaf 0 0 v)) marked_is

        pub second_add : (b₃ : Book W) (P : Type 0) (r : Result (Unit {0}) Refusal) → Answers (checks (add_checks b₂ 1 (0 ∷ []) 1)) (λ _. b₃ ≡ added b₂ (edge 1 0 1 w)) P r → Filled n v w b₃ r
        second_add b₃ P (Ok u) a =
            let k = not_full n 1 (ap (λ x. first_met (add_checks x 1 (0 ∷ []) 1)) (sym half_is) ∙ none_met (add_checks b₂ 1 (0 ∷ []) 1) a.0) in
            (omega arith, adding 1 (0 ∷ []) 1 w (Ok tt) (adding 0 [] 0 v (Ok tt) (accepting 1 (Ok tt) (opening o) a₁) a₂) a)
        second_add b₃ P (Err e) a =
            let k = full n 1 e (ap (λ x. first_met (add_checks x 1 (0 ∷ []) 1)) (sym half_is) ∙ first_is_met (add_checks b₂ 1 (0 ∷ []) 1) e a.0) in
            omega arith

flagged : (b : Bool) → cond b true false ≡ b
flagged true = refl
flagged false = refl

-- the book of a chain
pub chain_book : (n : ℕ) (v w : Residue) → 2 ≤ n → book (chain_opening n) (drafting v w) ≡ record { places = n; content = chain v w }
chain_book n v w l =
    let i : leb (min n 1024) 0 ≡ false = lt-leb (min n 1024) 0 (omega arith) in
    let j : leb (min n 1024) 1 ≡ false = lt-leb (min n 1024) 1 (omega arith) in
    simp (i, j) (λ k. record { places = n; content = record { ranks = 0 ∷ 1 ∷ []; states = 2; accepting = λ q. flagged (eqb q 1) k; rules = leaf 0 0 v ∷ edge 1 0 1 w ∷ [] } })
