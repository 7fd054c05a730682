-- From opening two chains to what the whole round answers.
use Rattle.std.proofs.Common.{◌≡◌, ℕ, ◌≤◌, List, [], ◌∷◌, Ok, Err, Result, subst, inr}
use Rattle.kinds.specs.declared.residue.Residue.{Residue}
use Rattle.kinds.specs.Residues.{residues}
use Rattle.trees.specs.declared.refusal.Refusal.{Refusal}
use Rattle.rules.specs.Books.{Book, Opens}
use Rattle.tables.specs.Histories.{Drafted, Lived, closing}
use Rattle.known.specs.declared.shown.Shown.{Shown}
use Rattle.known.specs.Rounds.{chain_opening, drafting, closed_chain, Asked, Rounded}

pub opens_chain : (ranks : List ℕ) (states n : ℕ) (b : Book Residue) → (ranks ≡ 0 ∷ 1 ∷ []) × (states ≡ 2) → Opens ranks states n b → Opens (0 ∷ 1 ∷ []) 2 n b
opens_chain ranks states n b e o = rw (e.0, e.1) at o

pub closed_lived : (n : ℕ) (v w x y : Residue) (b b' : Book Residue) → v ≡ x → w ≡ y → Drafted (chain_opening n) (drafting v w) b → b' ≡ b → Lived residues (chain_opening n) (closed_chain x y) b'
closed_lived n v w x y b b' i j d e =
    closing (subst (λ z. Drafted (chain_opening n) (drafting x z) b) j (subst (λ z. Drafted (chain_opening n) (drafting z w) b) i d)) e

module _ (n m list work : ℕ) where
  pub rounded : (r : Result Shown Refusal) → 2 ≤ n → 2 ≤ m → Asked list work r → Rounded n m list work r
  rounded (Ok s) l k a = (l, k, a.0, a.1, a.2)
  rounded (Err e) l k a = inr (inr a)
