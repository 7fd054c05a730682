-- A chain that is pushed and reduced keeps its two states.
use Rattle.std.proofs.Common.{◌≡◌, ℕ, ◌<◌, ◌≤◌, List, [], ◌∷◌, Some, None, Ok, Err, Result, sym, refl, ap, ◌∙◌, subst, inl, inr, arith}
use Rattle.kinds.specs.declared.residue.Residue.{Residue}
use Rattle.kinds.specs.Weights.{Weights}
use Rattle.kinds.specs.Residues.{residues}
use Rattle.automata.specs.Automata.{Sound}
use Rattle.automata.specs.Runs.{Alike}
use Rattle.automata.specs.Examples.{residue, chain}
use Rattle.automata.proofs.Alikes.{alike_sym}
use Rattle.automata.proofs.Bounds.{lower_bound}
use Rattle.automata.proofs.Chains.{chain_reduced}
use Rattle.trees.specs.declared.refusal.Refusal.{Refusal}
use Rattle.trees.specs.declared.refusal.Refusal.TheVariants.{Short}
use Rattle.trees.specs.Refusals.{when, checks, first_met, FirstMet}
use Rattle.trees.proofs.Refusals.{first_is_met}
use Rattle.rules.specs.Books.{Book}
use Rattle.rules.specs.Pushing.{push_checks}
use Rattle.tables.specs.Histories.{Opening, Call, close, push, reduce, book, Lived, closing, last_reduction, Faithful, Continues}
use Rattle.tables.specs.Reductions.{Reduces}
use Rattle.tables.proofs.Faithful.{drafted_book}
use Rattle.known.specs.Rounds.{chain_opening, drafting, closed_chain, first_calls, reduced_calls, ReducedChain}
use Rattle.known.proofs.Fillings.{chain_book}

-- a table that was just closed is its book
closed_book : {W : Type 0} (K : Weights W) (o : Opening) (h : List (Call W)) (b : Book W) → Lived K o (close ∷ h) b → b ≡ book o h
closed_book K o h b (closing d e) = e ∙ drafted_book o d

chain_sound : (v w : Residue) → Sound (chain v w)
chain_sound v w = record {
  within = (
    record { symbol_within = omega arith; children_rank = refl; children_within = tt; target_within = omega arith },
    (record { symbol_within = omega arith; children_rank = refl; children_within = (omega arith, tt); target_within = omega arith }, tt),
  );
  single = (refl, (refl, tt));
}

-- the smallest automaton that weighs as a chain does has two states
two_states : (v w : Residue) (o : Opening) (h : List (Call Residue)) (b : Book Residue) (answer : ℕ × ℕ) → (book o h).content ≡ chain v w → last_reduction h ≡ Some answer → Faithful residues o h b → (answer.1 ≡ 2) × (b.content.states ≡ 2)
two_states v w o h b answer e l f =
    let alike : Alike residues (chain v w) b.content = subst (λ A. Alike residues A b.content) e f.weighs in
    let least = f.fewest answer l in
    let most = least.1 (chain v w) (chain_sound v w) (alike_sym residues (chain v w) b.content alike) in
    let fewest = lower_bound residues (chain v w) (chain_reduced v w) b.content f.sound alike in
    (omega arith, omega arith)

module _ (n : ℕ) (v w : Residue) (room : 2 ≤ n) (b : Book Residue) (lived : Lived residues (chain_opening n) (closed_chain v w) b) where
  pub closed_is : b ≡ record { places = n; content = chain v w }
  closed_is = closed_book residues (chain_opening n) (drafting v w) b lived ∙ chain_book n v w room

  pub push_let_in : (e : Refusal) → FirstMet (checks (push_checks b 0)) e → ⊥
  push_let_in e m =
      let k = first_is_met (push_checks b 0) e m in
      let i : first_met (push_checks b 0) ≡ None = ap (λ x. first_met (push_checks x 0)) closed_is in
      let z : ◌≡◌ {A = ℕ} 0 1 = cc in
      omega arith

-- the first chain, pushed through its state 0 and then reduced
module _ (n : ℕ) (room : 2 ≤ n) (b : Book Residue) (lived : Lived residues (chain_opening n) first_calls b) where
  pub reduced_two : (b₁ b₂ : Book Residue) (work : ℕ) (f : Residue) (r : Result (ℕ × ℕ) Refusal) → f ≡ residue 2 tt tt → b₁.content.states ≡ b.content.states → Continues residues (chain_opening n) (push 0 f (Ok tt) ∷ first_calls) b b₁ → Reduces residues b₁ work r b₂ → ((h : List (Call Residue)) → Lived residues (chain_opening n) h b₁ → Continues residues (chain_opening n) (reduce work r ∷ h) b₁ b₂) → ReducedChain n work b₂ r
  reduced_two b₁ b₂ work f (Ok answer) i same pushed red next =
      let m : b.content.states ≡ 2 = ap (λ x. x.content.states) (closed_is n (residue 4 tt tt) (residue 8 tt tt) room b lived) in
      let many : work < 2 → ⊥ = λ l. red.0.0 Short (subst (λ k. work < k) (sym (same ∙ m)) l, refl) in
      let c : Continues residues (chain_opening n) (reduced_calls work answer) b₁ b₂ = next (push 0 (residue 2 tt tt) (Ok tt) ∷ first_calls) (subst (λ x. Lived residues (chain_opening n) (push 0 x (Ok tt) ∷ first_calls) b₁) i pushed.lived) in
      let two = two_states (residue 4 tt tt) (residue 8 tt tt) (chain_opening n) (reduced_calls work answer) b₂ answer (ap (λ x. x.content) (chain_book n (residue 4 tt tt) (residue 8 tt tt) room)) refl c.faithful in
      (omega arith, two.0, two.1, c.lived)
  reduced_two b₁ b₂ work f (Err e) i same pushed red next = at red.0
    where
      m : b.content.states ≡ 2
      m = ap (λ x. x.content.states) (closed_is n (residue 4 tt tt) (residue 8 tt tt) room b lived)

      at : FirstMet (when (work < b₁.content.states) Short ∷ []) e → work < 2
      at (inl met) = subst (λ k. work < k) (same ∙ m) met.0
      at (inr none) = absurd none.1
