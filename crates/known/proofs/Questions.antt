-- What weighing and comparing say of the two chains.
use Rattle.std.proofs.Common.{◌≡◌, ℕ, zero, suc, ◌<◌, ◌≤◌, true, ◌⊎◌, List, [], ◌∷◌, length, get_or, is_err, Some, Ok, Err, Result, sym, refl, ap, ◌∙◌, subst, inl, inr, arith}
use Rattle.std.proofs.lemmas.Bool.{false≢true, cases_lt}
use Rattle.kinds.specs.declared.residue.Residue.{Residue}
use Rattle.kinds.specs.Weights.{Weights}
use Rattle.kinds.specs.Residues.{residues, residue_path}
use Rattle.automata.specs.Runs.{weight_of}
use Rattle.automata.specs.Examples.{residue}
use Rattle.trees.specs.declared.node.Node.{Node}
use Rattle.trees.specs.declared.refusal.Refusal.{Refusal}
use Rattle.trees.specs.declared.refusal.Refusal.TheVariants.{Short}
use Rattle.trees.specs.Lists.{Good, IsTreeList, bad_list, tree_of}
use Rattle.trees.specs.Refusals.{when, FirstMet, NoneMet}
use Rattle.trees.proofs.Refusals.{list_fine}
use Rattle.rules.specs.declared.weighing.Weighing.{Weighing}
use Rattle.rules.specs.Books.{Book, holding}
use Rattle.rules.specs.Weighing.{weight_said}
use Rattle.comparison.specs.declared.comparison.Comparison.{Comparison}
use Rattle.comparison.specs.declared.comparison.Comparison.TheVariants.{Same, Different}
use Rattle.comparison.specs.Witnesses.{places_needed}
use Rattle.comparison.specs.Comparing.{compare_tests, Compared}
use Rattle.tables.specs.declared.closed.Closed.{Closed}
use Rattle.tables.specs.Histories.{Opening, Call, Lived, book}
use Rattle.tables.specs.Images.{closed_holds, SameClosed}
use Rattle.tables.specs.Promises.{Whole}
use Rattle.tables.proofs.Faithful.{faithful}
use Rattle.known.specs.Cases.{first_chain, second_chain}
use Rattle.known.specs.declared.shown.Shown.{Shown}
use Rattle.known.specs.Rounds.{chain_opening, second_calls, reduced_calls, entries, Asked}
use Rattle.known.proofs.Values.{by_factor}
use Rattle.known.proofs.Fillings.{chain_book}
use Rattle.known.proofs.Reductions.{closed_is}

-- a call that leaves a table as it was leaves what led to it
pub lived_on : {V W : Type 0} (K : Weights W) (stands : V → W) (o : Opening) (h : List (Call W)) (c c' : Closed V) → SameClosed c c' → Lived K o h (closed_holds stands c) → Lived K o h (closed_holds stands c')
lived_on K stands o h c c' s = subst (Lived K o h) (λ i. holding stands (sym s.shape i) (sym s.memory i) (sym s.count i))

pub asked_refused : (list work : ℕ) (r : Result Shown Refusal) → is_err r ≡ true → (list < 18) ⊎ (work < 18) → Asked list work r
asked_refused list work (Ok s) e short = absurd (false≢true e)
asked_refused list work (Err x) e short = short

zeros : (k : ℕ) → k < 4 → ◌≡◌ {A = ℕ} (get_or (0 ∷ 0 ∷ 0 ∷ 0 ∷ []) k 0) 0
zeros zero l = refl
zeros (suc zero) l = refl
zeros (suc (suc zero)) l = refl
zeros (suc (suc (suc zero))) l = refl
zeros (suc (suc (suc (suc k)))) l = absurd (omega arith)

entries_good : IsTreeList (0 ∷ 1 ∷ []) entries
entries_good = record { some = omega arith; few = omega arith; good = good }
  where
    good : (i : ℕ) → i < 2 → Good (0 ∷ 1 ∷ []) i (get_or entries i (record { symbol = 0; children = [] }))
    good zero l = record { four = refl; symbol_within = omega arith; places = λ k h. let z = zeros k h in record { earlier = λ j. absurd (omega arith); padded = λ j. z } }
    good (suc zero) l = record { four = refl; symbol_within = omega arith; places = λ k h. let z = zeros k h in record { earlier = λ j. omega arith; padded = λ j. z } }
    good (suc (suc i)) l = absurd (omega arith)

-- the first chain after its reduction
module _ (n work : ℕ) (answer : ℕ × ℕ) (room : 2 ≤ n) (b : Book Residue) (lived : Lived residues (chain_opening n) (reduced_calls work answer) b) where
  first_book : (book (chain_opening n) (reduced_calls work answer)).content ≡ first_chain
  first_book = ap (λ x. x.content) (chain_book n (residue 4 tt tt) (residue 8 tt tt) room)

  ranks_are : b.content.ranks ≡ 0 ∷ 1 ∷ []
  ranks_are = sym (faithful residues (chain_opening n) lived).weighs.alphabet ∙ ap (λ A. A.ranks) first_book

  pub weigh_let_in : (list : List Node) (places : ℕ) (e : Refusal) → list ≡ entries → FirstMet (bad_list b.content.ranks list ∷ when (places < length list) Short ∷ []) e → places < 2
  weigh_let_in list places e i (inl bad) = absurd (list_fine (0 ∷ 1 ∷ []) entries entries_good e (rw (i, ranks_are) at bad))
  weigh_let_in list places e i (inr (x, inl short)) = let l = ap length i in omega arith
  weigh_let_in list places e i (inr (x, inr none)) = absurd none.1

  pub weighs_32 : (list : List Node) (w : Weighing Residue) → list ≡ entries → weight_of residues (book (chain_opening n) (reduced_calls work answer)).content (tree_of b.content.ranks list) ≡ weight_said (λ v. v) w → weight_said (λ v. v) w ≡ Some (residue 32 tt tt)
  weighs_32 list w i e =
      let t : weight_of residues first_chain (tree_of (0 ∷ 1 ∷ []) entries) ≡ Some (residue 32 tt tt) = ap Some (residue_path _ _ refl) in
      sym e
      ∙ ap (λ A. weight_of residues A (tree_of b.content.ranks list)) first_book
      ∙ ap (λ ns. weight_of residues first_chain (tree_of b.content.ranks ns)) i
      ∙ ap (λ rs. weight_of residues first_chain (tree_of rs entries)) ranks_are
      ∙ t

  -- and the second chain
  module _ (m : ℕ) (room₂ : 2 ≤ m) (b₂ : Book Residue) (lived₂ : Lived residues (chain_opening m) second_calls b₂) where
    second_book : (book (chain_opening m) second_calls).content ≡ second_chain
    second_book = ap (λ x. x.content) (chain_book m (residue 2 tt tt) (residue 16 tt tt) room₂)

    abbrev WholeOf : List Node → List Node → ℕ → Result Comparison Refusal → Type 0
    WholeOf list list' places r =
        Whole residues (λ v. v) (chain_opening n) (chain_opening m) (reduced_calls work answer) second_calls b b₂ list list' places r

    pub compared_same : (list list' : List Node) (places : ℕ) (r : Comparison) → WholeOf list list' places (Ok r) → r ≡ Same
    compared_same list list' places r h = at r (rw (first_book, second_book) at (h.by_books r refl))
      where
        at : (x : Comparison) → Compared residues first_chain second_chain list list' x → x ≡ Same
        at Same c = refl
        at (Different k) c = absurd (c.witness.differs (by_factor.weights _ c.witness.over))

    needed : b.content.states ≡ 2 → places_needed b.content b₂.content ≡ 18
    needed e =
        let k : b₂.content.states ≡ 2 = ap (λ x. x.content.states) (closed_is m (residue 2 tt tt) (residue 16 tt tt) room₂ b₂ lived₂) in
        rw (e, k)

    pub compare_let_in : b.content.states ≡ 2 → (list list' : List Node) (places : ℕ) (e : Refusal) → WholeOf list list' places (Err e) → (length list < 18) ⊎ (places < 18)
    compare_let_in two list list' places e h = at (cases_lt (length list) 18) (cases_lt places 18)
      where
        at : (length list < 18) ⊎ (18 ≤ length list) → (places < 18) ⊎ (18 ≤ places) → (length list < 18) ⊎ (places < 18)
        at (inl l) p = inl l
        at (inr l) (inl p) = inr p
        at (inr l) (inr p) =
            let k = needed two in
            let alphabet : (book (chain_opening n) (reduced_calls work answer)).content.ranks ≡ (book (chain_opening m) second_calls).content.ranks = ap (λ A. A.ranks) first_book ∙ sym (ap (λ A. A.ranks) second_book) in
            let x = h.let_in alphabet (rw k l) (rw k p) in
            let y = x.1 in
            let z : ◌≡◌ {A = ℕ} 0 1 = cc in
            absurd (omega arith)

    pub compare_long : b.content.states ≡ 2 → (list places : ℕ) → NoneMet (compare_tests b.content b₂.content list places) → (18 ≤ list) × (18 ≤ places)
    compare_long two list places none =
        let k = needed two in
        let i : list < 18 → ⊥ = λ l. none.1.0 Short (inl (rw k l), refl) in
        let j : places < 18 → ⊥ = λ l. none.1.0 Short (inr (rw k l), refl) in
        (omega arith, omega arith)
