-- The answer of a comparison, by the books of the two tables.
use Rattle.std.proofs.Common.{◌≡◌, ℕ, ◌+◌, ◌<◌, ◌≤◌, true, false, List, length, get_or, take, Ok, Err, Result, sym, refl, ap, ◌∙◌, subst, ⊎_elim, arith}
use Rattle.std.specs.List.{ContainsAt}
use Rattle.std.proofs.lemmas.Bool.{cases_Bool}
use Rattle.kinds.specs.Weights.{Weights}
use Rattle.automata.specs.Trees.{Tree, Over}
use Rattle.automata.specs.Automata.{Automaton, same_list}
use Rattle.automata.specs.Runs.{run, Alike}
use Rattle.automata.specs.Comparing.{Witness}
use Rattle.automata.proofs.Finds.{same_list_true, same_list_self}
use Rattle.automata.proofs.Alikes.{alike_sym, alike_trans}
use Rattle.trees.specs.declared.node.Node.{Node}
use Rattle.trees.specs.declared.refusal.Refusal.{Refusal}
use Rattle.trees.specs.declared.refusal.Refusal.TheVariants.{Alphabets}
use Rattle.trees.specs.Lists.{blank, children_of, IsTreeList, tree_of}
use Rattle.trees.specs.Refusals.{Answers}
use Rattle.rules.specs.Books.{Book}
use Rattle.comparison.specs.declared.comparison.Comparison.{Comparison}
use Rattle.comparison.specs.declared.comparison.Comparison.TheVariants.{Same, Different}
use Rattle.comparison.specs.Witnesses.{places_needed}
use Rattle.comparison.specs.Comparing.{compare_tests, Compared, Compares}
use Rattle.tables.specs.Histories.{Opening, Call, book, Lived}
use Rattle.tables.specs.Promises.{Kept, Whole}
use Rattle.tables.proofs.Faithful.{faithful}
use Rattle.tables.proofs.Weighings.{said_weight}
use Rattle.tables.proofs.Continuing.{continues_pushed, continues_reduced}

-- lists that are not unequal are equal
pub not_apart : (xs ys : List ℕ) → ((xs ≡ ys → ⊥) → ⊥) → xs ≡ ys
not_apart xs ys n = ⊎_elim (same_list_true xs ys) (λ e. absurd (n (λ s. unlike s e))) (cases_Bool (same_list xs ys))
  where
    unlike : xs ≡ ys → same_list xs ys ≡ false → ⊥
    unlike s e = let t = same_list_self xs in let z : true ≡ false = sym t ∙ ap (same_list xs) s ∙ e in let w : ◌≡◌ {A = ℕ} 0 1 = cc in omega arith

module _ {W : Type 0} (K : Weights W) (A B C D : Automaton W) (p : Alike K A C) (q : Alike K B D) where
  -- automata that weigh as two others have their witnesses
  witness_alike : (t : Tree) → C.ranks ≡ D.ranks → Witness K C D t → Witness K A B t
  witness_alike t one w =
      let over : Over A.ranks t = subst (λ (ranks : List ℕ). Over ranks t) (sym p.alphabet) w.over in
      let beside : Over B.ranks t = subst (λ (ranks : List ℕ). Over ranks t) (one ∙ sym q.alphabet) w.over in
      record { over = over; differs = λ e. w.differs (sym (p.weights t over) ∙ e ∙ q.weights t beside) }

  -- and compare as these do
  pub compared_alike : (list list' : List Node) (answer : Comparison) → C.ranks ≡ D.ranks → Compared K C D list list' answer → Compared K A B list list' answer
  compared_alike list list' Same one c =
      (alike_trans K A C B p (alike_trans K C D B c.0 (alike_sym K B D q)), c.1)
  compared_alike list list' (Different k) one c =
      let back = sym p.alphabet in
      record {
        is_list = subst (λ (ranks : List ℕ). IsTreeList ranks (take k list')) back c.is_list;
        witness = subst (λ (ranks : List ℕ). Witness K A B (tree_of ranks (take k list'))) back (witness_alike (tree_of C.ranks (take k list')) one c.witness);
        used = subst (λ (ranks : List ℕ). (i : ℕ) → i + 1 < k → (j : ℕ) × (i < j) × (j < k) × ContainsAt (children_of ranks (get_or list' j blank)) i) back c.used;
        beyond = c.beyond;
        same_length = c.same_length;
      }

module _ {V W : Type 0} (K : Weights W) (stands : V → W) (o : Opening) (h : List (Call W)) (b : Book W) where
  pub keeps : Lived K o h b → Kept K stands o h b
  keeps l =
      let f = faithful K o l in
      record {
        faithful = f;
        weighings = λ t w s. f.weighs.weights t (subst (λ (ranks : List ℕ). Over ranks t) (sym f.weighs.alphabet) s.over) ∙ said_weight K stands b.content (run K b.content t) w s.says;
        pushes = λ q g r b' a. (continues_pushed K o h b b' q g r a l).unmoved;
        reductions = λ n r b' a. (continues_reduced K o h b b' n r a l).unmoved;
      }

module _ {V W : Type 0} (K : Weights W) (stands : V → W) (b₁ b₂ : Book W) (list list' : List Node) (places : ℕ) (Unchanged : Type 0) where
  -- a comparison that is refused met a test
  let_in : (r : Result Comparison Refusal) → Answers (compare_tests b₁.content b₂.content (length list) places) (Compares K b₁.content b₂.content list list') Unchanged r → b₁.content.ranks ≡ b₂.content.ranks → places_needed b₁.content b₂.content ≤ length list → places_needed b₁.content b₂.content ≤ places → (answer : Comparison) × (r ≡ Ok answer)
  let_in (Ok answer) a one m n = (answer, refl)
  let_in (Err e) a one m n =
      absurd (⊎_elim (λ x. x.0 one) (λ x. ⊎_elim (λ y. ⊎_elim (λ z. omega (arith, z, m)) (λ z. omega (arith, z, n)) y.0) (λ y. y.1) x.1) a.0)

  pub whole : (o₁ o₂ : Opening) (h₁ h₂ : List (Call W)) (r : Result Comparison Refusal) → Answers (compare_tests b₁.content b₂.content (length list) places) (Compares K b₁.content b₂.content list list') Unchanged r → Lived K o₁ h₁ b₁ → Lived K o₂ h₂ b₂ → Whole K stands o₁ o₂ h₁ h₂ b₁ b₂ list list' places r
  whole o₁ o₂ h₁ h₂ r a l₁ l₂ =
      let f = faithful K o₁ l₁ in
      let g = faithful K o₂ l₂ in
      record {
        first = keeps K stands o₁ h₁ b₁ l₁;
        second = keeps K stands o₂ h₂ b₂ l₂;
        let_in = λ one m n. let_in r a (sym f.weighs.alphabet ∙ one ∙ g.weighs.alphabet) m n;
        by_books = by_books r a;
      }
    where
      by_books : (s : Result Comparison Refusal) → Answers (compare_tests b₁.content b₂.content (length list) places) (Compares K b₁.content b₂.content list list') Unchanged s → (answer : Comparison) → s ≡ Ok answer → Compared K (book o₁ h₁).content (book o₂ h₂).content list list' answer
      by_books (Ok c) d answer e =
          let f = faithful K o₁ l₁ in
          let g = faithful K o₂ l₂ in
          let same : c ≡ answer = cc in
          let one : b₁.content.ranks ≡ b₂.content.ranks = not_apart b₁.content.ranks b₂.content.ranks (λ n. d.0.0 Alphabets (n, refl)) in
          subst (Compared K (book o₁ h₁).content (book o₂ h₂).content list list') same
          (compared_alike K (book o₁ h₁).content (book o₂ h₂).content b₁.content b₂.content f.weighs g.weighs list list' c one (d.1 f.sound g.sound))
      by_books (Err x) d answer e = let z : ◌≡◌ {A = ℕ} 0 1 = cc in absurd (omega arith)
