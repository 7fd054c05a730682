-- A pair that a round adds to true marks keeps them true.
use Rattle.std.proofs.Common.{◌≡◌, ℕ, ◌<◌, Bool, true, false, cond, ◌&&◌, ◌||◌, eqb, ◌⊎◌, sym, refl, ◌∙◌, subst, inl, inr, ⊎_elim, arith}
use Rattle.std.proofs.lemmas.Bool.{both_ways, cases_Bool}
use Rattle.kinds.specs.Weights.{Weights}
use Rattle.automata.specs.Automata.{Automaton, Sound}
use Rattle.automata.specs.Contexts.{Equivalent}
use Rattle.automata.specs.Marking.{MarksFirst, MarksSecond, DecidesLive, SameSigns}
use Rattle.automata.proofs.SameSigns.{signs_back}
use Rattle.automata.proofs.Equivalents.{equivalences}
use Rattle.automata.proofs.Marks.{not_marked, first_round}
use Rattle.automata.proofs.SecondMarks.{second_round}
use Rattle.pairs.specs.declared.pair_table.PairTable.{PairTable}
use Rattle.pairs.specs.Cells.{cell_at}
use Rattle.pairs.specs.Counts.{marked_count}
use Rattle.reduction.specs.Rounds.{Round, round_one, round_two, Truth, Good, Grown, Swept}
use Rattle.reduction.proofs.PairMarks.{both_kept, both_only, both_symmetric}

module _ {W : Type 0} (K : Weights W) (A : Automaton W) (live : ℕ → Bool) where
  -- what the round may mark
  abbrev pub Adds : Round W → (ℕ → ℕ → Bool) → ℕ → ℕ → Type 0
  Adds round_one marks p q = MarksFirst A live marks p q
  Adds (round_two f) marks p q = MarksSecond K A live f marks p q

  -- what a mark of the round says
  abbrev pub Apart : Round W → ℕ → ℕ → Type 0
  Apart round_one p q = SameSigns K A p q → ⊥
  Apart (round_two f) p q = (a : W) → Equivalent K A a p q → ⊥

  pub apart_back : Sound A → (ρ : Round W) (p q : ℕ) → Apart ρ p q → Apart ρ q p
  apart_back sound round_one p q n = λ same. n (signs_back K A q p same)
  apart_back sound (round_two f) p q n = λ a e. n (K.inverse a) ((equivalences K A sound).symmetric a q p e)

  pub apart_added : Sound A → DecidesLive K A live → (ρ : Round W) (marks : ℕ → ℕ → Bool) → Truth K A live ρ marks → (p q : ℕ) → live p ≡ true → live q ≡ true → Adds ρ marks p q → Apart ρ p q
  apart_added sound decides round_one marks truth = (first_round K A live marks sound decides).truthful truth
  apart_added sound decides (round_two f) marks truth =
      (second_round K A live marks f marks sound decides truth.0 truth.1).truthful truth.0

  pub truth_more : (ρ : Round W) (marks marks' : ℕ → ℕ → Bool) → ((x y : ℕ) → marks x y ≡ true → marks' x y ≡ true) → ((x y : ℕ) → marks' x y ≡ true → (marks x y ≡ true) ⊎ Apart ρ x y) → Truth K A live ρ marks → Truth K A live ρ marks'
  truth_more round_one marks marks' kept only truth = λ x y e. ⊎_elim (truth x y) (λ n. n) (only x y e)
  truth_more (round_two f) marks marks' kept only truth = (
    (λ x y e. ⊎_elim (truth.0 x y) (λ n. n) (only x y e)),
    (λ x y l m u. truth.1 x y l m (not_marked (marks x y) (λ e. both_ways (marks' x y) u (kept x y e)))),
  )

  -- no state is marked against itself
  pub unmarked_itself : Sound A → (ρ : Round W) (marks : ℕ → ℕ → Bool) → Truth K A live ρ marks → (p : ℕ) → marks p p ≡ true → ⊥
  unmarked_itself sound round_one marks truth p e = truth p p e (λ c o. ((λ h. h), (λ h. h)))
  unmarked_itself sound (round_two f) marks truth p e = truth.0 p p e K.one ((equivalences K A sound).reflexive p)

  -- one pair more, marked both ways
  pub good_marked : Sound A → DecidesLive K A live → (ρ : Round W) (t t' : PairTable Bool) (p q : ℕ) → ((x y : ℕ) → cell_at t' x y ≡ cond ((eqb x p && eqb y q) || (eqb x q && eqb y p)) true (cell_at t x y)) → live p ≡ true → live q ≡ true → Adds ρ (cell_at t) p q → Good K A live ρ (cell_at t) → Good K A live ρ (cell_at t')
  good_marked sound decides ρ t t' p q marks l m adds good =
      let apart : Apart ρ p q = apart_added sound decides ρ (cell_at t) good.truth p q l m adds in
      record {
        truth = truth_more ρ (cell_at t) (cell_at t') (both_kept t t' p q marks)
            (λ x y e. ⊎_elim inl (λ b. inr (⊎_elim
            (λ h. rw (h.0, h.1) apart)
            (λ h. rw (h.0, h.1) (apart_back sound ρ p q apart))
            b)) (both_only t t' p q marks x y e))
            good.truth;
        symmetric = both_symmetric t t' p q marks good.symmetric;
      }

  pub grown_marked : (ρ : Round W) (t t' : PairTable Bool) (p q : ℕ) → ((x y : ℕ) → cell_at t' x y ≡ cond ((eqb x p && eqb y q) || (eqb x q && eqb y p)) true (cell_at t x y)) → live p ≡ true → live q ≡ true → (Sound A → Adds ρ (cell_at t) p q) → Grown K A live ρ t t'
  grown_marked ρ t t' p q marks l m adds = record {
    kept = both_kept t t' p q marks;
    good = λ sound decides. good_marked sound decides ρ t t' p q marks l m (adds sound);
  }

  pub grown_same : (ρ : Round W) (t : PairTable Bool) → Grown K A live ρ t t
  grown_same ρ t = record { kept = λ x y e. e; good = λ sound decides good. good }

  pub grown_onward : (ρ : Round W) (t t' t'' : PairTable Bool) → Grown K A live ρ t t' → Grown K A live ρ t' t'' → Grown K A live ρ t t''
  grown_onward ρ t t' t'' g h = record {
    kept = λ x y e. h.kept x y (g.kept x y e);
    good = λ sound decides good. h.good sound decides (g.good sound decides good);
  }

  -- a step with the result b, and a step after it that marks a pair
  pub swept_marks : (ρ : Round W) (P Q R : PairTable Bool → Type 0) (t t' t'' : PairTable Bool) (b : Bool) → Swept K A live ρ P t t' b → Swept K A live ρ Q t' t'' true → Swept K A live ρ R t t'' true
  swept_marks ρ P Q R t t' t'' b g h = record {
    grown = grown_onward ρ t t' t'' g.grown h.grown;
    same = λ e. absurd (both_ways true e refl);
    more = λ e. ⊎_elim
        (λ k. let x = g.more k in let y = h.more refl in omega arith)
        (λ k. subst (λ s. marked_count s < marked_count t'') (g.same k) (h.more refl))
        (cases_Bool b);
    rest = λ e. absurd (both_ways true e refl);
  }

  -- and one that marks none
  pub swept_past : (ρ : Round W) (P Q R : PairTable Bool → Type 0) (t t' t'' : PairTable Bool) (b : Bool) → (P t → Q t → R t) → Swept K A live ρ P t t' b → Swept K A live ρ Q t' t'' false → Swept K A live ρ R t t'' b
  swept_past ρ P Q R t t' t'' b both g h = record {
    grown = grown_onward ρ t t' t'' g.grown h.grown;
    same = λ e. h.same refl ∙ g.same e;
    more = λ e. subst (λ s. marked_count t < marked_count s) (sym (h.same refl)) (g.more e);
    rest = λ e. both (g.rest e) (subst Q (g.same e) (h.rest refl));
  }

  pub swept_none : (ρ : Round W) (P : PairTable Bool → Type 0) (t : PairTable Bool) → P t → Swept K A live ρ P t t false
  swept_none ρ P t rest = record {
    grown = grown_same ρ t;
    same = λ e. refl;
    more = λ e. absurd (both_ways false refl e);
    rest = λ e. rest;
  }
