-- Passes over all rules, and what the two rounds come to.
use Rattle.std.proofs.Common.{◌≡◌, ℕ, ◌+◌, ◌<◌, ◌≤◌, Bool, true, false, ◌↔◌, List, map, length, get_or, Some, sym, refl, ap, ◌∙◌, subst, below_more}
use Rattle.std.specs.List.{ContainsAt, slice_get}
use Rattle.std.proofs.lemmas.List.{length-map, get_or-map}
use Rattle.kinds.specs.Weights.{Weights}
use Rattle.automata.specs.Automata.{Transition, Automaton, Sound}
use Rattle.automata.specs.Marking.{acceptance, lone, DecidesLive, Chosen}
use Rattle.automata.proofs.SameSigns.{signs_accepting}
use Rattle.automata.proofs.Marks.{signs_marks}
use Rattle.liveness.proofs.Derivations.{nth_mapped, has_below}
use Rattle.pairs.specs.declared.pair_table.PairTable.{PairTable}
use Rattle.pairs.specs.Cells.{cell_at}
use Rattle.reduction.specs.Marking.{ToldFirst, ToldSecond}
use Rattle.reduction.specs.Rounds.{Round, round_one, round_two, AcceptApart, Good, Grown, Swept, ComparedAll, LoneAll}
use Rattle.reduction.proofs.PairMarks.{same_tests}
use Rattle.reduction.proofs.Telling.{swept_marks, swept_past}
use Rattle.reduction.proofs.Facings.{lone_marked, rest_first, rest_second}

-- an element that was read, under a map
module _ {X Y : Type 0} (f : X → Y) (xs : List X) (i : ℕ) (x : X) (h : i < length xs) (read : x ≡ get_or xs i x) where
  pub has_mapped : ContainsAt (map f xs) (f x)
  has_mapped = (i, rw (length-map xs f) h, λ d. get_or-map f xs i x d h ∙ ap f (sym read))

  -- what holds of it holds of every element in its place
  pub at_mapped : (P : Y → Type 0) → P (f x) → (y : Y) → slice_get (map f xs) i ≡ Some y → P y
  at_mapped P p y e =
      let here = nth_mapped f xs i x h read in
      let same : f x ≡ y = cc in
      subst P same p

module _ {W : Type 0} (K : Weights W) (A : Automaton W) (live : ℕ → Bool) (ρ : Round W) (P : Transition W → PairTable Bool → Type 0) where
  -- the first n rules have been gone through
  abbrev pub SweptTo : ℕ → PairTable Bool → PairTable Bool → Bool → Type 0
  SweptTo n t t' b = Swept K A live ρ (λ s. (k : ℕ) → k < n → (r : Transition W) → slice_get A.rules k ≡ Some r → P r s) t t' b

  -- with one rule more a pair was marked
  pub to_marks : (Q : PairTable Bool → Type 0) (n : ℕ) (t t' t'' : PairTable Bool) (b : Bool) → SweptTo n t t' b → Swept K A live ρ Q t' t'' true → SweptTo (n + 1) t t'' true
  to_marks Q n t t' t'' b g h = swept_marks K A live ρ _ Q _ t t' t'' b g h

  -- or none
  pub to_past : (Q : PairTable Bool → Type 0) (n : ℕ) (t t' t'' : PairTable Bool) (b : Bool) → (Q t → (r : Transition W) → slice_get A.rules n ≡ Some r → P r t) → SweptTo n t t' b → Swept K A live ρ Q t' t'' false → SweptTo (n + 1) t t'' b
  to_past Q n t t' t'' b here g h =
      swept_past K A live ρ _ Q _ t t' t'' b (λ below q. below_more (λ k. (r : Transition W) → slice_get A.rules k ≡ Some r → P r t) n below (here q)) g h

  pub to_all : (n : ℕ) (t t' : PairTable Bool) (b : Bool) → length A.rules ≤ n → SweptTo n t t' b → Swept K A live ρ (λ s. (r : Transition W) → ContainsAt A.rules r → P r s) t t' b
  to_all n t t' b long g = record {
    grown = g.grown;
    same = g.same;
    more = g.more;
    rest = λ e. has_below (λ r. P r t) A.rules n long (g.rest e);
  }

module _ {W : Type 0} (K : Weights W) (A : Automaton W) (live : ℕ → Bool) where
  pub told_first : (t t' t'' : PairTable Bool) → ((p q : ℕ) → (cell_at t p q ≡ true) ↔ AcceptApart A.accepting live p q) → Grown K A live round_one t t' → LoneAll K A live t' → Grown K A live round_one t' t'' → ComparedAll K A live round_one t'' → Sound A → DecidesLive K A live → ToldFirst K A live (cell_at t'')
  told_first t t' t'' accept g alone h compared sound decides =
      let back : (p q : ℕ) → cell_at t p q ≡ true → cell_at t q p ≡ true = λ p q e.
      let a = (accept p q).0 e in
      (accept q p).1 (record { this_live = a.other_live; other_live = a.this_live; apart = λ s. a.apart (sym s) }) in
      let begun : Good K A live round_one (cell_at t) = record {
        truth = λ p q e same. ((accept p q).0 e).apart (signs_accepting K A p q same);
        symmetric = λ p q. same_tests (cell_at t p q) (cell_at t q p) (back p q) (back q p);
      } in
      let good : Good K A live round_one (cell_at t'') = h.good sound decides (g.good sound decides begun) in
      record {
        true_signs = good.truth;
        symmetric = good.symmetric;
        at_rest = rest_first A live K sound round_one t'' good (λ p q a. h.kept p q (g.kept p q ((accept p q).1 a))) (λ p q l e. h.kept p q (lone_marked A live K t' alone p q e)) compared;
      }

  pub told_second : (f : ℕ → W) (t t' : PairTable Bool) → Grown K A live (round_two f) t t' → ComparedAll K A live (round_two f) t' → Sound A → DecidesLive K A live → ToldFirst K A live (cell_at t) → Chosen K A live (cell_at t) f → ToldSecond K A live f (cell_at t')
  told_second f t t' g compared sound decides told chosen =
      let good : Good K A live (round_two f) (cell_at t') = g.good sound decides (record { truth = (signs_marks K A (cell_at t) told.true_signs, chosen); symmetric = told.symmetric }) in
      record {
        true_marks = good.truth.0;
        symmetric = good.symmetric;
        at_rest = rest_second A live K sound (round_two f) t' good
            (λ p q a. g.kept p q (told.at_rest p q a.this_live a.other_live (acceptance a.apart)))
            (λ p q l e. g.kept p q (told.at_rest p q l e.other_live (lone e)))
            compared f refl;
      }
