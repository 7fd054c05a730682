-- The classes of states that stay unmarked after both rounds are the classes of equivalent live states.
use Rattle.std.proofs.Common.{◌≡◌, ℕ, Bool, true, false, ◌↔◌, List, sym, ◌∙◌, ⊎_elim}
use Rattle.std.proofs.lemmas.Bool.{cases_Bool}
use Rattle.kinds.specs.Weights.{Weights}
use Rattle.automata.specs.Automata.{Automaton, Sound}
use Rattle.automata.specs.Contexts.{Equivalent}
use Rattle.automata.specs.Marking.{DecidesLive, TrueMarks, Chosen}
use Rattle.automata.specs.Minimality.{ByEquivalence, Quotients}
use Rattle.automata.proofs.Equivalents.{equivalences}
use Rattle.automata.proofs.Marks.{signs_marks}
use Rattle.automata.proofs.Reduces.{reducing}
use Rattle.automata.proofs.SecondMarks.{second_round}
use Rattle.rules.specs.declared.place.Place.{Place}
use Rattle.reduction.specs.declared.classes.Classes.{Classes}
use Rattle.reduction.specs.Classes.{member_in, factor_at, grouping}
use Rattle.reduction.specs.Marking.{ToldFirst, ToldSecond}
use Rattle.reduction.specs.Numbering.{UnmarkedAlike, Numbered}
use Rattle.reduction.specs.Partitions.{Partition}

module _ {W : Type 0} (K : Weights W) (A : Automaton W) (live : ℕ → Bool) (first marks : ℕ → ℕ → Bool) (f : ℕ → W) (sound : Sound A) (decides : DecidesLive K A live) (firsts-true : TrueMarks K A first) (chosen : Chosen K A live first f) (told : ToldSecond K A live f marks) (one : (q : ℕ) → live q ≡ true → A.accepting q ≡ true → f q ≡ K.one) where
  -- unmarked states are equivalent by the quotient of their factors
  unmarked_equivalent : (p q : ℕ) → live p ≡ true → live q ≡ true → marks p q ≡ false → Equivalent K A (K.times (f p) (K.inverse (f q))) p q
  unmarked_equivalent = (second_round K A live first f marks sound decides firsts-true chosen).complete told.symmetric one told.at_rest

  -- equivalent states are not marked
  equivalent_unmarked : (p q : ℕ) (a : W) → Equivalent K A a p q → marks p q ≡ false
  equivalent_unmarked p q a e = ⊎_elim (λ m. absurd (told.true_marks p q m a e)) (λ n. n) (cases_Bool (marks p q))

  unmarked_alike : UnmarkedAlike live marks
  unmarked_alike = record {
    reflexive = λ p l. equivalent_unmarked p p K.one ((equivalences K A sound).reflexive p);
    symmetric = told.symmetric;
    transitive = λ p q r l m n d e.
        equivalent_unmarked p r _ ((equivalences K A sound).transitive (K.times (f p) (K.inverse (f q))) (K.times (f q) (K.inverse (f r))) p q r (unmarked_equivalent p q l m d) (unmarked_equivalent q r m n e));
  }

-- so they are the partition of the live states by equivalence, with these factors
partitioned : {V W : Type 0} (K : Weights W) (stands : V → W) (A : Automaton W) (live : ℕ → Bool) (first marks : ℕ → ℕ → Bool) (c : Classes) (work : List (Place V)) → Sound A → DecidesLive K A live → TrueMarks K A first → Chosen K A live first (factor_at stands K work) → ToldSecond K A live (factor_at stands K work) marks → ((q : ℕ) → live q ≡ true → A.accepting q ≡ true → factor_at stands K work q ≡ K.one) → Numbered live marks c → Partition K A (grouping stands K c work)
partitioned K stands A live first marks c work sound decides firsts-true chosen told one n =
    let f = factor_at stands K work in
    let is_live : (q : ℕ) → member_in c q ≡ true → live q ≡ true = λ q m. sym (n.members q) ∙ m in
    let members : (q : ℕ) → (member_in c q ≡ true) ↔ _ = λ q. ((λ m. (decides q).0 (is_live q m)), (λ l. n.members q ∙ (decides q).1 l)) in
    let by : ByEquivalence K A (grouping stands K c work) = record {
      live_members = members;
      shared = λ p q l m a e. (n.classes p q (is_live p l) (is_live q m)).1 (equivalent_unmarked K A live first marks f sound decides firsts-true chosen told one p q a e);
    } in
    let quotients : Quotients K A (grouping stands K c work) = record {
      class_within = λ q m. n.within q (is_live q m);
      no_gap = λ d l. (n.least d, (n.least_member d l).0, (n.least_member d l).1);
      accepting_one = λ q m a. one q (is_live q m) a;
      quotient = λ p q l m s. unmarked_equivalent K A live first marks f sound decides firsts-true chosen told one p q (is_live p l) (is_live q m) ((n.classes p q (is_live p l) (is_live q m)).0 s);
    } in
    record {
      live_members = members;
      equivalent_class = λ p q l m. ((λ s. (_, quotients.quotient p q l m s)), (λ e. by.shared p q l m e.0 e.1));
      admissible = (reducing K A (grouping stands K c work) sound by).admissible quotients;
      least = n.least;
      least_member = n.least_member;
      least_below = n.least_below;
      ascending = n.ascending;
    }

-- the two rounds, the choice of factors and the numbering together
pub analysed : {V W : Type 0} (K : Weights W) (stands : V → W) (A : Automaton W) (live : ℕ → Bool) (first marks : ℕ → ℕ → Bool) (c : Classes) (work : List (Place V)) → Sound A → DecidesLive K A live → ToldFirst K A live first → Chosen K A live first (factor_at stands K work) × ((q : ℕ) → live q ≡ true → A.accepting q ≡ true → factor_at stands K work q ≡ K.one) → (ToldFirst K A live first → Chosen K A live first (factor_at stands K work) → ToldSecond K A live (factor_at stands K work) marks) → (UnmarkedAlike live marks → Numbered live marks c) → Partition K A (grouping stands K c work)
analysed K stands A live first marks c work sound decides told factors second numbers =
    let truth = signs_marks K A first told.true_signs in
    let again = second told factors.0 in
    partitioned K stands A live first marks c work sound decides truth factors.0 again factors.1
    (numbers (unmarked_alike K A live first marks (factor_at stands K work) sound decides truth factors.0 again factors.1))
