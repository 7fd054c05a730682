-- Marking, round one: marked states have different signs of life, and live states that stay unmarked have the same.
use Rattle.std.proofs.Common.{◌≡◌, ℕ, Bool, true, false, List, ◌∷◌, ◌++◌, Some, None, Option, refl, ◌∙◌, arith}
use mathlib.Core.Bool.{Bool-discrete}
use Rattle.std.specs.List.{AllByRecursion}
use Rattle.std.proofs.lemmas.Bool.{both_ways}
use Rattle.std.proofs.ByRecursion.{All-weaker}
use Rattle.kinds.specs.Weights.{Weights}
use Rattle.automata.specs.Automata.{Transition, Automaton, find, Sound}
use Rattle.automata.specs.Runs.{At}
use Rattle.automata.specs.Contexts.{Context, OverContext, value, Live, Equivalent}
use Rattle.automata.specs.Merging.{keeps}
use Rattle.automata.specs.Equivalence.{Congruent}
use Rattle.automata.specs.Marking.{Swapped, MarksFirst, acceptance, lone, targets, DecidesLive, TrueMarks, Symmetric, AtRest, SameSigns, TrueSigns, FirstRound}
use Rattle.automata.proofs.Drops.{kept_target, kept_children, kept_from}
use Rattle.automata.proofs.SameSigns.{signs_onward, signs_accepting, signs_rule, signs_targets}
use Rattle.automata.proofs.Equivalents.{equivalent_signs, equivalences}
use Rattle.automata.proofs.Simulations.{Kept, Gives, value_simulated}

-- two live states that are not marked
pub record Unmarked (live : ℕ → Bool) (marks : ℕ → ℕ → Bool) (p q : ℕ) : Type 0 where
  pub this_live : live p ≡ true
  pub other_live : live q ≡ true
  pub unmarked : marks p q ≡ false

pub unmarked_back : (live : ℕ → Bool) (marks : ℕ → ℕ → Bool) → Symmetric marks → (p q : ℕ) → Unmarked live marks p q → Unmarked live marks q p
unmarked_back live marks symmetric p q u = record { this_live = u.other_live; other_live = u.this_live; unmarked = symmetric q p ∙ u.unmarked }

pub not_marked : (b : Bool) → (b ≡ true → ⊥) → b ≡ false
not_marked true n = absurd (n refl)
not_marked false n = refl

module _ {W : Type 0} (K : Weights W) (A : Automaton W) (live : ℕ → Bool) (decides : DecidesLive K A live) where
  pub target_live : (r : Transition W) → keeps live r ≡ true → Live K A r.target
  target_live r h = (decides r.target).0 (kept_target live r h)

  pub children_all_live : (r : Transition W) → keeps live r ≡ true → AllByRecursion (Live K A) r.children
  children_all_live r h = All-weaker (λ q. live q ≡ true) (Live K A) (λ q. (decides q).0) r.children (kept_children live r h)

  pub live_keeps : (r : Transition W) → AllByRecursion (Live K A) r.children → Live K A r.target → keeps live r ≡ true
  live_keeps r h l = kept_from live r ((decides r.target).1 l) (All-weaker (Live K A) (λ q. live q ≡ true) (λ q. (decides q).1) r.children h)

  module _ (sound : Sound A) where
    -- the targets of two rules that differ in equivalent children are equivalent by the factor that the weights force
    pub swapped_equivalent : (a : W) (p q : ℕ) (r r' : Transition W) → Swapped A live p q r r' → Equivalent K A a p q → Equivalent K A (K.times a (K.times r'.weight (K.inverse r.weight))) r.target r'.target
    swapped_equivalent a p q r r' h e =
        let g : Congruent K A a r h.symbol (h.before ++ q ∷ h.after) =
        (equivalences K A sound).congruent h.symbol h.before h.after a p q r h.first (children_all_live r h.first_live) (target_live r h.first_live) ((decides q).0 h.other_live) e in
        let t = g.there in
        let s = h.second in
        let i : g.other ≡ r' = cc in
        rw i at g.equivalent

    -- a relation of states with the same signs of life that holds of the targets of two rules if it holds of the children in which they differ
    pub record Carried (S : ℕ → ℕ → Type 0) : Type 0 where
      pub signs : (p q : ℕ) → S p q → SameSigns K A p q
      pub on_targets : (p q : ℕ) (r r' : Transition W) → Swapped A live p q r r' → S p q → S r.target r'.target

    carried_signs : Carried (SameSigns K A)
    carried_signs = record {
      signs = λ p q same. same;
      on_targets = λ p q r r' h same. signs_targets K A sound h.symbol h.before h.after p q r h.first (children_all_live r h.first_live) same r' h.second;
    }

    carried_equivalent : Carried (λ p q. (a : W) × Equivalent K A a p q)
    carried_equivalent = record {
      signs = λ p q e. equivalent_signs K A e.0 p q e.1;
      on_targets = λ p q r r' h e. (K.times e.0 (K.times r'.weight (K.inverse r.weight)), swapped_equivalent e.0 p q r r' h e.1);
    }

    -- if the relation holds of no marked pair, then it holds of none that is marked next
    not_carried : (S : ℕ → ℕ → Type 0) → Carried S → (marks : ℕ → ℕ → Bool) → ((p q : ℕ) → marks p q ≡ true → S p q → ⊥) → (p q : ℕ) → MarksFirst A live marks p q → S p q → ⊥
    not_carried S carried marks apart p q (acceptance n) e = n (signs_accepting K A p q (carried.signs p q e))
    not_carried S carried marks apart p q (lone h) e =
        let r = h.rule in
        let k = h.first_live in
        let g = signs_rule K A sound h.symbol h.before h.after p q r h.first (children_all_live r k) (carried.signs p q e) (target_live r k) ((decides q).0 h.other_live) in
        h.alone g.0 g.1 ((decides g.0.target).1 g.2)
    not_carried S carried marks apart p q (targets r r' h m) e = apart r.target r'.target m (carried.on_targets p q r r' h e)

    true_signs : (marks : ℕ → ℕ → Bool) → TrueSigns K A marks → (p q : ℕ) → MarksFirst A live marks p q → SameSigns K A p q → ⊥
    true_signs = not_carried (SameSigns K A) carried_signs

    pub true_marks : (marks : ℕ → ℕ → Bool) → TrueMarks K A marks → (p q : ℕ) → MarksFirst A live marks p q → (a : W) → Equivalent K A a p q → ⊥
    true_marks marks apart p q h a e =
        not_carried (λ x y. (b : W) × Equivalent K A b x y) carried_equivalent marks (λ x y m k. apart x y m k.0 k.1) p q h (a, e)

  module _ (marks : ℕ → ℕ → Bool) (rest : AtRest live marks (MarksFirst A live marks)) where
    -- what would mark a pair does not hold of an unmarked one
    unmarked_by : (p q : ℕ) → Unmarked live marks p q → MarksFirst A live marks p q → ⊥
    unmarked_by p q u m = both_ways (marks p q) u.unmarked (rest p q u.this_live u.other_live m)

    pub accept_alike : (p q : ℕ) → Unmarked live marks p q → A.accepting p ≡ A.accepting q
    accept_alike p q u = elim (Bool-discrete (A.accepting p) (A.accepting q)) [ yes e ↦ e | no n ↦ absurd (unmarked_by p q u (acceptance n)) ]

    -- a rule with p in one place has a counterpart for q, and the two targets are not marked
    pub counterpart : (s : ℕ) (before after : List ℕ) (p q : ℕ) (r : Transition W) → Unmarked live marks p q → find A.rules s (before ++ p ∷ after) ≡ Some r → keeps live r ≡ true
        → (r' : Transition W) × (find A.rules s (before ++ q ∷ after) ≡ Some r') × Swapped A live p q r r' × Unmarked live marks r.target r'.target
    counterpart s before after p q r u e k = at (find A.rules s (before ++ q ∷ after)) refl
      where
        Found : Type 0
        Found = (r' : Transition W) × (find A.rules s (before ++ q ∷ after) ≡ Some r') × Swapped A live p q r r' × Unmarked live marks r.target r'.target

        without : ((r' : Transition W) → find A.rules s (before ++ q ∷ after) ≡ Some r' → live r'.target ≡ true → ⊥) → ⊥
        without alone =
            unmarked_by p q u (lone (record { symbol = s; before = before; after = after; rule = r; first = e; first_live = k; other_live = u.other_live; alone = alone }))

        with_rule : (r' : Transition W) → find A.rules s (before ++ q ∷ after) ≡ Some r' → (b : Bool) → live r'.target ≡ b → Found
        with_rule r' f false l = absurd (without (λ r'' g i. let j : r' ≡ r'' = cc in let z : ◌≡◌ {A = ℕ} 0 1 = cc in absurd (omega arith)))
        with_rule r' f true l =
            let swapped : Swapped A live p q r r' = record { symbol = s; before = before; after = after; first = e; second = f; first_live = k; other_live = u.other_live; second_live = l } in
            (r', f, swapped, record { this_live = kept_target live r k; other_live = l; unmarked = not_marked (marks r.target r'.target) (λ n. unmarked_by p q u (targets r r' swapped n)) })

        at : (o : Option (Transition W)) → find A.rules s (before ++ q ∷ after) ≡ o → Found
        at None f = absurd (without (λ r' g i. let z : ◌≡◌ {A = ℕ} 0 1 = cc in absurd (omega arith)))
        at (Some r') f = with_rule r' f (live r'.target) refl

    -- where q gives nothing, p gives nothing
    pub nothing_back : (p q : ℕ) → Unmarked live marks p q → (c : Context) → OverContext A.ranks c → value K A c q ≡ None → value K A c p ≡ None
    nothing_back p q u c over e = at (value K A c p) refl
      where
        R : At W → At W → Type 0
        R x y = Unmarked live marks x.state y.state

        kept : Kept K A R
        kept s b d x y r h f children target =
            let k = counterpart s b.states d.states x.state y.state r h f (live_keeps r children target) in
            (k.0, k.1, k.3)

        at : (o : Option W) → value K A c p ≡ o → o ≡ None
        at None h = refl
        at (Some w) h =
            let g : Gives K A R w (value K A c q) = value_simulated K A R kept (λ x y. accept_alike x.state y.state) c p q w over ((decides p).0 u.this_live).reachable u h in
            let i = g.other_gives in
            let z : ◌≡◌ {A = ℕ} 0 1 = cc in absurd (omega arith)

    complete : Symmetric marks → (p q : ℕ) → Unmarked live marks p q → SameSigns K A p q
    complete symmetric p q u c over =
        (nothing_back q p (unmarked_back live marks symmetric p q u) c over, nothing_back p q u c over)

    unmarked_transitive : TrueSigns K A marks → Symmetric marks → (p q r : ℕ) → Unmarked live marks p q → Unmarked live marks q r → marks p r ≡ false
    unmarked_transitive apart symmetric p q r u v =
        not_marked (marks p r) (λ m. apart p r m (signs_onward K A p q r (complete symmetric p q u) (complete symmetric q r v)))

-- marks of different signs of life are marks of states that are not equivalent
pub signs_marks : {W : Type 0} (K : Weights W) (A : Automaton W) (marks : ℕ → ℕ → Bool) → TrueSigns K A marks → TrueMarks K A marks
signs_marks K A marks apart p q m a e = apart p q m (equivalent_signs K A a p q e)

pub first_round : {W : Type 0} (K : Weights W) (A : Automaton W) (live : ℕ → Bool) (marks : ℕ → ℕ → Bool) → Sound A → DecidesLive K A live → FirstRound K A live marks
first_round K A live marks sound decides = record {
  truthful = λ apart p q l m. true_signs K A live decides sound marks apart p q;
  complete = λ symmetric rest p q l m u. complete K A live decides marks rest symmetric p q (unmarked l m u);
  unmarked_reflexive = λ apart p. not_marked (marks p p) (λ m. apart p p m (λ c o. ((λ h. h), (λ h. h))));
  unmarked_transitive = λ apart symmetric rest p q r l m n u v. unmarked_transitive K A live decides marks rest apart symmetric p q r (unmarked l m u) (unmarked m n v);
}
  where
    unmarked : {p q : ℕ} → live p ≡ true → live q ≡ true → marks p q ≡ false → Unmarked live marks p q
    unmarked l m u = record { this_live = l; other_live = m; unmarked = u }
