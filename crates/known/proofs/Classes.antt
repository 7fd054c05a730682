-- How many classes a partition has.
use Rattle.std.proofs.Common.{◌≡◌, ℕ, zero, suc, ◌<◌, ◌≤◌, true, sym, refl, ap, ◌∙◌, arith}
use Rattle.kinds.specs.Weights.{Weights}
use Rattle.automata.specs.Automata.{Automaton}
use Rattle.automata.specs.Contexts.{Live, Equivalent}
use Rattle.automata.specs.Merging.{Grouping}
use Rattle.reduction.specs.Partitions.{Partition}

module _ {W : Type 0} (K : Weights W) (A : Automaton W) (G : Grouping W) (h : Partition K A G) where
  -- classes are numbered by their least members, so none is above its own
  least_high : (c : ℕ) → c < G.count → c ≤ h.least c
  least_high zero l = omega arith
  least_high (suc c) l =
      let i = least_high c (omega arith) in
      let j = h.ascending c (suc c) (omega arith) l in
      omega arith

  least_within : (c : ℕ) → c < G.count → h.least c < A.states
  least_within c l = h.admissible.member_within (h.least c) (h.least_member c l).0

  -- no more classes than states
  classes_most : (n : ℕ) → A.states ≡ n → G.count ≤ n
  classes_most n e = at G.count refl
    where
      at : (m : ℕ) → G.count ≡ m → m ≤ n
      at zero i = omega arith
      at (suc m) i = let l = least_high m (omega arith) in let k = least_within m (omega arith) in omega arith

  pub live_member : (q : ℕ) → Live K A q → G.member q ≡ true
  live_member q l = (h.live_members q).1 l

  class_within : (q : ℕ) → Live K A q → G.class q < G.count
  class_within q l = h.admissible.class_within q (live_member q l)

  pub together : (p q : ℕ) → Live K A p → Live K A q → (a : W) → Equivalent K A a p q → G.class p ≡ G.class q
  together p q l m a e = (h.equivalent_class p q (live_member p l) (live_member q m)).1 (a, e)

  apart : (p q : ℕ) → Live K A p → Live K A q → ((a : W) → Equivalent K A a p q → ⊥) → G.class p ≡ G.class q → ⊥
  apart p q l m n e = let x = (h.equivalent_class p q (live_member p l) (live_member q m)).0 e in n x.0 x.1

  module _ (three : A.states ≡ 3) (lives : (q : ℕ) → q < 3 → Live K A q) where
    -- three classes of three states are the states
    alone : G.count ≡ 3 → (G.class 0 ≡ 0) × (G.class 1 ≡ 1)
    alone e =
        let a = least_high 1 (omega arith) in
        let b = h.ascending 0 1 (omega arith) (omega arith) in
        let c = h.ascending 1 2 (omega arith) (omega arith) in
        let d = least_within 2 (omega arith) in
        let i : h.least 0 ≡ 0 = omega arith in
        let j : h.least 1 ≡ 1 = omega arith in
        (ap G.class (sym i) ∙ (h.least_member 0 (omega arith)).1, ap G.class (sym j) ∙ (h.least_member 1 (omega arith)).1)

    -- where 0 and 1 are equivalent and 2 is not, there are two classes
    pub two_classes : (a : W) → Equivalent K A a 0 1 → ((b : W) → Equivalent K A b 0 2 → ⊥) → G.count ≡ 2
    two_classes a e n =
        let same = together 0 1 (lives 0 (omega arith)) (lives 1 (omega arith)) a e in
        let other = apart 0 2 (lives 0 (omega arith)) (lives 2 (omega arith)) n in
        let i = class_within 0 (lives 0 (omega arith)) in
        let j = class_within 2 (lives 2 (omega arith)) in
        let most = classes_most 3 three in
        let few : G.count ≡ 3 → ⊥ = λ k. let x = alone k in omega arith in
        omega arith

    pub three_classes : ((a : W) → Equivalent K A a 0 1 → ⊥) → ((b : W) → Equivalent K A b 0 2 → ⊥) → ((b : W) → Equivalent K A b 1 2 → ⊥) → G.count ≡ 3
    three_classes k m n =
        let x = apart 0 1 (lives 0 (omega arith)) (lives 1 (omega arith)) k in
        let y = apart 0 2 (lives 0 (omega arith)) (lives 2 (omega arith)) m in
        let z = apart 1 2 (lives 1 (omega arith)) (lives 2 (omega arith)) n in
        let i = class_within 0 (lives 0 (omega arith)) in
        let j = class_within 1 (lives 1 (omega arith)) in
        let l = class_within 2 (lives 2 (omega arith)) in
        let most = classes_most 3 three in
        omega arith
