-- The shape and the rules after a merge stand for the merged automaton.
use Rattle.std.proofs.Common.{◌≡◌, ℕ, ◌<◌, ◌≤◌, Bool, true, false, ◌&&◌, eqb, List, map, filter, sym, ap, ◌∙◌, ⊎_elim, arith}
use Rattle.std.proofs.lemmas.Bool.{cases_lt, cases_Bool, eqb-true, and_parts}
use Rattle.kinds.specs.Weights.{Weights}
use Rattle.automata.specs.Automata.{Transition, Automaton}
use Rattle.automata.specs.Merging.{keeps, Grouping, relabelled, firsts, merged, Admissible}
use Rattle.automata.proofs.Merges.{below_some}
use Rattle.rules.specs.declared.rule.Rule.{Rule}
use Rattle.rules.specs.declared.place.Place.{Place}
use Rattle.rules.specs.declared.shape.Shape.{Shape}
use Rattle.rules.specs.Shapes.{ranks_in, states_in, accepts_in, transition, automaton}
use Rattle.reduction.specs.declared.classes.Classes.{Classes}
use Rattle.reduction.specs.Classes.{member_in, class_in, grouping}
use Rattle.reduction.specs.Acceptance.{accepts_as, class_accepts}

automaton_is : {W : Type 0} {rs ss : List ℕ} {m n : ℕ} {f g : ℕ → Bool} {us vs : List (Transition W)} → rs ≡ ss → m ≡ n → ((q : ℕ) → f q ≡ g q) → us ≡ vs → ◌≡◌ {A = Automaton W} (record { ranks = rs; states = m; accepting = f; rules = us }) (record { ranks = ss; states = n; accepting = g; rules = vs })
automaton_is a b c d = λ i. record { ranks = a i; states = b i; accepting = λ q. c q i; rules = d i }

-- no class past those of the states that stay accepts
none_accepts : (s : Shape) (c : Classes) → ((q : ℕ) → member_in c q ≡ true → class_in c q < c.count) → (k : ℕ) → c.count ≤ k → class_accepts s c k ≡ false
none_accepts s c within k h = ⊎_elim (λ e. absurd (no e)) (λ e. e) (cases_Bool (class_accepts s c k))
  where
    no : class_accepts s c k ≡ true → ⊥
    no e =
        let some = below_some (states_in s) (accepts_as s c k) e in
        let q = some.0 in
        let both = and_parts (member_in c q) (eqb (class_in c q) k && accepts_in s q) some.2 in
        let member = both.0 in
        let class = eqb-true (class_in c q) k (and_parts (eqb (class_in c q) k) (accepts_in s q) both.1).0 in
        omega (arith, within q member)

module _ {V W : Type 0} (stands : V → W) (K : Weights W) (shape shape' : Shape) (rules rules' : List (Rule V)) (c : Classes) (work : List (Place V)) where
  abbrev A : Automaton W
  A = automaton stands shape rules

  abbrev G : Grouping W
  G = grouping stands K c work

  -- shape' is what merged-shape makes of shape, and rules' what merge_rules leaves in front
  pub merged_stands : ranks_in shape' ≡ ranks_in shape → states_in shape' ≡ c.count → ((k : ℕ) → k < 48 → accepts_in shape' k ≡ class_accepts shape c k) → ((k : ℕ) → 48 ≤ k → accepts_in shape' k ≡ false) → map (transition stands (ranks_in shape)) rules' ≡ firsts (map (relabelled K G) (filter (keeps (member_in c)) A.rules)) → Admissible K A G → automaton stands shape' rules' ≡ merged K G A
  merged_stands ranks states marks past kept admissible =
      automaton_is ranks states
      (λ k. ⊎_elim (marks k) (λ h. past k h ∙ sym (none_accepts shape c admissible.class_within k (omega (arith, c.few)))) (cases_lt k 48))
      (ap (λ (rs : List ℕ). map (transition stands rs) rules') ranks ∙ kept)
