-- A rule made of the classes of its states and its weight after the push is the rule that the merge puts in its place.
use Rattle.std.proofs.Common.{◌≡◌, ℕ, Bool, true, false, cond, List, map, take, is_some, Some, None, unwrap_or, sym, refl, ap, ◌∙◌, arith}
use Rattle.kinds.specs.Weights.{Weights}
use Rattle.automata.specs.Trees.{rank}
use Rattle.automata.specs.Automata.{Transition}
use Rattle.automata.specs.Pushing.{reweighed}
use Rattle.automata.specs.Merging.{all_in, keeps, relabelled}
use Rattle.std.proofs.lemmas.Bool.{and_from, and_right}
use Rattle.rules.specs.declared.rule.Rule.{Rule}
use Rattle.rules.specs.declared.place.Place.{Place}
use Rattle.rules.specs.Shapes.{transition}
use Rattle.reduction.specs.declared.classes.Classes.{Classes}
use Rattle.reduction.specs.Classes.{class_at, member_in, class_in, factor_at, grouping}
use Rattle.reduction.specs.Renaming.{classes_of, renamed}

transition_is : {W : Type 0} {s : ℕ} {ps qs : List ℕ} {p q : ℕ} {v w : W} → ps ≡ qs → p ≡ q → v ≡ w → ◌≡◌ {A = Transition W} (record { symbol = s; children = ps; target = p; weight = v }) (record { symbol = s; children = qs; target = q; weight = w })
transition_is {s} e f g = λ i. record { symbol = s; children = e i; target = f i; weight = g i }

-- the classes of states that all stay
classes_some : (c : Classes) (qs ps : List ℕ) → Some ps ≡ classes_of c qs → (all_in (member_in c) qs ≡ true) × (ps ≡ map (class_in c) qs)
classes_some c qs ps e = at (all_in (member_in c) qs) refl e
  where
    at : (b : Bool) → all_in (member_in c) qs ≡ b → Some ps ≡ cond b (Some (map (class_in c) qs)) None → (all_in (member_in c) qs ≡ true) × (ps ≡ map (class_in c) qs)
    at true h k = (h, cc)
    at false h k = let z : ◌≡◌ {A = ℕ} 0 1 = cc in absurd (omega arith)

-- a state among them is dropped
classes_none : (c : Classes) (qs : List ℕ) → None ≡ classes_of c qs → all_in (member_in c) qs ≡ false
classes_none c qs e = at (all_in (member_in c) qs) refl e
  where
    at : (b : Bool) → all_in (member_in c) qs ≡ b → None ≡ cond b (Some (map (class_in c) qs)) None → all_in (member_in c) qs ≡ false
    at true h k = let z : ◌≡◌ {A = ℕ} 0 1 = cc in absurd (omega arith)
    at false h k = h

module _ {V W : Type 0} (stands : V → W) (K : Weights W) (c : Classes) (work : List (Place V)) (ranks : List ℕ) (r : Rule V) where
  abbrev f : ℕ → W
  f = factor_at stands K work

  pub renamed_is : (places : List ℕ) (p : ℕ) (v : V) → Some p ≡ class_at c r.target → Some (take (rank ranks r.left.symbol) places) ≡ classes_of c (take (rank ranks r.left.symbol) r.left.children) → stands v ≡ (reweighed K f (transition stands ranks r)).weight → Some (transition stands ranks (record { left = record { symbol = r.left.symbol; children = places }; target = p; weight = v })) ≡ renamed K (grouping stands K c work) (transition stands ranks r)
  renamed_is places p v target children weight =
      let G = grouping stands K c work in
      let t = transition stands ranks r in
      let both = classes_some c t.children (take (rank ranks r.left.symbol) places) children in
      let stays : keeps G.member t ≡ true = and_from (member_in c r.target) (all_in (member_in c) t.children) (sym (ap is_some target)) both.0 in
      let class : p ≡ class_in c r.target = ap (λ o. unwrap_or o 0) target in
      ap Some (transition_is both.1 class weight)
      ∙ sym (ap (λ b. cond b (Some (relabelled K G t)) None) stays)

  pub renamed_lacks : None ≡ classes_of c (take (rank ranks r.left.symbol) r.left.children) → None ≡ renamed K (grouping stands K c work) (transition stands ranks r)
  renamed_lacks children =
      let t = transition stands ranks r in
      let lacks : all_in (member_in c) t.children ≡ false = classes_none c t.children children in
      sym (ap (λ b. cond b (Some (relabelled K (grouping stands K c work) t)) None) (and_right (member_in c r.target) (all_in (member_in c) t.children) lacks))
