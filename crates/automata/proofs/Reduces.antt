-- Merging the classes of equivalent live states gives the smallest automaton that weighs every tree alike.
use Rattle.std.proofs.Common.{◌≡◌, ℕ, true, List, ◌∷◌, ◌++◌, Some, sym, refl, ap, ◌∙◌}
use Rattle.std.specs.List.{AllByRecursion}
use Rattle.std.proofs.ByRecursion.{All-weaker}
use Rattle.kinds.specs.Weights.{Weights}
use Rattle.automata.specs.Automata.{Transition, Automaton, find, Sound}
use Rattle.automata.specs.Runs.{Alike}
use Rattle.automata.specs.Contexts.{plug, Live, Equivalent}
use Rattle.automata.specs.Pushing.{gained}
use Rattle.automata.specs.Merging.{keeps, dropped, Grouping, merged, Counterpart, Admissible}
use Rattle.automata.specs.Equivalence.{Congruent}
use Rattle.automata.specs.Minimality.{Reduced, ByEquivalence, Quotients, Reducing}
use Rattle.automata.proofs.Groups.{unit_right, cancel_left}
use Rattle.automata.proofs.Finds.{find_children}
use Rattle.automata.proofs.Lives.{over_plug, state_within}
use Rattle.automata.proofs.Rows.{all_after}
use Rattle.automata.proofs.Equivalents.{alike_accepting, equivalences}
use Rattle.automata.proofs.Pushes.{run_gains}
use Rattle.automata.proofs.Places.{even_forced}
use Rattle.automata.proofs.Drops.{kept_target, kept_children}
use Rattle.automata.proofs.Trims.{trimming, run_stays}
use Rattle.automata.proofs.Merges.{classed, run_merged, merging}
use Rattle.automata.proofs.Signs.{weighs_sign, weighs_live}
use Rattle.automata.proofs.Bounds.{Together, equivalent_partners, lower_bound}

module _ {W : Type 0} (K : Weights W) where
  -- x y⁻¹ = b says that x = b y
  quotient_whole : (x y b : W) → K.times x (K.inverse y) ≡ b → x ≡ K.times b y
  quotient_whole x y b e =
      sym (ap (λ z. K.times z y) (sym e) ∙ K.assoc x (K.inverse y) y ∙ ap (K.times x) (cancel_left K y) ∙ unit_right K x)

module _ {W : Type 0} (K : Weights W) (A : Automaton W) (G : Grouping W) (sound : Sound A) (by : ByEquivalence K A G) where
  is_live : (q : ℕ) → G.member q ≡ true → Live K A q
  is_live q m = (by.live_members q).0 m

  module _ (h : Quotients K A G) where
    -- the factors of members of one class have the quotient by which they are equivalent
    factors : (p q : ℕ) (a : W) → G.member p ≡ true → G.member q ≡ true → G.class p ≡ G.class q → Equivalent K A a p q → G.factor p ≡ K.times a (G.factor q)
    factors p q a m n c e =
        quotient_whole K (G.factor p) (G.factor q) a ((equivalences K A sound).unique (K.times (G.factor p) (K.inverse (G.factor q))) a p q (is_live q n) (h.quotient p q m n c) e)

    class_swaps : (s : ℕ) (before after : List ℕ) (p q : ℕ) (r : Transition W) → find A.rules s (before ++ p ∷ after) ≡ Some r → keeps G.member r ≡ true → G.member q ≡ true → G.class p ≡ G.class q → Counterpart K A G r s (before ++ q ∷ after)
    class_swaps s before after p q r e k n c =
        let f : ℕ → W = G.factor in
        let target = kept_target G.member r k in
        let members = kept_children G.member r k in
        let i : r.children ≡ before ++ p ∷ after = find_children A.rules s (before ++ p ∷ after) r e in
        let m : G.member p ≡ true = (all_after (λ x. G.member x ≡ true) before (p ∷ after) (rw i at members)).0 in
        let a : W = K.times (f p) (K.inverse (f q)) in
        let same : Equivalent K A a p q = h.quotient p q m n c in
        let lives : AllByRecursion (Live K A) r.children = All-weaker (λ x. G.member x ≡ true) (Live K A) is_live r.children members in
        let o : Congruent K A a r s (before ++ q ∷ after) =
        (equivalences K A sound).congruent s before after a p q r e lives (is_live r.target target) (is_live q n) same in
        let r' : Transition W = o.other in
        let b : W = K.times a (K.times r'.weight (K.inverse r.weight)) in
        let target' : G.member r'.target ≡ true = (by.live_members r'.target).1 o.live_target in
        let one_class : G.class r.target ≡ G.class r'.target = by.shared r.target r'.target target target' b o.equivalent in
        record {
          other = r';
          there = o.there;
          member_target = target';
          same_class = one_class;
          same_weight = even_forced K f a r r' before after p q i (find_children A.rules s (before ++ q ∷ after) r' o.there) (factors p q a m n c same) (factors r.target r'.target b target target' one_class o.equivalent);
        }

    classes_admissible : Admissible K A G
    classes_admissible = record {
      member_within = λ q m. let l = (is_live q m).reachable in state_within K A sound l.tree (record { state = q; weight = l.weight }) l.runs_to;
      class_within = h.class_within;
      no_gap = h.no_gap;
      acceptance = λ p q m n c. alike_accepting K A (K.times (G.factor p) (K.inverse (G.factor q))) p q (h.quotient p q m n c);
      accepting_one = h.accepting_one;
      swaps = class_swaps;
    }

  module _ (h : Admissible K A G) where
    merged_alike : Alike K A (merged K G A)
    merged_alike = record {
      alphabet = refl;
      weights = λ t o. (trimming K A G.member sound by.live_members).weights t o ∙ (merging K A G sound h).alike_dropped.weights t o;
    }

    -- a tree that has a member in the automaton has its class in the merged one
    class_partner : (q : ℕ) → G.member q ≡ true → Together K A (merged K G A) q (G.class q)
    class_partner q m =
        let l = is_live q m in
        let t = l.reachable.tree in
        let w = l.reachable.weight in
        record {
          tree = t;
          over = l.reachable.over;
          first = w;
          second = K.times w (G.factor q);
          runs_first = l.reachable.runs_to;
          runs_second =
              run_merged K A G sound h t
              ∙ ap (classed G.class) (run_gains K G.factor (dropped G.member A) t)
              ∙ ap (λ o. classed G.class (gained K G.factor o)) (run_stays K A G.member sound (λ x. (by.live_members x).1) t (record { state = q; weight = w }) l.reachable.over l.reachable.runs_to l.sign);
        }

    class_live : (q : ℕ) → G.member q ≡ true → Live K (merged K G A) (G.class q)
    class_live q m =
        let g = (is_live q m).sign in
        let u = class_partner q m in
        let t = u.tree in
        weighs_live K (merged K G A) g.context t (G.class q) u.second (K.times u.first g.weight) g.over u.over u.runs_second
        (sym (merged_alike.weights (plug g.context t) (over_plug A.ranks g.context t g.over u.over)) ∙ weighs_sign K A t q u.first g u.runs_first)

    class_apart : (p q : ℕ) → G.member p ≡ true → G.member q ≡ true → (a : W) → Equivalent K (merged K G A) a (G.class p) (G.class q) → G.class p ≡ G.class q
    class_apart p q m n a e =
        by.shared p q m n _ (equivalent_partners K A (merged K G A) merged_alike a p q (G.class p) (G.class q) (class_partner p m) (class_partner q n) e)

    merged_reduced : Reduced K (merged K G A)
    merged_reduced = record {
      live = λ c l. let g = h.no_gap c l in rw g.2 at (class_live g.0 g.1);
      apart = λ c d l k a e.
          let x = h.no_gap c l in
          let y = h.no_gap d k in
          let same : Equivalent K (merged K G A) a (G.class x.0) (G.class y.0) = rw (x.2, y.2) e in
          sym x.2 ∙ class_apart x.0 y.0 x.1 y.1 a same ∙ y.2;
    }

  pub reducing : Reducing K A G
  reducing = record {
    admissible = classes_admissible;
    reduced = merged_reduced;
    alike = merged_alike;
    minimal = λ h. lower_bound K (merged K G A) (merged_reduced h);
  }
