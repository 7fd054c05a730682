-- An automaton whose states are live and not equivalent has no more states than any that weighs every tree alike.
use Rattle.std.proofs.Common.{◌≡◌, ℕ, ◌<◌, Some, None, Option, sym, refl, ap, ◌∙◌, arith}
use Rattle.kinds.specs.Weights.{Weights}
use Rattle.automata.specs.Trees.{Tree, Over}
use Rattle.automata.specs.Automata.{Automaton, Sound}
use Rattle.automata.specs.Runs.{At, run, Alike}
use Rattle.automata.specs.Contexts.{Context, OverContext, plug, value, scaled, Live, Equivalent}
use Rattle.automata.specs.Minimality.{LowerBound}
use Rattle.automata.proofs.Lives.{over_plug, state_within}
use Rattle.automata.proofs.Equivalents.{scaled_twice, scaled_back, equivalences}
use Rattle.automata.proofs.Signs.{weighs_in, weighs_sign, weighs_nothing}
use Rattle.automata.proofs.Pigeons.{pigeonhole}

-- one tree has the state p in A and the state q in B
pub record Together {W : Type 0} (K : Weights W) (A B : Automaton W) (p q : ℕ) : Type 0 where
  pub tree : Tree
  pub over : Over A.ranks tree
  pub first : W
  pub second : W
  pub runs_first : run K A tree ≡ Some (record { state = p; weight = first })
  pub runs_second : run K B tree ≡ Some (record { state = q; weight = second })

module _ {W : Type 0} (K : Weights W) where
  -- two weights that are multiples of a third are multiples of one another
  quotient : (a b c d : W) (x y z : Option W) → scaled K a x ≡ scaled K b z → scaled K c y ≡ scaled K d z → x ≡ scaled K (K.times (K.times (K.inverse a) b) (K.times (K.inverse d) c)) y
  quotient a b c d x y z e f =
      scaled_back K a x (scaled K b z) e
      ∙ scaled_twice K (K.inverse a) b z
      ∙ ap (scaled K (K.times (K.inverse a) b)) (scaled_back K d z (scaled K c y) (sym f) ∙ scaled_twice K (K.inverse d) c y)
      ∙ scaled_twice K (K.times (K.inverse a) b) (K.times (K.inverse d) c) y

  module _ (A B : Automaton W) (alike : Alike K A B) where
    -- in every context the two states give the same up to the run weights of the tree
    same_given : (p q : ℕ) (c : Context) (h : Together K A B p q) → OverContext A.ranks c → scaled K h.first (value K A c p) ≡ scaled K h.second (value K B c q)
    same_given p q c h o =
        sym (weighs_in K A c h.tree p h.first h.runs_first)
        ∙ alike.weights (plug c h.tree) (over_plug A.ranks c h.tree o h.over)
        ∙ weighs_in K B c h.tree q h.second h.runs_second

    -- the factor of two states of A whose partners have the factor b
    abbrev pub between_partners : {p q k l : ℕ} → W → Together K A B p k → Together K A B q l → W
    between_partners b h g = K.times (K.times (K.inverse h.first) (K.times h.second b)) (K.times (K.inverse g.second) g.first)

    -- states of A that stand together with equivalent states of B are equivalent
    pub equivalent_partners : (b : W) (p q k l : ℕ) (h : Together K A B p k) (g : Together K A B q l) → Equivalent K B b k l → Equivalent K A (between_partners b h g) p q
    equivalent_partners b p q k l h g e c o =
        let over : OverContext B.ranks c = rw alike.alphabet at o in
        quotient h.first (K.times h.second b) g.first g.second (value K A c p) (value K A c q) (value K B c l)
        (same_given p k c h o ∙ ap (scaled K h.second) (e c over) ∙ scaled_twice K h.second b (value K B c l))
        (same_given q l c g o)

    -- a live state of A stands together with a state of B
    partner : Sound B → (p : ℕ) → Live K A p → (k : ℕ) × (k < B.states) × Together K A B p k
    partner sound p l = at (run K B l.reachable.tree) refl
      where
        at : (o : Option (At W)) → run K B l.reachable.tree ≡ o → (k : ℕ) × (k < B.states) × Together K A B p k
        at None e =
            let c = l.sign.context in
            let here = weighs_sign K A l.reachable.tree p l.reachable.weight l.sign l.reachable.runs_to in
            let same = alike.weights (plug c l.reachable.tree) (over_plug A.ranks c l.reachable.tree l.sign.over l.reachable.over) in
            let there = weighs_nothing K B c l.reachable.tree e in
            let z : ◌≡◌ {A = ℕ} 0 1 = cc in
            absurd (omega arith)
        at (Some b) e = (
          b.state,
          state_within K B sound l.reachable.tree b e,
          record {
            tree = l.reachable.tree;
            over = l.reachable.over;
            first = l.reachable.weight;
            second = b.weight;
            runs_first = l.reachable.runs_to;
            runs_second = e;
          },
        )

pub lower_bound : {W : Type 0} (K : Weights W) → LowerBound K
lower_bound K A reduced B sound alike =
    pigeonhole B.states A.states (Together K A B)
    (λ p h. partner K A B alike sound p (reduced.live p h))
    (λ p q k h g s t. reduced.apart p q h g _ (equivalent_partners K A B alike K.one p q k k s t ((equivalences K B sound).reflexive k)))
