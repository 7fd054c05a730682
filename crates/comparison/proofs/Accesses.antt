-- Planting access trees, one for each state in the order of their discovery.
use Rattle.liveness.specs.Reaching.{rule_of}
use Rattle.std.proofs.Common.{◌≡◌, ℕ, ◌+◌, ◌<◌, ◌≤◌, ◌⊎◌, List, [], ◌∷◌, ◌++◌, map, length, get_or, take, set, replicate, Some, sym, refl, ap, ◌∙◌, subst, ap₂, ⊎_elim, arith}
use Rattle.std.specs.List.{ContainsAt, AllByRecursion, slice_get}
use Rattle.std.proofs.ByRecursion.{All-weaker, All-map, has_push_cases}
use Rattle.std.proofs.lemmas.List.{take_more, take-take, length-set, get_or-set_same, get_or-set_other}
use Rattle.std.proofs.lemmas.Bool.{cases_eq}
use Rattle.kinds.specs.Weights.{Weights}
use Rattle.automata.specs.Trees.{Tree, node, none, ◌▹◌}
use Rattle.automata.specs.Automata.{Transition, Automaton, Within, Sound}
use Rattle.automata.specs.Runs.{beside, applied, step, run, runs}
use Rattle.trees.specs.declared.node.Node.{Node}
use Rattle.trees.specs.Lists.{children_of, Good, row_of, trees_of}
use Rattle.trees.proofs.Entries.{children_earlier}
use Rattle.trees.proofs.Ranks.{rank_small}
use Rattle.rules.specs.declared.place.Place.{Place}
use Rattle.rules.specs.declared.rule.Rule.{Rule}
use Rattle.rules.specs.declared.table.Table.{Table}
use Rattle.rules.specs.declared.side.Side.{Side}
use Rattle.rules.specs.Running.{run_at}
use Rattle.rules.specs.Shapes.{ranks_in, children_in, transition, automaton_of}
use Rattle.liveness.specs.Listings.{Reach}
use Rattle.liveness.specs.Reaching.{Derived, Reached}
use Rattle.liveness.proofs.Reaches.{all_nth, find_itself}
use Rattle.comparison.specs.Forest.{nodes, tree_in, Forest}
use Rattle.comparison.proofs.Plants.{newest_tree}
use Rattle.comparison.specs.Access.{sided, NodeOver, Enters, Accessed}
use Rattle.comparison.specs.Climbing.{row_by}
use Rattle.comparison.proofs.Nodes.{node_good}
use Rattle.comparison.proofs.Older.{enters_still}
use Rattle.comparison.proofs.OneSide.{side_ranks, side_run, side_few, side_rule, side_there}

pub row_mapped : (ts : List Tree) (e : ℕ → ℕ) (qs : List ℕ) → row_of ts (map e qs) ≡ row_by (λ q. get_or ts (e q) (node 0 none)) qs
row_mapped ts e [] = refl
row_mapped ts e (q ∷ qs) = ap (λ r. get_or ts (e q) (node 0 none) ▹ r) (row_mapped ts e qs)

module _ {W : Type 0} (K : Weights W) (A : Automaton W) (trees : ℕ → Tree) where
  -- the tree of the state runs to it
  abbrev pub RunsTo : ℕ → Type 0
  RunsTo q = (w : W) × (run K A (trees q) ≡ Some (record { state = q; weight = w }))

  pub runs_by : (qs : List ℕ) → AllByRecursion RunsTo qs → (w : W) × (runs K A (row_by trees qs) ≡ Some (record { states = qs; weight = w }))
  runs_by [] all = (K.one, refl)
  runs_by (q ∷ qs) all =
      let rest = runs_by qs all.1 in
      (K.times all.0.0 rest.0, ap (λ o. beside K o (runs K A (row_by trees qs))) all.0.1 ∙ ap (beside K (Some (record { state = q; weight = all.0.0 }))) rest.1)

-- one state more, with its entry
enters_set : {V W : Type 0} (stands : V → W) (side : Side) (P Q : ℕ → Type 0) (work : List (Place V)) (len : ℕ) (entries : List ℕ) (q e : ℕ) → Enters stands side P work len entries → q < length entries → e < len → (w : W) × (run_at stands side work e ≡ Some (record { state = q; weight = w })) → ((x : ℕ) → Q x → P x ⊎ (q ≡ x)) → Enters stands side Q work len (set entries q e)
enters_set {W = W} stands side P Q work len entries q e older low below ran cases = record {
  below = λ x h. ⊎_elim (λ s. rw (here x s) below) (λ n. rw (get_or-set_other entries q x e 0 n) (older.below x (known x h n))) (cases_eq x q);
  runs = λ x h.
      ⊎_elim {C = (w : W) × (run_at stands side work (get_or (set entries q e) x 0) ≡ Some (record { state = x; weight = w }))}
      (λ s. (ran.0, ap (run_at stands side work) (here x s) ∙ ran.1 ∙ ap (λ y. Some (record { state = y; weight = ran.0 })) (sym s)))
      (λ n. ((older.runs x (known x h n)).0, ap (run_at stands side work) (get_or-set_other entries q x e 0 n) ∙ (older.runs x (known x h n)).1)) (cases_eq x q);
}
  where
    here : (x : ℕ) → x ≡ q → get_or (set entries q e) x 0 ≡ e
    here x s = ap (λ y. get_or (set entries q e) y 0) s ∙ get_or-set_same entries q e 0 low

    known : (x : ℕ) → Q x → (x ≡ q → ⊥) → P x
    known x h n = ⊎_elim (λ p. p) (λ s. absurd (n (sym s))) (cases x h)

-- the first i states of the order have their entries
pub record Planting {V W : Type 0} (K : Weights W) (stands : V → W) (A B : Automaton W) (side : Side) (R : Reach) (before : List (Place V)) (len : ℕ) (work : List (Place V)) (entries : List ℕ) (i : ℕ) : Type 0 where
  pub forest : Forest K stands A B work (len + i)
  pub same : take len work ≡ take len before
  pub long : length entries ≡ 48
  pub enters : Enters stands side (ContainsAt (take i R.order)) work (len + i) entries

-- two tables over one alphabet, of which one is meant
module _ {V W : Type 0} (K : Weights W) (stands : V → W) (first second : Table V) (alphabet : ranks_in first.shape.now ≡ ranks_in second.shape.now) (side : Side) where
  abbrev pub A : Automaton W
  A = automaton_of stands first

  abbrev pub B : Automaton W
  B = automaton_of stands second

  abbrev pub S : Automaton W
  S = sided side A B

  -- the entries of states run to them as trees
  pub enters_trees : (P : ℕ → Type 0) (work : List (Place V)) (len : ℕ) (entries : List ℕ) → Forest K stands A B work len → Enters stands side P work len entries → (q : ℕ) → P q → RunsTo K S (λ p. tree_in (ranks_in first.shape.now) work len (get_or entries p 0)) q
  enters_trees P work len entries f e q p =
      ((e.runs q p).0, sym (side_run A B alphabet K stands work len f side (get_or entries q 0) (e.below q p)) ∙ (e.runs q p).1)

  module _ (sound : Sound S) where
    -- a rule of the side, as it was read
    module _ (j : ℕ) (r : Rule V) (read : slice_get (sided side first second).rules.now j ≡ Some r) where
      pub read_within : Within (ranks_in first.shape.now) S.states (transition stands (ranks_in first.shape.now) r)
      read_within =
          subst (λ (rs : List ℕ). Within rs S.states (transition stands (ranks_in first.shape.now) r)) (side_ranks A B alphabet side)
          (all_nth (Within S.ranks S.states) S.rules j (transition stands (ranks_in first.shape.now) r) sound.within (side_rule stands first second alphabet side j r read))

      -- its node over the entries of its children
      module _ (P : ℕ → Type 0) (work work' : List (Place V)) (len : ℕ) (entries : List ℕ) (n : Node) (f : Forest K stands A B work len) (e : Enters stands side P work len entries) (all : AllByRecursion P (children_in first.shape.now r.left)) (over : NodeOver (ranks_in first.shape.now) r.left.symbol (map (λ q. get_or entries q 0) (children_in first.shape.now r.left)) n) where
        pub rule_good : Good (ranks_in first.shape.now) len n
        rule_good =
            node_good (ranks_in first.shape.now) r.left.symbol (map (λ q. get_or entries q 0) (children_in first.shape.now r.left)) n (rank_small first.shape.now.measure.alphabet r.left.symbol) over len read_within.symbol_within
            (All-map (λ c. c < len) (λ q. get_or entries q 0) (children_in first.shape.now r.left) (All-weaker P (λ q. get_or entries q 0 < len) e.below (children_in first.shape.now r.left) all))

        earlier : AllByRecursion (λ c. c < len) (children_of (ranks_in first.shape.now) n)
        earlier = children_earlier (ranks_in first.shape.now) len n (rank_small first.shape.now.measure.alphabet n.symbol) rule_good

        -- runs to its target
        pub rule_runs : Forest K stands A B work' (len + 1) → nodes work' (len + 1) ≡ nodes work len ++ n ∷ [] → (w : W) × (run_at stands side work' len ≡ Some (record { state = r.target; weight = w }))
        rule_runs f' more =
            let trees : ℕ → Tree = λ q. tree_in (ranks_in first.shape.now) work len (get_or entries q 0) in
            let t : Transition W = transition stands (ranks_in first.shape.now) r in
            let row = runs_by K S trees t.children (All-weaker P (RunsTo K S trees) (enters_trees P work len entries f e) t.children all) in
            let tree : tree_in (ranks_in first.shape.now) work' (len + 1) len ≡ node t.symbol (row_by trees t.children) =
            newest_tree (ranks_in first.shape.now) work work' len n f.room more earlier
            ∙ ap₂ (λ s cs. node s (row_of (trees_of (ranks_in first.shape.now) (nodes work len)) cs)) over.symbol over.children
            ∙ ap (node t.symbol) (row_mapped (trees_of (ranks_in first.shape.now) (nodes work len)) (λ q. get_or entries q 0) t.children) in (
              K.times row.0 t.weight,
              side_run A B alphabet K stands work' (len + 1) f' side len (omega arith)
                  ∙ ap (run K S) tree
                  ∙ ap (step K S t.symbol) row.1
                  ∙ ap (applied K row.0) (find_itself S.rules j t sound.single (side_rule stands first second alphabet side j r read)),
            )

    -- the states that were reached
    module _ (R : Reach) (reached : Reached S R) (before : List (Place V)) (len : ℕ) where
      abbrev HasEntries : List (Place V) → List ℕ → ℕ → Type 0
      HasEntries = Planting K stands A B side R before len

      -- the state at a place of the order, and its rule
      pub order_few : (i : ℕ) → i < R.count → (i < 48) × (get_or R.order i 0 < 48)
      order_few i low = let few = side_few stands first second side in (omega (arith, reached.listed.bounded), omega (arith, reached.listed.within i low))

      pub rule_there : (i : ℕ) → i < R.count → rule_of R (get_or R.order i 0) < length (sided side first second).rules.now
      rule_there i low =
          side_there stands first second side (rule_of R (get_or R.order i 0)) (reached.derived i low).rule (reached.derived i low).there

      pub planting_none : Forest K stands A B before len → HasEntries before (replicate 48 0) 0
      planting_none f = record {
        forest = subst (Forest K stands A B before) (omega arith) f;
        same = refl;
        long = refl;
        enters = record { below = λ q h. absurd (omega (arith, h.1)); runs = λ q h. absurd (omega (arith, h.1)) };
      }

      -- the rule that reached the next of them, as it was read
      module _ (work : List (Place V)) (entries : List ℕ) (i : ℕ) (p : HasEntries work entries i) (low : i < R.count) (r : Rule V) (read : slice_get (sided side first second).rules.now (rule_of R (get_or R.order i 0)) ≡ Some r) where
        d : Derived S (take i R.order) (get_or R.order i 0) (rule_of R (get_or R.order i 0))
        d = reached.derived i low

        is_rule : d.rule ≡ transition stands (ranks_in first.shape.now) r
        is_rule =
            let e = d.there in
            let f = side_rule stands first second alphabet side (rule_of R (get_or R.order i 0)) r read in
            cc

        children_before : AllByRecursion (ContainsAt (take i R.order)) (children_in first.shape.now r.left)
        children_before = subst (λ (t : Transition W). AllByRecursion (ContainsAt (take i R.order)) t.children) is_rule d.children

        target_is : r.target ≡ get_or R.order i 0
        target_is = ap (λ (t : Transition W). t.target) (sym is_rule) ∙ d.target

        module _ (n : Node) (over : NodeOver (ranks_in first.shape.now) r.left.symbol (map (λ q. get_or entries q 0) (children_in first.shape.now r.left)) n) where
          pub planting_good : Good (ranks_in first.shape.now) (len + i) n
          planting_good = rule_good (rule_of R (get_or R.order i 0)) r read (ContainsAt (take i R.order)) work work (len + i) entries n p.forest p.enters children_before over

          pub planting_more : (work' : List (Place V)) → i < length R.order → get_or R.order i 0 < 48 → Forest K stands A B work' (len + i + 1) → nodes work' (len + i + 1) ≡ nodes work (len + i) ++ n ∷ [] → take (len + i) work' ≡ take (len + i) work → HasEntries work' (set entries (get_or R.order i 0) (len + i)) (i + 1)
          planting_more work' short few f' more older =
              let q = get_or R.order i 0 in
              let up : len + i + 1 ≡ len + (i + 1) = omega arith in
              let long = p.long in
              let here : get_or (set entries q (len + i)) q 0 ≡ len + i = get_or-set_same entries q (len + i) 0 (omega arith) in
              let still = enters_still work work' (len + i) older stands side (ContainsAt (take i R.order)) entries (len + (i + 1)) (omega arith) p.enters in
              let ran = rule_runs (rule_of R q) r read (ContainsAt (take i R.order)) work work' (len + i) entries n p.forest p.enters children_before over f' more in
              record {
                forest = subst (Forest K stands A B work') up f';
                same = sym (take-take len (len + i) work' (omega arith)) ∙ ap (take len) older ∙ take-take len (len + i) work (omega arith) ∙ p.same;
                long = length-set entries q (len + i) ∙ long;
                enters =
                    enters_set stands side (ContainsAt (take i R.order)) (ContainsAt (take (i + 1) R.order)) work' (len + (i + 1)) entries q (len + i) still (omega arith) (omega arith)
                    (ran.0, ran.1 ∙ ap (λ x. Some (record { state = x; weight = ran.0 })) target_is)
                    (λ x h. has_push_cases (take i R.order) q x (subst (λ (xs : List ℕ). ContainsAt xs x) (take_more R.order i 0 short) h));
              }

      pub planting_all : (work : List (Place V)) (entries : List ℕ) (i : ℕ) → i ≤ R.count → R.count ≤ i → HasEntries work entries i → Accessed K stands A B side R before len work (record { entry = entries; len = len + R.count })
      planting_all work entries i low high p =
          let at : i ≡ R.count = omega arith in
          let q : HasEntries work entries R.count = subst (HasEntries work entries) at p in
          record {
            more = refl;
            forest = q.forest;
            same = q.same;
            enters = record {
              below = λ x f. q.enters.below x ((reached.listed.flagged x).0 f);
              runs = λ x f. q.enters.runs x ((reached.listed.flagged x).0 f);
            };
          }
