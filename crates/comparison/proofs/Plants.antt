-- An entry more: the older trees stay, the new tree is its symbol over the trees of its children, and the runs are theirs.
use Rattle.std.proofs.Common.{◌≡◌, ℕ, ◌+◌, ◌<◌, ◌≤◌, List, [], ◌∷◌, ◌++◌, map, length, get_or, take, set, Some, sym, refl, ap, ◌∙◌, subst, ⊎_elim, arith}
use Rattle.std.specs.List.{AllByRecursion}
use Rattle.std.proofs.lemmas.List.{take_at, take_more_set, map_push, length-map, length-take-le, length_push, length-set, get_or_push, get_or_append_left}
use Rattle.std.proofs.lemmas.Bool.{cases_lt}
use Rattle.kinds.specs.Weights.{Weights}
use Rattle.automata.specs.Trees.{node, none}
use Rattle.automata.specs.Runs.{step, run}
use Rattle.trees.specs.declared.node.Node.{Node}
use Rattle.trees.specs.Lists.{blank, children_of, Good, GoodAt, row_of, trees_of, tree_at}
use Rattle.trees.proofs.Entries.{tree_entry, trees_front, row_front}
use Rattle.rules.specs.declared.place.Place.{Place}
use Rattle.rules.specs.declared.rule.Rule.{Rule}
use Rattle.rules.specs.declared.shape.Shape.{Shape}
use Rattle.rules.specs.declared.table.Table.{Table}
use Rattle.rules.specs.declared.side.Side.{Side}
use Rattle.rules.specs.declared.side.Side.TheVariants.{First, Second}
use Rattle.rules.specs.Running.{place_run, run_at, row_runs}
use Rattle.rules.specs.Shapes.{ranks_in, automaton, automaton_of}
use Rattle.rules.proofs.Entries.{RunBelow, run_more}
use Rattle.comparison.specs.Forest.{nodes, tree_in, Forest}

module _ (ranks : List ℕ) (ns : List Node) (n : Node) where
  pub tree_older : (i : ℕ) → i < length ns → tree_at ranks (ns ++ n ∷ []) i ≡ tree_at ranks ns i
  tree_older i h =
      trees_front ranks (ns ++ n ∷ []) (length ns) i (node 0 none) (omega (arith, length_push ns n)) h
      ∙ ap (λ ms. tree_at ranks ms i) (take_at ns (n ∷ []) (length ns) refl)

  pub tree_newest : (i : ℕ) → length ns ≡ i → AllByRecursion (λ c. c < i) (children_of ranks n) → tree_at ranks (ns ++ n ∷ []) i ≡ node n.symbol (row_of (trees_of ranks ns) (children_of ranks n))
  tree_newest i e earlier =
      let here : get_or (ns ++ n ∷ []) i blank ≡ n = get_or_push ns n blank i e in
      tree_entry ranks (ns ++ n ∷ []) i (omega (arith, length_push ns n)) (subst (λ (m : Node). AllByRecursion (λ c. c < i) (children_of ranks m)) (sym here) earlier)
      ∙ ap (λ (m : Node). node m.symbol (row_of (trees_of ranks (ns ++ n ∷ [])) (children_of ranks m))) here
      ∙ ap (node n.symbol) (row_front ranks (trees_of ranks (ns ++ n ∷ [])) (trees_of ranks ns) i (children_of ranks n) (λ k l. tree_older k (omega arith)) earlier)

-- what holds of the older entries and of a new one holds of all
push_each : (P : ℕ → Node → Type 0) (ns : List Node) (n : Node) (len : ℕ) → length ns ≡ len → ((i : ℕ) → i < len → P i (get_or ns i blank)) → P len n → (i : ℕ) → i < len + 1 → P i (get_or (ns ++ n ∷ []) i blank)
push_each P ns n len e older newest i h =
    ⊎_elim
    (λ l. subst (P i) (sym (get_or_append_left ns (n ∷ []) blank i (omega arith))) (older i l))
    (λ l. let same : i ≡ len = omega arith in subst (λ (k : ℕ). P k (get_or (ns ++ n ∷ []) k blank)) (sym same) (subst (P len) (sym (get_or_push ns n blank len e)) newest)) (cases_lt i len)

pub length_nodes : {V : Type 0} (work : List (Place V)) (len : ℕ) → len ≤ length work → length (nodes work len) ≡ len
length_nodes work len h = length-map (take len work) (λ p. p.node) ∙ length-take-le len work h

pub nodes_planted : {V : Type 0} (work : List (Place V)) (len : ℕ) (p : Place V) → len < length work → nodes (set work len p) (len + 1) ≡ nodes work len ++ p.node ∷ []
nodes_planted work len p room = ap (map (λ q. q.node)) (take_more_set work len p room) ∙ map_push (λ q. q.node) (take len work) p

-- the place behind the first ones was filled
module _ {V W : Type 0} (K : Weights W) (stands : V → W) (work : List (Place V)) (len : ℕ) (p : Place V) (room : len < length work) where
  -- with the run of its node, so the first places hold the runs of their trees
  runs_planted : (shape : Shape) (rules : List (Rule V)) (side : Side) → Good (ranks_in shape) len p.node → ((i : ℕ) → i < len → run_at stands side work i ≡ run K (automaton stands shape rules) (tree_in (ranks_in shape) work len i)) → place_run stands side (Some p) ≡ step K (automaton stands shape rules) p.node.symbol (row_runs K (map (run_at stands side work) (children_of (ranks_in shape) p.node))) → (i : ℕ) → i < len + 1 → run_at stands side (set work len p) i ≡ run K (automaton stands shape rules) (tree_in (ranks_in shape) (set work len p) (len + 1) i)
  runs_planted shape rules side good older ran =
      let ns = nodes work len in
      let n = p.node in
      let long : length ns ≡ len = length_nodes work len (omega arith) in
      let here : get_or (ns ++ n ∷ []) len blank ≡ n = get_or_push ns n blank len long in
      let A = automaton stands shape rules in
      let below : RunBelow K stands shape rules (ns ++ n ∷ []) side work len =
      λ i h. older i h ∙ ap (run K A) (sym (tree_older (ranks_in shape) ns n i (omega arith))) in
      let more : RunBelow K stands shape rules (ns ++ n ∷ []) side (set work len p) (len + 1) =
      run_more K stands shape rules (ns ++ n ∷ []) side work len p (omega (arith, length_push ns n)) (subst (Good (ranks_in shape) len) (sym here) good) room below
      (ran ∙ ap (λ (m : Node). step K A m.symbol (row_runs K (map (run_at stands side work) (children_of (ranks_in shape) m)))) (sym here)) in
      λ i h. more i h ∙ ap (λ ms. run K A (tree_at (ranks_in shape) ms i)) (sym (nodes_planted work len p room))

  pub planted : (first second : Table V) → Good (ranks_in first.shape.now) len p.node → place_run stands First (Some p) ≡ step K (automaton_of stands first) p.node.symbol (row_runs K (map (run_at stands First work) (children_of (ranks_in first.shape.now) p.node))) → place_run stands Second (Some p) ≡ step K (automaton_of stands second) p.node.symbol (row_runs K (map (run_at stands Second work) (children_of (ranks_in second.shape.now) p.node))) → ranks_in first.shape.now ≡ ranks_in second.shape.now → Forest K stands (automaton_of stands first) (automaton_of stands second) work len → Forest K stands (automaton_of stands first) (automaton_of stands second) (set work len p) (len + 1)
  planted first second good ran₁ ran₂ same f =
      let long : length (nodes work len) ≡ len = length_nodes work len (omega arith) in
      record {
        room = omega (arith, length-set work len p);
        good = subst (λ (ms : List Node). (i : ℕ) → i < len + 1 → GoodAt (ranks_in first.shape.now) ms i) (sym (nodes_planted work len p room)) (push_each (Good (ranks_in first.shape.now)) (nodes work len) p.node len long f.good good);
        first_runs = runs_planted first.shape.now first.rules.now First good f.first_runs ran₁;
        second_runs = runs_planted second.shape.now second.rules.now Second (subst (λ (rs : List ℕ). Good rs len p.node) same good) f.second_runs ran₂;
      }

-- a work list to which a node was added
module _ {V : Type 0} (ranks : List ℕ) (work work' : List (Place V)) (len : ℕ) (n : Node) (room : len ≤ length work) (more : nodes work' (len + 1) ≡ nodes work len ++ n ∷ []) where
  pub older_tree : (i : ℕ) → i < len → tree_in ranks work' (len + 1) i ≡ tree_in ranks work len i
  older_tree i h = ap (λ ms. tree_at ranks ms i) more ∙ tree_older ranks (nodes work len) n i (omega (arith, length_nodes work len room))

  pub newest_tree : AllByRecursion (λ c. c < len) (children_of ranks n) → tree_in ranks work' (len + 1) len ≡ node n.symbol (row_of (trees_of ranks (nodes work len)) (children_of ranks n))
  newest_tree earlier = ap (λ ms. tree_at ranks ms len) more ∙ tree_newest ranks (nodes work len) n len (length_nodes work len room) earlier
