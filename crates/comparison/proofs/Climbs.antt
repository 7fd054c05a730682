-- Climbing from an entry, rule by rule, along the way from its state to an accepting one.
use Rattle.liveness.specs.Living.{lead_of}
use Rattle.liveness.specs.Listings.{flags_of}
use Rattle.std.proofs.Common.{◌≡◌, ℕ, zero, suc, ◌+◌, ◌-◌, ◌<◌, ◌≤◌, true, false, List, [], ◌∷◌, ◌++◌, map, length, get_or, take, drop, set, Some, sym, refl, ap, ◌∙◌, subst, ap₂, le_of_suc-le-suc, arith}
use Rattle.std.specs.List.{AllByRecursion, slice_get}
use Rattle.std.proofs.ByRecursion.{All-weaker, All-map, All-set, All-take, All-drop}
use Rattle.std.proofs.lemmas.List.{take-take, length-take}
use Rattle.kinds.specs.Weights.{Weights}
use Rattle.automata.specs.Trees.{Tree, node, none, ◌▹◌, joined, rank}
use Rattle.automata.specs.Automata.{Transition, Automaton}
use Rattle.automata.specs.Contexts.{Context, hole, plug}
use Rattle.trees.specs.declared.node.Node.{Node}
use Rattle.trees.specs.Lists.{Good, row_of, trees_of}
use Rattle.trees.proofs.Entries.{children_earlier}
use Rattle.trees.proofs.Ranks.{rank_small, nth_some}
use Rattle.rules.specs.declared.place.Place.{Place}
use Rattle.rules.specs.declared.rule.Rule.{Rule}
use Rattle.rules.specs.declared.table.Table.{Table}
use Rattle.rules.specs.declared.side.Side.{Side}
use Rattle.rules.specs.Shapes.{ranks_in, children_in, transition, automaton_of}
use Rattle.liveness.specs.Listings.{Reach}
use Rattle.liveness.specs.Living.{Life}
use Rattle.liveness.specs.Listings.{Flagged}
use Rattle.comparison.specs.Forest.{nodes, tree_in, Forest}
use Rattle.comparison.proofs.Plants.{newest_tree}
use Rattle.comparison.specs.declared.access.Access.{Access}
use Rattle.comparison.specs.Access.{sided, NodeOver, Prepared}
use Rattle.comparison.specs.Climbing.{row_by, within_rule, path_over, path, Climbable, access_trees, Climbs}
use Rattle.comparison.proofs.Nodes.{node_good, node_with}
use Rattle.comparison.proofs.Older.{older_tree}
use Rattle.comparison.proofs.OneSide.{side_few, side_rule, side_there}
use Rattle.comparison.proofs.Accesses.{row_mapped, read_within}
use Rattle.comparison.proofs.Paths.{Onward, onward, live_place, path_ends, path_goes}

pub row_same : (f g : ℕ → Tree) (qs : List ℕ) → AllByRecursion (λ q. f q ≡ g q) qs → row_by f qs ≡ row_by g qs
row_same f g [] all = refl
row_same f g (q ∷ qs) all = ap₂ (λ t r. t ▹ r) all.0 (row_same f g qs all.1)

-- a row of entries of states, with another entry in the place k
row_set : (ts : List Tree) (e : ℕ → ℕ) (qs : List ℕ) (k top : ℕ) → k < length qs → row_of ts (set (map e qs) k top) ≡ joined (row_by (λ q. get_or ts (e q) (node 0 none)) (take k qs)) (get_or ts top (node 0 none) ▹ row_by (λ q. get_or ts (e q) (node 0 none)) (drop (suc k) qs))
row_set ts e [] k top h = absurd (omega arith)
row_set ts e (q ∷ qs) zero top h = ap (λ r. get_or ts top (node 0 none) ▹ r) (row_mapped ts e qs)
row_set ts e (q ∷ qs) (suc k) top h = ap (λ r. get_or ts (e q) (node 0 none) ▹ r) (row_set ts e qs k top (le_of_suc-le-suc h))

-- on the way from the state x of an entry: the top entry has the state at, which stands at a place of the order, and the rest of the way goes on from there
pub record Climbing {V W : Type 0} (K : Weights W) (stands : V → W) (A B : Automaton W) (side : Side) (L : Life) (access : Access) (before : List (Place V)) (len entry x : ℕ) (work : List (Place V)) (end top at : ℕ) : Type 0 where
  pub forest : Forest K stands A B work end
  pub same : take len work ≡ take len before
  pub longer : len ≤ end
  pub top_below : top < end
  pub place : ℕ
  pub placed : place < L.count
  pub there : get_or L.order place 0 ≡ at
  pub few : end + place < len + L.count
  pub fuel : ℕ
  pub enough : place < fuel
  pub context : Context
  pub rest : path (sided side A B) L (access_trees A.ranks before len access) 48 x ≡ path_over (sided side A B) L (access_trees A.ranks before len access) fuel at context
  pub tree : tree_in A.ranks work end top ≡ plug context (tree_in A.ranks before len entry)

module _ {V W : Type 0} (K : Weights W) (stands : V → W) (first second : Table V) (side : Side) (R : Reach) (L : Life) (access : Access) (before : List (Place V)) (len entry x : ℕ) (p : Prepared K stands (automaton_of stands first) (automaton_of stands second) side R before len) (q : Climbable stands (automaton_of stands first) (automaton_of stands second) side R L access before len entry) where
  abbrev A : Automaton W
  A = automaton_of stands first

  abbrev B : Automaton W
  B = automaton_of stands second

  abbrev S : Automaton W
  S = sided side A B

  abbrev trees : ℕ → Tree
  trees = access_trees (ranks_in first.shape.now) before len access

  abbrev OnWay : List (Place V) → ℕ → ℕ → ℕ → Type 0
  OnWay = Climbing K stands A B side L access before len entry x

  pub climbing_none : Flagged (flags_of L) x → OnWay before len entry x
  climbing_none f =
      let i = live_place S R L q.lively x f in
      let small = side_few stands first second side in
      record {
        forest = p.forest;
        same = refl;
        longer = omega arith;
        top_below = q.below;
        place = i.0;
        placed = i.1;
        there = i.2;
        few = omega (arith, i.1);
        fuel = 48;
        enough = omega (arith, i.1, q.lively.listed.bounded);
        context = hole;
        rest = refl;
        tree = refl;
      }

  pub climbing_all : (work : List (Place V)) (end top at : ℕ) → S.accepting at ≡ true → OnWay work end top at → Climbs K stands A B side L access before len entry x work (record { top = top; len = end })
  climbing_all work end top at e c = record {
    forest = c.forest;
    same = c.same;
    top_below = c.top_below;
    longer = c.longer;
    few = omega (arith, c.few);
    tree = c.tree ∙ ap (λ d. plug d (tree_in (ranks_in first.shape.now) before len entry)) (sym (c.rest ∙ path_ends S R L q.lively trees c.fuel at c.context e));
  }

  -- one rule more
  module _ (work : List (Place V)) (end top at : ℕ) (c : OnWay work end top at) (plain : S.accepting at ≡ false) where
    abbrev k : ℕ
    k = (lead_of L at).place

    o : Onward S R L c.place at
    o = onward S R L q.lively c.place at c.placed c.there plain

    pub climbing_rule : (lead_of L at).rule < length (sided side first second).rules.now
    climbing_rule = side_there stands first second side (lead_of L at).rule o.rule o.there

    pub climbing_room : length work ≡ length before → end < length work
    climbing_room same = omega (arith, o.earlier, c.few, q.room)

    -- the rule, as it was read
    module _ (r : Rule V) (read : slice_get (sided side first second).rules.now (lead_of L at).rule ≡ Some r) where
      abbrev qs : List ℕ
      qs = children_in first.shape.now r.left

      is_rule : o.rule ≡ transition stands (ranks_in first.shape.now) r
      is_rule =
          let e = o.there in
          let f = side_rule stands first second p.alphabet side (lead_of L at).rule r read in
          cc

      all_reached : AllByRecursion (Flagged (flags_of R)) qs
      all_reached = subst (λ (t : Transition W). AllByRecursion (Flagged (flags_of R)) t.children) is_rule o.reached

      low : k < length qs
      low = subst (λ (t : Transition W). k < length t.children) is_rule (nth_some o.rule.children k at 0 o.child).0

      low_rank : k < rank (ranks_in first.shape.now) r.left.symbol
      low_rank = omega (arith, low, length-take (rank (ranks_in first.shape.now) r.left.symbol) r.left.children)

      pub climbing_place : k < 4
      climbing_place = omega (arith, low_rank, rank_small first.shape.now.measure.alphabet r.left.symbol)

      module _ (row : Node) (over : NodeOver (ranks_in first.shape.now) r.left.symbol (map (λ s. get_or access.entry s 0) qs) row) where
        abbrev n : Node
        n = record { symbol = row.symbol; children = set row.children k top }

        over_top : NodeOver (ranks_in first.shape.now) r.left.symbol (set (map (λ s. get_or access.entry s 0) qs) k top) n
        over_top = node_with (ranks_in first.shape.now) r.left.symbol (map (λ s. get_or access.entry s 0) qs) row (rank_small first.shape.now.measure.alphabet r.left.symbol) over k top low_rank

        good : Good (ranks_in first.shape.now) end n
        good =
            node_good (ranks_in first.shape.now) r.left.symbol (set (map (λ s. get_or access.entry s 0) qs) k top) n (rank_small first.shape.now.measure.alphabet r.left.symbol) over_top end
            (read_within K stands first second p.alphabet side p.sound (lead_of L at).rule r read).symbol_within
            (All-set (λ s. s < end) (map (λ s. get_or access.entry s 0) qs) k top c.top_below
            (All-map (λ s. s < end) (λ s. get_or access.entry s 0) qs (All-weaker (Flagged (flags_of R)) (λ s. get_or access.entry s 0 < end) (λ s f. omega (arith, q.enters.below s f, c.longer)) qs all_reached)))

        -- the tree of the new entry
        tree_more : (work' : List (Place V)) → nodes work' (end + 1) ≡ nodes work end ++ n ∷ [] → tree_in (ranks_in first.shape.now) work' (end + 1) end ≡ plug (within_rule trees (transition stands (ranks_in first.shape.now) r) k c.context) (tree_in (ranks_in first.shape.now) before len entry)
        tree_more work' more =
            let ts : List Tree = trees_of (ranks_in first.shape.now) (nodes work end) in
            let now_trees : ℕ → Tree = access_trees (ranks_in first.shape.now) work end access in
            let still : AllByRecursion (λ s. now_trees s ≡ trees s) qs =
            All-weaker (Flagged (flags_of R)) (λ s. now_trees s ≡ trees s) (λ s f. older_tree before work len c.same (ranks_in first.shape.now) end c.longer c.forest.room (get_or access.entry s 0) (q.enters.below s f)) qs all_reached in
            newest_tree (ranks_in first.shape.now) work work' end n c.forest.room more (children_earlier (ranks_in first.shape.now) end n (rank_small first.shape.now.measure.alphabet n.symbol) good)
            ∙ ap₂ (λ s cs. node s (row_of ts cs)) over_top.symbol over_top.children
            ∙ ap (node r.left.symbol) (row_set ts (λ s. get_or access.entry s 0) qs k top low)
            ∙ ap₂ (λ us vs. node r.left.symbol (joined us (tree_in (ranks_in first.shape.now) work end top ▹ vs))) (row_same now_trees trees (take k qs) (All-take (λ s. now_trees s ≡ trees s) k qs still)) (row_same now_trees trees (drop (suc k) qs) (All-drop (λ s. now_trees s ≡ trees s) (suc k) qs still))
            ∙ ap (λ t. node r.left.symbol (joined (row_by trees (take k qs)) (t ▹ row_by trees (drop (suc k) qs)))) c.tree

        -- the node that was made, with the top entry in its place
        module _ (j : ℕ) (here : j ≡ k) (m : Node) (made : m ≡ record { symbol = row.symbol; children = set row.children j top }) where
          is_node : m ≡ n
          is_node = made ∙ ap (λ i. record { symbol = row.symbol; children = set row.children i top }) here

          pub climbing_good : Good (ranks_in first.shape.now) end m
          climbing_good = subst (Good (ranks_in first.shape.now) end) (sym is_node) good

          pub climbing_more : (work' : List (Place V)) → Forest K stands A B work' (end + 1) → nodes work' (end + 1) ≡ nodes work end ++ m ∷ [] → take end work' ≡ take end work → (y : ℕ) → y ≡ r.target → OnWay work' (end + 1) end y
          climbing_more work' f more older y to =
              let left = c.fuel - 1 in
              let up : c.fuel ≡ suc left = omega (arith, c.enough) in
              record {
                forest = f;
                same = sym (take-take len end work' c.longer) ∙ ap (take len) older ∙ take-take len end work c.longer ∙ c.same;
                longer = omega (arith, c.longer);
                top_below = omega arith;
                place = o.next;
                placed = omega (arith, o.earlier, c.placed);
                there = o.target ∙ ap (λ (t : Transition W). t.target) is_rule ∙ sym to;
                few = omega (arith, o.earlier, c.few);
                fuel = left;
                enough = omega (arith, o.earlier, c.enough);
                context = within_rule trees (transition stands (ranks_in first.shape.now) r) k c.context;
                rest =
                    c.rest
                    ∙ ap (λ i. path_over S L trees i at c.context) up
                    ∙ path_goes S R L q.lively trees left c.place at c.context o plain
                    ∙ ap (λ (t : Transition W). path_over S L trees left t.target (within_rule trees t k c.context)) is_rule
                    ∙ ap (λ z. path_over S L trees left z (within_rule trees (transition stands (ranks_in first.shape.now) r) k c.context)) (sym to);
                tree = tree_more work' (more ∙ ap (λ z. nodes work end ++ z ∷ []) is_node);
              }
