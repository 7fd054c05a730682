-- Running the entries of a tree list in order gives the run of each entry's tree.
use Rattle.std.proofs.Common.{◌≡◌, ℕ, ◌+◌, ◌<◌, List, [], ◌∷◌, map, length, get_or, set, Some, sym, refl, ap, ◌∙◌, ap₂, ⊎_elim, arith}
use Rattle.std.specs.List.{AllByRecursion}
use Rattle.std.proofs.lemmas.Bool.{cases_eq}
use Rattle.kinds.specs.Weights.{Weights}
use Rattle.automata.specs.Trees.{Tree, node, none}
use Rattle.automata.specs.Automata.{Automaton}
use Rattle.automata.specs.Runs.{beside, step, run, runs}
use Rattle.trees.specs.declared.node.Node.{Node}
use Rattle.trees.specs.Lists.{blank, children_of, GoodAt, row_of, trees_of, tree_at}
use Rattle.trees.proofs.Entries.{tree_entry, children_earlier}
use Rattle.trees.proofs.Ranks.{nth_set_same, nth_set_other, rank_small}
use Rattle.rules.specs.declared.side.Side.{Side}
use Rattle.rules.specs.declared.place.Place.{Place}
use Rattle.rules.specs.declared.rule.Rule.{Rule}
use Rattle.rules.specs.declared.shape.Shape.{Shape}
use Rattle.rules.specs.Running.{place_run, run_at, row_runs}
use Rattle.rules.specs.Shapes.{ranks_in, automaton}

pub map_same : {X : Type 0} (f g : ℕ → X) (i : ℕ) (cs : List ℕ) → ((k : ℕ) → k < i → f k ≡ g k) → AllByRecursion (λ c. c < i) cs → map f cs ≡ map g cs
map_same f g i [] same all = refl
map_same f g i (c ∷ cs) same all = ap₂ (λ x xs. x ∷ xs) (same c all.0) (map_same f g i cs same all.1)

runs_row : {W : Type 0} (K : Weights W) (A : Automaton W) (ts : List Tree) (cs : List ℕ) → runs K A (row_of ts cs) ≡ row_runs K (map (λ c. run K A (get_or ts c (node 0 none))) cs)
runs_row K A ts [] = refl
runs_row K A ts (c ∷ cs) = ap (beside K (run K A (get_or ts c (node 0 none)))) (runs_row K A ts cs)

module _ {V W : Type 0} (K : Weights W) (stands : V → W) (shape : Shape) (rules : List (Rule V)) (ns : List Node) (side : Side) where
  abbrev A : Automaton W
  A = automaton stands shape rules

  -- the places below i hold the runs of their entries
  abbrev pub RunBelow : List (Place V) → ℕ → Type 0
  RunBelow work i = (j : ℕ) → j < i → run_at stands side work j ≡ run K A (tree_at (ranks_in shape) ns j)

  -- the run over the runs of the children is the run of the entry's tree
  pub entry_run : (work : List (Place V)) (i : ℕ) → i < length ns → GoodAt (ranks_in shape) ns i → RunBelow work i → step K A (get_or ns i blank).symbol (row_runs K (map (run_at stands side work) (children_of (ranks_in shape) (get_or ns i blank)))) ≡ run K A (tree_at (ranks_in shape) ns i)
  entry_run work i h good below =
      let n = get_or ns i blank in
      let earlier = children_earlier (ranks_in shape) i n (rank_small shape.measure.alphabet n.symbol) good in
      ap (λ l. step K A n.symbol (row_runs K l)) (map_same (run_at stands side work) (λ c. run K A (tree_at (ranks_in shape) ns c)) i (children_of (ranks_in shape) n) below earlier)
      ∙ ap (step K A n.symbol) (sym (runs_row K A (trees_of (ranks_in shape) ns) (children_of (ranks_in shape) n)))
      ∙ ap (run K A) (sym (tree_entry (ranks_in shape) ns i h earlier))

  -- one entry more
  pub run_more : (work : List (Place V)) (i : ℕ) (p : Place V) → i < length ns → GoodAt (ranks_in shape) ns i → i < length work → RunBelow work i → place_run stands side (Some p) ≡ step K A (get_or ns i blank).symbol (row_runs K (map (run_at stands side work) (children_of (ranks_in shape) (get_or ns i blank)))) → RunBelow (set work i p) (i + 1)
  run_more work i p h good l below ran j m =
      ⊎_elim
      (λ e. ap (run_at stands side (set work i p)) e ∙ ap (place_run stands side) (nth_set_same work i p l) ∙ ran ∙ entry_run work i h good below ∙ ap (λ k. run K A (tree_at (ranks_in shape) ns k)) (sym e))
      (λ n. ap (place_run stands side) (nth_set_other work i j p n) ∙ below j (omega arith)) (cases_eq j i)
