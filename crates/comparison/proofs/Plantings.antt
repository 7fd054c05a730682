-- The run of a node that was planted, and the runs of the entries before it.
use Rattle.std.proofs.Common.{◌≡◌, ℕ, zero, suc, ◌+◌, ◌<◌, ◌≤◌, List, [], ◌∷◌, ◌++◌, map, length, get_or, take, Some, Option, sym, refl, ap, ◌∙◌, subst, le_of_suc-le-suc, arith}
use Rattle.std.specs.List.{slice_get}
use Rattle.std.proofs.lemmas.List.{get_or_push}
use Rattle.kinds.specs.Weights.{Weights}
use Rattle.automata.specs.Trees.{rank}
use Rattle.automata.specs.Runs.{At, step, run}
use Rattle.trees.specs.declared.node.Node.{Node}
use Rattle.trees.specs.Lists.{blank, children_of, Good}
use Rattle.rules.specs.declared.place.Place.{Place}
use Rattle.rules.specs.declared.rule.Rule.{Rule}
use Rattle.rules.specs.declared.shape.Shape.{Shape}
use Rattle.rules.specs.declared.side.Side.{Side}
use Rattle.rules.specs.Running.{place_run, run_at, row_runs}
use Rattle.rules.specs.Shapes.{ranks_in, automaton}
use Rattle.rules.proofs.Entries.{entry_run}
use Rattle.comparison.specs.Forest.{nodes, tree_in}
use Rattle.comparison.proofs.Plants.{length_nodes}
use Rattle.comparison.specs.declared.scan_finding.Finding.{Finding}
use Rattle.comparison.specs.Scanning.{Two, Filled, Told}

nth_front : {X : Type 0} (n : ℕ) (xs : List X) (i : ℕ) → i < n → slice_get (take n xs) i ≡ slice_get xs i
nth_front zero xs i h = absurd (omega arith)
nth_front (suc n) [] i h = refl
nth_front (suc n) (x ∷ xs) zero h = refl
nth_front (suc n) (x ∷ xs) (suc i) h = nth_front n xs i (le_of_suc-le-suc h)

-- the first places are the same
pub runs_kept : {V W : Type 0} (stands : V → W) (work work' : List (Place V)) (len : ℕ) → take len work' ≡ take len work → (side : Side) (i : ℕ) → i < len → run_at stands side work' i ≡ run_at stands side work i
runs_kept stands work work' len older side i h =
    ap (place_run stands side) (sym (nth_front len work' i h) ∙ ap (λ l. slice_get l i) older ∙ nth_front len work i h)

module _ {V W : Type 0} (K : Weights W) (stands : V → W) (work work' : List (Place V)) (len : ℕ) (n : Node) (room : len < length work) (long : len + 1 ≤ length work') (more : nodes work' (len + 1) ≡ nodes work len ++ n ∷ []) (older : take len work' ≡ take len work) where
  pub planted_run : (shape : Shape) (rules : List (Rule V)) (side : Side) → Good (ranks_in shape) len n → ((i : ℕ) → i < len + 1 → run_at stands side work' i ≡ run K (automaton stands shape rules) (tree_in (ranks_in shape) work' (len + 1) i)) → run_at stands side work' len ≡ step K (automaton stands shape rules) n.symbol (row_runs K (map (run_at stands side work) (children_of (ranks_in shape) n)))
  planted_run shape rules side good runs =
      let ns = nodes work' (len + 1) in
      let here : get_or ns len blank ≡ n = ap (λ ms. get_or ms len blank) more ∙ get_or_push (nodes work len) n blank len (length_nodes work len (omega arith)) in
      runs len (omega arith)
      ∙ sym (entry_run K stands shape rules ns side work len (omega (arith, length_nodes work' (len + 1) long)) (subst (Good (ranks_in shape) len) (sym here) good) (λ j h. sym (runs_kept stands work work' len older side j h) ∙ runs j (omega arith)))
      ∙ ap (λ (m : Node). step K (automaton stands shape rules) m.symbol (row_runs K (map (run_at stands side work) (children_of (ranks_in shape) m)))) here

-- a node over entries of known pairs can be planted
pub told_good : {W : Type 0} (K : Weights W) (T : Two W) (R : Side → ℕ → Option (At W)) (N : ℕ → ℕ → Option ℕ) (len : ℕ) (f : Finding) → ((p q e : ℕ) → N p q ≡ Some e → e < len) → Told K T R N f → Good T.first.ranks len f.node
told_good K T R N len f earlier told =
    let ranks = T.first.ranks in
    let same = told.tells.symbol in
    let filled : Filled N (rank ranks f.node.symbol) f.node = subst (λ (s : ℕ). Filled N (rank ranks s) f.node) (sym same) told.tells.filled in
    record {
      four = filled.four;
      symbol_within = subst (λ (s : ℕ). s < length ranks) (sym same) told.symbol_within;
      places = λ k h. record {
        earlier = λ l. let e = filled.entries k l in earlier e.0 e.1 (get_or f.node.children k 0) e.2;
        padded = λ l. filled.padded k l h;
      };
    }
