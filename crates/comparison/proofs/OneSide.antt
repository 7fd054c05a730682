-- The table on one side: its ranks, its rules, and the runs that a forest holds for it.
use Rattle.std.proofs.Common.{◌≡◌, ℕ, ◌<◌, ◌≤◌, List, map, length, take, Some, sym, refl, ap, ◌∙◌, subst, subst₂}
use Rattle.std.specs.List.{slice_get}
use Rattle.std.proofs.lemmas.List.{length-map}
use Rattle.kinds.specs.Weights.{Weights}
use Rattle.automata.specs.Trees.{rank}
use Rattle.automata.specs.Automata.{Transition, Automaton}
use Rattle.automata.specs.Runs.{run}
use Rattle.trees.specs.declared.node.Node.{Node}
use Rattle.trees.proofs.Ranks.{nth_some}
use Rattle.rules.specs.declared.left_side.LeftSide.{LeftSide}
use Rattle.rules.specs.declared.place.Place.{Place}
use Rattle.rules.specs.declared.rule.Rule.{Rule}
use Rattle.rules.specs.declared.table.Table.{Table}
use Rattle.rules.specs.declared.side.Side.{Side}
use Rattle.rules.specs.declared.side.Side.TheVariants.{First, Second}
use Rattle.rules.specs.Running.{run_at}
use Rattle.rules.specs.Shapes.{ranks_in, children_in, transition, automaton_of}
use Rattle.liveness.proofs.Derivations.{nth_mapped}
use Rattle.comparison.specs.Forest.{tree_in, Forest}
use Rattle.comparison.specs.Access.{sided, NodeOver}

nth_map : {X Y : Type 0} (f : X → Y) (xs : List X) (i : ℕ) (x : X) → slice_get xs i ≡ Some x → slice_get (map f xs) i ≡ Some (f x)
nth_map f xs i x e = let h = nth_some xs i x x e in nth_mapped f xs i x h.0 (sym h.1)

module _ {W : Type 0} (A B : Automaton W) (same : A.ranks ≡ B.ranks) where
  pub side_ranks : (side : Side) → (sided side A B).ranks ≡ A.ranks
  side_ranks First = refl
  side_ranks Second = sym same

  pub side_run : {V : Type 0} (K : Weights W) (stands : V → W) (work : List (Place V)) (len : ℕ) → Forest K stands A B work len → (side : Side) (i : ℕ) → i < len → run_at stands side work i ≡ run K (sided side A B) (tree_in A.ranks work len i)
  side_run K stands work len f First i h = f.first_runs i h
  side_run K stands work len f Second i h = f.second_runs i h ∙ ap (λ rs. run K B (tree_in rs work len i)) (sym same)

module _ {V W : Type 0} (stands : V → W) (first second : Table V) where
  pub side_few : (side : Side) → (sided side (automaton_of stands first) (automaton_of stands second)).states ≤ 48
  side_few First = first.shape.now.measure.few
  side_few Second = second.shape.now.measure.few

  pub side_length : (side : Side) → length (sided side (automaton_of stands first) (automaton_of stands second)).rules ≡ length (sided side first second).rules.now
  side_length First = length-map first.rules.now (transition stands (ranks_in first.shape.now))
  side_length Second = length-map second.rules.now (transition stands (ranks_in second.shape.now))

  -- the rule that was read
  pub side_rule : ranks_in first.shape.now ≡ ranks_in second.shape.now → (side : Side) (j : ℕ) (r : Rule V) → slice_get (sided side first second).rules.now j ≡ Some r → slice_get (sided side (automaton_of stands first) (automaton_of stands second)).rules j ≡ Some (transition stands (ranks_in first.shape.now) r)
  side_rule same First j r e = nth_map (transition stands (ranks_in first.shape.now)) first.rules.now j r e
  side_rule same Second j r e = nth_map (transition stands (ranks_in second.shape.now)) second.rules.now j r e ∙ ap (λ rs. Some (transition stands rs r)) (sym same)

  -- a place that has a rule
  pub side_there : (side : Side) (j : ℕ) (t : Transition W) → slice_get (sided side (automaton_of stands first) (automaton_of stands second)).rules j ≡ Some t → j < length (sided side first second).rules.now
  side_there side j t e = subst (λ n. j < n) (side_length side) (nth_some (sided side (automaton_of stands first) (automaton_of stands second)).rules j t t e).0

-- the table of one side, as it was chosen
module _ {V : Type 0} (first second : Table V) (side : Side) (t : Table V) (is : t ≡ sided side first second) where
  pub table_stands : {W : Type 0} (stands : V → W) → sided side (automaton_of stands first) (automaton_of stands second) ≡ automaton_of stands t
  table_stands stands = at side ∙ ap (automaton_of stands) (sym is)
    where
      at : (x : Side) → sided x (automaton_of stands first) (automaton_of stands second) ≡ automaton_of stands (sided x first second)
      at First = refl
      at Second = refl

  -- a place that has a rule, and the rule that was read there
  pub table_below : (i j : ℕ) → i ≡ j → j < length (sided side first second).rules.now → i < length t.rules.now
  table_below i j e h = subst₂ (λ (k : ℕ) (u : Table V). k < length u.rules.now) (sym e) (sym is) h

  pub table_rule : (i j : ℕ) → i ≡ j → (r : Rule V) → slice_get t.rules.now i ≡ Some r → slice_get (sided side first second).rules.now j ≡ Some r
  table_rule i j e r read = ap (λ (u : Table V). slice_get u.rules.now j) (sym is) ∙ ap (slice_get t.rules.now) (sym e) ∙ read

  -- a node over the children of a rule
  pub table_over : ranks_in first.shape.now ≡ ranks_in second.shape.now → (f : ℕ → ℕ) (l : LeftSide) (n : Node) → NodeOver (ranks_in t.shape.now) l.symbol (map f (children_in t.shape.now l)) n → NodeOver (ranks_in first.shape.now) l.symbol (map f (children_in first.shape.now l)) n
  table_over same f l n over =
      subst (λ (rs : List ℕ). NodeOver rs l.symbol (map f (take (rank rs l.symbol) l.children)) n) (ap (λ (u : Table V). ranks_in u.shape.now) is ∙ at side) over
    where
      at : (x : Side) → ranks_in (sided x first second).shape.now ≡ ranks_in first.shape.now
      at First = refl
      at Second = sym same
