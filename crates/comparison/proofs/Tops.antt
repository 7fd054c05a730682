-- A forest cut behind one of its entries: the entries and the trees up to it are the same.
use Rattle.std.proofs.Common.{◌≡◌, ℕ, ◌+◌, ◌<◌, ◌≤◌, List, map, length, get_or, take, sym, ap, ◌∙◌, subst, arith}
use Rattle.std.proofs.lemmas.List.{take-take, take-map, get_or-take}
use Rattle.kinds.specs.Weights.{Weights}
use Rattle.automata.specs.Trees.{node, none}
use Rattle.automata.specs.Automata.{Automaton}
use Rattle.trees.specs.Lists.{blank, Good, tree_at}
use Rattle.trees.proofs.Entries.{trees_front}
use Rattle.rules.specs.declared.place.Place.{Place}
use Rattle.comparison.specs.Forest.{nodes, tree_in, Forest}
use Rattle.comparison.specs.Marking.{Entries}
use Rattle.comparison.proofs.Plants.{length_nodes}

module _ {V : Type 0} (work : List (Place V)) (len top : ℕ) (h : top < len) where
  nodes_cut : nodes work (top + 1) ≡ take (top + 1) (nodes work len)
  nodes_cut = ap (map (λ p. p.node)) (sym (take-take (top + 1) len work (omega arith))) ∙ sym (take-map (λ p. p.node) (top + 1) (take len work))

  pub tree_cut : (ranks : List ℕ) → len ≤ length work → (i : ℕ) → i < top + 1 → tree_in ranks work (top + 1) i ≡ tree_in ranks work len i
  tree_cut ranks room i l =
      ap (λ ns. tree_at ranks ns i) nodes_cut ∙ sym (trees_front ranks (nodes work len) (top + 1) i (node 0 none) (omega (arith, length_nodes work len room)) l)

  pub forest_entries : {W : Type 0} (K : Weights W) (stands : V → W) (A B : Automaton W) → Forest K stands A B work len → Entries A.ranks work top
  forest_entries K stands A B f = record {
    within = omega (arith, f.room);
    good = λ i l. subst (Good A.ranks i) (sym (ap (λ ns. get_or ns i blank) nodes_cut ∙ get_or-take (top + 1) (nodes work len) i blank l)) (f.good i (omega arith));
  }
