-- The tree that was written is a witness.
use Rattle.std.proofs.Common.{◌≡◌, ℕ, ◌<◌, List, take, sym, ◌∙◌, subst, arith}
use Rattle.kinds.specs.Weights.{Weights}
use Rattle.automata.specs.Automata.{Automaton}
use Rattle.automata.specs.Comparing.{Witness}
use Rattle.trees.specs.declared.node.Node.{Node}
use Rattle.trees.specs.Lists.{tree_of}
use Rattle.trees.proofs.Ranks.{rank_small}
use Rattle.rules.specs.declared.place.Place.{Place}
use Rattle.rules.specs.declared.table.Table.{Table}
use Rattle.rules.specs.Shapes.{ranks_in, automaton_of}
use Rattle.comparison.specs.Forest.{tree_in}
use Rattle.comparison.specs.Marking.{Entries}
use Rattle.comparison.specs.Writing.{Written}
use Rattle.comparison.specs.Witnesses.{places_needed, Found}
use Rattle.comparison.specs.Comparing.{ToldApart}
use Rattle.comparison.proofs.Endings.{needed_small}
use Rattle.comparison.proofs.Overs.{forest_over}
use Rattle.comparison.proofs.Tops.{tree_cut, forest_entries}

module _ {V W : Type 0} (K : Weights W) (stands : V → W) (first second : Table V) (work : List (Place V)) (top : ℕ) (f : Found K stands (automaton_of stands first) (automaton_of stands second) (places_needed (automaton_of stands first) (automaton_of stands second)) work top) where
  abbrev A : Automaton W
  A = automaton_of stands first

  abbrev B : Automaton W
  B = automaton_of stands second

  pub top_small : top < 8192
  top_small = omega (arith, f.below, f.few, needed_small A.states B.states first.shape.now.measure.few second.shape.now.measure.few)

  pub top_entries : Entries (ranks_in first.shape.now) work top
  top_entries = forest_entries work f.len top f.below K stands A B f.forest

  pub told_apart : (list list' : List Node) (k : ℕ) → Written (ranks_in first.shape.now) work top list list' k → ToldApart K A B list list' k
  told_apart list list' k w =
      let tree : tree_in (ranks_in first.shape.now) work f.len top ≡ tree_of (ranks_in first.shape.now) (take k list') =
      sym (w.tree ∙ tree_cut work f.len top f.below (ranks_in first.shape.now) f.forest.room top (omega arith)) in
      record {
        is_list = w.is_list;
        witness = subst (Witness K A B) tree (record {
          over = forest_over K stands A B work f.len (rank_small first.shape.now.measure.alphabet) f.forest top f.below;
          differs = f.apart;
        });
        used = w.used;
        beyond = w.beyond;
        same_length = w.same_length;
      }
