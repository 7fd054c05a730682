-- A reduction of a table whose rules are the first of a memory.
use Rattle.std.proofs.Common.{◌≡◌, ℕ, ◌<◌, ◌≤◌, min, false, List, ◌++◌, map, length, take, drop, filter, sym, ap, ◌∙◌, subst}
use lib.Seq.{take-append-le}
use Rattle.trees.proofs.Ranks.{take_capped}
use Rattle.kinds.specs.Weights.{Weights}
use Rattle.automata.specs.Automata.{Sound}
use Rattle.automata.specs.Merging.{keeps, relabelled, firsts}
use Rattle.rules.specs.declared.rule.Rule.{Rule}
use Rattle.rules.specs.declared.place.Place.{Place}
use Rattle.rules.specs.declared.shape.Shape.{Shape}
use Rattle.rules.specs.Shapes.{ranks_in, states_in, accepts_in, transition, automaton}
use Rattle.reduction.specs.declared.classes.Classes.{Classes}
use Rattle.reduction.specs.declared.reduced.Reduced.{Reduced}
use Rattle.reduction.specs.Acceptance.{class_accepts}
use Rattle.reduction.specs.Classes.{member_in, grouping}
use Rattle.reduction.specs.Partitions.{Partition}
use Rattle.reduction.specs.Reducing.{ReducedTo}
use Rattle.reduction.proofs.Merged.{merged_stands}

module _ {V W : Type 0} (stands : V → W) (K : Weights W) (shape : Shape) where
  -- the merge by the classes of equivalent live states
  pub reduced_rules : (x : Reduced) (rules rules' : List (Rule V)) (c : Classes) (work : List (Place V)) → Partition K (automaton stands shape rules) (grouping stands K c work) → ranks_in x.shape ≡ ranks_in shape → states_in x.shape ≡ c.count → ((k : ℕ) → k < 48 → accepts_in x.shape k ≡ class_accepts shape c k) → ((k : ℕ) → 48 ≤ k → accepts_in x.shape k ≡ false) → map (transition stands (ranks_in shape)) (take x.count rules') ≡ firsts (map (relabelled K (grouping stands K c work)) (filter (keeps (member_in c)) (map (transition stands (ranks_in shape)) rules))) → ReducedTo stands K (automaton stands shape rules) x rules'
  reduced_rules x rules rules' c work p ranks states marks past kept = record {
    grouping = grouping stands K c work;
    partition = p;
    states = states;
    content = merged_stands stands K shape x.shape rules (take x.count rules') c work ranks states marks past kept p.admissible;
  }

  -- the rules of the table are in the first n places of a memory, and the rest of it stays
  pub reduced_front : (x : Reduced) (count n : ℕ) (memory front : List (Rule V)) → n ≡ min count (length memory) → x.count ≤ length front → (Sound (automaton stands shape (take n memory)) → ReducedTo stands K (automaton stands shape (take n memory)) x front) → Sound (automaton stands shape (take count memory)) → ReducedTo stands K (automaton stands shape (take count memory)) x (front ++ drop n memory)
  reduced_front x count n memory front capped few r sound =
      subst (λ rules. ReducedTo stands K (automaton stands shape rules) x (front ++ drop n memory)) all
      (record {
        grouping = done.grouping;
        partition = done.partition;
        states = done.states;
        content = ap (automaton stands x.shape) (take-append-le x.count front (drop n memory) few) ∙ done.content;
      })
    where
      all : take n memory ≡ take count memory
      all = take_capped count n memory capped

      done : ReducedTo stands K (automaton stands shape (take n memory)) x front
      done = r (subst (λ rules. Sound (automaton stands shape rules)) (sym all) sound)
