-- Known cases of the definitions.
use Rattle.std.specs.Prelude.{◌≡◌, ℕ, false, List, [], ◌∷◌, length, pos, negsuc, Some, None, ◌==◌}
use Rattle.kinds.specs.declared.residue.Residue.{Residue}
use Rattle.kinds.specs.Weights.{Weights}
use Rattle.kinds.specs.Residues.{residues}
use Rattle.kinds.specs.Costs.{cost, costs}
use Rattle.kinds.specs.Marks.{mark, marks}
use Rattle.automata.specs.Automata.{Transition, Automaton}
use Rattle.automata.specs.Runs.{run, weight_of, Alike}
use Rattle.automata.specs.Pushing.{pushed}
use Rattle.automata.specs.Merging.{Grouping, merged}
use Rattle.automata.specs.Examples.{residue, constant, above, leaf, edge, chain, silent}
use Rattle.rules.specs.Pushing.{at_state}
use Rattle.reduction.specs.Partitions.{Partition}

-- two chains whose weights have the product 32
abbrev pub first_chain : Automaton Residue
first_chain = chain (residue 4 tt tt) (residue 8 tt tt)

abbrev pub second_chain : Automaton Residue
second_chain = chain (residue 2 tt tt) (residue 16 tt tt)

-- the rule 2(0, 0) → 1 / w
abbrev pub fork : Residue → Transition Residue
fork w = record { symbol = 2; children = 0 ∷ 0 ∷ []; target = 1; weight = w }

abbrev pub forked : Automaton Residue
forked = record { ranks = 0 ∷ 1 ∷ 2 ∷ []; states = 2; accepting = λ q. (q == 1); rules = fork (residue 9 tt tt) ∷ [] }

-- each of two constants has a state of its own, which one unary symbol takes to the accepting state
abbrev pub paired : Automaton Residue
paired = record {
  ranks = 0 ∷ 0 ∷ 1 ∷ [];
  states = 3;
  accepting = λ q. (q == 2);
  rules = leaf 0 0 (residue 3 tt tt) ∷ leaf 1 1 (residue 6 tt tt) ∷ edge 2 0 2 (residue 10 tt tt) ∷ edge 2 1 2 (residue 5 tt tt) ∷ [];
}

-- and which two unary symbols take there, the second of them at the weights v and w
abbrev pub twofold : {W : Type 0} → Weights W → W → W → Automaton W
twofold K v w = record {
  ranks = 0 ∷ 0 ∷ 1 ∷ 1 ∷ [];
  states = 3;
  accepting = λ q. (q == 2);
  rules = leaf 0 0 K.one ∷ leaf 1 1 K.one ∷ edge 2 0 2 K.one ∷ edge 3 0 2 v ∷ edge 2 1 2 K.one ∷ edge 3 1 2 w ∷ [];
}

-- no states, over the alphabet of a chain
abbrev pub stateless : Automaton Residue
stateless = record { ranks = 0 ∷ 1 ∷ []; states = 0; accepting = λ q. false; rules = [] }

-- every reduction of the table has so many states
abbrev pub Classes : {W : Type 0} → Weights W → Automaton W → ℕ → Type 0
Classes {W} K A n = (G : Grouping W) → Partition K A G → G.count ≡ n

-- three rules stay, and the two trees of the table weigh 30
pub record PairedMerge (B : Automaton Residue) : Type 0 where
  pub rules : length B.rules ≡ 3
  pub first : weight_of residues B (above 2 (constant 0)) ≡ Some (residue 30 tt tt)
  pub second : weight_of residues B (above 2 (constant 1)) ≡ Some (residue 30 tt tt)

pub data Case : Type 0 where
  inverse_of_two : Case
  cost_beyond : Case
  least_cost : Case
  weighing : Case
  pushing : Case
  pushing_twice : Case
  alike_by_factor : Case
  equivalent_states : Case
  states_apart : Case
  nothing_accepted : Case

abbrev pub Holds : Case → Type 0
Holds inverse_of_two = residues.inverse (residue 2 tt tt) ≡ residue 129 tt tt
Holds cost_beyond = costs.times (cost (pos 2_147_483_647)) (cost (pos 1)) ≡ cost (negsuc 2_147_483_647)
Holds least_cost = costs.inverse (cost (negsuc 2_147_483_647)) ≡ cost (negsuc 2_147_483_647)
Holds weighing =
    (weight_of residues first_chain (above 1 (constant 0)) ≡ Some (residue 32 tt tt))
    × (run residues first_chain (constant 0) ≡ Some (record { state = 0; weight = residue 4 tt tt }))
    × (weight_of residues first_chain (constant 0) ≡ None)
Holds pushing = pushed residues (at_state residues 0 (residue 2 tt tt)) first_chain ≡ chain (residue 8 tt tt) (residue 4 tt tt)
Holds pushing_twice = (pushed residues (at_state residues 0 (residue 2 tt tt)) forked).rules ≡ fork (residue 195 tt tt) ∷ []
Holds alike_by_factor = Alike residues first_chain second_chain
Holds equivalent_states =
    Classes residues paired 2
    × ((G : Grouping Residue) → Partition residues paired G → PairedMerge (merged residues G paired))
    × (weight_of residues paired (above 2 (constant 0)) ≡ Some (residue 30 tt tt))
    × (weight_of residues paired (above 2 (constant 1)) ≡ Some (residue 30 tt tt))
Holds states_apart = Classes residues (twofold residues (residue 2 tt tt) (residue 3 tt tt)) 3 × Classes marks (twofold marks mark mark) 2
Holds nothing_accepted = Alike residues stateless silent

abbrev pub cases : List Case
cases =
    inverse_of_two ∷ cost_beyond ∷ least_cost ∷ weighing ∷ pushing ∷ pushing_twice ∷ alike_by_factor ∷ equivalent_states ∷ states_apart
    ∷ nothing_accepted ∷ []
