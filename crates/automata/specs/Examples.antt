-- Small automata over residues: examples of what the theorems speak of.
use Rattle.std.specs.Prelude.{ℕ, zero, suc, Bool, false, cond, not, ◌&&◌, T, [], ◌∷◌, ◌==◌, nat_le, nat_lt}
use Rattle.std.proofs.Common.{lit≤}
use Rattle.kinds.specs.declared.residue.Residue.{Residue}
use Rattle.kinds.specs.Residues.{residues}
use Rattle.automata.specs.Trees.{Tree, node, none, ◌▹◌}
use Rattle.automata.specs.Automata.{Transition, Automaton}
use Rattle.automata.specs.Contexts.{Context, under}
use Rattle.automata.specs.Merging.{Grouping}
use Rattle.automata.specs.Comparing.{Exploration}

-- the residue n
abbrev pub residue : (n : ℕ) → T (nat_le 1 n) → T (nat_le n 256) → Residue
residue n low high = record { code = n; low = lit≤ low; high = lit≤ high }

-- a constant, and a unary symbol over a tree or a context
abbrev pub constant : ℕ → Tree
constant s = node s none

abbrev pub above : ℕ → Tree → Tree
above s t = node s (t ▹ none)

abbrev pub above_context : ℕ → Context → Context
above_context s c = under s none c none

-- the rules s → q / w and s(p) → q / w
abbrev pub leaf : {W : Type 0} → ℕ → ℕ → W → Transition W
leaf s q w = record { symbol = s; children = []; target = q; weight = w }

abbrev pub edge : {W : Type 0} → ℕ → ℕ → ℕ → W → Transition W
edge s p q w = record { symbol = s; children = p ∷ []; target = q; weight = w }

-- each of the constants 0 and 1 has a state of its own, which the unary symbol 2 takes to the accepting state 2; the state 3 leads nowhere
abbrev pub four : Automaton Residue
four = record {
  ranks = 0 ∷ 0 ∷ 1 ∷ [];
  states = 4;
  accepting = λ q. (q == 2);
  rules = leaf 0 0 (residue 3 tt tt) ∷ leaf 1 1 (residue 6 tt tt) ∷ edge 2 0 2 (residue 10 tt tt) ∷ edge 2 1 2 (residue 5 tt tt) ∷ edge 2 2 3 (residue 7 tt tt) ∷ [];
}

-- its states but 3
abbrev pub member : ℕ → Bool
member q = nat_lt q 3

-- the states 0 and 1 share a class
abbrev pub class : ℕ → ℕ
class zero = 0
class (suc q) = q

abbrev pub factor : ℕ → Residue
factor zero = residue 10 tt tt
factor (suc zero) = residue 5 tt tt
factor (suc (suc q)) = residues.one

abbrev pub grouping : Grouping Residue
grouping = record { member = member; class = class; factor = factor; count = 2 }

-- the state 3 in a class of its own
abbrev pub whole_grouping : Grouping Residue
whole_grouping = record { member = λ q. nat_lt q 4; class = class; factor = factor; count = 3 }

-- the accepting state is told from the others
abbrev pub marks : ℕ → ℕ → Bool
marks p q = cond (p == 2) (not (q == 2)) (q == 2)

-- a constant at the weight v below a unary symbol at the weight w
abbrev pub chain : Residue → Residue → Automaton Residue
chain v w = record { ranks = 0 ∷ 1 ∷ []; states = 2; accepting = λ q. (q == 1); rules = leaf 0 0 v ∷ edge 1 0 1 w ∷ [] }

-- each state of a chain beside its like in another, where the constant weighs half
abbrev pub ratio : ℕ → ℕ → Residue
ratio zero q = residue 2 tt tt
ratio (suc p) q = residues.one

abbrev pub side_by_side : Exploration Residue
side_by_side = record { found = λ p q. (p == q) && nat_lt p 2; ratio = ratio }

-- a chain without its unary rule
abbrev pub cut : Automaton Residue
cut = record { ranks = 0 ∷ 1 ∷ []; states = 2; accepting = λ q. (q == 1); rules = leaf 0 0 (residue 4 tt tt) ∷ [] }

-- a chain that accepts nothing
abbrev pub silent : Automaton Residue
silent = record { ranks = 0 ∷ 1 ∷ []; states = 2; accepting = λ q. false; rules = leaf 0 0 (residue 4 tt tt) ∷ edge 1 0 1 (residue 8 tt tt) ∷ [] }

-- two constants at the weights v and w
abbrev pub constants : Residue → Residue → Automaton Residue
constants v w = record { ranks = 0 ∷ 0 ∷ []; states = 1; accepting = λ q. (q == 0); rules = leaf 0 0 v ∷ leaf 1 0 w ∷ [] }
