-- Weighing alike is an equivalence relation, and carries the fewest states along.
use Rattle.std.proofs.Common.{◌≡◌, ℕ, ◌≤◌, List, sym, refl, ◌∙◌, subst}
use Rattle.kinds.specs.Weights.{Weights}
use Rattle.automata.specs.Trees.{Over}
use Rattle.automata.specs.Automata.{Automaton}
use Rattle.automata.specs.Runs.{Alike, Minimal}

module _ {W : Type 0} (K : Weights W) where
  pub alike_refl : (A : Automaton W) → Alike K A A
  alike_refl A = record { alphabet = refl; weights = λ t o. refl }

  pub alike_sym : (A B : Automaton W) → Alike K A B → Alike K B A
  alike_sym A B s = record {
    alphabet = sym s.alphabet;
    weights = λ t o. sym (s.weights t (subst (λ (ranks : List ℕ). Over ranks t) (sym s.alphabet) o));
  }

  pub alike_trans : (A B C : Automaton W) → Alike K A B → Alike K B C → Alike K A C
  alike_trans A B C s t = record {
    alphabet = s.alphabet ∙ t.alphabet;
    weights = λ u o. s.weights u o ∙ t.weights u (subst (λ (ranks : List ℕ). Over ranks u) s.alphabet o);
  }

  pub minimal_alike : (A B : Automaton W) → Minimal K A → Alike K A B → B.states ≡ A.states → Minimal K B
  minimal_alike A B least s same C sound t = subst (λ (n : ℕ). n ≤ C.states) (sym same) (least C sound (alike_trans A B C s t))
