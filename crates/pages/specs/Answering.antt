-- The bytes of the answer to a page.
use Rattle.std.specs.Prelude.{◌≡◌, ℕ, suc, ◌+◌, ◌<◌, ◌≤◌, ◌⊎◌, List, [], ◌∷◌, ◌++◌, length, slice_index_or}
use Rattle.std.specs.Option.{option_map}
use Rattle.std.specs.List.{ContainsAt}
use Rattle.kinds.specs.Weights.{Weights}
use Rattle.automata.specs.Automata.{Automaton, Sound}
use Rattle.automata.specs.Runs.{weight_of, Alike}
use Rattle.automata.specs.Comparing.{Witness}
use Rattle.trees.specs.declared.node.Node.{Node}
use Rattle.trees.specs.Lists.{blank, children_of, IsTreeList, tree_of}
use Rattle.rules.specs.Books.{Book}
use Rattle.layout.specs.Lines.{kind, Begins}
use Rattle.layout.specs.Answers.{number_line, weight_line}
use Rattle.pages.specs.declared.fault.Fault.{Fault}
use Rattle.pages.specs.Faults.{fault_numbers}
use Rattle.pages.specs.Pages.{TwoTables, ByKind, FitsPage, FirstFault}

-- X: the line, the layer and the refusal of a fault
abbrev pub fault_line : Fault → List ℕ
fault_line f = number_line 88 (fault_numbers f)

-- V: 0 for Same or 1, two numbers of states, and the number of entries
abbrev pub verdict_line : ℕ → ℕ → ℕ → ℕ → List ℕ
verdict_line same n m k = number_line 86 (same ∷ n ∷ m ∷ k ∷ [])

-- N: the entries of a tree list, from the number i on
abbrev pub node_lines : List ℕ → ℕ → List Node → List ℕ
node_lines ranks i [] = []
node_lines ranks i (n ∷ ns) = number_line 78 (i ∷ n.symbol ∷ children_of ranks n) ++ node_lines ranks (suc i) ns

-- the least number of states of a table that weighs every tree as the book does
pub record Least {W : Type 0} (K : Weights W) (b : Book W) (n : ℕ) : Type 0 where
  pub smallest : Automaton W
  pub sound : Sound smallest
  pub alike : Alike K b.content smallest
  pub states : smallest.states ≡ n
  pub least : (B : Automaton W) → Sound B → Alike K b.content B → n ≤ B.states

-- the lines of a tree that the books weigh differently, and of its weights
pub record ToldApart {W : Type 0} (K : Weights W) (b c : Book W) (n m : ℕ) (out : List ℕ) : Type 0 where
  pub list : List Node
  pub is_list : IsTreeList b.content.ranks list
  pub used : (i : ℕ) → i + 1 < length list → (j : ℕ) × (i < j) × (j < length list) × ContainsAt (children_of b.content.ranks (slice_index_or list j blank)) i
  pub witness : Witness K b.content c.content (tree_of b.content.ranks list)
  pub bytes :
      out ≡ verdict_line 1 n m (length list) ++ node_lines b.content.ranks 0 list
      ++ weight_line 1 (option_map K.code (weight_of K b.content (tree_of b.content.ranks list)))
      ++ weight_line 2 (option_map K.code (weight_of K c.content (tree_of b.content.ranks list)))

-- the answer to two tables by their books
pub record Verdict {W : Type 0} (K : Weights W) (b c : Book W) (out : List ℕ) : Type 0 where
  pub n : ℕ
  pub m : ℕ
  pub first_least : Least K b n
  pub second_least : Least K c m
  pub told : (Alike K b.content c.content × (out ≡ verdict_line 0 n m 0)) ⊎ ToldApart K b c n m out

-- the page spells two tables over one alphabet, and the answer is the verdict on their books
pub record Judged {W : Type 0} (out : List ℕ) (K : Weights W) (more : List ℕ) : Type 0 where
  pub b : Book W
  pub c : Book W
  pub tables : TwoTables K more b c
  pub one_alphabet : b.content.ranks ≡ c.content.ranks
  pub verdict : Verdict K b c out

-- the line of the first fault, or the verdict on the two tables that the page spells
abbrev pub Answered : List ℕ → List ℕ → Type 0
Answered page out =
    ((f : Fault) × FirstFault page f × (out ≡ fault_line f))
    ⊎ ((n : ℕ) × (more : List ℕ) × FitsPage page × Begins page (kind n) more × ByKind (λ W K. Judged out K more) n)
