-- The lines of an answer, piece by piece.
use Rattle.std.proofs.Common.{◌≡◌, ℕ, suc, ◌+◌, ◌<◌, ◌≤◌, List, [], ◌∷◌, ◌++◌, length, get_or, take, IfOk, Ok, Err, Result, ap, ◌∙◌, append_assoc, append-nil, arith}
use Rattle.std.proofs.lemmas.List.{take_more, take_all, length-take}
use Rattle.automata.specs.Trees.{rank}
use Rattle.trees.specs.declared.node.Node.{Node}
use Rattle.trees.specs.Lists.{blank, children_of}
use Rattle.layout.specs.Answers.{number_line}
use Rattle.pages.specs.Answering.{node_lines}

-- the first of an entry's numbers, as many as its rank and two, make its line
pub node_written : {T E : Type 0} (r : Result T E) (start after : List ℕ) (ranks : List ℕ) (n : Node) (number m k : ℕ) (xs : List ℕ) → xs ≡ number ∷ n.symbol ∷ n.children → k ≡ rank ranks n.symbol → m ≡ 2 + k → IfOk r (λ _. after ≡ start ++ number_line 78 (take m xs)) → IfOk r (λ _. after ≡ start ++ number_line 78 (number ∷ n.symbol ∷ children_of ranks n))
node_written (Err e) start after ranks n number m k xs all ranked more is = tt
node_written (Ok v) start after ranks n number m k xs all ranked more is =
    let two : 2 + k ≡ suc (suc k) = omega arith in
    let first : take m xs ≡ number ∷ n.symbol ∷ children_of ranks n =
    ap (λ i. take i xs) (more ∙ two) ∙ ap (take (suc (suc k))) all ∙ ap (λ i. number ∷ n.symbol ∷ take i n.children) ranked in
    is ∙ ap (λ ns. start ++ number_line 78 ns) first

-- lines of entries, one list after another
nodes_append : (ranks : List ℕ) (i : ℕ) (xs ys : List Node) → node_lines ranks i (xs ++ ys) ≡ node_lines ranks i xs ++ node_lines ranks (length xs + i) ys
nodes_append ranks i [] ys = ap (λ k. node_lines ranks k ys) (let e : i ≡ 0 + i = omega arith in e)
nodes_append ranks i (x ∷ xs) ys =
    let more = nodes_append ranks (suc i) xs ys in
    let count : length xs + suc i ≡ suc (length xs) + i = omega arith in
    let grouped = append_assoc (number_line 78 (i ∷ x.symbol ∷ children_of ranks x)) (node_lines ranks (suc i) xs) (node_lines ranks (length xs + suc i) ys) in
    cc

-- one line more
pub nodes_written : (start out more : List ℕ) (ranks : List ℕ) (ns : List Node) (i : ℕ) (n : Node) → i < length ns → n ≡ get_or ns i blank → out ≡ start ++ node_lines ranks 0 (take i ns) → more ≡ out ++ number_line 78 (i ∷ n.symbol ∷ children_of ranks n) → more ≡ start ++ node_lines ranks 0 (take (i + 1) ns)
nodes_written start out more ranks ns i n less element so_far is =
    let next = take_more ns i blank less in
    let joins = nodes_append ranks 0 (take i ns) (get_or ns i blank ∷ []) in
    let count : length (take i ns) + 0 ≡ i = omega (arith, length-take i ns) in
    let end = append-nil (number_line 78 (i ∷ n.symbol ∷ children_of ranks n)) in
    let grouped = append_assoc start (node_lines ranks 0 (take i ns)) (number_line 78 (i ∷ n.symbol ∷ children_of ranks n)) in
    cc

pub all_written : (start out : List ℕ) (ranks : List ℕ) (ns : List Node) (i : ℕ) → length ns ≤ i → out ≡ start ++ node_lines ranks 0 (take i ns) → out ≡ start ++ node_lines ranks 0 ns
all_written start out ranks ns i most is = is ∙ ap (λ xs. start ++ node_lines ranks 0 xs) (take_all i ns most)
