-- The tree of an entry is its symbol over the trees of its children.
use Rattle.std.proofs.Common.{◌≡◌, ℕ, zero, suc, ◌+◌, ◌<◌, ◌≤◌, List, [], ◌∷◌, ◌++◌, length, get_or, take, drop, sym, refl, ap, ◌∙◌, arith}
use Rattle.std.specs.List.{AllByRecursion}
use Rattle.std.proofs.lemmas.List.{length-append, length-take, length-take-le, get_or_append_left, get_or_push, get_or-take, drop_more, take-append-drop}
use Rattle.std.proofs.ByRecursion.{All-from_get_or}
use Rattle.automata.specs.Trees.{Tree, node, none, ◌▹◌, size, rank, Over, Overs}
use Rattle.trees.specs.declared.node.Node.{Node}
use Rattle.trees.specs.Lists.{blank, children_of, Good, GoodAt, row_of, grown, trees_of, tree_at}

module _ (ranks : List ℕ) where
  grown_append : (ts : List Tree) (ns ms : List Node) → grown ranks ts (ns ++ ms) ≡ grown ranks (grown ranks ts ns) ms
  grown_append ts [] ms = refl
  grown_append ts (n ∷ ns) ms = grown_append (ts ++ (node n.symbol (row_of ts (children_of ranks n)) ∷ [])) ns ms

  grown_length : (ts : List Tree) (ns : List Node) → length (grown ranks ts ns) ≡ length ts + length ns
  grown_length ts [] = omega arith
  grown_length ts (n ∷ ns) =
      let t = node n.symbol (row_of ts (children_of ranks n)) in
      omega (arith, grown_length (ts ++ t ∷ []) ns, length-append ts (t ∷ []))

  -- trees that stand stay
  grown_keeps : (ts : List Tree) (ns : List Node) (i : ℕ) (d : Tree) → i < length ts → get_or (grown ranks ts ns) i d ≡ get_or ts i d
  grown_keeps ts [] i d h = refl
  grown_keeps ts (n ∷ ns) i d h =
      let t = node n.symbol (row_of ts (children_of ranks n)) in
      grown_keeps (ts ++ t ∷ []) ns i d (omega (arith, length-append ts (t ∷ []))) ∙ get_or_append_left ts (t ∷ []) d i h

  pub trees_length : (ns : List Node) → length (trees_of ranks ns) ≡ length ns
  trees_length ns = omega (arith, grown_length [] ns)

  -- the trees of the first i entries are the first i trees
  pub trees_front : (ns : List Node) (i k : ℕ) (d : Tree) → i ≤ length ns → k < i → get_or (trees_of ranks ns) k d ≡ get_or (trees_of ranks (take i ns)) k d
  trees_front ns i k d h l =
      ap (λ ms. get_or (trees_of ranks ms) k d) (sym (take-append-drop i ns))
      ∙ ap (λ ts. get_or ts k d) (grown_append [] (take i ns) (drop i ns))
      ∙ grown_keeps (trees_of ranks (take i ns)) (drop i ns) k d (omega (arith, trees_length (take i ns), length-take-le i ns h))

  pub row_front : (ts us : List Tree) (i : ℕ) (cs : List ℕ) → ((k : ℕ) → k < i → get_or ts k (node 0 none) ≡ get_or us k (node 0 none)) → AllByRecursion (λ c. c < i) cs → row_of ts cs ≡ row_of us cs
  row_front ts us i [] same all = refl
  row_front ts us i (c ∷ cs) same all = λ j. same c all.0 j ▹ row_front ts us i cs same all.1 j

  -- the entry i, all of whose children have smaller numbers
  pub tree_entry : (ns : List Node) (i : ℕ) → i < length ns → AllByRecursion (λ c. c < i) (children_of ranks (get_or ns i blank)) → tree_at ranks ns i ≡ node (get_or ns i blank).symbol (row_of (trees_of ranks ns) (children_of ranks (get_or ns i blank)))
  tree_entry ns i h all =
      let n = get_or ns i blank in
      let before = trees_of ranks (take i ns) in
      let long : length before ≡ i = trees_length (take i ns) ∙ length-take-le i ns (omega arith) in
      let split : take i ns ++ (n ∷ drop (i + 1) ns) ≡ ns = ap (λ ms. take i ns ++ ms) (sym (drop_more ns i blank h)) ∙ take-append-drop i ns in
      let t = node n.symbol (row_of before (children_of ranks n)) in
      ap (λ ms. tree_at ranks ms i) (sym split)
      ∙ ap (λ ts. get_or ts i (node 0 none)) (grown_append [] (take i ns) (n ∷ drop (i + 1) ns))
      ∙ grown_keeps (before ++ t ∷ []) (drop (i + 1) ns) i (node 0 none) (omega (arith, length-append before (t ∷ []), long))
      ∙ get_or_push before t (node 0 none) i long
      ∙ ap (node n.symbol) (row_front before (trees_of ranks ns) i (children_of ranks n) (λ k l. sym (trees_front ns i k (node 0 none) (omega arith) l)) all)

  -- the children of a good entry have smaller numbers
  pub children_earlier : (i : ℕ) (n : Node) → rank ranks n.symbol ≤ 4 → Good ranks i n → AllByRecursion (λ c. c < i) (children_of ranks n)
  children_earlier i n small good =
      All-from_get_or (λ c. c < i) (children_of ranks n) 0 (λ k h.
      let low : k < rank ranks n.symbol = omega (arith, length-take (rank ranks n.symbol) n.children) in
      rw (get_or-take (rank ranks n.symbol) n.children k 0 low) ((good.places k (omega arith)).earlier low))

  -- a row of trees over the alphabet, as many as there are numbers
  row_over : (ts : List Tree) (i : ℕ) (cs : List ℕ) → ((k : ℕ) → k < i → Over ranks (get_or ts k (node 0 none))) → AllByRecursion (λ c. c < i) cs → Overs ranks (row_of ts cs)
  row_over ts i [] over all = tt
  row_over ts i (c ∷ cs) over all = (over c all.0, row_over ts i cs over all.1)

  row_size : (ts : List Tree) (cs : List ℕ) → size (row_of ts cs) ≡ length cs
  row_size ts [] = refl
  row_size ts (c ∷ cs) = ap suc (row_size ts cs)

  -- the trees of good entries are trees over the alphabet
  pub trees_over : (ns : List Node) → ((s : ℕ) → rank ranks s ≤ 4) → ((i : ℕ) → i < length ns → GoodAt ranks ns i) → (i : ℕ) → i < length ns → Over ranks (tree_at ranks ns i)
  trees_over ns small good i h = below (suc i) i (omega arith) h
    where
      below : (n k : ℕ) → k < n → k < length ns → Over ranks (tree_at ranks ns k)
      below zero k l m = absurd (omega arith)
      below (suc n) k l m =
          let e = get_or ns k blank in
          let g = good k m in
          let early = children_earlier k e (small e.symbol) g in
          let many : length (children_of ranks e) ≡ rank ranks e.symbol = length-take-le (rank ranks e.symbol) e.children (omega (arith, g.four, small e.symbol)) in
          rw (tree_entry ns k m early)
          (g.symbol_within, row_size (trees_of ranks ns) (children_of ranks e) ∙ many, row_over (trees_of ranks ns) k (children_of ranks e) (λ j l'. below n j (omega arith) (omega arith)) early)
