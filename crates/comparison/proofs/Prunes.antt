-- The list of the numbered entries: a tree list of the same tree, each entry but the last a child of a later one.
use Rattle.std.proofs.Common.{◌≡◌, ℕ, zero, suc, ◌+◌, ◌-◌, ◌<◌, ◌≤◌, List, [], ◌∷◌, map, length, get_or, take, drop, sym, refl, ap, ◌∙◌, subst, ⊎_elim, arith}
use Rattle.std.specs.List.{ContainsAt, AllByRecursion}
use Rattle.std.proofs.lemmas.List.{length-map, length-take-le, get_or-take, get_or-map}
use Rattle.std.proofs.ByRecursion.{All-get_or, All-from_get_or}
use Rattle.std.proofs.lemmas.Bool.{cases_eq}
use Rattle.automata.specs.Trees.{Tree, node, none, ◌▹◌, rank}
use Rattle.trees.specs.declared.node.Node.{Node}
use Rattle.trees.specs.Lists.{blank, children_of, Good, GoodAt, IsTreeList, row_of, trees_of, tree_at, tree_of}
use Rattle.trees.proofs.Entries.{tree_entry, children_earlier}
use Rattle.rules.specs.declared.place.Place.{Place}
use Rattle.comparison.specs.Forest.{nodes}
use Rattle.comparison.specs.Marking.{Kept, Entries, number, Numbering}
use Rattle.comparison.specs.Writing.{Written}
use Rattle.comparison.proofs.Kept.{kept_nodes}
use Rattle.comparison.proofs.Plants.{length_nodes}

has_map : {X Y : Type 0} (f : X → Y) (xs : List X) (x : X) → ContainsAt xs x → ContainsAt (map f xs) (f x)
has_map f xs x (i, h, same) = (i, omega (arith, length-map xs f), λ d. get_or-map f xs i x d h ∙ ap f (same x))

row_renumbered : (ts us : List Tree) (f : ℕ → ℕ) (cs : List ℕ) → AllByRecursion (λ c. get_or ts (f c) (node 0 none) ≡ get_or us c (node 0 none)) cs → row_of ts (map f cs) ≡ row_of us cs
row_renumbered ts us f [] all = refl
row_renumbered ts us f (c ∷ cs) all = λ i. all.0 i ▹ row_renumbered ts us f cs all.1 i

module _ (ranks : List ℕ) (ns : List Node) (top : ℕ) (m : List ℕ) (list : List Node) (k : ℕ) (small : (s : ℕ) → rank ranks s ≤ 4) (long : length ns ≡ top + 1) (good : (i : ℕ) → i < top + 1 → GoodAt ranks ns i) (room : top < length list) (N : Numbering ranks ns top m list (top + 1) k) where
  last_number : get_or m top 0 ≡ k
  last_number =
      let low = N.bound top (omega arith) in
      let high = N.marking.top_marked in
      let w = N.onto (k - 1) (omega arith) in
      ⊎_elim (λ s. sym (ap (λ i. get_or m i 0) s) ∙ w.2 ∙ omega arith) (λ n. absurd (omega (arith, w.1, w.2, N.order w.0 top (omega (arith, w.1)) (omega arith) high))) (cases_eq w.0 top)

  earlier : (j : ℕ) → j < top + 1 → AllByRecursion (λ c. c < j) (children_of ranks (get_or ns j blank))
  earlier j h = children_earlier ranks j (get_or ns j blank) (small (get_or ns j blank).symbol) (good j h)

  -- the entry written for a marked one
  good_number : (j : ℕ) → j < top + 1 → 0 < get_or m j 0 → Good ranks (number m j) (get_or list (number m j) blank)
  good_number j h g =
      let n = get_or ns j blank in
      let r = get_or list (number m j) blank in
      let R = N.written j h g in
      let cs = children_of ranks n in
      let marked = N.marking.closed j (omega arith) h g in
      record {
        four = R.four;
        symbol_within = subst (λ s. s < length ranks) (sym R.same_symbol) (good j h).symbol_within;
        places = λ p l. record {
          earlier = λ within.
              let count : length cs ≡ rank ranks r.symbol = sym (length-map cs (number m)) ∙ ap length (sym R.children) ∙ R.full in
              let read : get_or r.children p 0 ≡ number m (get_or cs p 0) =
              sym (get_or-take (rank ranks r.symbol) r.children p 0 within) ∙ ap (λ xs. get_or xs p 0) R.children ∙ get_or-map (number m) cs p 0 0 (omega arith) in
              let before = All-get_or (λ c. c < j) cs p 0 (omega arith) (earlier j h) in
              let positive = All-get_or (λ c. 0 < get_or m c 0) cs p 0 (omega arith) marked in
              omega (arith, N.order (get_or cs p 0) j before h g);
          padded = R.padded p;
        };
      }

  pub good_entry : (i : ℕ) → i < k → Good ranks i (get_or list i blank)
  good_entry i h =
      let w = N.onto i h in
      let is : number m w.0 ≡ i = ap (λ x. x - 1) w.2 ∙ omega arith in
      subst (λ (x : ℕ). Good ranks x (get_or list x blank)) is (good_number w.0 w.1 (omega (arith, w.2)))

  count : length (take k list) ≡ k
  count = length-take-le k list (omega (arith, N.few))

  reads : (i : ℕ) → i < k → get_or (take k list) i blank ≡ get_or list i blank
  reads i h = get_or-take k list i blank h

  pub pruned_list : top + 1 ≤ 8192 → IsTreeList ranks (take k list)
  pruned_list cap = record {
    some = omega (arith, count, last_number, N.marking.top_marked);
    few = omega (arith, count, N.few);
    good = λ i h. subst (Good ranks i) (sym (reads i (omega (arith, count)))) (good_entry i (omega (arith, count)));
  }

  -- the tree of a marked entry is that of the entry written for it
  tree_below : (b j : ℕ) → j < b → j < top + 1 → 0 < get_or m j 0 → tree_at ranks (take k list) (number m j) ≡ tree_at ranks ns j
  tree_below zero j l h g = absurd (omega arith)
  tree_below (suc b) j l h g =
      let n = get_or ns j blank in
      let cs = children_of ranks n in
      let ls = take k list in
      let R = N.written j h g in
      let within : number m j < k = omega (arith, N.bound j h) in
      let here = reads (number m j) within in
      let before : AllByRecursion (λ c. c < number m j) (children_of ranks (get_or ls (number m j) blank)) =
      children_earlier ranks (number m j) (get_or ls (number m j) blank) (small (get_or ls (number m j) blank).symbol) (subst (Good ranks (number m j)) (sym here) (good_number j h g)) in
      let marked = N.marking.closed j (omega arith) h g in
      let same : AllByRecursion (λ c. tree_at ranks ls (number m c) ≡ tree_at ranks ns c) cs =
      All-from_get_or (λ c. tree_at ranks ls (number m c) ≡ tree_at ranks ns c) cs 0 (λ p q.
      let low = All-get_or (λ c. c < j) cs p 0 q (earlier j h) in
      tree_below b (get_or cs p 0) (omega arith) (omega arith) (All-get_or (λ c. 0 < get_or m c 0) cs p 0 q marked)) in
      tree_entry ranks ls (number m j) (omega (arith, count)) before
      ∙ ap (λ (x : Node). node x.symbol (row_of (trees_of ranks ls) (children_of ranks x))) here
      ∙ (λ i. node (R.same_symbol i) (row_of (trees_of ranks ls) (R.children i)))
      ∙ ap (node n.symbol) (row_renumbered (trees_of ranks ls) (trees_of ranks ns) (number m) cs same)
      ∙ sym (tree_entry ranks ns j (omega arith) (earlier j h))

  pub pruned_tree : tree_of ranks (take k list) ≡ tree_at ranks ns top
  pruned_tree = ap (tree_at ranks (take k list)) (omega (arith, count, last_number)) ∙ tree_below (suc top) top (omega arith) (omega arith) N.marking.top_marked

  pub pruned_used : (i : ℕ) → i + 1 < k → (j : ℕ) × (i < j) × (j < k) × ContainsAt (children_of ranks (get_or list j blank)) i
  pruned_used i h =
      let w = N.onto i (omega arith) in
      let below : w.0 < top = ⊎_elim (λ s. absurd (omega (arith, ap (λ x. get_or m x 0) s, w.2, last_number))) (λ n. omega (arith, w.1)) (cases_eq w.0 top) in
      let v = N.marking.needed w.0 below (omega (arith, w.2)) in
      let is : number m w.0 ≡ i = ap (λ x. x - 1) w.2 ∙ omega arith in
      let R = N.written v.0 v.2 v.3 in
      let cs = children_of ranks (get_or ns v.0 blank) in
      let has : ContainsAt (children_of ranks (get_or list (number m v.0) blank)) (number m w.0) =
      subst (λ (xs : List ℕ). ContainsAt xs (number m w.0)) (sym R.children) (has_map (number m) cs w.0 v.4) in
      (number m v.0, omega (arith, w.2, N.order w.0 v.0 v.1 v.2 v.3), omega (arith, N.bound v.0 v.2, v.3), subst (ContainsAt (children_of ranks (get_or list (number m v.0) blank))) is has)

-- so a list whose numbering is complete is written
pub pruned : {V : Type 0} (ranks : List ℕ) (work work' : List (Place V)) (top : ℕ) (m : List ℕ) (list list' : List Node) (k : ℕ) → ((s : ℕ) → rank ranks s ≤ 4) → top + 1 ≤ 8192 → length list' ≡ length list → top < length list → drop k list' ≡ drop k list → Kept work work' → Entries ranks work top → Numbering ranks (nodes work' (top + 1)) top m list' (top + 1) k → Written ranks work top list list' k
pruned ranks work work' top m list list' k small cap same room beyond kept E N =
    let ns = nodes work (top + 1) in
    let long : length ns ≡ top + 1 = length_nodes work (top + 1) (omega (arith, E.within)) in
    let N' : Numbering ranks ns top m list' (top + 1) k = subst (λ (xs : List Node). Numbering ranks xs top m list' (top + 1) k) (kept_nodes work work' kept (top + 1)) N in
    record {
      some = omega (arith, N'.bound top (omega arith), N'.marking.top_marked);
      few = N'.few;
      is_list = pruned_list ranks ns top m list' k small long E.good (omega arith) N' cap;
      tree = pruned_tree ranks ns top m list' k small long E.good (omega arith) N';
      used = pruned_used ranks ns top m list' k small long E.good (omega arith) N';
      beyond = beyond;
      same_length = same;
    }
