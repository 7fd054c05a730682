-- Nodes over entries: the node of a left side over the entries of its states, and the node with another child.
use Rattle.std.proofs.Common.{◌≡◌, ℕ, ◌+◌, ◌<◌, ◌≤◌, List, map, length, get_or, take, set, replicate, sym, refl, ap, ◌∙◌, subst, ⊎_elim, arith}
use lib.Seq.{take-set-lt}
use Rattle.std.specs.List.{AllByRecursion}
use Rattle.std.proofs.ByRecursion.{All-get_or}
use Rattle.std.proofs.lemmas.List.{same_lists, length-take-le, length-map, length-set, get_or-take, get_or-map, get_or_default, get_or-set_same, get_or-set_other}
use Rattle.std.proofs.lemmas.Bool.{cases_eq}
use Rattle.automata.specs.Trees.{rank}
use Rattle.trees.specs.declared.node.Node.{Node}
use Rattle.trees.specs.Lists.{Good}
use Rattle.trees.proofs.Ranks.{getD_constant}
use Rattle.comparison.specs.Access.{NodeOver}

-- the first k of four places hold the numbers of the states, and the others 0
pub record Filling (entry states children : List ℕ) (k : ℕ) : Type 0 where
  pub four : length children ≡ 4
  pub filled : (j : ℕ) → j < k → get_or children j 0 ≡ get_or entry (get_or states j 0) 0
  pub rest : (j : ℕ) → k ≤ j → get_or children j 0 ≡ 0

module _ (entry states : List ℕ) where
  pub filling_none : Filling entry states (replicate 4 0) 0
  filling_none = record { four = refl; filled = λ j h. absurd (omega arith); rest = λ j h. getD_constant 4 j 0 }

  pub filling_more : (children : List ℕ) (k v q : ℕ) → k < 4 → q ≡ get_or states k 0 → v ≡ get_or entry q 0 → Filling entry states children k → Filling entry states (set children k v) (k + 1)
  filling_more children k v q h at e f =
      record {
        four = length-set children k v ∙ f.four;
        filled = λ j l. ⊎_elim
            (λ i. ap (λ n. get_or (set children k v) n 0) i ∙ get_or-set_same children k v 0 (omega (arith, f.four)) ∙ e ∙ ap (λ n. get_or entry n 0) at ∙ ap (λ n. get_or entry (get_or states n 0) 0) (sym i))
            (λ n. get_or-set_other children k j v 0 n ∙ f.filled j (omega arith)) (cases_eq j k);
        rest = λ j l. get_or-set_other children k j v 0 (λ i. omega arith) ∙ f.rest j (omega arith);
      }

  pub filled_node : (ranks : List ℕ) (s n : ℕ) (children : List ℕ) → n ≡ s → (k : ℕ) → k ≡ length states → length states ≡ rank ranks s → k ≤ 4 → Filling entry states children k → NodeOver ranks s (map (λ q. get_or entry q 0) states) (record { symbol = n; children = children })
  filled_node ranks s n children e k end many small f =
      let same : rank ranks n ≡ k = ap (rank ranks) e ∙ (omega arith) in
      let there : length (take (rank ranks n) children) ≡ k = length-take-le (rank ranks n) children (omega (arith, f.four)) ∙ same in
      let mapped : length (map (λ q. get_or entry q 0) states) ≡ k = length-map states (λ q. get_or entry q 0) ∙ (omega arith) in
      record {
        symbol = e;
        four = f.four;
        children = same_lists (take (rank ranks n) children) (map (λ q. get_or entry q 0) states) (there ∙ sym mapped) (λ j d l.
            let low : j < k = omega arith in
            get_or-take (rank ranks n) children j d (omega arith)
            ∙ get_or_default children j d 0 (omega (arith, f.four))
            ∙ f.filled j low
            ∙ sym (get_or-map (λ p. get_or entry p 0) states j 0 d (omega arith)));
        padded = λ j l h. f.rest j (omega (arith, ap (rank ranks) e));
      }

module _ (ranks : List ℕ) (s : ℕ) (cs : List ℕ) (n : Node) (small : rank ranks s ≤ 4) (over : NodeOver ranks s cs n) where
  -- as many entries as the rank
  pub node_many : length cs ≡ rank ranks s
  node_many = ap length (sym over.children) ∙ length-take-le (rank ranks n.symbol) n.children (omega (arith, over.four, ap (rank ranks) over.symbol)) ∙ ap (rank ranks) over.symbol

  -- a node over entries below i is a good entry with the number i
  pub node_good : (i : ℕ) → s < length ranks → AllByRecursion (λ c. c < i) cs → Good ranks i n
  node_good i within all =
      let same : rank ranks n.symbol ≡ rank ranks s = ap (rank ranks) over.symbol in
      record {
        four = over.four;
        symbol_within = rw over.symbol within;
        places = λ k h. record {
          earlier = λ l. subst (λ c. c < i) (ap (λ xs. get_or xs k 0) (sym over.children) ∙ get_or-take (rank ranks n.symbol) n.children k 0 l) (All-get_or (λ c. c < i) cs k 0 (omega (arith, node_many)) all);
          padded = λ l. over.padded k (omega arith) h;
        };
      }

  -- another entry in the child place k
  pub node_with : (k e : ℕ) → k < rank ranks s → NodeOver ranks s (set cs k e) (record { symbol = n.symbol; children = set n.children k e })
  node_with k e low =
      let same : rank ranks n.symbol ≡ rank ranks s = ap (rank ranks) over.symbol in
      record {
        symbol = over.symbol;
        four = length-set n.children k e ∙ over.four;
        children = take-set-lt (rank ranks n.symbol) n.children k e (omega arith) ∙ ap (λ xs. set xs k e) over.children;
        padded = λ j l h. get_or-set_other n.children k j e 0 (λ i. omega arith) ∙ over.padded j l h;
      }
