-- Putting the rules into their chains, from the last to the first.
use Rattle.std.proofs.Common.{◌≡◌, ℕ, suc, ◌+◌, ◌-◌, ◌<◌, ◌≤◌, Bool, true, false, cond, eqb, List, ◌∷◌, length, drop, Some, None, Option, sym, refl, ap, ◌∙◌, ⊎_elim, arith}
use Rattle.std.specs.Option.{option_map}
use Rattle.std.specs.List.{slice_get}
use Rattle.std.proofs.lemmas.List.{drop_more, drop_all}
use Rattle.std.proofs.lemmas.Bool.{cases_eq, eq-eqb, ne_eqb}
use Rattle.trees.proofs.Ranks.{nth_some}
use Rattle.rules.specs.declared.rule.Rule.{Rule}
use Rattle.lookup_index.specs.Indexes.{first_place}
use Rattle.lookup_index.specs.declared.rule_index.RuleIndex.{RuleIndex}
use Rattle.lookup_index.specs.Hashing.{left_hash}
use Rattle.lookup_index.specs.Indexes.{head_of, next_of, link, has_hash, IndexesFrom}
use Rattle.lookup_index.proofs.Hashes.{left_hash_small}

link_suc : (k : ℕ) (o : Option ℕ) → link k (option_map suc o) ≡ link (suc k) o
link_suc k None = refl
link_suc k (Some i) = omega arith

module _ {V : Type 0} (ranks : List ℕ) (rules : List (Rule V)) where
  -- without rules there are no links
  pub chains_none : (x : RuleIndex) (k : ℕ) → length rules ≤ k → ((h : ℕ) → head_of x h ≡ 0) → IndexesFrom ranks x rules k
  chains_none x k l none = record {
    heads = λ h small. none h ∙ ap (λ rs. link k (first_place (has_hash ranks h) rs)) (sym (drop_all k rules l));
    nexts = λ i r m there. absurd (omega (arith, (nth_some rules i r r there).0));
  }

  -- the rule before the rules from k on is put first
  module _ (x x' : RuleIndex) (k : ℕ) (r : Rule V) (low : 0 < k) (here : slice_get rules (k - 1) ≡ Some r)
      (heads : (h : ℕ) → head_of x' h ≡ cond (eqb h (left_hash ranks r.left)) (k - 1 + 1) (head_of x h))
      (nexts : (i : ℕ) → next_of x' i ≡ cond (eqb i (k - 1)) (head_of x (left_hash ranks r.left)) (next_of x i))
      (chained : IndexesFrom ranks x rules k) where
    up : k ≡ suc (k - 1)
    up = omega arith

    cut : drop (k - 1) rules ≡ r ∷ drop k rules
    cut =
        let found = nth_some rules (k - 1) r r here in
        let again : k - 1 + 1 ≡ k = omega arith in
        drop_more rules (k - 1) r found.0 ∙ ap (λ y. y ∷ drop (k - 1 + 1) rules) found.1 ∙ ap (λ n. r ∷ drop n rules) again

    more_heads : (h : ℕ) → h < 1024 → head_of x' h ≡ link (k - 1) (first_place (has_hash ranks h) (drop (k - 1) rules))
    more_heads h small =
        heads h ∙ at (eqb h (left_hash ranks r.left)) ∙ ap (λ rs. link (k - 1) (first_place (has_hash ranks h) rs)) (sym cut)
      where
        at : (b : Bool) → cond b (k - 1 + 1) (head_of x h) ≡ link (k - 1) (cond b (Some 0) (option_map suc (first_place (has_hash ranks h) (drop k rules))))
        at true = omega arith
        at false = chained.heads h small ∙ ap (λ n. link n (first_place (has_hash ranks h) (drop k rules))) up ∙ sym (link_suc (k - 1) (first_place (has_hash ranks h) (drop k rules)))

    more_nexts : (i : ℕ) (y : Rule V) → k - 1 ≤ i → slice_get rules i ≡ Some y → next_of x' i ≡ link (suc i) (first_place (has_hash ranks (left_hash ranks y.left)) (drop (suc i) rules))
    more_nexts i y l there =
        ⊎_elim
        (λ e.
        let same : r ≡ y = cc in
        let after : k ≡ suc i = omega arith in
        nexts i ∙ ap (λ b. cond b (head_of x (left_hash ranks r.left)) (next_of x i)) (eq-eqb i (k - 1) e)
        ∙ chained.heads (left_hash ranks r.left) (left_hash_small ranks r.left)
        ∙ ap (λ n. link n (first_place (has_hash ranks (left_hash ranks r.left)) (drop n rules))) after
        ∙ ap (λ (z : Rule V). link (suc i) (first_place (has_hash ranks (left_hash ranks z.left)) (drop (suc i) rules))) same)
        (λ n. nexts i ∙ ap (λ b. cond b (head_of x (left_hash ranks r.left)) (next_of x i)) (ne_eqb i (k - 1) n) ∙ chained.nexts i y (omega arith) there)
        (cases_eq i (k - 1))

    pub chains_more : IndexesFrom ranks x' rules (k - 1)
    chains_more = record { heads = more_heads; nexts = more_nexts }
