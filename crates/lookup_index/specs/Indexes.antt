-- What an index of a list of rules holds.
use Rattle.std.specs.Prelude.{◌≡◌, ℕ, suc, ◌+◌, ◌<◌, ◌≤◌, Bool, cond, List, [], ◌∷◌, drop, Some, None, Option, ◌==◌, slice_index}
use Rattle.std.specs.Option.{option_map}
use Rattle.std.specs.List.{slice_get}
use Rattle.rules.specs.declared.rule.Rule.{Rule}
use Rattle.lookup_index.specs.declared.rule_index.RuleIndex.{RuleIndex}
use Rattle.lookup_index.specs.Hashing.{left_hash}

-- the first place that passes a test, found by going through a list
abbrev pub first_place : {X : Type 0} → (X → Bool) → List X → Option ℕ
first_place p [] = None
first_place p (x ∷ xs) = cond (p x) (Some 0) (option_map suc (first_place p xs))

abbrev pub head_of : RuleIndex → ℕ → ℕ
head_of x h = slice_index x.heads h

abbrev pub next_of : RuleIndex → ℕ → ℕ
next_of x i = slice_index x.nexts i

-- the link to a place that was found from k on: the place plus one, and 0 for none
abbrev pub link : ℕ → Option ℕ → ℕ
link k None = 0
link k (Some i) = suc (k + i)

abbrev pub has_hash : {V : Type 0} → List ℕ → ℕ → Rule V → Bool
has_hash ranks h r = h == left_hash ranks r.left

-- the rules from k on are in their chains: each chain begins with its first rule, and each rule has the link to the next of its hash
pub record IndexesFrom {V : Type 0} (ranks : List ℕ) (x : RuleIndex) (rules : List (Rule V)) (k : ℕ) : Type 0 where
  pub heads : (h : ℕ) → h < 1024 → head_of x h ≡ link k (first_place (has_hash ranks h) (drop k rules))
  pub nexts : (i : ℕ) (r : Rule V) → k ≤ i → slice_get rules i ≡ Some r → next_of x i ≡ link (suc i) (first_place (has_hash ranks (left_hash ranks r.left)) (drop (suc i) rules))

-- the index is of these rules
abbrev pub Indexes : {V : Type 0} → List ℕ → RuleIndex → List (Rule V) → Type 0
Indexes ranks x rules = IndexesFrom ranks x rules 0
