-- Going along the chain of a hash finds the first rule with the left side.
use Rattle.std.proofs.Common.{◌≡◌, ℕ, suc, ◌+◌, ◌-◌, ◌<◌, ◌≤◌, Bool, true, false, eqb, ◌⊎◌, List, length, get_or, take, drop, Some, None, Option, sym, refl, ap, ◌∙◌, arith}
use Rattle.std.specs.List.{slice_get}
use Rattle.std.proofs.lemmas.List.{length-drop, get_or-drop}
use Rattle.std.proofs.lemmas.Option.{slice_get-get_or}
use Rattle.std.proofs.lemmas.Bool.{and_parts, eqb-true, eq-eqb}
use Rattle.automata.specs.Trees.{rank}
use Rattle.automata.specs.Automata.{same_list}
use Rattle.automata.proofs.Finds.{same_list_true}
use Rattle.trees.proofs.Ranks.{nth_some}
use Rattle.rules.specs.declared.rule.Rule.{Rule}
use Rattle.rules.specs.Lookup.{has_left}
use Rattle.lookup_index.specs.Indexes.{first_place}
use Rattle.lookup_index.proofs.Positions.{position_more, position_found, position_within}
use Rattle.lookup_index.specs.declared.rule_index.RuleIndex.{RuleIndex}
use Rattle.lookup_index.specs.Hashing.{hash_of, left_hash}
use Rattle.lookup_index.specs.Indexes.{head_of, next_of, link, has_hash, Indexes}
use Rattle.lookup_index.proofs.Firsts.{none_further, none_behind, none_passes, none_before, first_passes}
use Rattle.lookup_index.proofs.Hashes.{hash_small}

-- no rule before `past` has the left side, and `next` is the link to the first of the hash from there on
pub record Walked {V : Type 0} (ranks : List ℕ) (rules : List (Rule V)) (s : ℕ) (qs : List ℕ) (past next : ℕ) : Type 0 where
  pub none : first_place (λ r. has_left s qs r.left) (take past rules) ≡ None
  pub linked : next ≡ link past (first_place (has_hash ranks (hash_of s qs)) (drop past rules))

module _ {V : Type 0} (ranks : List ℕ) (x : RuleIndex) (rules : List (Rule V)) (s : ℕ) (qs : List ℕ) (indexed : Indexes ranks x rules) (fits : length qs ≡ rank ranks s) where
  abbrev has : Rule V → Bool
  has r = has_left s qs r.left

  abbrev hashed : Rule V → Bool
  hashed = has_hash ranks (hash_of s qs)

  -- a rule with the left side has its hash
  hash_agrees : (r : Rule V) → has r ≡ true → hashed r ≡ true
  hash_agrees r e =
      let both = and_parts (eqb r.left.symbol s) (same_list (take (length qs) r.left.children) qs) e in
      let same : left_hash ranks r.left ≡ hash_of s qs =
      ap (λ n. hash_of n (take (rank ranks n) r.left.children)) (eqb-true r.left.symbol s both.0)
      ∙ ap (λ n. hash_of s (take n r.left.children)) (sym fits)
      ∙ ap (hash_of s) (same_list_true (take (length qs) r.left.children) qs both.1) in
      eq-eqb (hash_of s qs) (left_hash ranks r.left) (sym same)

  pub walk_start : Walked ranks rules s qs 0 (head_of x (hash_of s qs))
  walk_start = record { none = refl; linked = indexed.heads (hash_of s qs) (hash_small s qs) }

  module _ (past next : ℕ) (walked : Walked ranks rules s qs past next) where
    -- the end of the chain
    pub walk_end : (next ≤ past) ⊎ (length rules < next) → first_place has rules ≡ None
    walk_end ended = at (first_place hashed (drop past rules)) refl
      where
        at : (o : Option ℕ) → first_place hashed (drop past rules) ≡ o → first_place has rules ≡ None
        at None f = none_behind has rules past walked.none (none_passes has hashed hash_agrees (drop past rules) f)
        at (Some j) f =
            let ahead : next ≡ suc (past + j) = walked.linked ∙ ap (link past) f in
            absurd (omega (arith, position_within hashed (drop past rules) j f, length-drop past rules))

    module _ (low : past < next) (high : next ≤ length rules) (r : Rule V) (here : slice_get rules (next - 1) ≡ Some r) where
      -- how far the rule is behind `past`
      ahead : (j : ℕ) × ((first_place hashed (drop past rules) ≡ Some j) × (next - 1 ≡ past + j))
      ahead = at (first_place hashed (drop past rules)) refl
        where
          at : (o : Option ℕ) → first_place hashed (drop past rules) ≡ o → (j : ℕ) × ((first_place hashed (drop past rules) ≡ Some j) × (next - 1 ≡ past + j))
          at None f = let zero_link : next ≡ 0 = walked.linked ∙ ap (link past) f in absurd (omega arith)
          at (Some j) f = let one_on : next ≡ suc (past + j) = walked.linked ∙ ap (link past) f in (j, (f, omega arith))

      found : (next - 1 < length rules) × (get_or rules (next - 1) r ≡ r)
      found = nth_some rules (next - 1) r r here

      none_up_to : first_place has (take (next - 1) rules) ≡ None
      none_up_to =
          ap (λ n. first_place has (take n rules)) ahead.1.1
          ∙ none_further has rules past ahead.0 walked.none (none_before has hashed hash_agrees (drop past rules) ahead.0 ahead.1.0)

      same_hash : left_hash ranks r.left ≡ hash_of s qs
      same_hash =
          let there : slice_get (drop past rules) ahead.0 ≡ Some r =
          slice_get-get_or (drop past rules) ahead.0 r (position_within hashed (drop past rules) ahead.0 ahead.1.0)
          ∙ ap Some (get_or-drop past rules ahead.0 r ∙ ap (λ n. get_or rules n r) (sym ahead.1.1) ∙ found.1) in
          sym (eqb-true (hash_of s qs) (left_hash ranks r.left) (first_passes hashed (drop past rules) ahead.0 r ahead.1.0 there))

      pub walk_found : has r ≡ true → first_place has rules ≡ Some (next - 1)
      walk_found passes = position_found has rules (next - 1) r found.0 (sym found.1) none_up_to passes

      pub walk_more : has r ≡ false → Walked ranks rules s qs next (next_of x (next - 1))
      walk_more fails = record {
        none = ap (λ n. first_place has (take n rules)) (let up : next ≡ next - 1 + 1 = omega arith in up) ∙ position_more has rules (next - 1) r found.0 (sym found.1) none_up_to fails;
        linked =
            indexed.nexts (next - 1) r (omega arith) here
            ∙ ap (λ n. link n (first_place (has_hash ranks (left_hash ranks r.left)) (drop n rules))) (let up : suc (next - 1) ≡ next = omega arith in up)
            ∙ ap (λ h. link next (first_place (has_hash ranks h) (drop next rules))) same_hash;
      }
