-- The merge of rules in place: the rules kept stand in front, and those to come are as they were.
use Rattle.std.proofs.Common.{◌≡◌, ℕ, ◌+◌, ◌<◌, ◌≤◌, Bool, true, false, cond, List, [], ◌∷◌, ◌++◌, map, length, get_or, take, drop, set, Some, None, sym, refl, ap, ◌∙◌, subst, add-zero, arith}
use Rattle.std.proofs.lemmas.List.{take_all, map_more, take_more_set, map_push, drop-drop, drop-set-lt, get_or-drop, length-set}
use Rattle.kinds.specs.Weights.{Weights}
use Rattle.automata.specs.Automata.{Transition}
use Rattle.automata.specs.Merging.{Grouping}
use Rattle.reduction.specs.Renaming.{renamed, taken}
use Rattle.reduction.proofs.Additions.{after, merged_rules, merged_push}

-- xs is how the rules began, and ys how they are; f says what a rule stands for
module _ {X W : Type 0} (K : Weights W) (G : Grouping W) (f : X → Transition W) (xs : List X) where
  -- the merge of the first i rules stands in the first k places
  pub record Merging (ys : List X) (k i : ℕ) : Type 0 where
    pub front : map f (take k ys) ≡ merged_rules K G (map f (take i xs))
    pub rest : drop i ys ≡ drop i xs
    pub behind : k ≤ i
    pub long : length ys ≡ length xs

  pub merging_none : Merging xs 0 0
  merging_none = record { front = refl; rest = refl; behind = omega arith; long = refl }

  -- the rule at i is as it was
  unread : (ys : List X) (k i : ℕ) (d : X) → Merging ys k i → get_or ys i d ≡ get_or xs i d
  unread ys k i d m =
      ap (λ n. get_or ys n d) (sym (add-zero i)) ∙ sym (get_or-drop i ys 0 d) ∙ ap (λ (l : List X). get_or l 0 d) m.rest ∙ get_or-drop i xs 0 d ∙ ap (λ n. get_or xs n d) (add-zero i)

  front_more : (ys : List X) (k i : ℕ) (d : X) → i < length ys → Merging ys k i → merged_rules K G (map f (take (i + 1) xs)) ≡ after (map f (take k ys)) (renamed K G (f (get_or ys i d)))
  front_more ys k i d h m =
      let l : i < length xs = omega (arith, m.long) in
      ap (merged_rules K G) (map_more f xs i d l)
      ∙ merged_push K G (map f (take i xs)) (f (get_or xs i d))
      ∙ ap (λ y. after (merged_rules K G (map f (take i xs))) (renamed K G (f y))) (sym (unread ys k i d m))
      ∙ ap (λ rs. after rs (renamed K G (f (get_or ys i d)))) (sym m.front)

  rest_more : (ys : List X) (k i : ℕ) → Merging ys k i → drop (i + 1) ys ≡ drop (i + 1) xs
  rest_more ys k i m = sym (drop-drop 1 i ys) ∙ ap (drop 1) m.rest ∙ drop-drop 1 i xs

  -- a rule with a state that does not stay
  pub merging_drops : (ys zs : List X) (k n i : ℕ) (d : X) → i < length ys → None ≡ renamed K G (f (get_or ys i d)) → n ≡ k → zs ≡ ys → Merging ys k i → Merging zs n (i + 1)
  merging_drops ys zs k n i d h none count rules m =
      subst (λ (l : List X). Merging l n (i + 1)) (sym rules) (subst (λ (j : ℕ). Merging ys j (i + 1)) (sym count) dropped)
    where
      dropped : Merging ys k (i + 1)
      dropped = record {
        front = sym (front_more ys k i d h m ∙ ap (after (map f (take k ys))) (sym none));
        rest = rest_more ys k i m;
        behind = omega (arith, m.behind);
        long = m.long;
      }

  -- a rule y in the place of the one at i, added unless its left side is taken
  pub merging_adds : (ys zs : List X) (k n i : ℕ) (d y : X) → i < length ys → Some (f y) ≡ renamed K G (f (get_or ys i d)) → n ≡ cond (taken (map f (take k ys)) (f y)) k (k + 1) → zs ≡ cond (taken (map f (take k ys)) (f y)) ys (set ys k y) → Merging ys k i → Merging zs n (i + 1)
  merging_adds ys zs k n i d y h some count rules m =
      subst (λ (l : List X). Merging l n (i + 1)) (sym rules) (subst (λ (j : ℕ). Merging (cond (taken (map f (take k ys)) (f y)) ys (set ys k y)) j (i + 1)) (sym count) (at (taken (map f (take k ys)) (f y)) more))
    where
      more : merged_rules K G (map f (take (i + 1) xs)) ≡ cond (taken (map f (take k ys)) (f y)) (map f (take k ys)) (map f (take k ys) ++ f y ∷ [])
      more = front_more ys k i d h m ∙ ap (after (map f (take k ys))) (sym some)

      at : (b : Bool) → merged_rules K G (map f (take (i + 1) xs)) ≡ cond b (map f (take k ys)) (map f (take k ys) ++ f y ∷ []) → Merging (cond b ys (set ys k y)) (cond b k (k + 1)) (i + 1)
      at true e = record { front = sym e; rest = rest_more ys k i m; behind = omega (arith, m.behind); long = m.long }
      at false e =
          let room : k < length ys = omega (arith, m.behind) in
          let early : k < i + 1 = omega (arith, m.behind) in
          record {
            front = ap (map f) (take_more_set ys k y room) ∙ map_push f (take k ys) y ∙ sym e;
            rest = drop-set-lt (i + 1) ys k y early ∙ rest_more ys k i m;
            behind = omega (arith, m.behind);
            long = length-set ys k y ∙ m.long;
          }

  pub merging_all : (ys : List X) (k i : ℕ) → length ys ≤ i → Merging ys k i → map f (take k ys) ≡ merged_rules K G (map f xs)
  merging_all ys k i h m = m.front ∙ ap (λ l. merged_rules K G (map f l)) (take_all i xs (omega (arith, m.long)))
