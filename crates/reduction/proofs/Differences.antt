-- The one place in which two left sides differ, and the rules that face each other there.
use Rattle.std.proofs.Common.{◌≡◌, ℕ, ◌<◌, ◌≤◌, Bool, true, false, List, length, get_or, take, Some, None, Option, sym, ap, ◌∙◌, ⊎_elim, arith}
use Rattle.std.proofs.lemmas.List.{length-take-le, get_or-take}
use Rattle.std.proofs.lemmas.Bool.{both_ways, cases_eq}
use Rattle.automata.specs.Trees.{rank}
use Rattle.rules.specs.declared.rule.Rule.{Rule}
use Rattle.rules.specs.Shapes.{transition}
use Rattle.reduction.specs.Rounds.{OnlyPlace, Differs, Facing, Faces}

module _ (n : ℕ) (xs ys : List ℕ) where
  abbrev Same : ℕ → Type 0
  Same j = get_or xs j 0 ≡ get_or ys j 0

  -- among the first k places the lists do not differ, or they differ in one
  abbrev pub Differing : Option ℕ → ℕ → Type 0
  Differing None k = (j : ℕ) → j < k → Same j
  Differing (Some place) k = (place < k) × (place < n) × (Same place → ⊥) × ((j : ℕ) → j < k → (j ≡ place → ⊥) → Same j)

-- two rules with one symbol of rank n, which was read as s
module _ {V W : Type 0} (stands : V → W) (ranks : List ℕ) (live : ℕ → Bool) (r r' : Rule V) where
  module _ (s n : ℕ) (symbol : r.left.symbol ≡ r'.left.symbol) (read : s ≡ r.left.symbol) (arity : n ≡ rank ranks s) (small : n ≤ 4) (long : length r.left.children ≡ 4) (long' : length r'.left.children ≡ 4) where
    abbrev xs : List ℕ
    xs = r.left.children

    abbrev ys : List ℕ
    ys = r'.left.children

    here : rank ranks r.left.symbol ≡ n
    here = sym (arity ∙ ap (rank ranks) read)

    there : rank ranks r'.left.symbol ≡ n
    there = ap (rank ranks) (sym symbol) ∙ here

    as_many : length (take (rank ranks r.left.symbol) xs) ≡ n
    as_many = ap (λ m. length (take m xs)) here ∙ length-take-le n xs (omega (arith, long))

    pub this_child : (k : ℕ) → k < n → get_or (transition stands ranks r).children k 0 ≡ get_or r.left.children k 0
    this_child k h = ap (λ m. get_or (take m xs) k 0) here ∙ get_or-take n xs k 0 h

    pub other_child : (k : ℕ) → k < n → get_or (transition stands ranks r').children k 0 ≡ get_or r'.left.children k 0
    other_child k h = ap (λ m. get_or (take m ys) k 0) there ∙ get_or-take n ys k 0 h

    -- a facing, by the places of the left sides
    only_place : (k : ℕ) → Facing live (transition stands ranks r) (transition stands ranks r') k → (k < n) × OnlyPlace n xs ys k
    only_place k f =
        let many = as_many in
        (omega (arith, f.within), λ j h e. sym (this_child j h) ∙ f.only j (omega arith) e ∙ other_child j h)

    back : (k : ℕ) → k < n → get_or xs k 0 ≡ get_or ys k 0 → get_or (transition stands ranks r).children k 0 ≡ get_or (transition stands ranks r').children k 0
    back k h e = this_child k h ∙ e ∙ sym (other_child k h)

    pub faces_none : Differs n r.left.children r'.left.children None → Faces live (transition stands ranks r) (transition stands ranks r') None
    faces_none d k f = let o = only_place k f in back k o.0 (d k o.0 o.1)

    module _ (k : ℕ) (d : Differs n r.left.children r'.left.children (Some k)) where
      pub faces_target : live r'.target ≡ false → Faces live (transition stands ranks r) (transition stands ranks r') None
      faces_target off i f = absurd (both_ways (live r'.target) off f.target_live)

      pub faces_child : live (get_or r'.left.children k 0) ≡ false → Faces live (transition stands ranks r) (transition stands ranks r') None
      faces_child off i f =
          let o = only_place i f in
          ⊎_elim
          (λ e. absurd (both_ways (live (get_or ys k 0)) off (ap live (ap (λ j. get_or ys j 0) (sym e) ∙ sym (other_child i o.0)) ∙ f.other_live)))
          (λ e. back i o.0 (d.1 i o.0 e)) (cases_eq i k)

      pub faces_some : live r'.target ≡ true → live (get_or r'.left.children k 0) ≡ true → Faces live (transition stands ranks r) (transition stands ranks r') (Some k)
      faces_some on child = record {
        symbol = symbol;
        within = let many = as_many in omega (arith, d.0);
        only = let many = as_many in λ j h e. back j (omega arith) (d.1 j (omega arith) e);
        other_live = ap live (other_child k d.0) ∙ child;
        target_live = on;
      }
