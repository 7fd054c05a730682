-- The tests of add, one after the other, and the rule that is written.
use Rattle.std.proofs.Common.{◌≡◌, ℕ, zero, suc, ◌+◌, ◌<◌, ◌≤◌, min, Bool, true, false, not, ◌&&◌, eqb, ltb, leb, List, [], ◌∷◌, ◌++◌, map, length, get_or, take, set, is_some, Some, None, Option, sym, refl, ap, ◌∙◌, le_of_suc-le-suc, arith, length-set}
use Rattle.std.specs.List.{AllByRecursion}
use Rattle.std.proofs.lemmas.List.{take_more, take_more_set, map_push, length-map, length-take}
use Rattle.std.proofs.lemmas.Bool.{and_from, and_right, and_parts, ltb-true, leb-false, eqb-true, not-false, true≢false}
use Rattle.std.proofs.ByRecursion.{All-weaker}
use Rattle.automata.specs.Trees.{rank}
use Rattle.automata.specs.Automata.{Transition, find}
use Rattle.automata.specs.Merging.{all_in}
use Rattle.trees.specs.declared.refusal.Refusal.{Refusal}
use Rattle.trees.specs.declared.refusal.Refusal.TheVariants.{State, Symbol, Children, Taken, Full}
use Rattle.trees.specs.Refusals.{when, first_met}
use Rattle.trees.proofs.Ranks.{rank_small, ranks_few}
use Rattle.trees.proofs.Refusals.{refused_none}
use Rattle.rules.specs.declared.left_side.LeftSide.{LeftSide}
use Rattle.rules.specs.declared.rule.Rule.{Rule}
use Rattle.rules.specs.declared.shape.Shape.{Shape}
use Rattle.rules.specs.Books.{Book, add_checks, added, holding}
use Rattle.rules.specs.Shapes.{ranks_in, states_in, accepts_in, transition}

all_in_push : (keep : ℕ → Bool) (qs : List ℕ) (q : ℕ) → all_in keep qs ≡ true → keep q ≡ true → all_in keep (qs ++ q ∷ []) ≡ true
all_in_push keep [] q all here = and_from (keep q) true here refl
all_in_push keep (p ∷ qs) q all here = at (keep p) all (all_in_push keep qs q)
  where
    at : (b : Bool) → (b && all_in keep qs) ≡ true → (all_in keep qs ≡ true → keep q ≡ true → all_in keep (qs ++ q ∷ []) ≡ true) → (b && all_in keep (qs ++ q ∷ [])) ≡ true
    at true e ih = ih e here
    at false e ih = e

pub all_in_more : (keep : ℕ → Bool) (qs : List ℕ) (i : ℕ) → i < length qs → all_in keep (take i qs) ≡ true → keep (get_or qs i 0) ≡ true → all_in keep (take (i + 1) qs) ≡ true
all_in_more keep qs i l all here = ap (all_in keep) (take_more qs i 0 l) ∙ all_in_push keep (take i qs) (get_or qs i 0) all here

pub all_in_fails : (keep : ℕ → Bool) (qs : List ℕ) (i : ℕ) → i < length qs → keep (get_or qs i 0) ≡ false → all_in keep qs ≡ false
all_in_fails keep [] i l fails = absurd (omega arith)
all_in_fails keep (q ∷ qs) zero l fails = ap (λ b. b && all_in keep qs) fails
all_in_fails keep (q ∷ qs) (suc i) l fails = and_right (keep q) (all_in keep qs) (all_in_fails keep qs i (le_of_suc-le-suc l) fails)

all_in_below : (n : ℕ) (qs : List ℕ) → all_in (λ q. ltb q n) qs ≡ true → AllByRecursion (λ q. q < n) qs
all_in_below n [] e = tt
all_in_below n (q ∷ qs) e =
    let both = and_parts (ltb q n) (all_in (λ p. ltb p n) qs) e in
    (ltb-true q n both.0, all_in_below n qs both.1)

unmet_false : (b : Bool) (x : Refusal) → ((e : Refusal) → when (b ≡ true) x e → ⊥) → b ≡ false
unmet_false true x n = absurd (n x (refl, refl))
unmet_false false x n = refl

module _ {W : Type 0} where
  -- what a rule that meets no refusal has
  pub record Fine (b : Book W) (s : ℕ) (qs : List ℕ) (t : ℕ) : Type 0 where
    pub symbol_within : s < length b.content.ranks
    pub rank_is : length qs ≡ rank b.content.ranks s
    pub target_within : t < b.content.states
    pub children_within : AllByRecursion (λ q. q < b.content.states) qs
    pub free : find b.content.rules s qs ≡ None
    pub room : length b.content.rules < min b.places 1024

  none_some : (o : Option (Transition W)) → is_some o ≡ false → o ≡ None
  none_some None e = refl
  none_some (Some r) e = absurd (true≢false e)

  pub fine : (b : Book W) (s : ℕ) (qs : List ℕ) (t : ℕ) → first_met (add_checks b s qs t) ≡ None → Fine b s qs t
  fine b s qs t e =
      let n = refused_none (add_checks b s qs t) e in
      let m1 : leb (length b.content.ranks) s ≡ false = unmet_false _ Symbol n.0 in
      let m2 : not (eqb (length qs) (rank b.content.ranks s)) ≡ false = unmet_false _ Children n.1.0 in
      let m3 : not (ltb t b.content.states && all_in (λ q. ltb q b.content.states) qs) ≡ false = unmet_false _ State n.1.1.0 in
      let m4 : is_some (find b.content.rules s qs) ≡ false = unmet_false _ Taken n.1.1.1.0 in
      let m5 : leb (min b.places 1024) (length b.content.rules) ≡ false = unmet_false _ Full n.1.1.1.1.0 in
      let within = and_parts (ltb t b.content.states) (all_in (λ q. ltb q b.content.states) qs) (not-false _ m3) in
      record {
        symbol_within = leb-false (length b.content.ranks) s m1;
        rank_is = eqb-true (length qs) (rank b.content.ranks s) (not-false _ m2);
        target_within = ltb-true t b.content.states within.0;
        children_within = all_in_below b.content.states qs within.1;
        free = none_some (find b.content.rules s qs) m4;
        room = leb-false (min b.places 1024) (length b.content.rules) m5;
      }

-- what a memory holds after a rule was written behind the first ones
module _ {V W : Type 0} (stands : V → W) (shape : Shape) (memory : List (Rule V)) (count s : ℕ) (qs : List ℕ) (t : ℕ) (is_fine : Fine (holding stands shape memory count) s qs t) where
  pub has_room : count < min (length memory) 1024
  has_room = omega (arith, is_fine.room, length-map (take count memory) (transition stands (ranks_in shape)), length-take count memory)

  -- symbols, states and the number of children are small
  pub narrow : (s < 256) × ((length qs ≤ 4) × AllByRecursion (λ q. q < 256) qs)
  narrow = (
    omega (arith, is_fine.symbol_within, ranks_few shape.measure.alphabet),
    (
      omega (arith, is_fine.rank_is, rank_small shape.measure.alphabet s),
      All-weaker (λ q. q < states_in shape) (λ q. q < 256) (λ q h. omega (arith, h, shape.measure.few)) qs is_fine.children_within,
    ),
  )

  pub appended : (l : LeftSide) (v : V) → l.symbol ≡ s → take (length qs) l.children ≡ qs → holding stands shape (set memory count (record { left = l; target = t; weight = v })) (count + 1) ≡ added (holding stands shape memory count) (record { symbol = s; children = qs; target = t; weight = stands v })
  appended l v same_symbol same-children =
      let rule : Rule V = record { left = l; target = t; weight = v } in
      let within : count < length memory = omega (arith, has_room) in
      let cut : rank (ranks_in shape) l.symbol ≡ length qs = ap (rank (ranks_in shape)) same_symbol ∙ sym is_fine.rank_is in
      let last : transition stands (ranks_in shape) rule ≡ record { symbol = s; children = qs; target = t; weight = stands v } =
      λ i. record { symbol = same_symbol i; children = (ap (λ n. take n l.children) cut ∙ same-children) i; target = t; weight = stands v } in
      let rules : map (transition stands (ranks_in shape)) (take (count + 1) (set memory count rule)) ≡ map (transition stands (ranks_in shape)) (take count memory) ++ (record { symbol = s; children = qs; target = t; weight = stands v }) ∷ [] =
      ap (map (transition stands (ranks_in shape))) (take_more_set memory count rule within) ∙ map_push (transition stands (ranks_in shape)) (take count memory) rule ∙ ap (λ r. map (transition stands (ranks_in shape)) (take count memory) ++ r ∷ []) last in
      λ i. record { places = length-set memory count rule i; content = record { ranks = ranks_in shape; states = states_in shape; accepting = accepts_in shape; rules = rules i } }
