-- Rules that differ in one child place, as lists and by the number of the place; and that nothing is left to mark.
use Rattle.std.proofs.Common.{◌≡◌, ℕ, suc, ◌<◌, Bool, true, false, List, ◌∷◌, ◌++◌, length, get_or, take, drop, set, Some, None, Option, sym, refl, ap, ◌∙◌, subst, inl, inr, ⊎_elim, arith}
use Rattle.std.specs.List.{ContainsAt}
use Rattle.std.proofs.lemmas.List.{length-append, length-set, get_or_at, get_or-set_same, get_or-set_other, set_at, set-get_or, set_split, ext_get_or}
use Rattle.std.proofs.lemmas.Option.{slice_get-get_or}
use Rattle.std.proofs.ByRecursion.{all-has, all_has_itself}
use Rattle.std.proofs.lemmas.Bool.{both_ways, cases_eq}
use Rattle.kinds.specs.Weights.{Weights}
use Rattle.automata.specs.Trees.{rank}
use Rattle.automata.specs.Automata.{Transition, Automaton, find, Within, Sound}
use Rattle.automata.specs.Merging.{keeps}
use Rattle.automata.specs.Marking.{Swapped, Lone, MarksFirst, acceptance, lone, targets, MarksSecond, as_first, uneven, AtRest}
use Rattle.automata.proofs.Finds.{find_symbol, find_children, find_all}
use Rattle.automata.proofs.Marks.{not_marked}
use Rattle.liveness.proofs.Reaches.{find_itself}
use Rattle.pairs.specs.declared.pair_table.PairTable.{PairTable}
use Rattle.pairs.specs.Cells.{cell_at}
use Rattle.reduction.specs.Rounds.{Round, round_one, round_two, AcceptApart, live_target, OnlyPlace, Facing, Uneven, Tells, Truth, Good, ComparedAll, LoneAll}
use Rattle.reduction.proofs.Telling.{unmarked_itself}

-- a list around one place
around_place : (xs : List ℕ) (k : ℕ) → k < length xs → take k xs ++ get_or xs k 0 ∷ drop (suc k) xs ≡ xs
around_place xs k h = sym (set_split xs k (get_or xs k 0) h) ∙ set-get_or xs k 0

one_place : (xs ys : List ℕ) (k : ℕ) → k < length xs → length xs ≡ length ys → OnlyPlace (length xs) xs ys k → set xs k (get_or ys k 0) ≡ ys
one_place xs ys k h long only = ext_get_or 0 (set xs k (get_or ys k 0)) ys (length-set xs k (get_or ys k 0) ∙ long) (λ i l.
    let n = length-set xs k (get_or ys k 0) in
    ⊎_elim
    (λ e. subst (λ (j : ℕ). get_or (set xs k (get_or ys k 0)) j 0 ≡ get_or ys j 0) (sym e) (get_or-set_same xs k (get_or ys k 0) 0 h))
    (λ d. get_or-set_other xs k i (get_or ys k 0) 0 d ∙ only i (omega arith) d) (cases_eq i k))

module _ {W : Type 0} (A : Automaton W) (live : ℕ → Bool) where
  -- a rule of the automaton is found by its left side
  has_found : Sound A → (r : Transition W) → ContainsAt A.rules r → find A.rules r.symbol r.children ≡ Some r
  has_found sound r h = find_itself A.rules h.0 r sound.single (slice_get-get_or A.rules h.0 r h.1 ∙ ap Some (h.2 r))

  found_has : (s : ℕ) (qs : List ℕ) (r : Transition W) → find A.rules s qs ≡ Some r → ContainsAt A.rules r
  found_has s qs r e = find_all (ContainsAt A.rules) A.rules s qs r (all_has_itself A.rules) e

  pub facing_swapped : Sound A → (r r' : Transition W) (k : ℕ) → ContainsAt A.rules r → ContainsAt A.rules r' → keeps live r ≡ true → Facing live r r' k → Swapped A live (get_or r.children k 0) (get_or r'.children k 0) r r'
  facing_swapped sound r r' k h h' l f =
      let w : Within A.ranks A.states r = all-has (Within A.ranks A.states) A.rules r sound.within h in
      let w' : Within A.ranks A.states r' = all-has (Within A.ranks A.states) A.rules r' sound.within h' in
      let long : length r.children ≡ length r'.children = w.children_rank ∙ ap (rank A.ranks) f.symbol ∙ sym w'.children_rank in
      let other : take k r.children ++ get_or r'.children k 0 ∷ drop (suc k) r.children ≡ r'.children =
      sym (set_split r.children k (get_or r'.children k 0) f.within) ∙ one_place r.children r'.children k f.within long f.only in
      record {
        symbol = r.symbol;
        before = take k r.children;
        after = drop (suc k) r.children;
        first = ap (find A.rules r.symbol) (around_place r.children k f.within) ∙ has_found sound r h;
        second = ap (find A.rules r.symbol) other ∙ ap (λ s. find A.rules s r'.children) f.symbol ∙ has_found sound r' h';
        first_live = l;
        other_live = f.other_live;
        second_live = f.target_live;
      }

  -- the place of a swap
  pub record Placed (p q : ℕ) (r r' : Transition W) : Type 0 where
    pub place : ℕ
    pub facing : Facing live r r' place
    pub this : get_or r.children place 0 ≡ p
    pub other : get_or r'.children place 0 ≡ q

  swapped_placed : (p q : ℕ) (r r' : Transition W) → Swapped A live p q r r' → Placed p q r r'
  swapped_placed p q r r' s =
      let k = length s.before in
      let e : r.children ≡ s.before ++ p ∷ s.after = find_children A.rules s.symbol (s.before ++ p ∷ s.after) r s.first in
      let e' : r'.children ≡ s.before ++ q ∷ s.after = find_children A.rules s.symbol (s.before ++ q ∷ s.after) r' s.second in
      let this : get_or r.children k 0 ≡ p = ap (λ (l : List ℕ). get_or l k 0) e ∙ get_or_at s.before p s.after 0 k refl in
      let other : get_or r'.children k 0 ≡ q = ap (λ (l : List ℕ). get_or l k 0) e' ∙ get_or_at s.before q s.after 0 k refl in
      let swap : r'.children ≡ set r.children k q = e' ∙ sym (set_at s.before p s.after q k refl) ∙ ap (λ (l : List ℕ). set l k q) (sym e) in
      record {
        place = k;
        facing = record {
          symbol = find_symbol A.rules s.symbol (s.before ++ p ∷ s.after) r s.first ∙ sym (find_symbol A.rules s.symbol (s.before ++ q ∷ s.after) r' s.second);
          within = omega (arith, ap length e, length-append s.before (p ∷ s.after));
          only = λ j h d. sym (ap (λ (l : List ℕ). get_or l j 0) swap ∙ get_or-set_other r.children k j q 0 d);
          other_live = rw other s.other_live;
          target_live = s.second_live;
        };
        this = this;
        other = other;
      }

  -- a rule whose counterpart for q is not there, or has a target that is not live
  pub lone_from : Sound A → (r : Transition W) (k q : ℕ) → ContainsAt A.rules r → keeps live r ≡ true → k < length r.children → live q ≡ true → live_target live (find A.rules r.symbol (set r.children k q)) ≡ false → Lone A live (get_or r.children k 0) q
  lone_from sound r k q h l within m none = record {
    symbol = r.symbol;
    before = take k r.children;
    after = drop (suc k) r.children;
    rule = r;
    first = ap (find A.rules r.symbol) (around_place r.children k within) ∙ has_found sound r h;
    first_live = l;
    other_live = m;
    alone = λ r' e on. both_ways (live r'.target) (sym (ap (live_target live) (ap (find A.rules r.symbol) (set_split r.children k q within) ∙ e)) ∙ none) on;
  }

  no_live_target : (o : Option (Transition W)) → ((r : Transition W) → o ≡ Some r → live r.target ≡ true → ⊥) → live_target live o ≡ false
  no_live_target None n = refl
  no_live_target (Some r) n = not_marked (live r.target) (n r refl)

  module _ (K : Weights W) where
    pub lone_marked : (t : PairTable Bool) → LoneAll K A live t → (p q : ℕ) → Lone A live p q → cell_at t p q ≡ true
    lone_marked t noted p q h =
        let r = h.rule in
        let k = length h.before in
        let qs = h.before ++ p ∷ h.after in
        let e : r.children ≡ qs = find_children A.rules h.symbol qs r h.first in
        let this : get_or r.children k 0 ≡ p = ap (λ (l : List ℕ). get_or l k 0) e ∙ get_or_at h.before p h.after 0 k refl in
        let swap : set r.children k q ≡ h.before ++ q ∷ h.after = ap (λ (l : List ℕ). set l k q) e ∙ set_at h.before p h.after q k refl in
        let none : live_target live (find A.rules r.symbol (set r.children k q)) ≡ false =
        ap (λ s. live_target live (find A.rules s (set r.children k q))) (find_symbol A.rules h.symbol qs r h.first)
        ∙ ap (λ l. live_target live (find A.rules h.symbol l)) swap
        ∙ no_live_target (find A.rules h.symbol (h.before ++ q ∷ h.after)) h.alone in
        ap (λ x. cell_at t x q) (sym this)
        ∙ noted r (found_has h.symbol qs r h.first) k q h.first_live (omega (arith, ap length e, length-append h.before (p ∷ h.after))) h.other_live none

    not_told : Sound A → (ρ : Round W) (marks : ℕ → ℕ → Bool) → Truth K A live ρ marks → (r : Transition W) → Tells K ρ marks r r → ⊥
    not_told sound round_one marks truth r (inl m) = unmarked_itself K A live sound round_one marks truth r.target m
    not_told sound round_one marks truth r (inr n) = n
    not_told sound (round_two f) marks truth r (inl m) = unmarked_itself K A live sound (round_two f) marks truth r.target m
    not_told sound (round_two f) marks truth r (inr n) = n refl

    module _ (sound : Sound A) (ρ : Round W) (t : PairTable Bool) (good : Good K A live ρ (cell_at t)) where
      -- two rules that tell p from q
      told_marked : ComparedAll K A live ρ t → (p q : ℕ) (r r' : Transition W) → Swapped A live p q r r' → Tells K ρ (cell_at t) r r' → cell_at t p q ≡ true
      told_marked compared p q r r' s tells = ⊎_elim equal apart (cases_eq p q)
        where
          equal : p ≡ q → cell_at t p q ≡ true
          equal e =
              let x = s.first in
              let y = s.second in
              let same : r ≡ r' = cc in
              absurd (not_told sound ρ (cell_at t) good.truth r (rw (← same) at tells))

          apart : (p ≡ q → ⊥) → cell_at t p q ≡ true
          apart n =
              let g = swapped_placed p q r r' s in
              let this = g.this in
              let other = g.other in
              let m = compared r (found_has s.symbol (s.before ++ p ∷ s.after) r s.first) r' (found_has s.symbol (s.before ++ q ∷ s.after) r' s.second) s.first_live g.place g.facing (λ e. n (sym this ∙ e ∙ other)) tells in
              rw (this, other) at m

      -- what acceptance and rules without counterpart tell apart is marked
      module _ (accept : (p q : ℕ) → AcceptApart A.accepting live p q → cell_at t p q ≡ true) (alone : (p q : ℕ) → live p ≡ true → Lone A live p q → cell_at t p q ≡ true) (compared : ComparedAll K A live ρ t) where
        pub rest_first : AtRest live (cell_at t) (MarksFirst A live (cell_at t))
        rest_first p q l m (acceptance n) = accept p q (record { this_live = l; other_live = m; apart = n })
        rest_first p q l m (lone h) = alone p q l h
        rest_first p q l m (targets r r' s e) = told_marked compared p q r r' s (inl e)

        pub rest_second : (f : ℕ → W) → ρ ≡ round_two f → AtRest live (cell_at t) (MarksSecond K A live f (cell_at t))
        rest_second f same p q l m (as_first h) = rest_first p q l m h
        rest_second f same p q l m (uneven r r' s n) = told_marked compared p q r r' s (inr (subst (λ σ. Uneven K σ r r') (sym same) n))
