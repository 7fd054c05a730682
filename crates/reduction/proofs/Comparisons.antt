-- Comparing two rules that face each other: the pair that it marks, and that it leaves nothing to mark.
use Rattle.std.proofs.Common.{◌≡◌, ℕ, ◌<◌, Bool, true, false, cond, ◌&&◌, ◌||◌, eqb, List, length, get_or, take, sym, refl, ap, ◌∙◌, subst, inl, inr, ⊎_elim, arith}
use Rattle.std.specs.List.{ContainsAt}
use Rattle.std.proofs.lemmas.List.{length-take, get_or-take}
use Rattle.std.proofs.ByRecursion.{All-get_or}
use Rattle.std.proofs.lemmas.Bool.{both_ways, cases_eq}
use Rattle.kinds.specs.Weights.{Weights}
use Rattle.automata.specs.Trees.{rank}
use Rattle.automata.specs.Automata.{Transition, Automaton, Sound}
use Rattle.automata.specs.Merging.{keeps}
use Rattle.automata.specs.Marking.{targets, as_first, uneven}
use Rattle.automata.proofs.Drops.{kept_children}
use Rattle.pairs.specs.declared.pair_table.PairTable.{PairTable}
use Rattle.pairs.specs.Cells.{cell_at}
use Rattle.pairs.proofs.Counts.{marked_grows}
use Rattle.reduction.specs.Rounds.{Round, round_one, round_two, Facing, Tells, Swept, Compared}
use Rattle.reduction.proofs.PairMarks.{both_kept, both_here}
use Rattle.reduction.proofs.Telling.{Adds, grown_marked, swept_none}
use Rattle.reduction.proofs.Facings.{facing_swapped}

-- a child place within the first n
pub place_within : (n : ℕ) (xs : List ℕ) (k : ℕ) → k < length (take n xs) → k < n
place_within n xs k h = omega (arith, length-take n xs)

pub child_read : (n : ℕ) (xs : List ℕ) (k p : ℕ) → k < length (take n xs) → p ≡ get_or xs k 0 → get_or (take n xs) k 0 ≡ p
child_read n xs k p h read = get_or-take n xs k 0 (place_within n xs k h) ∙ sym read

pub other_read : (ranks : List ℕ) (s s' : ℕ) (xs ys : List ℕ) (k q : ℕ) → s ≡ s' → k < length (take (rank ranks s) xs) → q ≡ get_or ys k 0 → get_or (take (rank ranks s') ys) k 0 ≡ q
other_read ranks s s' xs ys k q same h read =
    let low : k < rank ranks s' = subst (λ (x : ℕ). k < rank ranks x) same (place_within (rank ranks s) xs k h) in
    get_or-take (rank ranks s') ys k 0 low ∙ sym read

module _ {W : Type 0} (K : Weights W) (A : Automaton W) (live : ℕ → Bool) (ρ : Round W) (r r' : Transition W) (t : PairTable Bool) where
  -- the rules face each other in the place k, with the children p and q
  module _ (k p q : ℕ) (facing : Facing live r r' k) (this : get_or r.children k 0 ≡ p) (other : get_or r'.children k 0 ≡ q) where
    only_facing : (P : ℕ → ℕ → Type 0) → P p q → (j : ℕ) → Facing live r r' j → (get_or r.children j 0 ≡ get_or r'.children j 0 → ⊥) → P (get_or r.children j 0) (get_or r'.children j 0)
    only_facing P here j f apart = ⊎_elim
        (λ e. subst (λ (i : ℕ). P (get_or r.children i 0) (get_or r'.children i 0)) (sym e) (rw (this, other) here))
        (λ n. absurd (apart (facing.only j f.within n))) (cases_eq j k)

    pub compared_marked : true ≡ cell_at t p q → Swept K A live ρ (Compared K A live ρ r r') t t false
    compared_marked on = swept_none K A live ρ (Compared K A live ρ r r') t (λ l j f apart tells. only_facing (λ x y. cell_at t x y ≡ true) (sym on) j f apart)

    pub compared_alike : (Tells K ρ (cell_at t) r r' → ⊥) → Swept K A live ρ (Compared K A live ρ r r') t t false
    compared_alike n = swept_none K A live ρ (Compared K A live ρ r r') t (λ l j f apart tells. absurd (n tells))

    adds : Sound A → ContainsAt A.rules r → ContainsAt A.rules r' → keeps live r ≡ true → Tells K ρ (cell_at t) r r' → Adds K A live ρ (cell_at t) p q
    adds sound h h' l = rw (← this, ← other) (by ρ)
      where
        by : (σ : Round W) → Tells K σ (cell_at t) r r' → Adds K A live σ (cell_at t) (get_or r.children k 0) (get_or r'.children k 0)
        by round_one (inl m) = targets r r' (facing_swapped A live sound r r' k h h' l facing) m
        by round_one (inr n) = absurd n
        by (round_two f) (inl m) = as_first (targets r r' (facing_swapped A live sound r r' k h h' l facing) m)
        by (round_two f) (inr n) = uneven r r' (facing_swapped A live sound r r' k h h' l facing) n

    pub compared_new : (t' : PairTable Bool) → ((q : ℕ) → live q ≡ true → q < 48) → ContainsAt A.rules r → ContainsAt A.rules r' → keeps live r ≡ true → Tells K ρ (cell_at t) r r' → false ≡ cell_at t p q → (p < 48 → q < 48 → (x y : ℕ) → cell_at t' x y ≡ cond ((eqb x p && eqb y q) || (eqb x q && eqb y p)) true (cell_at t x y)) → Swept K A live ρ (Compared K A live ρ r r') t t' true
    compared_new t' small h h' l tells unmarked marks =
        let on : live p ≡ true = ap live (sym this) ∙ All-get_or (λ x. live x ≡ true) r.children k 0 facing.within (kept_children live r l) in
        let on' : live q ≡ true = ap live (sym other) ∙ facing.other_live in
        let both = marks (small p on) (small q on') in
        record {
          grown = grown_marked K A live ρ t t' p q both on on' (λ sound. adds sound h h' l tells);
          same = λ e. absurd (both_ways true e refl);
          more = λ e. marked_grows t t' p q (small p on) (small q on') (both_kept t t' p q both) (sym unmarked) (both_here t t' p q both);
          rest = λ e. absurd (both_ways true e refl);
        }
