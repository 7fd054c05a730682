-- Marking the children of rules without counterpart, one after another.
use Rattle.std.proofs.Common.{◌≡◌, ℕ, zero, suc, ◌+◌, ◌<◌, ◌≤◌, Bool, true, false, cond, ◌&&◌, ◌||◌, eqb, List, [], ◌∷◌, map, length, get_or, take, set, sym, refl, ap, ◌∙◌, ap₂, below_more}
use Rattle.std.specs.List.{ContainsAt}
use Rattle.std.proofs.lemmas.List.{length-take-le, length-set}
use Rattle.std.proofs.ByRecursion.{All-get_or}
use Rattle.kinds.specs.Weights.{Weights}
use Rattle.automata.specs.Trees.{rank}
use Rattle.automata.specs.Automata.{Transition, Automaton, find}
use Rattle.automata.specs.Merging.{keeps}
use Rattle.automata.specs.Marking.{lone}
use Rattle.automata.proofs.Drops.{kept_children}
use Rattle.pairs.specs.declared.pair_table.PairTable.{PairTable}
use Rattle.pairs.specs.Cells.{cell_at}
use Rattle.rules.specs.declared.rule.Rule.{Rule}
use Rattle.rules.specs.Shapes.{transition}
use Rattle.reduction.specs.Rounds.{round_one, live_target, Grown, LoneNoted}
use Rattle.reduction.proofs.PairMarks.{both_here}
use Rattle.reduction.proofs.Telling.{grown_marked, grown_onward}
use Rattle.reduction.proofs.Facings.{lone_from}

take_set : (n : ℕ) (xs : List ℕ) (k v : ℕ) → take n (set xs k v) ≡ set (take n xs) k v
take_set zero xs k v = refl
take_set (suc n) [] k v = refl
take_set (suc n) (x ∷ xs) zero v = refl
take_set (suc n) (x ∷ xs) (suc k) v = ap (λ l. x ∷ l) (take_set n xs k v)

-- the left side was read as s, n and ws, and q put into the place k
pub counterpart_read : {V W : Type 0} (stands : V → W) (ranks : List ℕ) (rules : List (Rule V)) (live : ℕ → Bool) (symbol s n k q : ℕ) (xs ws : List ℕ) (r : Bool) → n ≤ length ws → n ≡ rank ranks s → s ≡ symbol → ws ≡ xs → (length (take n (set ws k q)) ≡ rank ranks s → r ≡ live_target live (find (map (transition stands ranks) rules) s (take n (set ws k q)))) → r ≡ live_target live (find (map (transition stands ranks) rules) symbol (set (take (rank ranks symbol) xs) k q))
counterpart_read stands ranks rules live symbol s n k q xs ws r long arity read same found =
    let cut : take n (set ws k q) ≡ set (take (rank ranks symbol) xs) k q =
    ap₂ (λ m l. take m (set l k q)) (arity ∙ ap (rank ranks) read) same ∙ take_set (rank ranks symbol) xs k q in
    let many : length (take n (set ws k q)) ≡ rank ranks s = length-take-le n (set ws k q) (rw (length-set ws k q) long) ∙ arity in
    found many ∙ ap₂ (λ x l. live_target live (find (map (transition stands ranks) rules) x l)) read cut

module _ {W : Type 0} (K : Weights W) (A : Automaton W) (live : ℕ → Bool) where
  -- the rule r has no counterpart for q in the place k, where it has p
  module _ (r : Transition W) (k p q : ℕ) (t t' : PairTable Bool) (has : ContainsAt A.rules r) (kept : keeps live r ≡ true) (within : k < length r.children) (this : get_or r.children k 0 ≡ p) (other_live : live q ≡ true) (alone : live_target live (find A.rules r.symbol (set r.children k q)) ≡ false) (small : (q : ℕ) → live q ≡ true → q < 48) (marks : p < 48 → q < 48 → (x y : ℕ) → cell_at t' x y ≡ cond ((eqb x p && eqb y q) || (eqb x q && eqb y p)) true (cell_at t x y)) where
    this_live : live p ≡ true
    this_live = ap live (sym this) ∙ All-get_or (λ x. live x ≡ true) r.children k 0 within (kept_children live r kept)

    pub lone_grown : Grown K A live round_one t t'
    lone_grown =
        grown_marked K A live round_one t t' p q (marks (small p this_live) (small q other_live)) this_live other_live (λ sound. lone (rw (← this) (lone_from A live sound r k q has kept within other_live alone)))

    pub lone_here : LoneNoted K A live r k q t'
    lone_here a b c d = rw this (both_here t t' p q (marks (small p this_live) (small q other_live)))

  -- what is marked stays so
  pub noted_kept : (r : Transition W) (k q : ℕ) (t t' : PairTable Bool) → Grown K A live round_one t t' → LoneNoted K A live r k q t → LoneNoted K A live r k q t'
  noted_kept r k q t t' g n a b c d = g.kept (get_or r.children k 0) q (n a b c d)

  -- marks grow, and what is below n is done
  abbrev pub Below : (ℕ → PairTable Bool → Type 0) → PairTable Bool → PairTable Bool → ℕ → Type 0
  Below P t t' n = Grown K A live round_one t t' × ((k : ℕ) → k < n → P k t')

  pub below_onward : (P : ℕ → PairTable Bool → Type 0) → ((k : ℕ) (s s' : PairTable Bool) → Grown K A live round_one s s' → P k s → P k s') → (t t' t'' : PairTable Bool) (n : ℕ) → Grown K A live round_one t' t'' → P n t'' → Below P t t' n → Below P t t'' (n + 1)
  below_onward P keep t t' t'' n g here b =
      (grown_onward K A live round_one t t' t'' b.0 g, below_more (λ k. P k t'') n (λ k h. keep k t' t'' g (b.1 k h)) here)
