-- The automaton with four states: its contexts, its live states, and its two equivalent states.
use Rattle.std.proofs.Common.{◌≡◌, ℕ, zero, suc, ◌+◌, ◌<◌, ◌≤◌, true, ◌⊎◌, List, [], ◌∷◌, ◌++◌, Some, None, Option, sym, refl, ap, ◌∙◌, inl, inr, arith}
use Rattle.std.specs.List.{AllByRecursion}
use Rattle.std.proofs.lemmas.List.{length-append, nil_from_length}
use Rattle.std.proofs.lemmas.Bool.{ltb-true}
use Rattle.kinds.specs.declared.residue.Residue.{Residue}
use Rattle.kinds.specs.Residues.{residues, residue_path}
use Rattle.automata.specs.Trees.{Row, none, ◌▹◌, size, rank, Over}
use Rattle.automata.specs.Automata.{Transition, find, Within, Sound}
use Rattle.automata.specs.Runs.{At, applied, step, beside, accepted}
use Rattle.automata.specs.Contexts.{Context, hole, under, OverContext, fill, starting, value, scaled, Live, Equivalent}
use Rattle.automata.specs.Marking.{DecidesLive}
use Rattle.automata.specs.Examples.{residue, constant, above, above_context, leaf, edge, four, member}
use Rattle.automata.proofs.Finds.{find_symbol, find_all, find_rank}
use Rattle.automata.proofs.Lives.{state_within}

-- what holds of each pair of 0 and 1
pub low_pairs : (P : ℕ → ℕ → Type 0) → P 0 0 → P 0 1 → P 1 0 → P 1 1 → (p q : ℕ) → p < 2 → q < 2 → P p q
low_pairs P a b c d zero zero l m = a
low_pairs P a b c d zero (suc zero) l m = b
low_pairs P a b c d (suc zero) zero l m = c
low_pairs P a b c d (suc zero) (suc zero) l m = d
low_pairs P a b c d zero (suc (suc q)) l m = absurd (omega arith)
low_pairs P a b c d (suc zero) (suc (suc q)) l m = absurd (omega arith)
low_pairs P a b c d (suc (suc p)) q l m = absurd (omega arith)

leaf_within : (s q : ℕ) (w : Residue) → s < 3 → 0 ≡ rank four.ranks s → q < 4 → Within four.ranks 4 (leaf s q w)
leaf_within s q w h e k = record { symbol_within = h; children_rank = e; children_within = tt; target_within = k }

edge_within : (p q : ℕ) (w : Residue) → p < 4 → q < 4 → Within four.ranks 4 (edge 2 p q w)
edge_within p q w h k = record { symbol_within = omega arith; children_rank = refl; children_within = (h, tt); target_within = k }

pub four_sound : Sound four
four_sound = record {
  within = (
    leaf_within 0 0 (residue 3 tt tt) (omega arith) refl (omega arith),
    (
      leaf_within 1 1 (residue 6 tt tt) (omega arith) refl (omega arith),
      (
        edge_within 0 2 (residue 10 tt tt) (omega arith) (omega arith),
        (
          edge_within 1 2 (residue 5 tt tt) (omega arith) (omega arith),
          (edge_within 2 3 (residue 7 tt tt) (omega arith) (omega arith), tt),
        ),
      ),
    ),
  );
  single = (refl, (refl, (refl, (refl, (refl, tt)))));
}

pub four_over : (s : ℕ) → s < 2 → Over four.ranks (above 2 (constant s))
four_over zero l = (omega arith, refl, ((omega arith, refl, tt), tt))
four_over (suc zero) l = (omega arith, refl, ((omega arith, refl, tt), tt))
four_over (suc (suc s)) l = absurd (omega arith)

-- only the symbol 2 has a rank above zero
unary : (s : ℕ) → 1 ≤ rank four.ranks s → (s ≡ 2) × (rank four.ranks s ≡ 1)
unary zero h = absurd (omega arith)
unary (suc zero) h = absurd (omega arith)
unary (suc (suc zero)) h = (refl, refl)
unary (suc (suc (suc n))) h = absurd (omega arith)

-- and so a rule with a child place has one child
pub one_child : (s : ℕ) (before after : List ℕ) (p : ℕ) (r : Transition Residue) → find four.rules s (before ++ p ∷ after) ≡ Some r → (s ≡ 2) × (before ≡ []) × (after ≡ [])
one_child s before after p r e =
    let n = simp length-append at (find_rank four four_sound s (before ++ p ∷ after) r e) in
    let u = unary s (omega arith) in
    let m = u.1 in
    (u.0, nil_from_length before (omega arith), nil_from_length after (omega arith))

-- two states have at most one pair of rules that differ in them
module _ (p q : ℕ) (a b : Transition Residue) (first : find four.rules 2 (p ∷ []) ≡ Some a) (second : find four.rules 2 (q ∷ []) ≡ Some b) where
  pub the_rule : (s : ℕ) (before after : List ℕ) (r : Transition Residue) → find four.rules s (before ++ p ∷ after) ≡ Some r → (r ≡ a) × (find four.rules s (before ++ q ∷ after) ≡ Some b)
  the_rule s before after r e =
      let o = one_child s before after p r e in
      let same : find four.rules 2 (p ∷ []) ≡ Some r = rw (o.0, o.1, o.2) at e in
      (cc, rw (o.0, o.1, o.2) second)

empty_row : (ts : Row) → size ts ≡ 0 → ts ≡ none
empty_row none e = refl
empty_row (t ▹ ts) e = absurd (omega arith)

only_above : (s : ℕ) (before : Row) (c : Context) (after : Row) → OverContext four.ranks (under s before c after) → under s before c after ≡ above_context 2 c
only_above s before c after h =
    let n : size before + 1 + size after ≡ rank four.ranks s = h.1 in
    let u = unary s (omega arith) in
    let m = u.1 in
    let i = u.0 in
    let j = empty_row before (omega arith) in
    let k = empty_row after (omega arith) in
    cc

-- the contexts over the alphabet: the hole, the symbol over it, and those with the symbol twice at the root
pub data Shape : Context → Type 0 where
  bare : Shape hole
  once : Shape (above_context 2 hole)
  twice : (d : Context) → Shape (above_context 2 (above_context 2 d))

shape : (c : Context) → OverContext four.ranks c → Shape c
shape hole h = bare
shape (under s before hole after) h = rw (only_above s before hole after h) once
shape (under s before (under t left d right) after) h =
    rw (only_above s before (under t left d right) after h, only_above t left d right h.3) (twice d)

-- the unary symbol leads to the state 2 or 3
abbrev Later : Transition Residue → Type 0
Later r = r.symbol ≡ 2 → (r.target ≡ 2) ⊎ (r.target ≡ 3)

later : AllByRecursion Later four.rules
later = ((λ e. absurd (omega arith)), ((λ e. absurd (omega arith)), ((λ e. inl refl), ((λ e. inl refl), ((λ e. inr refl), tt)))))

-- the symbol over a run
abbrev up : Option (At Residue) → Option (At Residue)
up o = step residues four 2 (beside residues o (Some (record { states = []; weight = residues.one })))

up_later : (a : At Residue) → (a.state ≡ 2) ⊎ (a.state ≡ 3) → accepted four (up (Some a)) ≡ None
up_later a (inl e) = rw e
up_later a (inr e) = rw e

up_twice : (o : Option (At Residue)) → accepted four (up (up o)) ≡ None
up_twice None = refl
up_twice (Some a) = at (find four.rules 2 (a.state ∷ [])) refl
  where
    at : (f : Option (Transition Residue)) → find four.rules 2 (a.state ∷ []) ≡ f → accepted four (up (applied residues (residues.times a.weight residues.one) f)) ≡ None
    at None e = refl
    at (Some r) e =
        up_later (record { state = r.target; weight = residues.times (residues.times a.weight residues.one) r.weight })
        (find_all Later four.rules 2 (a.state ∷ []) r later e (find_symbol four.rules 2 (a.state ∷ []) r e))

value_twice : (d : Context) (q : ℕ) → value residues four (above_context 2 (above_context 2 d)) q ≡ None
value_twice d q = up_twice (fill residues four d (starting residues q))

no_sign : (c : Context) → Shape c → value residues four c 3 ≡ None
no_sign _ bare = refl
no_sign _ once = refl
no_sign _ (twice d) = value_twice d 3

-- what 0 gives in a context is twice what 1 gives
twofold : (c : Context) → Shape c → value residues four c 0 ≡ scaled residues (residue 2 tt tt) (value residues four c 1)
twofold _ bare = refl
twofold _ once = ap Some (residue_path _ _ refl)
twofold _ (twice d) = value_twice d 0 ∙ ap (scaled residues (residue 2 tt tt)) (sym (value_twice d 1))

pub zero_one : Equivalent residues four (residue 2 tt tt) 0 1
zero_one c o = twofold c (shape c o)

pub low_live : (q : ℕ) → q < 3 → Live residues four q
low_live zero l = record {
  reachable = record { tree = constant 0; over = (omega arith, refl, tt); weight = _; runs_to = refl };
  sign = record { context = above_context 2 hole; over = (omega arith, refl, tt, tt, tt); weight = _; gives = refl };
}
low_live (suc zero) l = record {
  reachable = record { tree = constant 1; over = (omega arith, refl, tt); weight = _; runs_to = refl };
  sign = record { context = above_context 2 hole; over = (omega arith, refl, tt, tt, tt); weight = _; gives = refl };
}
low_live (suc (suc zero)) l = record {
  reachable = record { tree = above 2 (constant 0); over = four_over 0 (omega arith); weight = _; runs_to = refl };
  sign = record { context = hole; over = tt; weight = _; gives = refl };
}
low_live (suc (suc (suc n))) l = absurd (omega arith)

live_member : (q : ℕ) → Live residues four q → member q ≡ true
live_member zero l = refl
live_member (suc zero) l = refl
live_member (suc (suc zero)) l = refl
live_member (suc (suc (suc zero))) l =
    let g = l.sign.gives in
    let none_given = no_sign l.sign.context (shape l.sign.context l.sign.over) in
    let z : ◌≡◌ {A = ℕ} 0 1 = cc in
    absurd (omega arith)
live_member (suc (suc (suc (suc n)))) l =
    let r = l.reachable in
    let h = state_within residues four four_sound r.tree (record { state = suc (suc (suc (suc n))); weight = r.weight }) r.runs_to in
    absurd (omega arith)

pub member_live : DecidesLive residues four member
member_live q = ((λ e. low_live q (ltb-true q 3 e)), live_member q)
