-- Merging: the merged automaton is sound and weighs every tree as the automaton without the states dropped.
use Rattle.std.proofs.Common.{◌≡◌, ℕ, zero, suc, ◌<◌, Bool, true, false, cond, ◌&&◌, ◌||◌, eqb, ◌⊎◌, map, Some, None, Option, sym, refl, ap, ◌∙◌, ap₂, inl, inr, arith}
use Rattle.std.specs.List.{AllByRecursion}
use Rattle.std.proofs.lemmas.List.{length-map}
use Rattle.std.proofs.lemmas.Bool.{eqb-true, cases_eq, and_parts, or_left, or_right}
use Rattle.std.proofs.ByRecursion.{All-weaker, All-map, kept_by_passes}
use Rattle.kinds.specs.Weights.{Weights}
use Rattle.automata.specs.Trees.{Tree, Row, node, none, ◌▹◌}
use Rattle.automata.specs.Automata.{Transition, Automaton, find, Within, Sound}
use Rattle.automata.specs.Runs.{At, Ats, beside, applied, step, run, runs, accepted, weight_of}
use Rattle.automata.specs.Pushing.{reweighed, pushed, gained}
use Rattle.automata.specs.Merging.{keeps, dropped, Grouping, relabelled, some_below, merged, Admissible, Merging}
use Rattle.automata.proofs.Finds.{eqb_self}
use Rattle.automata.proofs.Steps.{run_all, runs_all}
use Rattle.automata.proofs.Pushes.{changed, find_reweighed, run_gains, gained_accepted}
use Rattle.automata.proofs.Drops.{kept_target, kept_children, kept_from, kept_whole, all_kept_with}
use Rattle.automata.proofs.Firsts.{single_firsts, all_firsts}
use Rattle.automata.proofs.Swaps.{Members, applied_merged}

-- a run with the class of its state
abbrev pub classed : {W : Type 0} → (ℕ → ℕ) → Option (At W) → Option (At W)
classed c None = None
classed c (Some a) = Some (record { state = c a.state; weight = a.weight })

abbrev pub classed_row : {W : Type 0} → (ℕ → ℕ) → Option (Ats W) → Option (Ats W)
classed_row c None = None
classed_row c (Some b) = Some (record { states = map c b.states; weight = b.weight })

-- the members alone, pushed by their factors
abbrev pub members_pushed : {W : Type 0} → Weights W → Grouping W → Automaton W → Automaton W
members_pushed K G A = pushed K G.factor (dropped G.member A)

-- the test some_below, and a number below n that passes
pub some_below_true : (n : ℕ) (p : ℕ → Bool) (q : ℕ) → q < n → p q ≡ true → some_below n p ≡ true
some_below_true zero p q l e = absurd (omega arith)
some_below_true (suc n) p q l e = at (cases_eq q n) (λ k. some_below_true n p q k e)
  where
    at : (q ≡ n) ⊎ (q ≡ n → ⊥) → (q < n → some_below n p ≡ true) → (p n || some_below n p) ≡ true
    at (inl i) ih = or_left (p n) (some_below n p) (ap p (sym i) ∙ e)
    at (inr i) ih = let k : q < n = omega arith in or_right (p n) (some_below n p) (ih k)

pub below_some : (n : ℕ) (p : ℕ → Bool) → some_below n p ≡ true → (q : ℕ) × (q < n) × (p q ≡ true)
below_some zero p e = let z : ◌≡◌ {A = ℕ} 0 1 = cc in absurd (omega arith)
below_some (suc n) p e = at (p n) refl e (below_some n p)
  where
    at : (b : Bool) → p n ≡ b → (b || some_below n p) ≡ true → (some_below n p ≡ true → (q : ℕ) × (q < n) × (p q ≡ true)) → (q : ℕ) × (q < suc n) × (p q ≡ true)
    at true h k ih = let l : n < suc n = omega arith in (n, l, h)
    at false h k ih =
        let i = ih k in
        let m = i.1 in
        let l : i.0 < suc n = omega arith in
        (i.0, l, i.2)

module _ {W : Type 0} (K : Weights W) (A : Automaton W) (G : Grouping W) (sound : Sound A) (h : Admissible K A G) where
  -- a class accepts as its members do
  pub merged_accepting : (q : ℕ) → G.member q ≡ true → (merged K G A).accepting (G.class q) ≡ A.accepting q
  merged_accepting q m = at (A.accepting q) ((merged K G A).accepting (G.class q)) refl refl
    where
      at : (b c : Bool) → A.accepting q ≡ b → (merged K G A).accepting (G.class q) ≡ c → c ≡ b
      at true true e f = refl
      at true false e f =
          let p : ℕ → Bool = λ x. G.member x && (eqb (G.class x) (G.class q) && A.accepting x) in
          let k : p q ≡ true = rw (m, e, eqb_self) in
          let g = some_below_true A.states p q (h.member_within q m) k in
          sym f ∙ g
      at false true e f =
          let p : ℕ → Bool = λ x. G.member x && (eqb (G.class x) (G.class q) && A.accepting x) in
          let g = below_some A.states p f in
          let x = g.0 in
          let i = and_parts (G.member x) (eqb (G.class x) (G.class q) && A.accepting x) g.2 in
          let j = and_parts (eqb (G.class x) (G.class q)) (A.accepting x) i.1 in
          sym j.1 ∙ h.acceptance x q i.0 m (eqb-true (G.class x) (G.class q) j.0) ∙ e
      at false false e f = refl

  classed_beside : (o : Option (At W)) (p : Option (Ats W)) → beside K (classed G.class o) (classed_row G.class p) ≡ classed_row G.class (beside K o p)
  classed_beside None p = refl
  classed_beside (Some a) None = refl
  classed_beside (Some a) (Some b) = refl

  classed_applied : (w : W) (o : Option (Transition W)) → applied K w (changed (relabelled K G) o) ≡ classed G.class (applied K w (changed (reweighed K G.factor) o))
  classed_applied w None = refl
  classed_applied w (Some r) = refl

  -- a step at the classes of members is the class of the step of the pushed automaton
  step_merged : (s : ℕ) (o : Option (Ats W)) → ((b : Ats W) → o ≡ Some b → Members G b.states) → step K (merged K G A) s (classed_row G.class o) ≡ classed G.class (step K (members_pushed K G A) s o)
  step_merged s None m = refl
  step_merged s (Some b) m =
      let rules = (dropped G.member A).rules in
      applied_merged K A G h sound b.weight s b.states (m b refl)
      ∙ classed_applied b.weight (find rules s b.states)
      ∙ ap (λ o. classed G.class (applied K b.weight o)) (sym (find_reweighed K G.factor rules s b.states))

  kept_targets : AllByRecursion (λ r. G.member r.target ≡ true) (dropped G.member A).rules
  kept_targets = All-weaker (λ r. keeps G.member r ≡ true) (λ r. G.member r.target ≡ true) (kept_target G.member) (dropped G.member A).rules (kept_by_passes (keeps G.member) A.rules)

  pushed_targets : AllByRecursion (λ r. G.member r.target ≡ true) (members_pushed K G A).rules
  pushed_targets = All-map (λ r. G.member r.target ≡ true) (reweighed K G.factor) (dropped G.member A).rules kept_targets

  -- a run of the merged automaton is the class of the run of the pushed automaton
  mutual
    pub run_merged : (t : Tree) → run K (merged K G A) t ≡ classed G.class (run K (members_pushed K G A) t)
    run_merged (node s ts) =
        ap (step K (merged K G A) s) (runs_merged ts)
        ∙ step_merged s (runs K (members_pushed K G A) ts) (runs_all K (members_pushed K G A) (λ q. G.member q ≡ true) pushed_targets ts)

    pub runs_merged : (ts : Row) → runs K (merged K G A) ts ≡ classed_row G.class (runs K (members_pushed K G A) ts)
    runs_merged none = refl
    runs_merged (t ▹ ts) =
        ap₂ (beside K) (run_merged t) (runs_merged ts)
        ∙ classed_beside (run K (members_pushed K G A) t) (runs K (members_pushed K G A) ts)

  merged_accepted : (o : Option (At W)) → ((a : At W) → o ≡ Some a → G.member a.state ≡ true) → accepted (dropped G.member A) o ≡ accepted (merged K G A) (classed G.class (gained K G.factor o))
  merged_accepted None m = refl
  merged_accepted (Some a) m =
      gained_accepted K G.factor (dropped G.member A) (Some a) (λ b e. h.accepting_one b.state (m b e))
      ∙ ap (λ b. cond b (Some (K.times a.weight (G.factor a.state))) None) (sym (merged_accepting a.state (m a refl)))

  pub merged_weight : (t : Tree) → weight_of K (dropped G.member A) t ≡ weight_of K (merged K G A) t
  merged_weight t =
      merged_accepted (run K (dropped G.member A) t) (run_all K (dropped G.member A) (λ q. G.member q ≡ true) kept_targets t)
      ∙ ap (λ o. accepted (merged K G A) (classed G.class o)) (sym (run_gains K G.factor (dropped G.member A) t))
      ∙ ap (accepted (merged K G A)) (sym (run_merged t))

  relabelled_within : (r : Transition W) → Within A.ranks A.states r → keeps G.member r ≡ true → Within A.ranks G.count (relabelled K G r)
  relabelled_within r w e =
      record {
        symbol_within = w.symbol_within;
        children_rank = length-map r.children G.class ∙ w.children_rank;
        children_within = All-map (λ c. c < G.count) G.class r.children (All-weaker (λ q. G.member q ≡ true) (λ q. G.class q < G.count) h.class_within r.children (kept_children G.member r e));
        target_within = h.class_within r.target (kept_target G.member r e);
      }

  pub merged_sound : Sound (merged K G A)
  merged_sound =
      let P = Within {W = W} A.ranks G.count in
      let kept = (dropped G.member A).rules in
      let all : AllByRecursion (λ r. P (relabelled K G r)) kept =
      all_kept_with (keeps G.member) (Within A.ranks A.states) (λ r. P (relabelled K G r)) relabelled_within A.rules sound.within in
      record {
        within = all_firsts P (map (relabelled K G) kept) (All-map P (relabelled K G) kept all);
        single = single_firsts (map (relabelled K G) kept);
      }

  -- if all states are members, no rule is dropped
  nothing_dropped : ((q : ℕ) → q < A.states → G.member q ≡ true) → (dropped G.member A).rules ≡ A.rules
  nothing_dropped m = kept_whole (keeps G.member) A.rules (All-weaker (Within A.ranks A.states) (λ r. keeps G.member r ≡ true) kept A.rules sound.within)
    where
      kept : (r : Transition W) → Within A.ranks A.states r → keeps G.member r ≡ true
      kept r w =
          kept_from G.member r (m r.target w.target_within) (All-weaker (λ q. q < A.states) (λ q. G.member q ≡ true) m r.children w.children_within)

  whole_weight : ((q : ℕ) → q < A.states → G.member q ≡ true) → (t : Tree) → weight_of K A t ≡ weight_of K (dropped G.member A) t
  whole_weight m t = ap (λ rs. weight_of K (record { ranks = A.ranks; states = A.states; accepting = A.accepting; rules = rs }) t) (sym (nothing_dropped m))

  pub merging : Merging K A G
  merging = record {
    sound = merged_sound;
    alike_dropped = record { alphabet = refl; weights = λ t o. merged_weight t };
    alike_whole = λ m. record { alphabet = refl; weights = λ t o. whole_weight m t ∙ merged_weight t };
  }
