-- The states that are reached are the reachable ones, in a sound automaton.
use Rattle.liveness.specs.Reaching.{rule_of}
use Rattle.liveness.specs.Listings.{flags_of}
use Rattle.std.proofs.Common.{◌≡◌, ℕ, zero, suc, ◌<◌, Bool, true, false, cond, ◌↔◌, List, [], ◌∷◌, get_or, take, Some, None, refl, ap, ◌∙◌, subst, arith}
use Rattle.std.specs.List.{ContainsAt, AllByRecursion, slice_get}
use Rattle.std.proofs.ByRecursion.{All-weaker, all_has_itself}
use Rattle.kinds.specs.Weights.{Weights}
use Rattle.automata.specs.Trees.{Tree, Row, node, none, ◌▹◌}
use Rattle.automata.specs.Automata.{Transition, Automaton, fits_left, find, Within, Single, Sound}
use Rattle.automata.specs.Runs.{At, Ats, applied, step, run, runs}
use Rattle.automata.specs.Contexts.{Reachable}
use Rattle.automata.proofs.Finds.{fits_symbol, fits_children, fits_itself, find_children, find_all}
use Rattle.automata.proofs.Steps.{beside_some, step_some}
use Rattle.automata.proofs.Rows.{Access, access}
use Rattle.liveness.specs.Listings.{Reach}
use Rattle.liveness.specs.Listings.{Flagged}
use Rattle.liveness.specs.Reaching.{Reached}
use Rattle.liveness.proofs.Listings.{place_before}

-- induction over all smaller numbers
strong_below : (P : ℕ → Type 0) → ((i : ℕ) → ((j : ℕ) → j < i → P j) → P i) → (n i : ℕ) → i < n → P i
strong_below P step zero i h = absurd (omega arith)
strong_below P step (suc n) i h = step i (λ j l. strong_below P step n j (omega arith))

pub strong : (P : ℕ → Type 0) → ((i : ℕ) → ((j : ℕ) → j < i → P j) → P i) → (i : ℕ) → P i
strong P step i = strong_below P step (suc i) i (omega arith)

pub all_nth : {X : Type 0} (P : X → Type 0) (xs : List X) (i : ℕ) (x : X) → AllByRecursion P xs → slice_get xs i ≡ Some x → P x
all_nth P [] i x h e = let z : ◌≡◌ {A = ℕ} 0 1 = cc in absurd (omega arith)
all_nth P (y ∷ xs) zero x h e = let s : y ≡ x = cc in subst P s h.0
all_nth P (y ∷ xs) (suc i) x h e = all_nth P xs i x h.1 e

module _ {W : Type 0} where
  -- a rule is found by its left side
  pub find_itself : (rs : List (Transition W)) (j : ℕ) (r : Transition W) → Single rs → slice_get rs j ≡ Some r → find rs r.symbol r.children ≡ Some r
  find_itself [] j r h e = let z : ◌≡◌ {A = ℕ} 0 1 = cc in absurd (omega arith)
  find_itself (x ∷ rs) zero r h e =
      let s : x ≡ r = cc in
      rw (s, fits_itself r)
  find_itself (x ∷ rs) (suc j) r h e = at (fits_left x r.symbol r.children) refl (find_itself rs j r h.1 e)
    where
      at : (b : Bool) → fits_left x r.symbol r.children ≡ b → find rs r.symbol r.children ≡ Some r → cond b (Some x) (find rs r.symbol r.children) ≡ Some r
      at true f ih =
          let p = fits_symbol x r.symbol r.children f in
          let q = fits_children x r.symbol r.children f in
          let gone : find rs x.symbol x.children ≡ None = h.0 in
          let z : ◌≡◌ {A = ℕ} 0 1 = cc in absurd (omega arith)
      at false f ih = ih

  -- the target of a rule all of whose children are reachable
  pub target_reachable : (K : Weights W) (A : Automaton W) → Sound A → (j : ℕ) (r : Transition W) → slice_get A.rules j ≡ Some r → AllByRecursion (Reachable K A) r.children → Reachable K A r.target
  target_reachable K A sound j r there all =
      let row : Access K A r.children = access K A r.children all in
      let within = all_nth (Within A.ranks A.states) A.rules j r sound.within there in
      record {
        tree = node r.symbol row.row;
        over = (within.symbol_within, row.as_many ∙ within.children_rank, row.over);
        weight = K.times row.weight r.weight;
        runs_to = ap (step K A r.symbol) row.runs_to ∙ ap (applied K row.weight) (find_itself A.rules j r sound.single there);
      }

  module _ (K : Weights W) (A : Automaton W) (sound : Sound A) (R : Reach) (reached : Reached A R) where
    -- along the order of discovery
    place_reachable : (i : ℕ) → i < R.count → Reachable K A (get_or R.order i 0)
    place_reachable = strong (λ i. i < R.count → Reachable K A (get_or R.order i 0)) (λ i before h.
        let d = reached.derived i h in
        let children : AllByRecursion (Reachable K A) d.rule.children =
        All-weaker (ContainsAt (take i R.order)) (Reachable K A) (λ c has.
        let p = place_before i R.order c has in
        subst (Reachable K A) p.3 (before p.0 p.1 (omega (arith, p.1)))) d.rule.children d.children in
        subst (Reachable K A) d.target (target_reachable K A sound (rule_of R (get_or R.order i 0)) d.rule d.there children))

    -- the state of every run is flagged
    mutual
      pub run_flagged : (t : Tree) (a : At W) → run K A t ≡ Some a → Flagged (flags_of R) a.state
      run_flagged (node s ts) a e =
          let d = step_some K A s (runs K A ts) a e in
          let same = find_children A.rules s d.row.states d.rule d.found in
          let has = find_all (ContainsAt A.rules) A.rules s d.row.states d.rule (all_has_itself A.rules) d.found in
          let within = find_all (Within A.ranks A.states) A.rules s d.row.states d.rule sound.within d.found in
          let on : Flagged (flags_of R) d.rule.target = reached.closed d.rule has (rw same (runs_flagged ts d.row d.row_is)) within.target_within in
          rw d.reached on

      pub runs_flagged : (ts : Row) (b : Ats W) → runs K A ts ≡ Some b → AllByRecursion (Flagged (flags_of R)) b.states
      runs_flagged none b e = let i : b ≡ record { states = []; weight = K.one } = cc in rw i tt
      runs_flagged (t ▹ ts) b e =
          let d = beside_some K (run K A t) (runs K A ts) b e in
          rw d.both (run_flagged t d.first d.first_is, runs_flagged ts d.rest d.rest_is)

    pub reaches : (q : ℕ) → Flagged (flags_of R) q ↔ Reachable K A q
    reaches q = (
      (λ f. let p = place_before R.count R.order q ((reached.listed.flagged q).0 f) in subst (Reachable K A) p.3 (place_reachable p.0 p.1)),
      (λ h. run_flagged h.tree (record { state = q; weight = h.weight }) h.runs_to),
    )
