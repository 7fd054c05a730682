-- Dropping states: what is looked up after a filter of the rules, and that a run without the dropped states is a run with them.
use Rattle.std.proofs.Common.{◌≡◌, ℕ, Bool, true, false, cond, List, [], ◌∷◌, Some, None, filter, Option, sym, refl, ap, ◌∙◌, ap₂, arith}
use Rattle.std.specs.List.{AllByRecursion}
use Rattle.std.proofs.lemmas.Bool.{and_parts, and_from}
use Rattle.kinds.specs.Weights.{Weights}
use Rattle.automata.specs.Trees.{Tree, Row, node, none, ◌▹◌}
use Rattle.automata.specs.Automata.{Transition, Automaton, fits_left, find, Single}
use Rattle.automata.specs.Runs.{At, Ats, beside, applied, step, run, runs}
use Rattle.automata.specs.Merging.{all_in, keeps, dropped}
use Rattle.automata.proofs.Finds.{fits_symbol, fits_children}
use Rattle.automata.proofs.Steps.{beside_some, step_some}

-- a rule if it passes
abbrev pub passing : {W : Type 0} → (Transition W → Bool) → Option (Transition W) → Option (Transition W)
passing p None = None
passing p (Some r) = cond (p r) (Some r) None

-- membership of all states, as a test and as a statement
pub all_in_all : (keep : ℕ → Bool) (qs : List ℕ) → all_in keep qs ≡ true → AllByRecursion (λ q. keep q ≡ true) qs
all_in_all keep [] e = tt
all_in_all keep (q ∷ qs) e = let h = and_parts (keep q) (all_in keep qs) e in (h.0, all_in_all keep qs h.1)

pub all_all_in : (keep : ℕ → Bool) (qs : List ℕ) → AllByRecursion (λ q. keep q ≡ true) qs → all_in keep qs ≡ true
all_all_in keep [] h = refl
all_all_in keep (q ∷ qs) h = and_from (keep q) (all_in keep qs) h.0 (all_all_in keep qs h.1)

module _ {W : Type 0} where
  -- the states of a rule that is kept
  pub kept_target : (keep : ℕ → Bool) (r : Transition W) → keeps keep r ≡ true → keep r.target ≡ true
  kept_target keep r e = (and_parts (keep r.target) (all_in keep r.children) e).0

  pub kept_children : (keep : ℕ → Bool) (r : Transition W) → keeps keep r ≡ true → AllByRecursion (λ q. keep q ≡ true) r.children
  kept_children keep r e = all_in_all keep r.children (and_parts (keep r.target) (all_in keep r.children) e).1

  pub kept_from : (keep : ℕ → Bool) (r : Transition W) → keep r.target ≡ true → AllByRecursion (λ q. keep q ≡ true) r.children → keeps keep r ≡ true
  kept_from keep r t h = and_from (keep r.target) (all_in keep r.children) t (all_all_in keep r.children h)

  -- with one rule for each left side, a filter of the rules is a filter of what is found
  pub find_kept : (p : Transition W → Bool) (rs : List (Transition W)) (s : ℕ) (qs : List ℕ) → Single rs → find (filter p rs) s qs ≡ passing p (find rs s qs)
  find_kept p [] s qs h = refl
  find_kept p (x ∷ rs) s qs h = at (fits_left x s qs) (p x) refl refl (find_kept p rs s qs h.1)
    where
      at : (b c : Bool) → fits_left x s qs ≡ b → p x ≡ c → find (filter p rs) s qs ≡ passing p (find rs s qs) → find (cond c (x ∷ filter p rs) (filter p rs)) s qs ≡ passing p (cond b (Some x) (find rs s qs))
      at true true f k ih = rw (f, k)
      at true false f k ih =
          let i = fits_symbol x s qs f in
          let j = fits_children x s qs f in
          let gone : find rs s qs ≡ None = ap₂ (find rs) (sym i) (sym j) ∙ h.0 in
          rw k (ih ∙ ap (passing p) gone)
      at false true f k ih = rw f ih
      at false false f k ih = ih

  pub passing_some : (p : Transition W → Bool) (o : Option (Transition W)) (r : Transition W) → passing p o ≡ Some r → (o ≡ Some r) × (p r ≡ true)
  passing_some p None r e = let z : ◌≡◌ {A = ℕ} 0 1 = cc in absurd (omega arith)
  passing_some p (Some x) r e = at (p x) refl e
    where
      at : (b : Bool) → p x ≡ b → cond b (Some x) None ≡ Some r → (Some x ≡ Some r) × (p r ≡ true)
      at true h k = let i : x ≡ r = cc in (k, ap p (sym i) ∙ h)
      at false h k = let z : ◌≡◌ {A = ℕ} 0 1 = cc in absurd (omega arith)

  -- what is found among the rules that pass, and what passes among those found
  pub kept_find : (p : Transition W → Bool) (rs : List (Transition W)) (s : ℕ) (qs : List ℕ) (r : Transition W) → Single rs → find (filter p rs) s qs ≡ Some r → (find rs s qs ≡ Some r) × (p r ≡ true)
  kept_find p rs s qs r h e = passing_some p (find rs s qs) r (sym (find_kept p rs s qs h) ∙ e)

  pub find_passes : (p : Transition W → Bool) (rs : List (Transition W)) (s : ℕ) (qs : List ℕ) (r : Transition W) → Single rs → find rs s qs ≡ Some r → p r ≡ true → find (filter p rs) s qs ≡ Some r
  find_passes p rs s qs r h e k = find_kept p rs s qs h ∙ ap (passing p) e ∙ rw k

  -- a filter that all rules pass
  pub kept_whole : (p : Transition W → Bool) (rs : List (Transition W)) → AllByRecursion (λ r. p r ≡ true) rs → filter p rs ≡ rs
  kept_whole p [] h = refl
  kept_whole p (r ∷ rs) h = let ih = kept_whole p rs h.1 in rw h.0 (ap (λ x. r ∷ x) ih)

  -- what follows from a property of the rules and the test, the kept rules have
  pub all_kept_with : (p : Transition W → Bool) (P Q : Transition W → Type 0) → ((r : Transition W) → P r → p r ≡ true → Q r) → (rs : List (Transition W)) → AllByRecursion P rs → AllByRecursion Q (filter p rs)
  all_kept_with p P Q f [] h = tt
  all_kept_with p P Q f (r ∷ rs) h = at (p r) refl (all_kept_with p P Q f rs h.1)
    where
      at : (b : Bool) → p r ≡ b → AllByRecursion Q (filter p rs) → AllByRecursion Q (cond b (r ∷ filter p rs) (filter p rs))
      at true e ih = (f r h.0 e, ih)
      at false e ih = ih

  module _ (K : Weights W) (A : Automaton W) (keep : ℕ → Bool) (single : Single A.rules) where
    -- a run without the dropped states is a run with them
    mutual
      pub run_dropped : (t : Tree) (a : At W) → run K (dropped keep A) t ≡ Some a → run K A t ≡ Some a
      run_dropped (node s ts) a e =
          let d = step_some K (dropped keep A) s (runs K (dropped keep A) ts) a e in
          let k = kept_find (keeps keep) A.rules s d.row.states d.rule single d.found in
          ap (step K A s) (runs_dropped ts d.row d.row_is) ∙ ap (applied K d.row.weight) k.0 ∙ ap (λ x. Some x) (sym d.reached)

      pub runs_dropped : (ts : Row) (b : Ats W) → runs K (dropped keep A) ts ≡ Some b → runs K A ts ≡ Some b
      runs_dropped none b e = e
      runs_dropped (t ▹ ts) b e =
          let d = beside_some K (run K (dropped keep A) t) (runs K (dropped keep A) ts) b e in
          ap₂ (beside K) (run_dropped t d.first d.first_is) (runs_dropped ts d.rest d.rest_is) ∙ ap (λ x. Some x) (sym d.both)
