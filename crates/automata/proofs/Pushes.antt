-- Pushing: a run to q gains q's factor, and no tree's weight moves if the factors of accepting states are one.
use Rattle.std.proofs.Common.{◌≡◌, ℕ, Bool, true, false, cond, List, [], ◌∷◌, map, Some, None, Option, sym, refl, ap, ◌∙◌, ap₂}
use Rattle.kinds.specs.Weights.{Weights}
use Rattle.automata.specs.Trees.{Tree, Row, node, none, ◌▹◌}
use Rattle.automata.specs.Automata.{Transition, Automaton, fits_left, find}
use Rattle.automata.specs.Runs.{At, Ats, beside, applied, step, run, runs, accepted, Alike}
use Rattle.automata.specs.Pushing.{undone, reweighed, pushed, gained, Pushing}
use Rattle.automata.proofs.Groups.{unit_right, exchange}
use Rattle.automata.proofs.Finds.{find_children}

-- the product of the factors of states
abbrev pub earned : {W : Type 0} → Weights W → (ℕ → W) → List ℕ → W
earned K f [] = K.one
earned K f (q ∷ qs) = K.times (f q) (earned K f qs)

-- the runs of a row times the factors of their states
abbrev pub gained_row : {W : Type 0} → Weights W → (ℕ → W) → Option (Ats W) → Option (Ats W)
gained_row K f None = None
gained_row K f (Some b) = Some (record { states = b.states; weight = K.times b.weight (earned K f b.states) })

-- a rule that was found, changed
abbrev pub changed : {W : Type 0} → (Transition W → Transition W) → Option (Transition W) → Option (Transition W)
changed g None = None
changed g (Some r) = Some (g r)

module _ {W : Type 0} (K : Weights W) (f : ℕ → W) where
  pub earned_undone : (qs : List ℕ) → K.times (earned K f qs) (undone K f qs) ≡ K.one
  earned_undone [] = K.unit K.one
  earned_undone (q ∷ qs) =
      exchange K (f q) (earned K f qs) (K.inverse (f q)) (undone K f qs)
      ∙ ap₂ K.times (K.cancel (f q)) (earned_undone qs)
      ∙ K.unit K.one

  -- the factors of the children cancel in a step
  pub reweighed_step : (w : W) (r : Transition W) → K.times (K.times w (earned K f r.children)) (reweighed K f r).weight ≡ K.times (K.times w r.weight) (f r.target)
  reweighed_step w r =
      let e = earned K f r.children in
      let u = undone K f r.children in
      let v = r.weight in
      let t = f r.target in
      exchange K w e (K.times v t) u
      ∙ ap (K.times (K.times w (K.times v t))) (earned_undone r.children)
      ∙ unit_right K (K.times w (K.times v t))
      ∙ sym (K.assoc w v t)

  pub find_reweighed : (rs : List (Transition W)) (s : ℕ) (qs : List ℕ) → find (map (reweighed K f) rs) s qs ≡ changed (reweighed K f) (find rs s qs)
  find_reweighed [] s qs = refl
  find_reweighed (r ∷ rs) s qs = at (fits_left r s qs) (find_reweighed rs s qs)
    where
      at : (b : Bool) → find (map (reweighed K f) rs) s qs ≡ changed (reweighed K f) (find rs s qs) → cond b (Some (reweighed K f r)) (find (map (reweighed K f) rs) s qs) ≡ changed (reweighed K f) (cond b (Some r) (find rs s qs))
      at true ih = refl
      at false ih = ih

  gained_beside : (o : Option (At W)) (p : Option (Ats W)) → beside K (gained K f o) (gained_row K f p) ≡ gained_row K f (beside K o p)
  gained_beside None p = refl
  gained_beside (Some a) None = refl
  gained_beside (Some a) (Some b) =
      ap (λ x. Some (record { states = a.state ∷ b.states; weight = x })) (exchange K a.weight (f a.state) b.weight (earned K f b.states))

  module _ (A : Automaton W) where
    gained_step : (s : ℕ) (o : Option (Ats W)) → step K (pushed K f A) s (gained_row K f o) ≡ gained K f (step K A s o)
    gained_step s None = refl
    gained_step s (Some b) = ap (applied K (K.times b.weight (earned K f b.states))) (find_reweighed A.rules s b.states) ∙ at (find A.rules s b.states) refl
      where
        at : (o : Option (Transition W)) → find A.rules s b.states ≡ o → applied K (K.times b.weight (earned K f b.states)) (changed (reweighed K f) o) ≡ gained K f (applied K b.weight o)
        at None e = refl
        at (Some r) e =
            let c = find_children A.rules s b.states r e in
            ap (λ x. Some (record { state = r.target; weight = x })) (ap (λ x. K.times (K.times b.weight (earned K f x)) (reweighed K f r).weight) (sym c) ∙ reweighed_step b.weight r)

    mutual
      pub run_gains : (t : Tree) → run K (pushed K f A) t ≡ gained K f (run K A t)
      run_gains (node s ts) = ap (step K (pushed K f A) s) (runs_gain ts) ∙ gained_step s (runs K A ts)

      pub runs_gain : (ts : Row) → runs K (pushed K f A) ts ≡ gained_row K f (runs K A ts)
      runs_gain none = ap (λ x. Some (record { states = []; weight = x })) (sym (K.unit K.one))
      runs_gain (t ▹ ts) = ap₂ (beside K) (run_gains t) (runs_gain ts) ∙ gained_beside (run K A t) (runs K A ts)

    -- a run weighs the same after the push if its state, where it accepts, has the factor one
    pub gained_accepted : (o : Option (At W)) → ((a : At W) → o ≡ Some a → A.accepting a.state ≡ true → f a.state ≡ K.one) → accepted A o ≡ accepted (pushed K f A) (gained K f o)
    gained_accepted None one = refl
    gained_accepted (Some a) one = at (A.accepting a.state) (one a refl)
      where
        at : (b : Bool) → (b ≡ true → f a.state ≡ K.one) → cond b (Some a.weight) None ≡ cond b (Some (K.times a.weight (f a.state))) None
        at true h = ap (λ x. Some x) (sym (ap (K.times a.weight) (h refl) ∙ unit_right K a.weight))
        at false h = refl

    pub pushing_alike : ((q : ℕ) → A.accepting q ≡ true → f q ≡ K.one) → Alike K A (pushed K f A)
    pushing_alike one = record {
      alphabet = refl;
      weights = λ t o. gained_accepted (run K A t) (λ a e. one a.state) ∙ ap (accepted (pushed K f A)) (sym (run_gains t));
    }

pub pushing : {W : Type 0} (K : Weights W) (A : Automaton W) (f : ℕ → W) → Pushing K A f
pushing K A f = record { run_gains = run_gains K f A; alike = pushing_alike K f A }
