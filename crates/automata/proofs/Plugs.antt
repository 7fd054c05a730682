-- Plugging a tree into a context, contexts in contexts, and that a run scales with what stands in the hole.
use Rattle.std.proofs.Common.{◌≡◌, ℕ, Bool, true, false, cond, List, ◌∷◌, Some, None, Option, sym, refl, ap, ◌∙◌}
use Rattle.kinds.specs.Weights.{Weights}
use Rattle.automata.specs.Trees.{Tree, Row, none, ◌▹◌, joined}
use Rattle.automata.specs.Automata.{Transition, Automaton, find}
use Rattle.automata.specs.Runs.{At, Ats, beside, applied, step, run, runs, accepted, weight_of}
use Rattle.automata.specs.Contexts.{Context, hole, under, OverContext, plug, ahead, fill, starting, value, scaled}
use Rattle.automata.specs.Pushing.{given, Plugging}
use Rattle.automata.proofs.Groups.{unit_right, left_comm}

-- a weight times a run
abbrev pub scaled_at : {W : Type 0} → Weights W → W → Option (At W) → Option (At W)
scaled_at K w None = None
scaled_at K w (Some a) = Some (record { state = a.state; weight = K.times w a.weight })

abbrev pub scaled_ats : {W : Type 0} → Weights W → W → Option (Ats W) → Option (Ats W)
scaled_ats K w None = None
scaled_ats K w (Some b) = Some (record { states = b.states; weight = K.times w b.weight })

-- the context d in the hole of c
abbrev pub nested : Context → Context → Context
nested hole d = d
nested (under s before c after) d = under s before (nested c d) after

pub over_nested : (ranks : List ℕ) (c d : Context) → OverContext ranks c → OverContext ranks d → OverContext ranks (nested c d)
over_nested ranks hole d h k = k
over_nested ranks (under s before c after) d h k = (h.0, h.1, h.2, over_nested ranks c d h.3 k, h.4)

module _ {W : Type 0} (K : Weights W) (A : Automaton W) where
  pub runs_joined : (before after : Row) → runs K A (joined before after) ≡ ahead K A before (runs K A after)
  runs_joined none after = refl
  runs_joined (t ▹ ts) after = ap (beside K (run K A t)) (runs_joined ts after)

  pub run_plug : (c : Context) (t : Tree) → run K A (plug c t) ≡ fill K A c (run K A t)
  run_plug hole t = refl
  run_plug (under s before c after) t =
      ap (step K A s) (runs_joined before (plug c t ▹ after) ∙ ap (λ o. ahead K A before (beside K o (runs K A after))) (run_plug c t))

  pub fill_nested : (c d : Context) (o : Option (At W)) → fill K A (nested c d) o ≡ fill K A c (fill K A d o)
  fill_nested hole d o = refl
  fill_nested (under s before c after) d o = ap (λ x. step K A s (ahead K A before (beside K x (runs K A after)))) (fill_nested c d o)

  scaled_beside : (w : W) (o : Option (At W)) (b : Option (Ats W)) → beside K (scaled_at K w o) b ≡ scaled_ats K w (beside K o b)
  scaled_beside w None b = refl
  scaled_beside w (Some a) None = refl
  scaled_beside w (Some a) (Some b) =
      ap (λ x. Some (record { states = a.state ∷ b.states; weight = x })) (K.assoc w a.weight b.weight)

  beside_scaled : (w : W) (o : Option (At W)) (b : Option (Ats W)) → beside K o (scaled_ats K w b) ≡ scaled_ats K w (beside K o b)
  beside_scaled w None b = refl
  beside_scaled w (Some a) None = refl
  beside_scaled w (Some a) (Some b) =
      ap (λ x. Some (record { states = a.state ∷ b.states; weight = x })) (left_comm K a.weight w b.weight)

  ahead_scaled : (w : W) (ts : Row) (o : Option (Ats W)) → ahead K A ts (scaled_ats K w o) ≡ scaled_ats K w (ahead K A ts o)
  ahead_scaled w none o = refl
  ahead_scaled w (t ▹ ts) o = ap (beside K (run K A t)) (ahead_scaled w ts o) ∙ beside_scaled w (run K A t) (ahead K A ts o)

  applied_scaled : (w v : W) (o : Option (Transition W)) → applied K (K.times w v) o ≡ scaled_at K w (applied K v o)
  applied_scaled w v None = refl
  applied_scaled w v (Some r) = ap (λ x. Some (record { state = r.target; weight = x })) (K.assoc w v r.weight)

  step_scaled : (w : W) (s : ℕ) (o : Option (Ats W)) → step K A s (scaled_ats K w o) ≡ scaled_at K w (step K A s o)
  step_scaled w s None = refl
  step_scaled w s (Some b) = applied_scaled w b.weight (find A.rules s b.states)

  -- a run scales with the run in the hole
  pub fill_scaled : (w : W) (c : Context) (o : Option (At W)) → fill K A c (scaled_at K w o) ≡ scaled_at K w (fill K A c o)
  fill_scaled w hole o = refl
  fill_scaled w (under s before c after) o =
      ap (λ x. step K A s (ahead K A before (beside K x (runs K A after)))) (fill_scaled w c o)
      ∙ ap (λ x. step K A s (ahead K A before x)) (scaled_beside w (fill K A c o) (runs K A after))
      ∙ ap (step K A s) (ahead_scaled w before (beside K (fill K A c o) (runs K A after)))
      ∙ step_scaled w s (ahead K A before (beside K (fill K A c o) (runs K A after)))

  pub fill_none : (c : Context) → fill K A c None ≡ None
  fill_none hole = refl
  fill_none (under s before c after) =
      ap (λ x. step K A s (ahead K A before (beside K x (runs K A after)))) (fill_none c) ∙ ap (step K A s) (ahead_none before)
    where
      ahead_none : (ts : Row) → ahead K A ts None ≡ None
      ahead_none none = refl
      ahead_none (t ▹ ts) = ap (beside K (run K A t)) (ahead_none ts) ∙ beside_none (run K A t)
        where
          beside_none : (o : Option (At W)) → beside K o None ≡ None
          beside_none None = refl
          beside_none (Some a) = refl

  -- a run is its state at weight one, scaled
  pub from_start : (a : At W) → Some a ≡ scaled_at K a.weight (starting K a.state)
  from_start a = ap (λ x. Some (record { state = a.state; weight = x })) (sym (unit_right K a.weight))

  pub accepted_scaled : (w : W) (o : Option (At W)) → accepted A (scaled_at K w o) ≡ scaled K w (accepted A o)
  accepted_scaled w None = refl
  accepted_scaled w (Some a) = at (A.accepting a.state)
    where
      at : (b : Bool) → cond b (Some (K.times w a.weight)) None ≡ scaled K w (cond b (Some a.weight) None)
      at true = refl
      at false = refl

  -- what a context gives for a run in its hole
  pub accepted_fill : (c : Context) (a : At W) → accepted A (fill K A c (Some a)) ≡ scaled K a.weight (value K A c a.state)
  accepted_fill c a =
      ap (λ o. accepted A (fill K A c o)) (from_start a)
      ∙ ap (accepted A) (fill_scaled a.weight c (starting K a.state))
      ∙ accepted_scaled a.weight (fill K A c (starting K a.state))

  given_is : (c : Context) (o : Option (At W)) → accepted A (fill K A c o) ≡ given K A c o
  given_is c None = ap (accepted A) (fill_none c)
  given_is c (Some a) = accepted_fill c a

  pub weight_plug : (c : Context) (t : Tree) → weight_of K A (plug c t) ≡ given K A c (run K A t)
  weight_plug c t = ap (accepted A) (run_plug c t) ∙ given_is c (run K A t)

  -- what a nested context gives for a run in its hole
  pub value_nested : (c d : Context) (q : ℕ) → value K A (nested c d) q ≡ given K A c (fill K A d (starting K q))
  value_nested c d q = ap (accepted A) (fill_nested c d (starting K q)) ∙ given_is c (fill K A d (starting K q))

pub plugging : {W : Type 0} (K : Weights W) → Plugging K
plugging K A c t = weight_plug K A c t
