-- Over an alphabet without ranks above one a context is a chain of unary symbols, and two states that every symbol takes to one state are equivalent.
use Rattle.std.proofs.Common.{◌≡◌, ℕ, ◌<◌, ◌≤◌, Bool, true, false, cond, [], ◌∷◌, length, Some, None, Option, sym, refl, ap, ◌∙◌, arith}
use Rattle.kinds.specs.Weights.{Weights}
use Rattle.automata.specs.Trees.{Row, none, ◌▹◌, size, rank}
use Rattle.automata.specs.Automata.{Transition, Automaton, find}
use Rattle.automata.specs.Runs.{At, beside, applied, step, accepted}
use Rattle.automata.specs.Contexts.{Context, hole, under, OverContext, fill, starting, scaled, Equivalent}

empty_row : (ts : Row) → size ts ≡ 0 → ts ≡ none
empty_row none e = refl
empty_row (t ▹ ts) e = absurd (omega arith)

module _ {W : Type 0} (K : Weights W) (A : Automaton W) where
  -- a run whose weight is multiplied by a
  abbrev pub multiplied : W → Option (At W) → Option (At W)
  multiplied a None = None
  multiplied a (Some x) = Some (record { state = x.state; weight = K.times a x.weight })

  -- a unary symbol over a run
  abbrev pub up : ℕ → Option (At W) → Option (At W)
  up s o = step K A s (beside K o (Some (record { states = []; weight = K.one })))

  up_multiplied : (a : W) (s : ℕ) (o : Option (At W)) → up s (multiplied a o) ≡ multiplied a (up s o)
  up_multiplied a s None = refl
  up_multiplied a s (Some x) = at (find A.rules s (x.state ∷ []))
    where
      at : (f : Option (Transition W)) → applied K (K.times (K.times a x.weight) K.one) f ≡ multiplied a (applied K (K.times x.weight K.one) f)
      at None = refl
      at (Some r) =
          let i = K.assoc a x.weight K.one in
          let j = K.assoc a (K.times x.weight K.one) r.weight in
          cc

  accepted_multiplied : (a : W) (o : Option (At W)) → accepted A (multiplied a o) ≡ scaled K a (accepted A o)
  accepted_multiplied a None = refl
  accepted_multiplied a (Some x) = at (A.accepting x.state)
    where
      at : (b : Bool) → cond b (Some (K.times a x.weight)) None ≡ scaled K a (cond b (Some x.weight) None)
      at true = refl
      at false = refl

  module _ (unary : (s : ℕ) → rank A.ranks s ≤ 1) where
    fill_up : (s : ℕ) (before : Row) (c : Context) (after : Row) (o : Option (At W)) → OverContext A.ranks (under s before c after) → fill K A (under s before c after) o ≡ up s (fill K A c o)
    fill_up s before c after o h =
        let n = h.1 in
        let m = unary s in
        rw (empty_row before (omega arith), empty_row after (omega arith))

    module _ (a : W) (p q : ℕ) (first : (s : ℕ) → s < length A.ranks → up s (starting K p) ≡ multiplied a (up s (starting K q))) where
      above : (s : ℕ) (c : Context) → s < length A.ranks → OverContext A.ranks c → up s (fill K A c (starting K p)) ≡ multiplied a (up s (fill K A c (starting K q)))
      above s hole l h = first s l
      above s (under t before c after) l h =
          ap (up s) (fill_up t before c after (starting K p) h ∙ above t c h.0 h.3)
          ∙ up_multiplied a s (up t (fill K A c (starting K q)))
          ∙ ap (λ o. multiplied a (up s o)) (sym (fill_up t before c after (starting K q) h))

      pub chained : A.accepting p ≡ false → A.accepting q ≡ false → Equivalent K A a p q
      chained e f hole h = rw (e, f)
      chained e f (under t before c after) h =
          ap (accepted A) (fill_up t before c after (starting K p) h ∙ above t c h.0 h.3)
          ∙ accepted_multiplied a (up t (fill K A c (starting K q)))
          ∙ ap (λ o. scaled K a (accepted A o)) (sym (fill_up t before c after (starting K q) h))
