-- The accepting states are chosen first, and in the end all live states are.
use Rattle.std.proofs.Common.{◌≡◌, ℕ, ◌+◌, Bool, true, false, cond, ◌∷◌, ◌++◌, Some, None, sym, refl, ap, ◌∙◌, subst, ⊎_elim, arith}
use Rattle.std.specs.List.{ContainsAt, AllByRecursion}
use Rattle.std.proofs.ByRecursion.{all_has_itself}
use Rattle.std.proofs.lemmas.Bool.{both_ways, cases_Bool, cases_eq, cases_lt}
use Rattle.kinds.specs.Weights.{Weights}
use Rattle.automata.specs.Automata.{Transition, Automaton, find}
use Rattle.automata.specs.Runs.{At}
use Rattle.automata.specs.Contexts.{hole, Live}
use Rattle.automata.specs.Marking.{Chosen}
use Rattle.automata.specs.Merging.{keeps}
use Rattle.automata.proofs.Finds.{find_children, find_all}
use Rattle.automata.proofs.Groups.{unit_right}
use Rattle.automata.proofs.Marks.{accept_alike, live_keeps}
use Rattle.automata.proofs.Rows.{all_after}
use Rattle.automata.proofs.Simulations.{Kept, Gives, value_simulated}
use Rattle.reduction.specs.Choosing.{Ready, Choosing, Given, Accepting}
use Rattle.reduction.proofs.Classmates.{live_within}

-- one accepting state more
module _ {W : Type 0} (K : Weights W) (accepting live : ℕ → Bool) where
  pub accepting_none : (chosen : ℕ → Bool) (f : ℕ → W) → ((q : ℕ) → chosen q ≡ false) → Accepting K accepting live 0 chosen f
  accepting_none chosen f off = record { only = λ q h. absurd (both_ways (chosen q) (off q) h); all = λ q h. absurd (omega arith) }

  module _ (n : ℕ) (chosen : ℕ → Bool) (f : ℕ → W) (g : Accepting K accepting live n chosen f) where
    pub accepting_past : (live n ≡ true → accepting n ≡ true → ⊥) → Accepting K accepting live (n + 1) chosen f
    accepting_past past = record {
      only = λ q h. let x = g.only q h in (omega (arith, x.0), x.1, x.2, x.3);
      all = λ q h l a. ⊎_elim (λ k. g.all q k l a) (λ k. let e : q ≡ n = omega arith in absurd (past (ap live (sym e) ∙ l) (ap accepting (sym e) ∙ a))) (cases_lt q n);
    }

    pub accepting_more : live n ≡ true → accepting n ≡ true → (chosen' : ℕ → Bool) (f' : ℕ → W) (w : W) → w ≡ K.one → (chosen n ≡ false → Given n w chosen f chosen' f') → Accepting K accepting live (n + 1) chosen' f'
    accepting_more l a chosen' f' w one give =
        let off : chosen n ≡ false = ⊎_elim (λ k. absurd (omega (arith, (g.only n k).0))) (λ k. k) (cases_Bool (chosen n)) in
        let d : Given n w chosen f chosen' f' = give off in
        record {
          only = λ q h.
              ⊎_elim (λ e. (omega arith, ap live e ∙ l, ap accepting e ∙ a, ap f' e ∙ d.factor ∙ one))
              (λ e. let x = g.only q (sym (d.other_flags q e) ∙ h) in (omega (arith, x.0), x.1, x.2, d.other_factors q e ∙ x.3)) (cases_eq q n);
          all = λ q h m b.
              ⊎_elim (λ e. ap chosen' e ∙ d.flagged) (λ e. d.other_flags q e ∙ g.all q (omega arith) m b) (cases_eq q n);
        }

module _ {W : Type 0} (K : Weights W) (A : Automaton W) (live : ℕ → Bool) (marks : ℕ → ℕ → Bool) (places : ℕ) (ready : Ready K A live marks places) (chosen : ℕ → Bool) (f : ℕ → W) where
  -- the hole is the context of the accepting states
  pub accepting_chosen : Accepting K A.accepting live A.states chosen f → Choosing K A live marks chosen f
  accepting_chosen g = record {
    living = λ q h. (g.only q h).1;
    accepting = λ q l a. let c = g.all q (live_within K A live marks places ready q l) l a in (c, (g.only q c).3);
    closed = λ p q c l e.
        let x = g.only p c in
        g.all q (live_within K A live marks places ready q l) l (sym (accept_alike K A live ready.decides marks ready.told.at_rest p q (record { this_live = x.1; other_live = l; unmarked = e })) ∙ x.2);
    common = λ p q c d e. (hole, K.one, tt, gives p (g.only p c).2 (g.only p c).3, gives q (g.only q d).2 (g.only q d).3);
  }
    where
      gives : (q : ℕ) → A.accepting q ≡ true → f q ≡ K.one → cond (A.accepting q) (Some K.one) None ≡ Some (K.times K.one (f q))
      gives q a e = ap (λ b. cond b (Some K.one) None) a ∙ ap Some (sym (unit_right K K.one) ∙ ap (K.times K.one) (sym e))

  -- if every rule leads back then a sign of life leads back to its state
  module _ (g : Choosing K A live marks chosen f) (back : (x : Transition W) → ContainsAt A.rules x → keeps live x ≡ true → chosen x.target ≡ true → AllByRecursion (λ q. chosen q ≡ true) x.children) where
    -- a run in a live state that is not chosen, and itself
    abbrev Astray : At W → At W → Type 0
    Astray x y = (chosen x.state ≡ false) × (live x.state ≡ true) × (x ≡ y)

    astray : Kept K A Astray
    astray s b d x y r h there children target =
        let keep : keeps live r ≡ true = live_keeps K A live ready.decides r children target in
        let has : ContainsAt A.rules r = find_all (ContainsAt A.rules) A.rules s (b.states ++ x.state ∷ d.states) r (all_has_itself A.rules) there in
        let same = find_children A.rules s (b.states ++ x.state ∷ d.states) r there in
        let off : chosen r.target ≡ false =
        ⊎_elim (λ on. absurd (both_ways (chosen x.state) h.0 (all_after (λ q. chosen q ≡ true) b.states (x.state ∷ d.states) (subst (AllByRecursion (λ q. chosen q ≡ true)) same (back r has keep on))).0)) (λ e. e) (cases_Bool (chosen r.target)) in (
          r,
          subst (λ z. find A.rules s (b.states ++ z.state ∷ d.states) ≡ Some r) h.2 there,
          (off, (ready.decides r.target).1 target, ap (λ z. record { state = r.target; weight = K.times (K.times b.weight (K.times z.weight d.weight)) r.weight }) h.2),
        )

    pub all_chosen : (q : ℕ) → live q ≡ true → chosen q ≡ true
    all_chosen q l = ⊎_elim (λ on. on) (λ off. absurd (lost off)) (cases_Bool (chosen q))
      where
        lost : chosen q ≡ false → ⊥
        lost off =
            let h : Live K A q = (ready.decides q).0 l in
            let w : Gives K A Astray h.sign.weight _ =
            value_simulated K A Astray astray (λ x y e. ap (λ z. A.accepting z.state) e.2) h.sign.context q q h.sign.weight h.sign.over h.reachable (off, l, refl) h.sign.gives in
            both_ways (chosen w.this.state) w.related.0 (g.accepting w.this.state w.related.1 w.accepts).0

    pub chosen_all : Chosen K A live marks f × ((q : ℕ) → live q ≡ true → A.accepting q ≡ true → f q ≡ K.one)
    chosen_all = ((λ p q l m e. g.common p q (all_chosen p l) (all_chosen q m) e), (λ q l a. (g.accepting q l a).1))
