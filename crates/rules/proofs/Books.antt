-- Books after the calls: which book it is, and that it stays sound.
use Rattle.std.proofs.Common.{◌≡◌, ℕ, Bool, true, false, cond, List, [], ◌∷◌, ◌++◌, map, Some, None, refl, ap, ◌∙◌, ap₂, ⊎_elim, arith}
use Rattle.std.proofs.ByRecursion.{All-push, All-map, All-weaker}
use Rattle.std.proofs.lemmas.Bool.{both_ways, cases_Bool}
use Rattle.kinds.specs.Weights.{Weights}
use Rattle.automata.specs.Automata.{Transition, Automaton, fits_left, find, Within, Single, Sound}
use Rattle.automata.specs.Pushing.{reweighed, pushed}
use Rattle.automata.proofs.Finds.{fits_symbol, fits_children, fits_itself}
use Rattle.automata.proofs.Pushes.{changed, find_reweighed}
use Rattle.rules.specs.Books.{Book, opened, Opens, accepted, Accepts, added}
use Rattle.rules.proofs.Adds.{Fine}

module _ {W : Type 0} where
  pub opens_is : (ranks : List ℕ) (states places : ℕ) (b : Book W) → Opens ranks states places b → b ≡ opened ranks states places
  opens_is ranks states places b o =
      λ i. record { places = o.same_places i; content = record { ranks = o.same_ranks i; states = o.same_states i; accepting = λ q. o.no_accepting q i; rules = o.no_rules i } }

  pub accepts_is : (q : ℕ) (b b' : Book W) → Accepts q b b' → b' ≡ accepted b q
  accepts_is q b b' a =
      λ i. record { places = a.same_places i; content = record { ranks = a.same_ranks i; states = a.same_states i; accepting = λ p. a.marks p i; rules = a.same_rules i } }

  pub sound_opened : (ranks : List ℕ) (states places : ℕ) → Sound (opened {W = W} ranks states places).content
  sound_opened ranks states places = record { within = tt; single = tt }

  pub sound_accepted : (b : Book W) (q : ℕ) → Sound b.content → Sound (accepted b q).content
  sound_accepted b q s = record { within = s.within; single = s.single }

  -- the first rule does not fit, and nothing after it does
  find_none : (x : Transition W) (rs : List (Transition W)) (s : ℕ) (qs : List ℕ) → find (x ∷ rs) s qs ≡ None → (fits_left x s qs ≡ false) × (find rs s qs ≡ None)
  find_none x rs s qs e = at (fits_left x s qs) refl e
    where
      at : (b : Bool) → fits_left x s qs ≡ b → cond b (Some x) (find rs s qs) ≡ None → (fits_left x s qs ≡ false) × (find rs s qs ≡ None)
      at true f k = let z : ◌≡◌ {A = ℕ} 0 1 = cc in absurd (omega arith)
      at false f k = (f, k)

  unfit : (x r : Transition W) → fits_left x r.symbol r.children ≡ false → fits_left r x.symbol x.children ≡ false
  unfit x r f = ⊎_elim
      (λ t. let e : fits_left x r.symbol r.children ≡ true =
      ap₂ (fits_left x) (fits_symbol r x.symbol x.children t) (fits_children r x.symbol x.children t) ∙ fits_itself x in
      absurd (both_ways (fits_left x r.symbol r.children) f e))
      (λ g. g) (cases_Bool (fits_left r x.symbol x.children))

  find_push : (rs : List (Transition W)) (r : Transition W) (s : ℕ) (qs : List ℕ) → find rs s qs ≡ None → fits_left r s qs ≡ false → find (rs ++ r ∷ []) s qs ≡ None
  find_push [] r s qs e f = ap (λ b. cond b (Some r) None) f
  find_push (x ∷ rs) r s qs e f =
      let n = find_none x rs s qs e in
      ap (λ b. cond b (Some x) (find (rs ++ r ∷ []) s qs)) n.0 ∙ find_push rs r s qs n.1 f

  -- one rule more, whose left side is new
  pub single_push : (rs : List (Transition W)) (r : Transition W) → Single rs → find rs r.symbol r.children ≡ None → Single (rs ++ r ∷ [])
  single_push [] r s e = (refl, tt)
  single_push (x ∷ rs) r s e =
      let n = find_none x rs r.symbol r.children e in
      (find_push rs r x.symbol x.children s.0 (unfit x r n.0), single_push rs r s.1 n.1)

  pub sound_added : (b : Book W) (s : ℕ) (qs : List ℕ) (t : ℕ) (w : W) → Fine b s qs t → Sound b.content → Sound (added b (record { symbol = s; children = qs; target = t; weight = w })).content
  sound_added b s qs t w f sound =
      let r : Transition W = record { symbol = s; children = qs; target = t; weight = w } in
      let here : Within b.content.ranks b.content.states r = record { symbol_within = f.symbol_within; children_rank = f.rank_is; children_within = f.children_within; target_within = f.target_within } in
      record {
        within = All-push (Within b.content.ranks b.content.states) b.content.rules r sound.within here;
        single = single_push b.content.rules r sound.single f.free;
      }

-- a push keeps an automaton sound
pub sound_pushed : {W : Type 0} (K : Weights W) (f : ℕ → W) (A : Automaton W) → Sound A → Sound (pushed K f A)
sound_pushed {W} K f A s = record {
  within = All-map (Within A.ranks A.states) (reweighed K f) A.rules (All-weaker (Within A.ranks A.states) (λ r. Within A.ranks A.states (reweighed K f r)) (λ r w. record { symbol_within = w.symbol_within; children_rank = w.children_rank; children_within = w.children_within; target_within = w.target_within }) A.rules s.within);
  single = single_reweighed A.rules s.single;
}
  where
    single_reweighed : (rs : List (Transition W)) → Single rs → Single (map (reweighed K f) rs)
    single_reweighed [] h = tt
    single_reweighed (r ∷ rs) h = (find_reweighed K f rs r.symbol r.children ∙ ap (changed (reweighed K f)) h.0, single_reweighed rs h.1)
