-- Going down from the accepting states: each state that is added is led on, and a pass that adds none leaves nothing to add.
use Rattle.liveness.specs.Living.{lead_of}
use Rattle.liveness.specs.Listings.{none_found, flags_of, found_too}
use Rattle.std.proofs.Common.{◌≡◌, ℕ, ◌+◌, ◌<◌, ◌≤◌, false, ◌⊎◌, List, [], ◌∷◌, length, get_or, take, Some, None, Option, sym, refl, ap, ◌∙◌, subst, inl, inr, ⊎_elim, arith, below_more}
use Rattle.std.specs.List.{AllByRecursion, slice_get}
use Rattle.std.proofs.lemmas.Option.{slice_get-get_or}
use Rattle.std.proofs.ByRecursion.{All-from_get_or}
use Rattle.automata.specs.Automata.{Transition, Automaton}
use Rattle.rules.specs.declared.rule.Rule.{Rule}
use Rattle.rules.specs.declared.shape.Shape.{Shape}
use Rattle.rules.specs.Shapes.{states_in, accepts_in, automaton}
use Rattle.liveness.specs.Listings.{Reach}
use Rattle.liveness.specs.Living.{Life}
use Rattle.liveness.specs.declared.life.Lead.{Lead}
use Rattle.std.specs.Option.{unwrap_or}
use Rattle.liveness.specs.Listings.{Flagged, Listed}
use Rattle.liveness.specs.Reaching.{Reached}
use Rattle.liveness.specs.Living.{Leads, Accepts, Lively, Noted, Begun, Living, GoesOn, Followed, Rests}
use Rattle.liveness.proofs.Listings.{listed_none, traced_more, flagged_within}
use Rattle.liveness.proofs.Founds.{Sized, sized_more, flags_long, how_here, how_other, kept, here, listed_too}

all_both : {X : Type 0} (P Q S : X → Type 0) → ((x : X) → P x → Q x → S x) → (xs : List X) → AllByRecursion P xs → AllByRecursion Q xs → AllByRecursion S xs
all_both P Q S f [] p q = tt
all_both P Q S f (x ∷ xs) p q = (f x p.0 q.0, all_both P Q S f xs p.1 q.1)

-- the accepting states below n that are reached are listed, and nothing else
pub record Beginning (shape : Shape) (R : Reach) (L : Life) (n : ℕ) : Type 0 where
  pub sized : Sized L
  pub listed : Listed (states_in shape) (flags_of L) L.order L.count
  pub accepting : (i : ℕ) → i < L.count → Accepts (accepts_in shape) R (get_or L.order i 0)
  pub begins : (q : ℕ) → q < n → Accepts (accepts_in shape) R q → Flagged (flags_of L) q

pub beginning_none : (shape : Shape) (R : Reach) → Beginning shape R none_found 0
beginning_none shape R = record {
  sized = record { how = refl; order = refl };
  listed = listed_none (states_in shape);
  accepting = λ i h. absurd (omega arith);
  begins = λ q h. absurd (omega arith);
}

pub beginning_past : (shape : Shape) (R : Reach) (L : Life) (n : ℕ) → Beginning shape R L n → (Accepts (accepts_in shape) R n → ⊥) → Beginning shape R L (n + 1)
beginning_past shape R L n b fails = record {
  sized = b.sized;
  listed = b.listed;
  accepting = b.accepting;
  begins = below_more _ _ b.begins (λ a. absurd (fails a));
}

pub beginning_more : (shape : Shape) (R : Reach) (L L' : Life) (n : ℕ) (h : Option Lead) → n < states_in shape → states_in shape ≤ 48 → Beginning shape R L n → Accepts (accepts_in shape) R n → Noted (states_in shape) n h L L' → Beginning shape R L' (n + 1)
beginning_more shape R L L' n h low few b a (inl t) =
    subst (λ S. Beginning shape R S (n + 1)) (sym t.0) (record {
      sized = b.sized;
      listed = b.listed;
      accepting = b.accepting;
      begins = below_more _ _ b.begins (λ x. t.1 low);
    })
beginning_more shape R L L' n h low few b a (inr t) =
    subst (λ S. Beginning shape R S (n + 1)) (sym t.0) (record {
      sized = sized_more L b.sized n h;
      listed = listed_too L b.sized n h (states_in shape) few b.listed low t.2;
      accepting = traced_more (states_in shape) (flags_of L) L.order L.count (flags_long L b.sized n h) b.sized.order few b.listed n low t.2
          (λ xs p. Accepts (accepts_in shape) R p) (λ xs p. Accepts (accepts_in shape) R p) (λ xs p m d. d) a b.accepting;
      begins = below_more _ _ (λ q l x. kept L b.sized n h q (omega arith) (b.begins q l x)) (λ x. here L b.sized n h (states_in shape) few b.listed low t.2);
    })

pub living_begun : {V W : Type 0} (stands : V → W) (shape : Shape) (rules : List (Rule V)) (R : Reach) (L : Life) → Begun shape R L → Living (automaton stands shape rules) R L
living_begun stands shape rules R L b = record { listed = b.listed; led = λ i h. inl (b.accepting i h); begins = b.begins }

module _ {W : Type 0} (A : Automaton W) (R : Reach) where
  -- a state that a rule leads on to a target in the list is added
  living_more : A.states ≤ 48 → (L : Life) → Sized L → Living A R L → (r : Transition W) (q : ℕ) (h : Lead) → slice_get A.rules h.rule ≡ Some r → AllByRecursion (Flagged (flags_of R)) r.children → slice_get r.children h.place ≡ Some q → Flagged (flags_of L) r.target → q < A.states → get_or (flags_of L) q false ≡ false → Living A R (found_too L q (Some h))
  living_more few L s g r q h there all child target new off =
      let before = take L.count L.order in
      let last : Leads A R before q h.rule h.place = record { rule = r; there = there; reached = all; child = child; target = (g.listed.flagged r.target).0 target } in
      let lead : lead_of (found_too L q (Some h)) q ≡ h = ap (λ o. unwrap_or (unwrap_or o None) (record { rule = 0; place = 0 })) (how_here L s q (Some h) (omega arith)) in
      record {
        listed = listed_too L s q (Some h) A.states few g.listed new off;
        led = traced_more A.states (flags_of L) L.order L.count (flags_long L s q (Some h)) s.order few g.listed q new off
            (λ xs p. Accepts A.accepting R p ⊎ Leads A R xs p (lead_of L p).rule (lead_of L p).place)
            (λ xs p. Accepts A.accepting R p ⊎ Leads A R xs p (lead_of (found_too L q (Some h)) p).rule (lead_of (found_too L q (Some h)) p).place)
            (λ xs p n. ⊎_elim inl (λ d. inr (subst (λ (l : Lead). Leads A R xs p l.rule l.place) (sym (ap (λ o. unwrap_or (unwrap_or o None) (record { rule = 0; place = 0 })) (how_other L s q (Some h) p n))) d)))
            (inr (subst (λ (l : Lead). Leads A R before q l.rule l.place) (sym lead) last))
            g.led;
        begins = λ p l a. kept L s q (Some h) p (omega arith) (g.begins p l a);
      }

  -- the first k children of the rule r, whose target is in the list, have been noted, from L on
  pub record Leading (r : Transition W) (L L' : Life) (k : ℕ) : Type 0 where
    pub sized : Sized L'
    pub living : Living A R L'
    pub longer : L.count ≤ L'.count
    pub target : Flagged (flags_of L') r.target
    pub same : L'.count ≡ L.count → L' ≡ L
    pub noted : L'.count ≡ L.count → (i : ℕ) → i < k → get_or r.children i 0 < A.states → Flagged (flags_of L) (get_or r.children i 0)

  pub leading_more : A.states ≤ 48 → (r : Transition W) (L L' L'' : Life) (j k : ℕ) → slice_get A.rules j ≡ Some r → AllByRecursion (Flagged (flags_of R)) r.children → k < length r.children → Leading r L L' k → Noted A.states (get_or r.children k 0) (Some (record { rule = j; place = k })) L' L'' → Leading r L L'' (k + 1)
  leading_more few r L L' L'' j k there all h g (inl t) =
      subst (λ S. Leading r L S (k + 1)) (sym t.0) (record {
        sized = g.sized;
        living = g.living;
        longer = g.longer;
        target = g.target;
        same = g.same;
        noted = λ e. below_more _ _ (g.noted e) (subst (λ (S : Life). get_or r.children k 0 < A.states → Flagged (flags_of S) (get_or r.children k 0)) (g.same e) t.1);
      })
  leading_more few r L L' L'' j k there all h g (inr t) =
      let q = get_or r.children k 0 in
      let lead : Lead = record { rule = j; place = k } in
      let absurdly : L'.count + 1 ≡ L.count → ⊥ = λ e. omega (arith, g.longer) in
      subst (λ S. Leading r L S (k + 1)) (sym t.0) (record {
        sized = sized_more L' g.sized q (Some lead);
        living = living_more few L' g.sized g.living r q lead there all (slice_get-get_or r.children k 0 h) g.target t.1 t.2;
        longer = omega (arith, g.longer);
        target = kept L' g.sized q (Some lead) r.target (omega (arith, t.1)) g.target;
        same = λ e. absurd (absurdly e);
        noted = λ e. absurd (absurdly e);
      })

  pub leading_all : (r : Transition W) (L L' : Life) (j k : ℕ) → slice_get A.rules j ≡ Some r → length r.children ≤ k → Leading r L L' k → Followed A R j L L'
  leading_all r L L' j k there h g = record {
    living = g.living;
    longer = g.longer;
    same = g.same;
    goes_on = λ e x f all on.
        let is : r ≡ x = cc in
        subst (λ (y : Transition W). AllByRecursion (λ c. c < A.states → Flagged (flags_of L) c) y.children) is
        (All-from_get_or (λ c. c < A.states → Flagged (flags_of L) c) r.children 0 (λ i l. g.noted e i (omega arith)));
  }

  -- a rule that adds nothing
  pub followed_still : (r : Transition W) (L : Life) (j : ℕ) → Living A R L → slice_get A.rules j ≡ Some r → GoesOn A R L r → Followed A R j L L
  followed_still r L j g there on = record {
    living = g;
    longer = omega arith;
    same = λ e. refl;
    goes_on = λ e x f. let is : r ≡ x = cc in subst (GoesOn A R L) is on;
  }

  -- the list has grown since it was b long, or the first i rules go on
  pub record Falling (b : ℕ) (L : Life) (i : ℕ) : Type 0 where
    pub living : Living A R L
    pub longer : b ≤ L.count
    pub goes_on : L.count ≡ b → (k : ℕ) → k < i → (r : Transition W) → slice_get A.rules k ≡ Some r → GoesOn A R L r

  pub falling_more : (b : ℕ) (L L' : Life) (i : ℕ) → Falling b L i → Followed A R i L L' → Falling b L' (i + 1)
  falling_more b L L' i g f = record {
    living = f.living;
    longer = omega (arith, g.longer, f.longer);
    goes_on = λ e.
        let still : L'.count ≡ L.count = omega (arith, g.longer, f.longer) in
        subst (λ S. (k : ℕ) → k < i + 1 → (r : Transition W) → slice_get A.rules k ≡ Some r → GoesOn A R S r) (sym (f.same still))
        (below_more _ _ (g.goes_on (sym still ∙ e)) (f.goes_on still));
  }

  pub lively : (L : Life) → Living A R L → Rests A R L → Reached A R → Lively A R L
  lively L g rests reached = record {
    listed = g.listed;
    led = g.led;
    begins = λ q f a. g.begins q (flagged_within A.states (flags_of R) R.order R.count reached.listed q f) (a, f);
    closed = λ r h all on.
        all_both (Flagged (flags_of R)) (λ c. c < A.states → Flagged (flags_of L) c) (Flagged (flags_of L))
        (λ c f k. k (flagged_within A.states (flags_of R) R.order R.count reached.listed c f)) r.children all (rests r h all on);
  }
