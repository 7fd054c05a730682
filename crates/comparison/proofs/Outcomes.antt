-- What a node that is not clear tells of its entry once it is planted.
use Rattle.std.proofs.Common.{◌≡◌, ℕ, ◌<◌, Bool, true, false, cond, ◌↔◌, List, map, Some, None, Option, sym, refl, ap, ◌∙◌, subst, arith}
use Rattle.std.proofs.lemmas.Bool.{both_ways, true≢false}
use Rattle.kinds.specs.Weights.{Weights}
use Rattle.automata.specs.Runs.{At, step}
use Rattle.automata.proofs.Groups.{weight_discrete}
use Rattle.rules.specs.declared.side.Side.{Side}
use Rattle.rules.specs.declared.side.Side.TheVariants.{First, Second}
use Rattle.rules.specs.Running.{row_runs}
use Rattle.comparison.specs.Differing.{weight_by}
use Rattle.comparison.specs.declared.scan_verdict.Verdict.{Verdict}
use Rattle.comparison.specs.declared.scan_verdict.Verdict.TheVariants.{NewPair, Lone, Uneven}
use Rattle.comparison.specs.Scanning.{Two, of_side, to_live, Alone, Judged, Said}
use Rattle.comparison.specs.Exploring.{Entry, Pairing, OneSided, TwoRatios}
use Rattle.comparison.proofs.Settles.{to_live_some, to_live_none}

-- weights that are not different are the same
module _ {W : Type 0} (K : Weights W) where
  same_weights : (o p : Option W) → ((o ≡ p → ⊥) → ⊥) → o ≡ p
  same_weights None None h = refl
  same_weights None (Some w) h = absurd (h (λ e. let z : ◌≡◌ {A = ℕ} 0 1 = cc in omega arith))
  same_weights (Some v) None h = absurd (h (λ e. let z : ◌≡◌ {A = ℕ} 0 1 = cc in omega arith))
  same_weights (Some v) (Some w) h = at (weight_discrete K v w)
    where
      at : Dec (v ≡ w) → Some v ≡ Some w
      at (yes e) = ap Some e
      at (no n) = absurd (h (λ e. n (cc)))

  -- the test of the weights failed
  pub not_different : (t : Bool) (o p : Option W) → (t ≡ true) ↔ (o ≡ p → ⊥) → t ≡ false → o ≡ p
  not_different t o p test f = same_weights o p (λ n. both_ways t f (test.1 n))

-- both accept with one weight, or none does
same_accepted : {W : Type 0} (t u : Bool) (v w : W) → cond t (Some v) None ≡ cond u (Some w) None → (t ≡ u) × (t ≡ true → v ≡ w)
same_accepted true true v w e = (refl, λ h. cc)
same_accepted true false v w e = let z : ◌≡◌ {A = ℕ} 0 1 = cc in absurd (omega arith)
same_accepted false true v w e = let z : ◌≡◌ {A = ℕ} 0 1 = cc in absurd (omega arith)
same_accepted false false v w e = (refl, λ h. absurd (true≢false (sym h)))

-- the entry len has a new pair, and its tree weighs the same in both
pub record New {W : Type 0} (T : Two W) (R : Side → ℕ → Option (At W)) (N : ℕ → ℕ → Option ℕ) (len : ℕ) : Type 0 where
  pub one : At W
  pub other : At W
  pub first_run : R First len ≡ Some one
  pub second_run : R Second len ≡ Some other
  pub number : N one.state other.state ≡ None
  pub entry : Entry T R len one.state other.state

-- the node s(es) was planted as the entry len
module _ {W : Type 0} (K : Weights W) (T : Two W) (R R' : Side → ℕ → Option (At W)) (N : ℕ → ℕ → Option ℕ) (len s : ℕ) (es : List ℕ) (ran : (side : Side) → R' side len ≡ step K (of_side T side) s (row_runs K (map (R side) es))) where
  judged : (v : Verdict) → Said K T R N s es (Some v) → Judged K R N (to_live T.first_live (R' First len)) (to_live T.second_live (R' Second len)) (Some v)
  judged v said =
      subst (λ (x : Option (At W)). Judged K R N (to_live T.first_live x) (to_live T.second_live (R' Second len)) (Some v)) (sym (ran First))
      (subst (λ (y : Option (At W)). Judged K R N (to_live T.first_live (step K T.first s (row_runs K (map (R First) es)))) (to_live T.second_live y) (Some v)) (sym (ran Second)) said)

  one_sided : (live live' : ℕ → Bool) (x y : Option (At W)) → Alone (to_live live x) (to_live live' y) → OneSided live live' x y
  one_sided live live' x y alone =
      let l = to_live_some live x alone.one alone.there in
      record { one = alone.one; there = l.0; is_live = l.1; no_other = to_live_none live' y alone.no_other }

  pub lone_first : Said K T R N s es (Some (Lone First)) → OneSided T.first_live T.second_live (R' First len) (R' Second len)
  lone_first said = one_sided T.first_live T.second_live (R' First len) (R' Second len) (judged (Lone First) said)

  pub lone_second : Said K T R N s es (Some (Lone Second)) → OneSided T.second_live T.first_live (R' Second len) (R' First len)
  lone_second said = one_sided T.second_live T.first_live (R' Second len) (R' First len) (judged (Lone Second) said)

  pub new_pair : weight_by T.first.accepting (R' First len) ≡ weight_by T.second.accepting (R' Second len) → Said K T R N s es (Some NewPair) → New T R' N len
  new_pair same said =
      let pair = judged NewPair said in
      let a = pair.one in
      let b = pair.other in
      let la = to_live_some T.first_live (R' First len) a pair.first_run in
      let lb = to_live_some T.second_live (R' Second len) b pair.second_run in
      let weights : weight_by T.first.accepting (Some a) ≡ weight_by T.second.accepting (Some b) =
      ap (weight_by T.first.accepting) (sym la.0) ∙ same ∙ ap (weight_by T.second.accepting) lb.0 in
      let both = same_accepted (T.first.accepting a.state) (T.second.accepting b.state) a.weight b.weight weights in
      record {
        one = a;
        other = b;
        first_run = la.0;
        second_run = lb.0;
        number = pair.holds;
        entry = record {
          first_weight = a.weight;
          second_weight = b.weight;
          first_run = la.0;
          second_run = lb.0;
          first_is_live = la.1;
          second_is_live = lb.1;
          agree = both.0;
          agree_one = both.1;
        };
      }

  -- a known pair with another ratio
  pub uneven : (base o : ℕ) → ((side : Side) (e : ℕ) → e < len → R' side e ≡ R side e) → Pairing T R N base len → Said K T R N s es (Some (Uneven o)) → (o < len) × TwoRatios K T.first_live R' len o
  uneven base o kept pairing said =
      let both = judged (Uneven o) said in
      let a = both.one in
      let b = both.other in
      let la = to_live_some T.first_live (R' First len) a both.first_run in
      let lb = to_live_some T.second_live (R' Second len) b both.second_run in
      let known = pairing.numbered a.state b.state o both.holds.0 in
      let entry = known.2 in
      let u = both.holds.1 in
      let c : At W = record { state = a.state; weight = entry.first_weight } in
      let d : At W = record { state = b.state; weight = entry.second_weight } in
      let one_is : u.one ≡ c = let f = u.first_run in let g = entry.first_run in cc in
      let other_is : u.other ≡ d = let f = u.second_run in let g = entry.second_run in cc in (
        known.1,
        record {
          p = a.state;
          q = b.state;
          v = a.weight;
          w = b.weight;
          x = entry.first_weight;
          y = entry.second_weight;
          first_run = la.0;
          second_run = lb.0;
          first_other = kept First o known.1 ∙ entry.first_run;
          second_other = kept Second o known.1 ∙ entry.second_run;
          is_live = la.1;
          apart = λ e. u.apart (ap (λ (z : At W). K.times a.weight z.weight) other_is ∙ e ∙ ap (λ (z : At W). K.times z.weight b.weight) (sym one_is));
        },
      )
