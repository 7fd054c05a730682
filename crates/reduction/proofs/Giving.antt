-- Flags that are set and factors that are written, one at a time.
use Rattle.std.proofs.Common.{◌≡◌, ℕ, ◌+◌, ◌<◌, Bool, true, false, cond, not, List, length, get_or, set, Some, refl, ap, ◌∙◌, ⊎_elim, arith}
use Rattle.std.proofs.lemmas.List.{get_or-set_same, get_or-set_other}
use Rattle.std.proofs.lemmas.List.Sums.{sum_by-set}
use Rattle.std.proofs.lemmas.Bool.{cases_eq}
use Rattle.kinds.specs.Weights.{Weights}
use Rattle.rules.specs.declared.place.Place.{Place}
use Rattle.rules.specs.declared.side.Side.TheVariants.{First}
use Rattle.rules.specs.Running.{place_run}
use Rattle.trees.proofs.Ranks.{nth_set_same, nth_set_other}
use Rattle.reduction.specs.Classes.{weight_or_one, factor_at}
use Rattle.reduction.specs.Choosing.{unset, Grown, Given}
use Rattle.reduction.specs.Marking.{set_in}

pub grown_none : (flags : List Bool) → Grown flags flags
grown_none flags = record { fewer = omega arith; same = λ e. refl; kept = λ q h. h }

pub grown_onward : (flags flags' flags'' : List Bool) → Grown flags flags' → Grown flags' flags'' → Grown flags flags''
grown_onward flags flags' flags'' g h = record {
  fewer = omega (arith, g.fewer, h.fewer);
  same = λ e. h.same (omega (arith, g.fewer, h.fewer)) ∙ g.same (omega (arith, g.fewer, h.fewer));
  kept = λ q k. h.kept q (g.kept q k);
}

unset_set : (flags : List Bool) (q : ℕ) → q < length flags → set_in flags q ≡ false → unset (set flags q true) + 1 ≡ unset flags
unset_set flags q h e =
    let one : ◌≡◌ {A = ℕ} (cond (not (get_or flags q false)) 1 0) 1 = ap (λ (b : Bool). cond (not b) 1 0) e in
    let both : unset (set flags q true) + cond (not (get_or flags q false)) 1 0 ≡ unset flags + 0 = sum_by-set (λ (b : Bool). cond (not b) 1 0) flags q true false h in
    omega (arith, one, both)

pub grown_set : (flags : List Bool) (q : ℕ) → q < length flags → set_in flags q ≡ false → Grown flags (set flags q true)
grown_set flags q h off =
    let one = unset_set flags q h off in
    record {
      fewer = omega arith;
      same = λ e. absurd (omega arith);
      kept = λ x k. ⊎_elim (λ e. ap (set_in (set flags q true)) e ∙ get_or-set_same flags q true false h) (λ n. get_or-set_other flags q x true false n ∙ k) (cases_eq x q);
    }

module _ {V W : Type 0} (K : Weights W) (stands : V → W) where
  pub given_set : (flags : List Bool) (work : List (Place V)) (q : ℕ) (p : Place V) (w : W) → q < length flags → q < length work → weight_or_one K (place_run stands First (Some p)) ≡ w
      → Given q w (set_in flags) (factor_at stands K work) (set_in (set flags q true)) (factor_at stands K (set work q p))
  given_set flags work q p w h l e = record {
    flagged = get_or-set_same flags q true false h;
    factor = ap (λ o. weight_or_one K (place_run stands First o)) (nth_set_same work q p l) ∙ e;
    other_flags = λ x n. get_or-set_other flags q x true false n;
    other_factors = λ x n. ap (λ o. weight_or_one K (place_run stands First o)) (nth_set_other work q x p n);
  }
