-- What is said of a node: from the runs to live states of its two sides.
use Rattle.std.proofs.Common.{◌≡◌, ℕ, Bool, true, false, Some, None, Decides, Option, sym, refl, subst}
use Rattle.std.proofs.lemmas.Bool.{both_ways}
use Rattle.kinds.specs.Weights.{Weights}
use Rattle.automata.specs.Runs.{At}
use Rattle.rules.specs.declared.side.Side.{Side}
use Rattle.rules.specs.declared.side.Side.TheVariants.{First, Second}
use Rattle.comparison.specs.declared.scan_verdict.Verdict.{Verdict}
use Rattle.comparison.specs.declared.scan_verdict.Verdict.TheVariants.{NewPair, Uneven}
use Rattle.comparison.specs.Scanning.{Even, Unequal, Judged}

module _ {W : Type 0} (K : Weights W) (R : Side → ℕ → Option (At W)) where
  -- the test of the two products
  module _ (e : ℕ) (v w : W) (a b : At W) (f : Some a ≡ R First e) (g : Some b ≡ R Second e) (t : Bool) (test : Decides t (K.times v b.weight ≡ K.times a.weight w)) where
    pub even_tested : t ≡ true → Even K R e v w
    even_tested h c d i j =
        let s : a ≡ c = cc in
        let u : b ≡ d = cc in
        let same = test.0 h in
        cc

    pub uneven_tested : t ≡ false → Unequal K R e v w
    uneven_tested h = record { one = a; other = b; first_run = sym f; second_run = sym g; apart = λ same. both_ways t h (test.1 same) }

  module _ (N : ℕ → ℕ → Option ℕ) (a b : At W) where
    pub judged_new : N a.state b.state ≡ None → Judged K R N (Some a) (Some b) (Some NewPair)
    judged_new h = record { one = a; other = b; first_run = refl; second_run = refl; holds = h }

    pub judged_uneven : (e : ℕ) → N a.state b.state ≡ Some e → Unequal K R e a.weight b.weight → Judged K R N (Some a) (Some b) (Some (Uneven e))
    judged_uneven e h apart = record { one = a; other = b; first_run = refl; second_run = refl; holds = (h, apart) }

  pub judged_same : (N : ℕ → ℕ → Option ℕ) (x x' y y' : Option (At W)) (v : Option Verdict) → x ≡ x' → y ≡ y' → Judged K R N x y v → Judged K R N x' y' v
  judged_same N x x' y y' v e f j = subst (λ z. Judged K R N z y' v) e (subst (λ z. Judged K R N x z v) f j)
