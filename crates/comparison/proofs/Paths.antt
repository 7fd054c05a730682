-- The way from a live state to an accepting one, step by step.
use Rattle.liveness.specs.Living.{lead_of}
use Rattle.liveness.specs.Listings.{flags_of}
use Rattle.std.proofs.Common.{◌≡◌, ℕ, zero, suc, ◌<◌, true, false, ◌⊎◌, get_or, take, Some, refl, subst, inl, inr}
use Rattle.std.specs.List.{AllByRecursion, slice_get}
use Rattle.std.proofs.lemmas.Bool.{both_ways}
use Rattle.automata.specs.Trees.{Tree}
use Rattle.automata.specs.Automata.{Transition, Automaton}
use Rattle.automata.specs.Contexts.{Context}
use Rattle.liveness.specs.Listings.{Reach}
use Rattle.liveness.specs.Living.{Life}
use Rattle.liveness.specs.Listings.{Flagged}
use Rattle.liveness.specs.Living.{Accepts, Leads, Lively}
use Rattle.liveness.proofs.Listings.{place_before}
use Rattle.comparison.specs.Climbing.{within_rule, path_over}

-- the rule that leads on the state x, at the place i of the order, to a state at an earlier place
pub record Onward {W : Type 0} (A : Automaton W) (R : Reach) (L : Life) (i x : ℕ) : Type 0 where
  pub rule : Transition W
  pub there : slice_get A.rules (lead_of L x).rule ≡ Some rule
  pub reached : AllByRecursion (Flagged (flags_of R)) rule.children
  pub child : slice_get rule.children (lead_of L x).place ≡ Some x
  pub next : ℕ
  pub earlier : next < i
  pub target : get_or L.order next 0 ≡ rule.target

module _ {W : Type 0} (A : Automaton W) (R : Reach) (L : Life) (lively : Lively A R L) where
  pub onward : (i x : ℕ) → i < L.count → get_or L.order i 0 ≡ x → A.accepting x ≡ false → Onward A R L i x
  onward i x low at plain = go (subst (λ (q : ℕ). Accepts A.accepting R q ⊎ Leads A R (take i L.order) q ((lead_of L q).rule) ((lead_of L q).place)) at (lively.led i low))
    where
      go : Accepts A.accepting R x ⊎ Leads A R (take i L.order) x (lead_of L x).rule (lead_of L x).place → Onward A R L i x
      go (inl a) = absurd (both_ways (A.accepting x) plain a.0)
      go (inr d) =
          let p = place_before i L.order d.rule.target d.target in
          record { rule = d.rule; there = d.there; reached = d.reached; child = d.child; next = p.0; earlier = p.1; target = p.3 }

  -- the place of a live state in the order
  pub live_place : (x : ℕ) → Flagged (flags_of L) x → (i : ℕ) × (i < L.count) × (get_or L.order i 0 ≡ x)
  live_place x f = let p = place_before L.count L.order x ((lively.listed.flagged x).0 f) in (p.0, p.1, p.3)

  module _ (trees : ℕ → Tree) where
    -- the way ends in an accepting state
    pub path_ends : (fuel x : ℕ) (c : Context) → A.accepting x ≡ true → path_over A L trees fuel x c ≡ c
    path_ends zero x c e = refl
    path_ends (suc fuel) x c e = rw e

    -- and goes on by the rule of another
    pub path_goes : (fuel i x : ℕ) (c : Context) (o : Onward A R L i x) → A.accepting x ≡ false → path_over A L trees (suc fuel) x c ≡ path_over A L trees fuel o.rule.target (within_rule trees o.rule (lead_of L x).place c)
    path_goes fuel i x c o e = rw (e, o.there)
