-- The way from a live state depends only on the trees of the states that are reached.
use Rattle.liveness.specs.Living.{lead_of}
use Rattle.liveness.specs.Listings.{flags_of}
use Rattle.std.proofs.Common.{◌≡◌, ℕ, zero, suc, ◌<◌, Bool, true, false, get_or, take, drop, sym, refl, ap, ◌∙◌, ap₂, arith}
use Rattle.std.specs.List.{AllByRecursion}
use Rattle.std.proofs.ByRecursion.{All-weaker, All-take, All-drop}
use Rattle.automata.specs.Trees.{Tree}
use Rattle.automata.specs.Automata.{Transition, Automaton}
use Rattle.automata.specs.Contexts.{Context, under}
use Rattle.liveness.specs.Listings.{Reach}
use Rattle.liveness.specs.Living.{Life}
use Rattle.liveness.specs.Listings.{Flagged}
use Rattle.liveness.specs.Living.{Lively}
use Rattle.comparison.specs.Climbing.{within_rule, path_over, path}
use Rattle.comparison.proofs.Climbs.{row_same}
use Rattle.comparison.proofs.Paths.{Onward, onward, live_place, path_ends, path_goes}

module _ {W : Type 0} (A : Automaton W) (R : Reach) (L : Life) (lively : Lively A R L) (f g : ℕ → Tree) (agree : (q : ℕ) → Flagged (flags_of R) q → f q ≡ g q) where
  within_same : (r : Transition W) (k : ℕ) (c : Context) → AllByRecursion (Flagged (flags_of R)) r.children → within_rule f r k c ≡ within_rule g r k c
  within_same r k c reached =
      let all : AllByRecursion (λ q. f q ≡ g q) r.children = All-weaker (Flagged (flags_of R)) (λ q. f q ≡ g q) agree r.children reached in
      ap₂ (λ us vs. under r.symbol us c vs) (row_same f g (take k r.children) (All-take (λ q. f q ≡ g q) k r.children all)) (row_same f g (drop (suc k) r.children) (All-drop (λ q. f q ≡ g q) (suc k) r.children all))

  way_same : (fuel i x : ℕ) (c : Context) → i < L.count → get_or L.order i 0 ≡ x → path_over A L f fuel x c ≡ path_over A L g fuel x c
  way_same zero i x c low at = refl
  way_same (suc fuel) i x c low at = go (A.accepting x) refl (λ o. way_same fuel o.next o.rule.target (within_rule g o.rule (lead_of L x).place c))
    where
      go : (b : Bool) → A.accepting x ≡ b → ((o : Onward A R L i x) → o.next < L.count → get_or L.order o.next 0 ≡ o.rule.target → path_over A L f fuel o.rule.target (within_rule g o.rule (lead_of L x).place c) ≡ path_over A L g fuel o.rule.target (within_rule g o.rule (lead_of L x).place c)) → path_over A L f (suc fuel) x c ≡ path_over A L g (suc fuel) x c
      go true e ih = path_ends A R L lively f (suc fuel) x c e ∙ sym (path_ends A R L lively g (suc fuel) x c e)
      go false e ih =
          let o = onward A R L lively i x low at e in
          path_goes A R L lively f fuel i x c o e
          ∙ ap (path_over A L f fuel o.rule.target) (within_same o.rule (lead_of L x).place c o.reached)
          ∙ ih o (omega (arith, o.earlier)) o.target
          ∙ sym (path_goes A R L lively g fuel i x c o e)

  pub path_same : (fuel x : ℕ) → Flagged (flags_of L) x → path A L f fuel x ≡ path A L g fuel x
  path_same fuel x live = let p = live_place A R L lively x live in way_same fuel p.0 x _ p.1 p.2
