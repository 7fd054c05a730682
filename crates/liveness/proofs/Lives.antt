-- The states that are listed as live are the live ones, in a sound automaton.
use Rattle.liveness.specs.Living.{lead_of}
use Rattle.liveness.specs.Listings.{flags_of}
use Rattle.std.proofs.Common.{◌≡◌, ℕ, ◌<◌, false, ◌⊎◌, List, ◌∷◌, get_or, take, Some, ◌∙◌, subst, inl, inr, arith}
use Rattle.std.specs.List.{ContainsAt, AllByRecursion}
use Rattle.std.proofs.ByRecursion.{All-weaker, all_has_itself}
use Rattle.kinds.specs.Weights.{Weights}
use Rattle.automata.specs.Trees.{Tree, Row, none, ◌▹◌, joined}
use Rattle.automata.specs.Automata.{Automaton, Within, Sound}
use Rattle.automata.specs.Runs.{At, Ats, run, runs}
use Rattle.automata.specs.Contexts.{Context, hole, under, plug, Reachable, Live}
use Rattle.automata.specs.Marking.{DecidesLive}
use Rattle.automata.proofs.Finds.{find_children, find_all}
use Rattle.automata.proofs.Steps.{beside_some, step_some}
use Rattle.automata.proofs.Rows.{Access, access}
use Rattle.automata.proofs.Lives.{children_live, sign_accepting}
use Rattle.automata.proofs.Signs.{weighs_sign}
use Rattle.automata.proofs.Steps.{accepted_some}
use Rattle.liveness.specs.Listings.{Reach}
use Rattle.liveness.specs.Living.{Life}
use Rattle.liveness.specs.Listings.{Flagged}
use Rattle.liveness.specs.Reaching.{Reached}
use Rattle.liveness.specs.Living.{Leads, Accepts, Lively}
use Rattle.liveness.proofs.Listings.{place_before}
use Rattle.liveness.proofs.Reaches.{strong, all_nth, find_itself, run_flagged, runs_flagged, reaches}

module _ {W : Type 0} (K : Weights W) (A : Automaton W) where
  -- what all states of a row have, the state of one of its trees has
  row_part : (P : ℕ → Type 0) (before : Row) (t : Tree) (after : Row) (b : Ats W) → runs K A (joined before (t ▹ after)) ≡ Some b → AllByRecursion P b.states → (a : At W) × (run K A t ≡ Some a) × P a.state
  row_part P none t after b e all =
      let d = beside_some K (run K A t) (runs K A after) b e in
      let parts : AllByRecursion P (d.first.state ∷ d.rest.states) = rw d.both at all in
      (d.first, d.first_is, parts.0)
  row_part P (u ▹ before) t after b e all =
      let d = beside_some K (run K A u) (runs K A (joined before (t ▹ after))) b e in
      let parts : AllByRecursion P (d.first.state ∷ d.rest.states) = rw d.both at all in
      row_part P before t after d.rest d.rest_is parts.1

  module _ (sound : Sound A) (R : Reach) (reached : Reached A R) (L : Life) (lively : Lively A R L) where
    -- a state that a rule leads on to a live one
    led_live : (before : List ℕ) (q j k : ℕ) → ((p : ℕ) → ContainsAt before p → Live K A p) → Leads A R before q j k → Live K A q
    led_live before q j k earlier d =
        let r = d.rule in
        let row : Access K A r.children = access K A r.children (All-weaker (Flagged (flags_of R)) (Reachable K A) (λ p f. (reaches K A sound R reached p).0 f) r.children d.reached) in
        let within = all_nth (Within A.ranks A.states) A.rules j r sound.within d.there in
        let all : AllByRecursion (Live K A) r.children =
        children_live K A r.symbol row.row (record { states = r.children; weight = row.weight }) r within.symbol_within (row.as_many ∙ within.children_rank) row.over row.runs_to
        (find_itself A.rules j r sound.single d.there) (earlier r.target d.target).sign in
        all_nth (Live K A) r.children k q all d.child

    listed_live : (before : List ℕ) (q j k : ℕ) → ((p : ℕ) → ContainsAt before p → Live K A p) → Accepts A.accepting R q ⊎ Leads A R before q j k → Live K A q
    listed_live before q j k earlier (inl a) = record { reachable = (reaches K A sound R reached q).0 a.1; sign = sign_accepting K A q a.0 }
    listed_live before q j k earlier (inr d) = led_live before q j k earlier d

    -- along the order of discovery
    place_live : (i : ℕ) → i < L.count → Live K A (get_or L.order i 0)
    place_live = strong (λ i. i < L.count → Live K A (get_or L.order i 0)) (λ i before h.
        listed_live (take i L.order) (get_or L.order i 0) (lead_of L (get_or L.order i 0)).rule (lead_of L (get_or L.order i 0)).place (λ p has.
        let x = place_before i L.order p has in
        subst (Live K A) x.3 (before x.0 x.1 (omega (arith, x.1)))) (lively.led i h))

    -- what a context takes to a listed state is listed
    plug_flagged : (c : Context) (t : Tree) (a b : At W) → run K A t ≡ Some a → run K A (plug c t) ≡ Some b → Flagged (flags_of L) b.state → Flagged (flags_of L) a.state
    plug_flagged hole t a b e f on = let same : b ≡ a = cc in rw (← same) on
    plug_flagged (under s before c after) t a b e f on =
        let ts = joined before (plug c t ▹ after) in
        let d = step_some K A s (runs K A ts) b f in
        let r = d.rule in
        let same = find_children A.rules s d.row.states r d.found in
        let has = find_all (ContainsAt A.rules) A.rules s d.row.states r (all_has_itself A.rules) d.found in
        let all : AllByRecursion (Flagged (flags_of L)) r.children = lively.closed r has (rw same (runs_flagged K A sound R reached ts d.row d.row_is)) (rw d.reached at on) in
        let x = row_part (Flagged (flags_of L)) before (plug c t) after d.row d.row_is (rw same at all) in
        plug_flagged c t a x.0 e x.1 x.2

    live_flagged : (q : ℕ) → Live K A q → Flagged (flags_of L) q
    live_flagged q h =
        let t = h.reachable.tree in
        let c = h.sign.context in
        let w = accepted_some A (run K A (plug c t)) (K.times h.reachable.weight h.sign.weight) (weighs_sign K A t q h.reachable.weight h.sign h.reachable.runs_to) in
        plug_flagged c t (record { state = q; weight = h.reachable.weight }) w.run_is h.reachable.runs_to w.there
        (lively.begins w.run_is.state (run_flagged K A sound R reached (plug c t) w.run_is w.there) w.accepts)

    pub lives : DecidesLive K A (λ q. get_or (flags_of L) q false)
    lives q =
        ((λ f. let p = place_before L.count L.order q ((lively.listed.flagged q).0 f) in subst (Live K A) p.3 (place_live p.0 p.1)), live_flagged q)
