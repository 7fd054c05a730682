-- From the end of a search to a witness or to the proof that there is none, and the places that it takes.
use Rattle.liveness.specs.Listings.{flags_of}
use Rattle.std.proofs.Common.{◌≡◌, ℕ, ◌+◌, ◌*◌, ◌<◌, ◌≤◌, List, Some, None, sym, ◌∙◌, add-mul, mul-le-mul, mul-le-mul_left, mul-add, arith}
use Rattle.std.proofs.lemmas.Bool.{both_ways}
use Rattle.kinds.specs.Weights.{Weights}
use Rattle.automata.specs.Automata.{Automaton}
use Rattle.automata.specs.Runs.{At, Alike}
use Rattle.automata.specs.Marking.{DecidesLive}
use Rattle.automata.proofs.Explores.{same_by_exploring}
use Rattle.rules.specs.declared.place.Place.{Place}
use Rattle.rules.specs.declared.table.Table.{Table}
use Rattle.rules.specs.declared.side.Side.TheVariants.{First, Second}
use Rattle.rules.specs.Shapes.{states_in, automaton_of}
use Rattle.liveness.proofs.Listings.{flagged_within}
use Rattle.liveness.proofs.Reaches.{run_flagged}
use Rattle.comparison.specs.declared.survey.Survey.{Survey}
use Rattle.comparison.specs.declared.exploring_outcome.Outcome.TheVariants.{Differs, Lone, Uneven}
use Rattle.comparison.specs.Forest.{tree_in}
use Rattle.comparison.specs.Scanning.{Two, live_in, two_of, runs_in}
use Rattle.comparison.specs.Exploring.{LiveWithin, Ends}
use Rattle.comparison.specs.Surveying.{Known}
use Rattle.comparison.specs.Witnesses.{places_needed, Found, Lonely, Searched}
use Rattle.comparison.proofs.OneSide.{side_run}
use Rattle.comparison.proofs.Surveys.{known_lives}
use Rattle.comparison.proofs.Unevens.{apart_tree}

-- the places for n and m states
module _ (n m : ℕ) where
  needed : 2 * ((n + 1) * (m + 1)) ≡ 2 * (n * m) + 2 * n + 2 * m + 2
  needed = omega (arith, add-mul n 1 (m + 1), mul-add n m 1)

  pub enough_search : (len room : ℕ) → len ≤ n + m → 2 * ((n + 1) * (m + 1)) ≤ room → len + n * m + 1 ≤ room
  enough_search len room l h = omega (arith, needed)

  pub needed_small : n ≤ 48 → m ≤ 48 → 2 * ((n + 1) * (m + 1)) < 8192
  needed_small few less = omega (arith, mul-le-mul {n₁ = n + 1} {m₁ = m + 1} {n₂ = 49} {m₂ = 49} (omega arith) (omega arith))

  pub enough_lone : (len : ℕ) → len ≤ n + m + n * m + 1 → (len + n ≤ 2 * ((n + 1) * (m + 1))) × (len + m ≤ 2 * ((n + 1) * (m + 1)))
  enough_lone len l = (omega (arith, needed), omega (arith, needed))

  pub enough_uneven : (len : ℕ) → 0 < m → len ≤ n + m + n * m + 1 → len + n + n ≤ 2 * ((n + 1) * (m + 1))
  enough_uneven len some l = omega (arith, needed, mul-le-mul_left n some)

module _ {V W : Type 0} (K : Weights W) (stands : V → W) (A B : Automaton W) where
  pub found_within : (few many : ℕ) (work : List (Place V)) (top : ℕ) → few ≤ many → Found K stands A B few work top → Found K stands A B many work top
  found_within few many work top h f = record { len = f.len; forest = f.forest; below = f.below; few = omega (arith, f.few); apart = f.apart }

-- live states are states
pub search_within : {V W : Type 0} (stands : V → W) (first second : Table V) (one two : Survey) (work₁ work₂ : List (Place V)) (len₁ len₂ : ℕ) → Known stands (automaton_of stands first) (automaton_of stands second) First one work₁ len₁ → Known stands (automaton_of stands first) (automaton_of stands second) Second two work₂ len₂ → LiveWithin (two_of stands first.shape.now first.rules.now one.life second.shape.now second.rules.now two.life)
search_within stands first second one two work₁ work₂ len₁ len₂ k l = record {
  first_within = flagged_within (states_in first.shape.now) (flags_of one.life) one.life.order one.life.count k.lively.listed;
  second_within = flagged_within (states_in second.shape.now) (flags_of two.life) two.life.order two.life.count l.lively.listed;
}

-- at the end of a search behind the surveys of both sides
module _ {V W : Type 0} (K : Weights W) (stands : V → W) (first second : Table V) (one two : Survey) (work : List (Place V)) (len : ℕ) (s : Searched K stands (automaton_of stands first) (automaton_of stands second) one two work len) where
  abbrev A : Automaton W
  A = automaton_of stands first

  abbrev B : Automaton W
  B = automaton_of stands second

  abbrev T : Two W
  T = two_of stands first.shape.now first.rules.now one.life second.shape.now second.rules.now two.life

  first_lives : DecidesLive K A (live_in one.life)
  first_lives = known_lives K stands A B s.matched First one work len s.first_known

  second_lives : DecidesLive K B (live_in two.life)
  second_lives = known_lives K stands A B s.matched Second two work len s.second_known

  pub ends_settled : Ends K T (runs_in stands work) len None → Alike K A B
  ends_settled e = same_by_exploring K A B e.0 s.matched.alphabet (e.1 first_lives second_lives s.matched.first_sound s.matched.second_sound)

  pub ends_differs : (entry : ℕ) → Ends K T (runs_in stands work) len (Some (Differs entry)) → Found K stands A B (places_needed A B) work entry
  ends_differs entry e = record {
    len = len;
    forest = s.forest;
    below = e.0;
    few = omega (arith, (enough_lone A.states B.states len s.few).0);
    apart = apart_tree K stands A B s.matched.alphabet work len s.forest entry e.0 e.1;
  }

  pub lonely_first : (entry : ℕ) → Ends K T (runs_in stands work) len (Some (Lone First entry)) → Lonely K stands A B First one.life work entry
  lonely_first entry e = record {
    there = (e.1.one, e.1.there, e.1.is_live);
    no_other = λ b run live. both_ways (live_in two.life b.state) (e.1.no_other b run) ((second_lives b.state).1 live);
  }

  pub lonely_second : (entry : ℕ) → Ends K T (runs_in stands work) len (Some (Lone Second entry)) → Lonely K stands A B Second two.life work entry
  lonely_second entry e = record {
    there = (e.1.one, e.1.there, e.1.is_live);
    no_other = λ b run live. both_ways (live_in one.life b.state) (e.1.no_other b run) ((first_lives b.state).1 live);
  }

  -- the second state of the two entries is a state, so the climbs have room
  pub uneven_room : (entry other : ℕ) → Ends K T (runs_in stands work) len (Some (Uneven entry other)) → len + A.states + A.states ≤ places_needed A B
  uneven_room entry other e =
      let b : At W = record { state = e.2.q; weight = e.2.w } in
      let ran = sym (side_run A B s.matched.alphabet K stands work len s.forest Second entry e.0) ∙ e.2.second_run in
      let there = run_flagged K B s.matched.second_sound two.reach s.second_known.reached (tree_in A.ranks work len entry) b ran in
      let low = flagged_within B.states (flags_of two.reach) two.reach.order two.reach.count s.second_known.reached.listed e.2.q there in
      enough_uneven A.states B.states len (omega arith) s.few
