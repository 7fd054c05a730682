-- The search as a whole: how it begins, goes on and ends.
use Rattle.std.proofs.Common.{◌≡◌, ℕ, ◌+◌, ◌*◌, ◌<◌, ◌≤◌, List, length, get_or, Some, None, Option, sym, refl, ◌∙◌, arith}
use Rattle.std.specs.List.{ContainsAt}
use Rattle.std.proofs.lemmas.List.{length-map}
use Rattle.kinds.specs.Weights.{Weights}
use Rattle.automata.specs.Automata.{Transition}
use Rattle.automata.specs.Runs.{At}
use Rattle.rules.specs.declared.place.Place.{Place}
use Rattle.rules.specs.declared.side.Side.{Side}
use Rattle.rules.specs.declared.side.Side.TheVariants.{First, Second}
use Rattle.rules.specs.Shapes.{ranks_in, transition}
use Rattle.comparison.specs.Forest.{Forest}
use Rattle.liveness.proofs.Derivations.{has_below}
use Rattle.comparison.specs.declared.exploring_cursor.Cursor.{Cursor}
use Rattle.comparison.specs.declared.exploring_outcome.Outcome.{Outcome}
use Rattle.comparison.specs.declared.scan_tables.LiveTables.{LiveTables}
use Rattle.comparison.specs.Scanning.{Two, two, runs_in, PairsWithin, ClearRule, Rested, ClearAt}
use Rattle.comparison.specs.Exploring.{LiveWithin, Searching, Explores, Taken, advanced, Passed}
use Rattle.comparison.proofs.Pairings.{pairing_none, pairs_within, pairing_bound}
use Rattle.comparison.proofs.Settles.{explored, settled}
use Rattle.comparison.proofs.Cursors.{at_end, passed_on, search_left, pass_falls}

module _ {V W : Type 0} (K : Weights W) (stands : V → W) (t : LiveTables V) (before : List (Place V)) (base : ℕ) where
  abbrev T : Two W
  T = two stands t

  pub search_begun : (N : ℕ → ℕ → Option ℕ) → ((p q : ℕ) → N p q ≡ None) → Forest K stands T.first T.second before base → Searching K stands T base before before N base
  search_begun N none forest = record { forest = forest; older = refl; longer = omega arith; pairing = pairing_none T (runs_in stands before) N base none }

  many_first : length T.first.rules ≡ length t.tables.first.rules.now
  many_first = length-map t.tables.first.rules.now (transition stands (ranks_in t.tables.first.shape.now))

  many_second : length T.second.rules ≡ length t.tables.second.rules.now
  many_second = length-map t.tables.second.rules.now (transition stands (ranks_in t.tables.second.shape.now))

  cursor_low : (R : Side → ℕ → Option (At W)) (N : ℕ → ℕ → Option ℕ) (len : ℕ) (c : Cursor) → Passed K T R N len c → (c.first ≤ length t.tables.first.rules.now) × (c.second ≤ length t.tables.second.rules.now)
  cursor_low R N len c p = (omega (arith, p.first_low, many_first), omega (arith, p.second_low, many_second))

  pub cursor_on : (R : Side → ℕ → Option (At W)) (N : ℕ → ℕ → Option ℕ) (len : ℕ) (c d : Cursor) → ClearAt K T R N c.first c.second → Passed K T R N len c → Some d ≡ advanced (length t.tables.first.rules.now) (length t.tables.second.rules.now) len c → Passed K T R N len d
  cursor_on R N len c d here p e = passed_on K T R N (length t.tables.first.rules.now) (length t.tables.second.rules.now) len c d many_first many_second here p (sym e)

  pub cursor_falls : (R : Side → ℕ → Option (At W)) (N : ℕ → ℕ → Option ℕ) (room len : ℕ) (c d : Cursor) → Passed K T R N len c → Some d ≡ advanced (length t.tables.first.rules.now) (length t.tables.second.rules.now) len c → search_left room (length t.tables.first.rules.now) (length t.tables.second.rules.now) len d < search_left room (length t.tables.first.rules.now) (length t.tables.second.rules.now) len c
  cursor_falls R N room len c d p e =
      let low = cursor_low R N len c p in
      let less = pass_falls (length t.tables.first.rules.now) (length t.tables.second.rules.now) len c d low.0 low.1 (sym e) in
      omega (arith, less)

  module _ (live : LiveWithin T) (work : List (Place V)) (N : ℕ → ℕ → Option ℕ) (len : ℕ) (s : Searching K stands T base before work N len) where
    pub search_within : PairsWithin T N
    search_within = pairs_within T (runs_in stands work) N base len live s.pairing

    pub search_earlier : (p q e : ℕ) → N p q ≡ Some e → e < len
    search_earlier p q e h = (s.pairing.numbered p q e h).1

    pub search_bound : len ≤ base + T.first.states * T.second.states
    search_bound = pairing_bound T (runs_in stands work) N base len search_within s.pairing

    all_rested : (side : Side) (m : ℕ) → len ≤ m → (ps : List ℕ) → Rested side N m ps
    all_rested First m most ps k h q e known = omega (arith, search_earlier (get_or ps k 0) q e known)
    all_rested Second m most ps k h q e known = omega (arith, search_earlier q (get_or ps k 0) e known)

    pub search_settled : (c : Cursor) → ranks_in t.tables.first.shape.now ≡ ranks_in t.tables.second.shape.now → Passed K T (runs_in stands work) N len c → None ≡ advanced (length t.tables.first.rules.now) (length t.tables.second.rules.now) len c → Explores K stands T before base work (record { outcome = None; len = len })
    search_settled c same p e =
        let end = at_end (length t.tables.first.rules.now) (length t.tables.second.rules.now) len c (sym e) in
        let clear = p.clear in
        let R = runs_in stands work in
        let first : (r : Transition W) → ContainsAt T.first.rules r → ClearRule K T R N First r =
        has_below (ClearRule K T R N First) T.first.rules c.first (omega (arith, end.0, many_first)) (λ k h r i. clear.first_clear k r h i (all_rested First c.start end.2 r.children)) in
        let second : (r : Transition W) → ContainsAt T.second.rules r → ClearRule K T R N Second r =
        has_below (ClearRule K T R N Second) T.second.rules c.second (omega (arith, end.1, many_second)) (λ k h r i. clear.second_clear k r h i (all_rested Second c.start end.2 r.children)) in
        record {
          forest = s.forest;
          longer = s.longer;
          bounded = omega (arith, search_bound);
          older = s.older;
          outcome = (explored K R N, λ live₁ live₂ sound₁ sound₂. settled K T R N base len s.pairing first second same live₁ live₂ sound₁ sound₂);
        }

    pub search_ended : (work' : List (Place V)) (N' : ℕ → ℕ → Option ℕ) (o : Outcome) → Taken K stands T base work work' N N' len (Some o) → Explores K stands T before base work' (record { outcome = Some o; len = len + 1 })
    search_ended work' N' o taken =
        record { forest = taken.0; longer = omega (arith, s.longer); bounded = omega (arith, search_bound); older = taken.1 ∙ s.older; outcome = taken.2 }

    pub search_on : (work' : List (Place V)) (N' : ℕ → ℕ → Option ℕ) → Taken K stands T base work work' N N' len None → Searching K stands T base before work' N' (len + 1)
    search_on work' N' taken = record { forest = taken.0.forest; older = taken.0.older ∙ s.older; longer = taken.0.longer; pairing = taken.0.pairing }
