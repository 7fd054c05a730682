-- What a survey of one side knows, and what it still knows while entries are added.
use Rattle.liveness.specs.Listings.{flags_of}
use Rattle.std.proofs.Common.{◌≡◌, ℕ, ◌≤◌, List, take}
use Rattle.kinds.specs.Weights.{Weights}
use Rattle.automata.specs.Automata.{Automaton, Sound}
use Rattle.automata.specs.Marking.{DecidesLive}
use Rattle.rules.specs.declared.place.Place.{Place}
use Rattle.rules.specs.declared.side.Side.{Side}
use Rattle.rules.specs.declared.side.Side.TheVariants.{First, Second}
use Rattle.liveness.specs.Listings.{Flagged}
use Rattle.liveness.proofs.Lives.{lives}
use Rattle.comparison.specs.Access.{sided, Prepared}
use Rattle.comparison.specs.Forest.{Forest}
use Rattle.comparison.specs.Scanning.{live_in}
use Rattle.comparison.specs.Surveying.{Matched, Known}
use Rattle.comparison.specs.declared.survey.Survey.{Survey}
use Rattle.comparison.proofs.Older.{enters_still}

module _ {V W : Type 0} (K : Weights W) (stands : V → W) (A B : Automaton W) (m : Matched A B) where
  pub side_sound : (side : Side) → Sound (sided side A B)
  side_sound First = m.first_sound
  side_sound Second = m.second_sound

  module _ (side : Side) (s : Survey) (work : List (Place V)) (len : ℕ) (k : Known stands A B side s work len) where
    pub known_prepared : Forest K stands A B work len → Prepared K stands A B side s.reach work len
    known_prepared f = record { sound = side_sound side; reached = k.reached; alphabet = m.alphabet; forest = f }

    pub known_lives : DecidesLive K (sided side A B) (live_in s.life)
    known_lives = lives K (sided side A B) (side_sound side) s.reach k.reached s.life k.lively

    pub known_still : (work' : List (Place V)) (len' : ℕ) → take len work' ≡ take len work → len ≤ len' → Known stands A B side s work' len'
    known_still work' len' same more = record {
      reached = k.reached;
      lively = k.lively;
      enters = enters_still work work' len same stands side (Flagged (flags_of s.reach)) s.access.entry len' more k.enters;
    }
