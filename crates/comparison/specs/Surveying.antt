-- What is known of the table on one side before a search.
use Rattle.liveness.specs.Listings.{flags_of}
use Rattle.std.specs.Prelude.{◌≡◌, ℕ, ◌+◌, ◌≤◌, List, take}
use Rattle.kinds.specs.Weights.{Weights}
use Rattle.automata.specs.Automata.{Automaton, Sound}
use Rattle.rules.specs.declared.place.Place.{Place}
use Rattle.rules.specs.declared.side.Side.{Side}
use Rattle.liveness.specs.Listings.{Flagged}
use Rattle.liveness.specs.Reaching.{Reached}
use Rattle.liveness.specs.Living.{Lively}
use Rattle.comparison.specs.Forest.{Forest}
use Rattle.comparison.specs.Access.{sided, Enters}
use Rattle.comparison.specs.declared.survey.Survey.{Survey}

-- two sound automata over one alphabet
pub record Matched {W : Type 0} (A B : Automaton W) : Type 0 where
  pub first_sound : Sound A
  pub second_sound : Sound B
  pub alphabet : A.ranks ≡ B.ranks

-- the survey of one side: its states that are reached, its live states, and an entry for each state that is reached
pub record Known {V W : Type 0} (stands : V → W) (A B : Automaton W) (side : Side) (s : Survey) (work : List (Place V)) (len : ℕ) : Type 0 where
  pub reached : Reached (sided side A B) s.reach
  pub lively : Lively (sided side A B) s.reach s.life
  pub enters : Enters stands side (Flagged (flags_of s.reach)) work len s.access.entry

-- what surveying one side behind the first len entries answers and leaves
pub record Surveyed {V W : Type 0} (K : Weights W) (stands : V → W) (A B : Automaton W) (side : Side) (before : List (Place V)) (len : ℕ) (after : List (Place V)) (r : Survey) : Type 0 where
  pub longer : len ≤ r.access.len
  pub few : r.access.len ≤ len + (sided side A B).states
  pub forest : Forest K stands A B after r.access.len
  pub same : take len after ≡ take len before
  pub known : Known stands A B side r after r.access.len
