-- Of two trees with one pair of states and two ratios, one tells the automata apart in a sign of life of the first state.
use Rattle.std.proofs.Common.{◌≡◌, ℕ, ◌+◌, ◌<◌, ◌≤◌, Bool, false, ◌⊎◌, List, length, get_or, Decides, sym, ap, ◌∙◌, subst, ap₂, inl, inr, arith}
use Rattle.std.proofs.lemmas.Bool.{both_ways}
use Rattle.kinds.specs.Weights.{Weights}
use Rattle.automata.specs.Trees.{Tree}
use Rattle.automata.specs.Automata.{Automaton}
use Rattle.automata.specs.Runs.{weight_of}
use Rattle.automata.specs.Contexts.{Context, plug}
use Rattle.automata.specs.Comparing.{Witness}
use Rattle.automata.proofs.Witnesses.{failing}
use Rattle.trees.proofs.Ranks.{rank_small}
use Rattle.rules.specs.declared.place.Place.{Place}
use Rattle.rules.specs.declared.table.Table.{Table}
use Rattle.rules.specs.declared.side.Side.TheVariants.{First, Second}
use Rattle.rules.specs.Running.{run_at}
use Rattle.rules.specs.Shapes.{ranks_in, automaton_of}
use Rattle.comparison.specs.declared.climbed.Climbed.{Climbed}
use Rattle.comparison.specs.declared.survey.Survey.{Survey}
use Rattle.comparison.specs.Differing.{weight_by}
use Rattle.comparison.specs.Forest.{tree_in, Forest}
use Rattle.comparison.specs.Access.{Prepared}
use Rattle.comparison.specs.Climbing.{path, access_trees, Climbable, EndsLive, Climbs, ClimbsOn}
use Rattle.comparison.specs.Scanning.{live_in, runs_in}
use Rattle.comparison.specs.Exploring.{TwoRatios}
use Rattle.comparison.specs.Surveying.{Matched, Known}
use Rattle.comparison.specs.Witnesses.{Found}
use Rattle.comparison.proofs.AccessSigns.{access_sign}
use Rattle.comparison.proofs.Lonelies.{ready}
use Rattle.comparison.proofs.Older.{older_run, older_tree}
use Rattle.comparison.proofs.OneSide.{side_run}
use Rattle.comparison.proofs.Overs.{forest_over}
use Rattle.comparison.proofs.SamePaths.{path_same}
use Rattle.comparison.proofs.Surveys.{known_prepared, known_still}
use Rattle.comparison.proofs.Weights.{first_weight, second_weight}

-- the two runs of an entry weigh differently
abbrev pub ApartBy : {V W : Type 0} → (V → W) → Automaton W → Automaton W → List (Place V) → ℕ → Type 0
ApartBy stands A B work i = weight_by A.accepting (run_at stands First work i) ≡ weight_by B.accepting (run_at stands Second work i) → ⊥

-- exactly if the two automata weigh its tree differently
module _ {V W : Type 0} (K : Weights W) (stands : V → W) (A B : Automaton W) (same : A.ranks ≡ B.ranks) (work : List (Place V)) (len : ℕ) (f : Forest K stands A B work len) (i : ℕ) (h : i < len) where
  abbrev Apart : Type 0
  Apart = weight_of K A (tree_in A.ranks work len i) ≡ weight_of K B (tree_in A.ranks work len i) → ⊥

  second_same : weight_by B.accepting (run_at stands Second work i) ≡ weight_of K B (tree_in A.ranks work len i)
  second_same = second_weight K stands A B work len f i h ∙ ap (λ rs. weight_of K B (tree_in rs work len i)) (sym same)

  pub apart_tree : ApartBy stands A B work i → Apart
  apart_tree apart e = apart (first_weight K stands A B work len f i h ∙ e ∙ sym second_same)

  pub apart_runs : Apart → ApartBy stands A B work i
  apart_runs apart e = apart (sym (first_weight K stands A B work len f i h) ∙ e ∙ second_same)

module _ {V W : Type 0} (K : Weights W) (stands : V → W) (first second : Table V) (s : Survey) (work : List (Place V)) (len entry other : ℕ) (m : Matched (automaton_of stands first) (automaton_of stands second)) (f : Forest K stands (automaton_of stands first) (automaton_of stands second) work len) (k : Known stands (automaton_of stands first) (automaton_of stands second) First s work len) (low : entry < len) (other_low : other < len) (ratios : TwoRatios K (live_in s.life) (runs_in stands work) entry other) where
  abbrev A : Automaton W
  A = automaton_of stands first

  abbrev B : Automaton W
  B = automaton_of stands second

  -- after the climb from the first entry
  module _ (work₁ : List (Place V)) (r₁ : Climbed) (climbs₁ : ClimbsOn K stands A B First s.life s.access work len entry work₁ r₁) where
    c₁ : Climbs K stands A B First s.life s.access work len entry ratios.p work₁ r₁
    c₁ = climbs₁ (record { state = ratios.p; weight = ratios.v }) ratios.first_run

    other_run : run_at stands First work₁ other ≡ run_at stands First work other
    other_run = older_run work work₁ len c₁.same stands First other other_low

    pub ready_again : length work₁ ≡ length work → len + A.states + A.states ≤ length work + 1 → Prepared K stands A B First s.reach work₁ r₁.len × (Climbable stands A B First s.reach s.life s.access work₁ r₁.len other × EndsLive stands First s.life work₁ other)
    ready_again long room =
        ready K stands first second First s work₁ r₁.len other m c₁.forest
        (known_still K stands A B m First s work len k work₁ r₁.len c₁.same c₁.longer)
        (omega (arith, c₁.longer)) (omega (arith, c₁.few, k.lively.listed.bounded))
        (record { state = ratios.p; weight = ratios.x }, other_run ∙ ratios.first_other, ratios.is_live)

    -- and from the other
    module _ (work₂ : List (Place V)) (r₂ : Climbed) (climbs₂ : ClimbsOn K stands A B First s.life s.access work₁ r₁.len other work₂ r₂) where
      c₂ : Climbs K stands A B First s.life s.access work₁ r₁.len other ratios.p work₂ r₂
      c₂ = climbs₂ (record { state = ratios.p; weight = ratios.x }) (other_run ∙ ratios.first_other)

      abbrev t : Tree
      t = tree_in (ranks_in first.shape.now) work len entry

      abbrev u : Tree
      u = tree_in (ranks_in first.shape.now) work len other

      abbrev way : Context
      way = path A s.life (access_trees (ranks_in first.shape.now) work len s.access) 48 ratios.p

      first_tree : tree_in (ranks_in first.shape.now) work₂ r₂.len r₁.top ≡ plug way t
      first_tree = older_tree work₁ work₂ r₁.len c₂.same (ranks_in first.shape.now) r₂.len c₂.longer c₂.forest.room r₁.top c₁.top_below ∙ c₁.tree

      second_tree : tree_in (ranks_in first.shape.now) work₂ r₂.len r₂.top ≡ plug way u
      second_tree =
          c₂.tree
          ∙ ap₂ plug
          (path_same A s.reach s.life k.lively (access_trees (ranks_in first.shape.now) work₁ r₁.len s.access) (access_trees (ranks_in first.shape.now) work len s.access)
          (λ q h. older_tree work work₁ len c₁.same (ranks_in first.shape.now) r₁.len c₁.longer c₁.forest.room (get_or s.access.entry q 0) (k.enters.below q h)) 48 ratios.p ratios.is_live)
          (older_tree work work₁ len c₁.same (ranks_in first.shape.now) r₁.len c₁.longer c₁.forest.room other other_low)

      one_apart : Witness K A B (plug way t) ⊎ Witness K A B (plug way u)
      one_apart =
          let sign = access_sign K stands first second First s.reach s.life s.access work len (known_prepared K stands A B m First s work len k f) k.lively k.enters ratios.p ratios.is_live in
          let over = forest_over K stands A B work len (rank_small first.shape.now.measure.alphabet) f in
          subst (λ d. Witness K A B (plug d t) ⊎ Witness K A B (plug d u)) sign.1
          ((failing K A B m.alphabet).uneven t u ratios.p ratios.q ratios.v ratios.w ratios.x ratios.y sign.0 (over entry low) (over other other_low)
          (sym (f.first_runs entry low) ∙ ratios.first_run) (sym (side_run A B m.alphabet K stands work len f Second entry low) ∙ ratios.second_run)
          (sym (f.first_runs other other_low) ∙ ratios.first_other) (sym (side_run A B m.alphabet K stands work len f Second other other_low) ∙ ratios.second_other) ratios.apart)

      few : r₂.len ≤ len + A.states + A.states
      few = omega (arith, c₁.few, c₂.few, k.lively.listed.bounded)

      first_low : r₁.top < r₂.len
      first_low = omega (arith, c₁.top_below, c₂.longer)

      pub first_found : ApartBy stands A B work₂ r₁.top → Found K stands A B (len + A.states + A.states) work₂ r₁.top
      first_found apart = record { len = r₂.len; forest = c₂.forest; below = first_low; few = few; apart = apart_tree K stands A B m.alphabet work₂ r₂.len c₂.forest r₁.top first_low apart }

      pub second_found : (r : Bool) → Decides r (ApartBy stands A B work₂ r₁.top) → r ≡ false → Found K stands A B (len + A.states + A.states) work₂ r₂.top
      second_found r d off = record {
        len = r₂.len;
        forest = c₂.forest;
        below = c₂.top_below;
        few = few;
        apart = λ e. at (subst (λ z. weight_of K A z ≡ weight_of K B z) second_tree e) one_apart;
      }
        where
          at : weight_of K A (plug way u) ≡ weight_of K B (plug way u) → Witness K A B (plug way t) ⊎ Witness K A B (plug way u) → ⊥
          at e (inl w) = both_ways r off (d.1 (apart_runs K stands A B m.alphabet work₂ r₂.len c₂.forest r₁.top first_low (subst (λ z. weight_of K A z ≡ weight_of K B z → ⊥) (sym first_tree) w.differs)))
          at e (inr w) = w.differs e
