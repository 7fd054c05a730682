-- One state after another of the class of a child gets its factor.
use Rattle.std.proofs.Common.{◌≡◌, ℕ, suc, ◌+◌, ◌<◌, ◌≤◌, Bool, true, false, List, ◌∷◌, ◌++◌, length, get_or, take, drop, Some, sym, subst, arith}
use Rattle.std.proofs.lemmas.List.{length-take, set_split}
use Rattle.std.proofs.ByRecursion.{All-get_or}
use Rattle.kinds.specs.Weights.{Weights}
use Rattle.automata.specs.Trees.{rank}
use Rattle.automata.specs.Automata.{Transition, Automaton, find}
use Rattle.automata.specs.Merging.{keeps}
use Rattle.automata.proofs.Drops.{kept_children}
use Rattle.liveness.specs.Living.{Life}
use Rattle.pairs.specs.declared.pair_table.PairTable.{PairTable}
use Rattle.pairs.specs.Cells.{cell_at}
use Rattle.trees.proofs.Ranks.{rank_small}
use Rattle.rules.specs.declared.place.Place.{Place}
use Rattle.rules.specs.declared.rule.Rule.{Rule}
use Rattle.rules.specs.declared.shape.Shape.{Shape}
use Rattle.rules.specs.Shapes.{ranks_in, states_in, automaton_of, transition}
use Rattle.reduction.specs.declared.chooser.Chooser.{Chooser}
use Rattle.reduction.specs.Classes.{factor_at}
use Rattle.reduction.specs.Choosing.{Readiness, Choice, IsRule, Gets}
use Rattle.reduction.specs.Marking.{live_in, set_in}
use Rattle.reduction.proofs.Classmates.{Following, following_none, following_past, following_more, following_all, first_chosen, live_within}
use Rattle.reduction.proofs.Replacing.{place_split}

module _ {V W : Type 0} (K : Weights W) (stands : V → W) (c : Chooser V) (rule : Rule V) (place : ℕ) (flags : List Bool) (work : List (Place V)) where
  abbrev shape : Shape
  shape = c.live.now.table.shape.now

  abbrev rules : List (Rule V)
  rules = c.live.now.table.rules.now

  abbrev life : Life
  life = c.live.now.life.now

  abbrev marks : PairTable Bool
  marks = c.marks.now

  abbrev A : Automaton W
  A = automaton_of stands c.live.now.table

  abbrev r : Transition W
  r = transition stands (ranks_in shape) rule

  abbrev p : ℕ
  p = get_or r.children place 0

  abbrev before : List ℕ
  before = take place r.children

  abbrev after : List ℕ
  after = drop (suc place) r.children

  -- with all that the choice rests on, the states of the class below n have their factors
  abbrev pub Turned : List Bool → List (Place V) → ℕ → Type 0
  Turned flags' work' n =
      Readiness stands K c work → Choice stands K c flags work → IsRule stands c.live.now.table rule → keeps (live_in life) r ≡ true → set_in flags rule.target ≡ true → set_in flags p ≡ false
      → Following K A (live_in life) (cell_at marks) (set_in flags) (factor_at stands K work) rule.left.symbol before after p r (set_in flags') (factor_at stands K work') n

  module _ (low : place < rank (ranks_in shape) rule.left.symbol) (four : length rule.left.children ≡ 4) where
    in_place : place < length r.children
    in_place = omega (arith, rank_small shape.measure.alphabet rule.left.symbol, length-take (rank (ranks_in shape) rule.left.symbol) rule.left.children)

    there : IsRule stands c.live.now.table rule → find A.rules rule.left.symbol (before ++ p ∷ after) ≡ Some r
    there is = subst (λ (qs : List ℕ). find A.rules rule.left.symbol qs ≡ Some r) (place_split r.children place in_place) is

    child_live : keeps (live_in life) r ≡ true → live_in life p ≡ true
    child_live keep = All-get_or (λ q. live_in life q ≡ true) r.children place 0 in_place (kept_children (live_in life) r keep)

    pub turned_none : Turned flags work 0
    turned_none ready choice is keep target off =
        following_none K A (live_in life) (cell_at marks) (length work) ready (set_in flags) (factor_at stands K work) choice rule.left.symbol before after p r (there is) keep (child_live keep) target off

    module _ (flags' : List Bool) (work' : List (Place V)) (n : ℕ) (turned : Turned flags' work' n) where
      pub turned_past : (live_in life n ≡ true → cell_at marks p n ≡ false → ⊥) → Turned flags' work' (n + 1)
      turned_past past ready choice is keep target off =
          following_past K A (live_in life) (cell_at marks) (length work) ready (set_in flags) (factor_at stands K work) choice rule.left.symbol before after p r (there is) keep (child_live keep) target off
          (set_in flags') (factor_at stands K work') n (turned ready choice is keep target off) past

      pub turned_more : live_in life n ≡ true → cell_at marks p n ≡ false → states_in shape ≤ 48 → length work' ≡ length work → (flags'' : List Bool) (work'' : List (Place V))
          → (n < 48 → n < length work' → Gets K A rule.left.symbol r.children place n (set_in flags') (factor_at stands K work') (set_in flags'') (factor_at stands K work'')) → Turned flags'' work'' (n + 1)
      turned_more l e few size flags'' work'' gets ready choice is keep target off =
          let within = live_within K A (live_in life) (cell_at marks) (length work) ready n l in
          following_more K A (live_in life) (cell_at marks) (length work) ready (set_in flags) (factor_at stands K work) choice rule.left.symbol before after p r (there is) keep (child_live keep) target off
          (set_in flags') (factor_at stands K work') n (turned ready choice is keep target off) l e (set_in flags'') (factor_at stands K work'')
          (λ r' found. gets (omega arith) (omega (arith, ready.room)) r' (subst (λ (qs : List ℕ). find A.rules rule.left.symbol qs ≡ Some r') (sym (set_split r.children place n in_place)) found))

      pub turned_all : states_in shape ≤ n → Readiness stands K c work → Choice stands K c flags work → IsRule stands c.live.now.table rule → keeps (live_in life) r ≡ true → set_in flags rule.target ≡ true → set_in flags p ≡ false
          → Choice stands K c flags' work' × (set_in flags' p ≡ true)
      turned_all all ready choice is keep target off = (
        following_all K A (live_in life) (cell_at marks) (length work) ready (set_in flags) (factor_at stands K work) choice rule.left.symbol before after p r (there is) keep (child_live keep) target off
            (set_in flags') (factor_at stands K work') n all (turned ready choice is keep target off),
        first_chosen K A (live_in life) (cell_at marks) (length work) ready (set_in flags) (factor_at stands K work) choice rule.left.symbol before after p r (there is) keep (child_live keep) target off
            (set_in flags') (factor_at stands K work') n all (turned ready choice is keep target off),
      )
