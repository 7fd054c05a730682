-- Choosing by the child places of one rule, and by one rule after another.
use Rattle.std.proofs.Common.{◌≡◌, ℕ, ◌+◌, ◌<◌, ◌≤◌, Bool, true, false, List, length, get_or, Some, sym, subst, arith, below_more}
use Rattle.std.specs.List.{ContainsAt, slice_get}
use Rattle.std.proofs.lemmas.List.{length-map}
use Rattle.std.proofs.ByRecursion.{All-from_get_or}
use Rattle.std.proofs.lemmas.Bool.{both_ways}
use Rattle.kinds.specs.Weights.{Weights}
use Rattle.automata.specs.Automata.{Transition, Automaton}
use Rattle.automata.specs.Merging.{keeps}
use Rattle.liveness.specs.Living.{Life}
use Rattle.liveness.proofs.Derivations.{nth_mapped, has_below}
use Rattle.liveness.proofs.Reaches.{find_itself}
use Rattle.pairs.specs.declared.pair_table.PairTable.{PairTable}
use Rattle.rules.specs.declared.place.Place.{Place}
use Rattle.rules.specs.declared.rule.Rule.{Rule}
use Rattle.rules.specs.declared.shape.Shape.{Shape}
use Rattle.rules.specs.Shapes.{ranks_in, automaton_of, transition}
use Rattle.reduction.specs.declared.chooser.Chooser.{Chooser}
use Rattle.reduction.specs.Choosing.{Readiness, Choice, IsRule, LeadsBack, unset, Grown}
use Rattle.reduction.specs.Marking.{live_in, set_in}
use Rattle.reduction.proofs.Giving.{grown_none, grown_onward}

module _ {V W : Type 0} (K : Weights W) (stands : V → W) (c : Chooser V) where
  abbrev shape : Shape
  shape = c.live.now.table.shape.now

  abbrev rules : List (Rule V)
  rules = c.live.now.table.rules.now

  abbrev life : Life
  life = c.live.now.life.now

  abbrev marks : PairTable Bool
  marks = c.marks.now

  abbrev A : Automaton W
  A = automaton_of stands c.live.now.table

  -- the work list keeps its length
  pub ready_still : (work work' : List (Place V)) → length work' ≡ length work → Readiness stands K c work → Readiness stands K c work'
  ready_still work work' size ready = record { sound = ready.sound; decides = ready.decides; room = omega (arith, ready.room); told = ready.told }

  module _ (rule : Rule V) (flags : List Bool) (work : List (Place V)) where
    abbrev r : Transition W
    r = transition stands (ranks_in shape) rule

    -- the classes of the children in the first k places are chosen
    abbrev pub Followed : List Bool → List (Place V) → ℕ → Type 0
    Followed flags' work' k =
        Grown flags flags' × (Readiness stands K c work → Choice stands K c flags work → IsRule stands c.live.now.table rule
        → Choice stands K c flags' work' × ((j : ℕ) → j < k → set_in flags' (get_or r.children j 0) ≡ true))

    pub followed_none : Followed flags work 0
    followed_none = (grown_none flags, λ ready choice is. (choice, λ j h. absurd (omega arith)))

    pub followed_past : (flags' : List Bool) (work' : List (Place V)) (k : ℕ) → set_in flags' (get_or r.children k 0) ≡ true → Followed flags' work' k → Followed flags' work' (k + 1)
    followed_past flags' work' k here g = (g.0, λ ready choice is. let x = g.1 ready choice is in (x.0, below_more _ _ x.1 here))

    pub followed_more : set_in flags rule.target ≡ true → keeps (live_in life) r ≡ true → (flags' flags'' : List Bool) (work' work'' : List (Place V)) (k : ℕ) → length work' ≡ length work → set_in flags' (get_or r.children k 0) ≡ false → Grown flags' flags''
        → (Readiness stands K c work' → Choice stands K c flags' work' → IsRule stands c.live.now.table rule → keeps (live_in life) r ≡ true → set_in flags' rule.target ≡ true → set_in flags' (get_or r.children k 0) ≡ false
        → Choice stands K c flags'' work'' × (set_in flags'' (get_or r.children k 0) ≡ true))
        → Followed flags' work' k → Followed flags'' work'' (k + 1)
    followed_more target keep flags' flags'' work' work'' k size off grown next g = (
      grown_onward flags flags' flags'' g.0 grown,
      λ ready choice is.
          let x = g.1 ready choice is in
          let y = next (ready_still work work' size ready) x.0 is keep (g.0.kept rule.target target) off in
          (y.0, below_more _ _ (λ j h. grown.kept (get_or r.children j 0) (x.1 j h)) y.1),
    )

    -- what choosing by one rule comes to
    abbrev pub Result : List Bool → List (Place V) → Type 0
    Result flags' work' =
        Readiness stands K c work → Choice stands K c flags work → IsRule stands c.live.now.table rule
        → Choice stands K c flags' work' × LeadsBack (live_in life) flags flags' r

    pub followed_all : (flags' : List Bool) (work' : List (Place V)) (k : ℕ) → length r.children ≤ k → Followed flags' work' k → Result flags' work'
    followed_all flags' work' k high g ready choice is =
        let x = g.1 ready choice is in
        (x.0, λ keep target. All-from_get_or (λ q. set_in flags' q ≡ true) r.children 0 (λ j h. x.1 j (omega arith)))

    pub target_off : set_in flags rule.target ≡ false → Result flags work
    target_off off ready choice is = (choice, λ keep target. absurd (both_ways (set_in flags rule.target) off target))

    pub rule_off : keeps (live_in life) r ≡ false → Result flags work
    rule_off off ready choice is = (choice, λ keep target. absurd (both_ways (keeps (live_in life) r) off keep))

  module _ (flags : List Bool) (work : List (Place V)) where
    -- the first i rules lead back, unless a state was chosen
    abbrev pub Passing : List Bool → List (Place V) → ℕ → Type 0
    Passing flags' work' i =
        Grown flags flags' × (Readiness stands K c work → Choice stands K c flags work
        → Choice stands K c flags' work' × (unset flags' ≡ unset flags → (k : ℕ) → k < i → (x : Transition W) → slice_get A.rules k ≡ Some x → LeadsBack (live_in life) flags' flags' x))

    pub passing_none : Passing flags work 0
    passing_none = (grown_none flags, λ ready choice. (choice, λ e k h. absurd (omega arith)))

    pub passing_more : (flags' flags'' : List Bool) (work' work'' : List (Place V)) (i : ℕ) (rule : Rule V) → i < length rules → rule ≡ get_or rules i rule → length work' ≡ length work → Grown flags' flags'' → Result rule flags' work' flags'' work'' → Passing flags' work' i → Passing flags'' work'' (i + 1)
    passing_more flags' flags'' work' work'' i rule low read size grown result g = (
      grown_onward flags flags' flags'' g.0 grown,
      λ ready choice.
          let t = transition stands (ranks_in shape) rule in
          let x = g.1 ready choice in
          let there : slice_get A.rules i ≡ Some t = nth_mapped (transition stands (ranks_in shape)) rules i rule low read in
          let y = result (ready_still work work' size ready) x.0 (find_itself A.rules i t ready.sound.single there) in (
            y.0,
            λ e.
                let same : flags'' ≡ flags' = grown.same (omega (arith, grown.fewer, g.0.fewer)) in
                let before : unset flags' ≡ unset flags = omega (arith, grown.fewer, g.0.fewer) in
                below_more _ _
                (λ k h z at. subst (λ (bs : List Bool). LeadsBack (live_in life) bs bs z) (sym same) (x.1 before k h z at))
                (λ z at. let is : t ≡ z = cc in subst (λ u. LeadsBack (live_in life) flags'' flags'' u) is (subst (λ (bs : List Bool). LeadsBack (live_in life) bs flags'' t) (sym same) y.1)),
          ),
    )

    pub passing_all : (flags' : List Bool) (work' : List (Place V)) (i : ℕ) → length rules ≤ i → Passing flags' work' i → unset flags ≤ unset flags' → Readiness stands K c work → Choice stands K c flags work → (x : Transition W) → ContainsAt A.rules x → LeadsBack (live_in life) flags' flags' x
    passing_all flags' work' i long g still ready choice =
        let n = length-map rules (transition stands (ranks_in shape)) in
        has_below (LeadsBack (live_in life) flags' flags') A.rules i (omega arith) ((g.1 ready choice).1 (omega (arith, g.0.fewer)))
