-- What taking up a node that is not clear leads to.
use Rattle.std.proofs.Common.{◌≡◌, ℕ, ◌+◌, ◌<◌, ◌≤◌, cond, ◌&&◌, eqb, List, [], ◌∷◌, ◌++◌, map, length, take, Some, None, Option, sym, ap, ◌∙◌, subst, arith}
use Rattle.std.proofs.lemmas.List.{take-take}
use Rattle.kinds.specs.Weights.{Weights}
use Rattle.automata.specs.Trees.{rank}
use Rattle.automata.specs.Runs.{At, step}
use Rattle.trees.specs.Lists.{Good}
use Rattle.rules.specs.declared.place.Place.{Place}
use Rattle.rules.specs.declared.side.Side.{Side}
use Rattle.rules.specs.declared.side.Side.TheVariants.{First, Second}
use Rattle.rules.specs.Running.{row_runs}
use Rattle.rules.specs.Shapes.{ranks_in}
use Rattle.comparison.specs.Forest.{nodes, Forest}
use Rattle.comparison.specs.Differing.{weight_by}
use Rattle.comparison.specs.declared.exploring_outcome.Outcome.TheVariants.{Differs, Lone as EndLone, Uneven as EndUneven}
use Rattle.comparison.specs.declared.scan_finding.Finding.{Finding}
use Rattle.comparison.specs.declared.scan_tables.LiveTables.{LiveTables}
use Rattle.comparison.specs.declared.scan_verdict.Verdict.{Verdict}
use Rattle.comparison.specs.declared.scan_verdict.Verdict.TheVariants.{NewPair, Lone, Uneven}
use Rattle.comparison.specs.Scanning.{Two, two, of_side, runs_in, Said, Told}
use Rattle.comparison.specs.Exploring.{LiveWithin, Pairing, Taken}
use Rattle.comparison.proofs.Pairings.{pairing_more, grown_more}
use Rattle.comparison.proofs.Plantings.{runs_kept, planted_run, told_good}
use Rattle.comparison.proofs.Outcomes.{new_pair, lone_first, lone_second, uneven}

module _ {V W : Type 0} (K : Weights W) (stands : V → W) (t : LiveTables V) (work work' : List (Place V)) (N : ℕ → ℕ → Option ℕ) (len : ℕ) (f : Finding) where
  abbrev T : Two W
  T = two stands t

  abbrev R : Side → ℕ → Option (At W)
  R = runs_in stands work

  abbrev R' : Side → ℕ → Option (At W)
  R' = runs_in stands work'

  module _ (same : ranks_in t.tables.first.shape.now ≡ ranks_in t.tables.second.shape.now) (room : len < length work) (told : Told K T R N f) (grown : ranks_in t.tables.first.shape.now ≡ ranks_in t.tables.second.shape.now → Forest K stands T.first T.second work len → Forest K stands T.first T.second work' (len + 1)) (more : nodes work' (len + 1) ≡ nodes work len ++ f.node ∷ []) (kept : take len work' ≡ take len work) (base : ℕ) (low : base ≤ len) (live : LiveWithin T) (forest : Forest K stands T.first T.second work len) (pairing : Pairing T R N base len) where
    abbrev es : List ℕ
    es = take (rank T.first.ranks told.symbol) f.node.children

    older : take base work' ≡ take base work
    older = sym (take-take base len work' low) ∙ ap (take base) kept ∙ take-take base len work low

    good : Good (ranks_in t.tables.first.shape.now) len f.node
    good = told_good K T R N len f (λ p q e h. (pairing.numbered p q e h).1) told

    ran : (side : Side) → R' side len ≡ step K (of_side T side) told.symbol (row_runs K (map (R side) es))
    ran First =
        planted_run K stands work work' len f.node room (grown same forest).room more kept t.tables.first.shape.now t.tables.first.rules.now First good (grown same forest).first_runs
        ∙ ap (λ s. step K T.first s (row_runs K (map (R First) (take (rank T.first.ranks s) f.node.children)))) told.tells.symbol
    ran Second =
        planted_run K stands work work' len f.node room (grown same forest).room more kept t.tables.second.shape.now t.tables.second.rules.now Second (subst (λ (rs : List ℕ). Good rs len f.node) same good) (grown same forest).second_runs
        ∙ ap (λ (rs : List ℕ). step K T.second f.node.symbol (row_runs K (map (R Second) (take (rank rs f.node.symbol) f.node.children)))) (sym same)
        ∙ ap (λ s. step K T.second s (row_runs K (map (R Second) (take (rank T.first.ranks s) f.node.children)))) told.tells.symbol

    said : (v : Verdict) → f.verdict ≡ v → Said K T R N told.symbol es (Some v)
    said v e = subst (λ (u : Verdict). Said K T R N told.symbol es (Some u)) e told.tells.said

    pub taken_differs : (N' : ℕ → ℕ → Option ℕ) → (weight_by T.first.accepting (R' First len) ≡ weight_by T.second.accepting (R' Second len) → ⊥) → Taken K stands T base work work' N N' len (Some (Differs len))
    taken_differs N' apart = (grown same forest, older, (omega arith, apart))

    pub taken_lone : (N' : ℕ → ℕ → Option ℕ) (side : Side) → f.verdict ≡ Lone side → Taken K stands T base work work' N N' len (Some (EndLone side len))
    taken_lone N' First e = (grown same forest, older, (omega arith, lone_first K T R R' N len told.symbol es ran (said (Lone First) e)))
    taken_lone N' Second e = (grown same forest, older, (omega arith, lone_second K T R R' N len told.symbol es ran (said (Lone Second) e)))

    pub taken_uneven : (N' : ℕ → ℕ → Option ℕ) (o : ℕ) → f.verdict ≡ Uneven o → Taken K stands T base work work' N N' len (Some (EndUneven len o))
    taken_uneven N' o e =
        let u = uneven K T R R' N len told.symbol es ran base o (runs_kept stands work work' len kept) pairing (said (Uneven o) e) in
        (grown same forest, older, (omega arith, omega (arith, u.0), u.1))

    pub taken_new : (N' : ℕ → ℕ → Option ℕ) → f.verdict ≡ NewPair → weight_by T.first.accepting (R' First len) ≡ weight_by T.second.accepting (R' Second len) → ((a b : At W) → R' First len ≡ Some a → R' Second len ≡ Some b → a.state < 48 → b.state < 48 → (x y : ℕ) → N' x y ≡ cond (eqb x a.state && eqb y b.state) (Some len) (N x y)) → Taken K stands T base work work' N N' len None
    taken_new N' e weights noted =
        let new = new_pair K T R R' N len told.symbol es ran weights (said NewPair e) in
        let small : new.one.state < 48 = omega (arith, live.first_within new.one.state new.entry.first_is_live, t.tables.first.shape.now.measure.few) in
        let small' : new.other.state < 48 = omega (arith, live.second_within new.other.state new.entry.second_is_live, t.tables.second.shape.now.measure.few) in
        let numbers = noted new.one new.other new.first_run new.second_run small small' in (
          record {
            forest = grown same forest;
            older = older;
            longer = omega arith;
            pairing = pairing_more T R R' N N' base len new.one.state new.other.state low (runs_kept stands work work' len kept) numbers new.number new.entry pairing;
          },
          grown_more T R R' N N' base len new.one.state new.other.state low (runs_kept stands work work' len kept) numbers new.number new.entry pairing,
        )
