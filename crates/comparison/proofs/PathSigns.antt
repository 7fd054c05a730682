-- The way from a live state to an accepting one is a sign of life, where every state that is reached has a tree that runs to it.
use Rattle.liveness.specs.Living.{lead_of}
use Rattle.liveness.specs.Listings.{flags_of}
use Rattle.std.proofs.Common.{◌≡◌, ℕ, zero, suc, ◌+◌, ◌<◌, ◌≤◌, Bool, true, false, List, [], ◌∷◌, ◌++◌, length, get_or, take, drop, Some, sym, refl, ap, ◌∙◌, subst, arith}
use Rattle.std.specs.List.{AllByRecursion, slice_get}
use Rattle.std.proofs.ByRecursion.{All-weaker, All-take, All-drop}
use Rattle.std.proofs.lemmas.List.{length-take, length-drop}
use Rattle.kinds.specs.Weights.{Weights}
use Rattle.automata.specs.Trees.{Tree, size, rank, Over, Overs}
use Rattle.automata.specs.Automata.{Automaton, find, Within, Sound}
use Rattle.automata.specs.Runs.{At, Ats, beside, applied, step, runs}
use Rattle.automata.specs.Contexts.{Context, hole, OverContext, ahead, fill, starting, value, Sign}
use Rattle.automata.proofs.Rows.{between, place}
use Rattle.trees.proofs.Ranks.{nth_some}
use Rattle.liveness.specs.Listings.{Reach}
use Rattle.liveness.specs.Living.{Life}
use Rattle.liveness.specs.Listings.{Flagged}
use Rattle.liveness.specs.Living.{Lively}
use Rattle.liveness.proofs.Reaches.{all_nth, find_itself}
use Rattle.comparison.specs.Climbing.{row_by, within_rule, path_over, path}
use Rattle.comparison.proofs.Accesses.{RunsTo, runs_by}
use Rattle.comparison.proofs.Paths.{Onward, onward, live_place, path_ends, path_goes}

size_by : (trees : ℕ → Tree) (qs : List ℕ) → size (row_by trees qs) ≡ length qs
size_by trees [] = refl
size_by trees (q ∷ qs) = ap suc (size_by trees qs)

overs_by : (ranks : List ℕ) (trees : ℕ → Tree) (qs : List ℕ) → AllByRecursion (λ q. Over ranks (trees q)) qs → Overs ranks (row_by trees qs)
overs_by ranks trees [] all = tt
overs_by ranks trees (q ∷ qs) all = (all.0, overs_by ranks trees qs all.1)

-- a list around one of its elements
around : {X : Type 0} (xs : List X) (k : ℕ) (x : X) → slice_get xs k ≡ Some x → take k xs ++ x ∷ drop (suc k) xs ≡ xs
around [] k x e = let z : ◌≡◌ {A = ℕ} 0 1 = cc in absurd (omega arith)
around (y ∷ xs) zero x e = let s : y ≡ x = cc in ap (λ z. z ∷ xs) (sym s)
around (y ∷ xs) (suc k) x e = ap (λ zs. y ∷ zs) (around xs k x e)

module _ {W : Type 0} (K : Weights W) (A : Automaton W) (sound : Sound A) (R : Reach) (L : Life) (lively : Lively A R L) (trees : ℕ → Tree) (over : (q : ℕ) → Flagged (flags_of R) q → Over A.ranks (trees q)) (ran : (q : ℕ) → Flagged (flags_of R) q → RunsTo K A trees q) where
  -- one rule more around a context that takes x₀ to x takes it to the rule's target
  module _ (i x : ℕ) (o : Onward A R L i x) where
    abbrev k : ℕ
    k = (lead_of L x).place

    abbrev qs : List ℕ
    qs = o.rule.children

    low : k < length qs
    low = (nth_some qs k x 0 o.child).0

    over_more : (c : Context) → OverContext A.ranks c → OverContext A.ranks (within_rule trees o.rule k c)
    over_more c h =
        let within = all_nth (Within A.ranks A.states) A.rules (lead_of L x).rule o.rule sound.within o.there in
        let all : AllByRecursion (λ q. Over A.ranks (trees q)) qs = All-weaker (Flagged (flags_of R)) (λ q. Over A.ranks (trees q)) over qs o.reached in
        let many : size (row_by trees (take k qs)) + 1 + size (row_by trees (drop (suc k) qs)) ≡ rank A.ranks o.rule.symbol =
        omega (arith, size_by trees (take k qs), size_by trees (drop (suc k) qs), length-take k qs, length-drop (suc k) qs, low, within.children_rank) in
        (within.symbol_within, many, overs_by A.ranks trees (take k qs) (All-take (λ q. Over A.ranks (trees q)) k qs all), h, overs_by A.ranks trees (drop (suc k) qs) (All-drop (λ q. Over A.ranks (trees q)) (suc k) qs all))

    fill_more : (c : Context) (x₀ : ℕ) (a : At W) → fill K A c (starting K x₀) ≡ Some a → a.state ≡ x → (b : At W) × (fill K A (within_rule trees o.rule k c) (starting K x₀) ≡ Some b) × (b.state ≡ o.rule.target)
    fill_more c x₀ a e s =
        let all : AllByRecursion (RunsTo K A trees) qs = All-weaker (Flagged (flags_of R)) (RunsTo K A trees) ran qs o.reached in
        let before = runs_by K A trees (take k qs) (All-take (RunsTo K A trees) k qs all) in
        let after = runs_by K A trees (drop (suc k) qs) (All-drop (RunsTo K A trees) (suc k) qs all) in
        let b : Ats W = record { states = take k qs; weight = before.0 } in
        let d : Ats W = record { states = drop (suc k) qs; weight = after.0 } in
        let found : find A.rules o.rule.symbol (take k qs ++ a.state ∷ drop (suc k) qs) ≡ Some o.rule =
        ap (λ q. find A.rules o.rule.symbol (take k qs ++ q ∷ drop (suc k) qs)) s ∙ ap (find A.rules o.rule.symbol) (around qs k x o.child) ∙ find_itself A.rules (lead_of L x).rule o.rule sound.single o.there in (
          record { state = o.rule.target; weight = K.times (between K b a d) o.rule.weight },
          ap (λ y. step K A o.rule.symbol (ahead K A (row_by trees (take k qs)) (beside K y (runs K A (row_by trees (drop (suc k) qs)))))) e
              ∙ place K A o.rule.symbol (row_by trees (take k qs)) (row_by trees (drop (suc k) qs)) b d a before.1 after.1
              ∙ ap (applied K (between K b a d)) found,
          refl,
        )

  -- what is shown of a context
  abbrev Gives : Context → ℕ → Type 0
  Gives c x₀ = OverContext A.ranks c × ((w : W) × (value K A c x₀ ≡ Some w))

  gives : (fuel i x : ℕ) (c : Context) (x₀ : ℕ) (a : At W) → i < fuel → i < L.count → get_or L.order i 0 ≡ x → OverContext A.ranks c → fill K A c (starting K x₀) ≡ Some a → a.state ≡ x → Gives (path_over A L trees fuel x c) x₀
  gives zero i x c x₀ a enough low at h e s = absurd (omega arith)
  gives (suc fuel) i x c x₀ a enough low at h e s = go (A.accepting x) refl (λ o. gives fuel o.next o.rule.target (within_rule trees o.rule (lead_of L x).place c) x₀)
    where
      go : (b : Bool) → A.accepting x ≡ b → ((o : Onward A R L i x) (b : At W) → o.next < fuel → o.next < L.count → get_or L.order o.next 0 ≡ o.rule.target → OverContext A.ranks (within_rule trees o.rule (lead_of L x).place c) → fill K A (within_rule trees o.rule (lead_of L x).place c) (starting K x₀) ≡ Some b → b.state ≡ o.rule.target → Gives (path_over A L trees fuel o.rule.target (within_rule trees o.rule (lead_of L x).place c)) x₀) → Gives (path_over A L trees (suc fuel) x c) x₀
      go true f ih =
          let there : value K A c x₀ ≡ Some a.weight = rw (e, s, f) in
          subst (λ (d : Context). Gives d x₀) (sym (path_ends A R L lively trees (suc fuel) x c f)) (h, (a.weight, there))
      go false f ih =
          let o = onward A R L lively i x low at f in
          let m = fill_more i x o c x₀ a e s in
          subst (λ (d : Context). Gives d x₀) (sym (path_goes A R L lively trees fuel i x c o f)) (ih o m.0 (omega (arith, o.earlier)) (omega (arith, o.earlier)) o.target (over_more i x o c h) m.1 m.2)

  pub path_sign : A.states ≤ 48 → (x : ℕ) → Flagged (flags_of L) x → (s : Sign K A x) × (s.context ≡ path A L trees 48 x)
  path_sign few x f =
      let p = live_place A R L lively x f in
      let g = gives 48 p.0 x hole x (record { state = x; weight = K.one }) (omega (arith, p.1, lively.listed.bounded)) p.1 p.2 tt refl refl in
      (record { context = path A L trees 48 x; over = g.0; weight = g.1.0; gives = g.1.1 }, refl)
