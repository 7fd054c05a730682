-- States with the same signs of life accept alike, and a rule for one has a counterpart for the other whose target has the same signs.
use Rattle.std.proofs.Common.{◌≡◌, ℕ, Bool, true, false, cond, ◌↔◌, List, ◌∷◌, ◌++◌, length, Some, None, Option, sym, refl, ap, ◌∙◌, arith}
use Rattle.std.specs.List.{AllByRecursion}
use Rattle.std.proofs.ByRecursion.{All-weaker}
use Rattle.std.proofs.lemmas.List.{length-append}
use Rattle.kinds.specs.Weights.{Weights}
use Rattle.automata.specs.Trees.{rank}
use Rattle.automata.specs.Automata.{Transition, Automaton, find, Within, Sound}
use Rattle.automata.specs.Runs.{applied}
use Rattle.automata.specs.Contexts.{Context, hole, under, OverContext, fill, starting, value, scaled, Reachable, Sign, Live}
use Rattle.automata.specs.Pushing.{given}
use Rattle.automata.specs.Marking.{SameSigns}
use Rattle.automata.proofs.Finds.{find_symbol, find_children, find_all, find_rank}
use Rattle.automata.proofs.Plugs.{nested, over_nested, value_nested}
use Rattle.automata.proofs.Lives.{reachable_fill}
use Rattle.automata.proofs.Rows.{all_before, all_after, Access, access, place}

-- a multiple is nothing only if what was multiplied is
pub scaled_none : {W : Type 0} (K : Weights W) (a : W) (o : Option W) → scaled K a o ≡ None → o ≡ None
scaled_none K a None e = refl
scaled_none K a (Some w) e = let z : ◌≡◌ {A = ℕ} 0 1 = cc in absurd (omega arith)

module _ {W : Type 0} (K : Weights W) (A : Automaton W) where
  -- the symbol s over trees that have the states before, the hole, and trees that have the states after
  abbrev pub among : (s : ℕ) (before after : List ℕ) → Access K A before → Access K A after → Context
  among s before after i j = under s i.row hole j.row

  -- the run weight of those trees
  abbrev pub around : (before after : List ℕ) → Access K A before → Access K A after → W
  around before after i j = K.times i.weight (K.times K.one j.weight)

  pub fill_among : (s : ℕ) (before after : List ℕ) (i : Access K A before) (j : Access K A after) (p : ℕ)
      → fill K A (among s before after i j) (starting K p) ≡ applied K (around before after i j) (find A.rules s (before ++ p ∷ after))
  fill_among s before after i j p =
      place K A s i.row j.row (record { states = before; weight = i.weight }) (record { states = after; weight = j.weight }) (record { state = p; weight = K.one }) i.runs_to j.runs_to

  pub value_among : (c : Context) (s : ℕ) (before after : List ℕ) (i : Access K A before) (j : Access K A after) (p : ℕ)
      → value K A (nested c (among s before after i j)) p ≡ given K A c (applied K (around before after i j) (find A.rules s (before ++ p ∷ after)))
  value_among c s before after i j p = value_nested K A c (among s before after i j) p ∙ ap (given K A c) (fill_among s before after i j p)

  -- the trees beside one child place of a rule whose children are live
  pub accesses : (s : ℕ) (before after : List ℕ) (p : ℕ) (r : Transition W) → find A.rules s (before ++ p ∷ after) ≡ Some r → AllByRecursion (Live K A) r.children → Access K A before × Access K A after
  accesses s before after p r e lives =
      let all : AllByRecursion (Live K A) (before ++ p ∷ after) = rw (find_children A.rules s (before ++ p ∷ after) r e) at lives in
      let reach : AllByRecursion (Reachable K A) (before ++ p ∷ after) = All-weaker (Live K A) (Reachable K A) (λ x y. y.reachable) (before ++ p ∷ after) all in
      (access K A before (all_before (Reachable K A) before (p ∷ after) reach), access K A after (all_after (Reachable K A) before (p ∷ after) reach).1)

  module _ (sound : Sound A) (s : ℕ) (before after : List ℕ) (i : Access K A before) (j : Access K A after) (p : ℕ) (r : Transition W) (e : find A.rules s (before ++ p ∷ after) ≡ Some r) where
    pub over_among : OverContext A.ranks (among s before after i j)
    over_among =
        let w : Within A.ranks A.states r = find_all (Within A.ranks A.states) A.rules s (before ++ p ∷ after) r sound.within e in
        let x : r.symbol ≡ s = find_symbol A.rules s (before ++ p ∷ after) r e in
        let z : length (before ++ p ∷ after) ≡ rank A.ranks s = find_rank A sound s (before ++ p ∷ after) r e in
        let m = i.as_many in
        let n = j.as_many in
        (rw x at w.symbol_within, omega (arith, simp length-append at z), i.over, tt, j.over)

    module _ (q : ℕ) (same : SameSigns K A p q) where
      -- where what is found for q gives nothing above those trees, the target of r gives nothing
      among_nothing : (c : Context) → OverContext A.ranks c → given K A c (applied K (around before after i j) (find A.rules s (before ++ q ∷ after))) ≡ None → value K A c r.target ≡ None
      among_nothing c o h =
          let w = around before after i j in
          let d = nested c (among s before after i j) in
          let n : value K A d p ≡ None = (same d (over_nested A.ranks c (among s before after i j) o over_among)).1 (value_among c s before after i j q ∙ h) in
          scaled_none K (K.times w r.weight) (value K A c r.target) (sym (value_among c s before after i j p ∙ ap (λ x. given K A c (applied K w x)) e) ∙ n)

      pub rule_among : Sign K A r.target → Reachable K A q → (r' : Transition W) × (find A.rules s (before ++ q ∷ after) ≡ Some r') × Live K A r'.target
      rule_among g reach = at (find A.rules s (before ++ q ∷ after)) refl (among_nothing g.context g.over)
        where
          w : W
          w = around before after i j

          clash : value K A g.context r.target ≡ None → ⊥
          clash n = let m = g.gives in let z : ◌≡◌ {A = ℕ} 0 1 = cc in omega arith

          at : (o : Option (Transition W)) → find A.rules s (before ++ q ∷ after) ≡ o → (given K A g.context (applied K (around before after i j) o) ≡ None → value K A g.context r.target ≡ None)
              → (r' : Transition W) × (o ≡ Some r') × Live K A r'.target
          at None f h = absurd (clash (h refl))
          at (Some r') f h = (
            r',
            refl,
            record {
              reachable = reachable_fill K A (among s before after i j) q (record { state = r'.target; weight = K.times w r'.weight }) over_among reach (fill_among s before after i j q ∙ ap (applied K w) f);
              sign = sign (value K A g.context r'.target) refl;
            },
          )
            where
              sign : (v : Option W) → value K A g.context r'.target ≡ v → Sign K A r'.target
              sign None k = absurd (clash (h (ap (scaled K (K.times w r'.weight)) k)))
              sign (Some v) k = record { context = g.context; over = g.over; weight = v; gives = k }

      target_nothing : (r' : Transition W) → find A.rules s (before ++ q ∷ after) ≡ Some r' → (c : Context) → OverContext A.ranks c → value K A c r'.target ≡ None → value K A c r.target ≡ None
      target_nothing r' f c o h =
          let w = around before after i j in
          among_nothing c o (ap (λ x. given K A c (applied K w x)) f ∙ ap (scaled K (K.times w r'.weight)) h)

  pub signs_back : (p q : ℕ) → SameSigns K A p q → SameSigns K A q p
  signs_back p q same c o = ((same c o).1, (same c o).0)

  pub signs_onward : (p q r : ℕ) → SameSigns K A p q → SameSigns K A q r → SameSigns K A p r
  signs_onward p q r f g c o = ((λ h. (g c o).0 ((f c o).0 h)), (λ h. (f c o).1 ((g c o).1 h)))

  pub signs_accepting : (p q : ℕ) → SameSigns K A p q → A.accepting p ≡ A.accepting q
  signs_accepting p q same = at (A.accepting p) (A.accepting q) (same hole tt)
    where
      at : (b d : Bool) → (cond b (Some K.one) None ≡ None) ↔ (cond d (Some K.one) None ≡ None) → b ≡ d
      at true true h = refl
      at true false h = let k = h.1 refl in let z : ◌≡◌ {A = ℕ} 0 1 = cc in absurd (omega arith)
      at false true h = let k = h.0 refl in let z : ◌≡◌ {A = ℕ} 0 1 = cc in absurd (omega arith)
      at false false h = refl

  module _ (sound : Sound A) (s : ℕ) (before after : List ℕ) (p q : ℕ) (r : Transition W) (e : find A.rules s (before ++ p ∷ after) ≡ Some r) (lives : AllByRecursion (Live K A) r.children) (same : SameSigns K A p q) where
    -- the counterpart of a rule with live states
    pub signs_rule : Live K A r.target → Live K A q → (r' : Transition W) × (find A.rules s (before ++ q ∷ after) ≡ Some r') × Live K A r'.target
    signs_rule target l =
        let t = accesses s before after p r e lives in
        rule_among sound s before after t.0 t.1 p r e q same target.sign l.reachable

    pub signs_targets : (r' : Transition W) → find A.rules s (before ++ q ∷ after) ≡ Some r' → SameSigns K A r.target r'.target
    signs_targets r' f c o =
        let t = accesses s before after p r e lives in
        (target_nothing sound s before after t.0 t.1 q r' f p (signs_back p q same) r e c o, target_nothing sound s before after t.0 t.1 p r e q same r' f c o)
