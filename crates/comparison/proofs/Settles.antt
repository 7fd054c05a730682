-- Where every rule is clear, the known pairs are a complete exploration.
use Rattle.std.proofs.Common.{◌≡◌, ℕ, ◌<◌, Bool, true, false, cond, List, [], ◌∷◌, map, length, Some, None, Option, sym, refl, ap, ◌∙◌, subst, arith}
use Rattle.std.specs.List.{ContainsAt}
use Rattle.std.proofs.ByRecursion.{all_has_itself}
use Rattle.std.proofs.lemmas.Bool.{true≢false}
use Rattle.kinds.specs.Weights.{Weights}
use Rattle.automata.specs.Automata.{Transition, Automaton, find, Within, Sound}
use Rattle.automata.specs.Runs.{At, beside, applied, step}
use Rattle.automata.specs.Contexts.{Live}
use Rattle.automata.specs.Marking.{DecidesLive}
use Rattle.automata.specs.Comparing.{Exploration, Paired, ratios, Answered, Explored}
use Rattle.automata.proofs.Groups.{exchange, right_injective, cancel_left, unit_right}
use Rattle.automata.proofs.Finds.{find_symbol, find_children, find_all}
use Rattle.rules.specs.declared.side.Side.{Side}
use Rattle.rules.specs.declared.side.Side.TheVariants.{First, Second}
use Rattle.rules.specs.Running.{row_runs}
use Rattle.comparison.specs.Scanning.{Two, to_live, Even, Clears, Tuple, live_on, node_run, ClearRule}
use Rattle.comparison.specs.Exploring.{Entry, Pairing}

-- the ratio of two run weights
abbrev pub ratio_of : {W : Type 0} → Weights W → Option (At W) → Option (At W) → W
ratio_of K None y = K.one
ratio_of K (Some a) None = K.one
ratio_of K (Some a) (Some b) = K.times a.weight (K.inverse b.weight)

-- whether there is an entry, and the ratio of its run weights
abbrev pub is_known : Option ℕ → Bool
is_known None = false
is_known (Some e) = true

abbrev pub ratio_at : {W : Type 0} → Weights W → (Side → ℕ → Option (At W)) → Option ℕ → W
ratio_at K R None = K.one
ratio_at K R (Some e) = ratio_of K (R First e) (R Second e)

-- the known pairs, and the ratios of their entries
abbrev pub explored : {W : Type 0} → Weights W → (Side → ℕ → Option (At W)) → (ℕ → ℕ → Option ℕ) → Exploration W
explored K R N = record { found = λ p q. is_known (N p q); ratio = λ p q. ratio_at K R (N p q) }

-- the entry that there is
some_known : (o : Option ℕ) → is_known o ≡ true → (e : ℕ) × (o ≡ Some e)
some_known None h = absurd (true≢false (sym h))
some_known (Some e) h = (e, refl)

-- a run to a live state
pub to_live_some : {W : Type 0} (live : ℕ → Bool) (o : Option (At W)) (a : At W) → to_live live o ≡ Some a → (o ≡ Some a) × (live a.state ≡ true)
to_live_some live None a e = let z : ◌≡◌ {A = ℕ} 0 1 = cc in absurd (omega arith)
to_live_some live (Some b) a e = at (live b.state) refl e
  where
    at : (t : Bool) → live b.state ≡ t → cond t (Some b) None ≡ Some a → (Some b ≡ Some a) × (live a.state ≡ true)
    at true h k = (k, (let s : b ≡ a = cc in ap (λ x. live x.state) (sym s) ∙ h))
    at false h k = let z : ◌≡◌ {A = ℕ} 0 1 = cc in absurd (omega arith)

pub to_live_none : {W : Type 0} (live : ℕ → Bool) (o : Option (At W)) → to_live live o ≡ None → (b : At W) → o ≡ Some b → live b.state ≡ false
to_live_none live None e b h = let z : ◌≡◌ {A = ℕ} 0 1 = cc in absurd (omega arith)
to_live_none live (Some a) e b h = at (live a.state) refl e
  where
    at : (t : Bool) → live a.state ≡ t → cond t (Some a) None ≡ None → live b.state ≡ false
    at true k i = let z : ◌≡◌ {A = ℕ} 0 1 = cc in absurd (omega arith)
    at false k i = let s : a ≡ b = cc in ap (λ x. live x.state) (sym s) ∙ k

to_live_is : {W : Type 0} (live : ℕ → Bool) (o : Option (At W)) (a : At W) → o ≡ Some a → live a.state ≡ true → to_live live o ≡ Some a
to_live_is live o a e l = ap (to_live live) e ∙ ap (λ t. cond t (Some a) None) l

-- what a rule that is applied has
applied_some : {W : Type 0} (K : Weights W) (w : W) (o : Option (Transition W)) (a : At W) → applied K w o ≡ Some a → (r : Transition W) × (o ≡ Some r) × (a ≡ record { state = r.target; weight = K.times w r.weight })
applied_some K w None a e = let z : ◌≡◌ {A = ℕ} 0 1 = cc in absurd (omega arith)
applied_some K w (Some r) a e = (r, refl, cc)

-- both runs are there if one is
clears_first : {W : Type 0} (K : Weights W) (R : Side → ℕ → Option (At W)) (N : ℕ → ℕ → Option ℕ) (x y : Option (At W)) (a : At W) → x ≡ Some a → Clears K R N x y → (b : At W) × (y ≡ Some b) × (e : ℕ) × (N a.state b.state ≡ Some e) × Even K R e a.weight b.weight
clears_first K R N None y a h c = let z : ◌≡◌ {A = ℕ} 0 1 = cc in absurd (omega arith)
clears_first K R N (Some x) None a h c = absurd c
clears_first K R N (Some x) (Some b) a h c =
    let s : x ≡ a = cc in
    subst (λ (z : At _). (d : At _) × (Some b ≡ Some d) × (e : ℕ) × (N z.state d.state ≡ Some e) × Even K R e z.weight d.weight) s (b, refl, c.0, c.1, c.2)

clears_second : {W : Type 0} (K : Weights W) (R : Side → ℕ → Option (At W)) (N : ℕ → ℕ → Option ℕ) (x y : Option (At W)) (b : At W) → y ≡ Some b → Clears K R N x y → (a : At W) × (x ≡ Some a)
clears_second K R N None None b h c = let z : ◌≡◌ {A = ℕ} 0 1 = cc in absurd (omega arith)
clears_second K R N None (Some y) b h c = absurd c
clears_second K R N (Some a) y b h c = (a, refl)

module _ {W : Type 0} (K : Weights W) where
  -- v = (v w⁻¹) w
  ratio_back : (v w : W) → v ≡ K.times (K.times v (K.inverse w)) w
  ratio_back v w = sym (unit_right K v) ∙ ap (K.times v) (sym (cancel_left K w)) ∙ sym (K.assoc v (K.inverse w) w)

  -- from v = c w and (v r) y = x (w s): (x y⁻¹) s = c r
  recorded_ratio : (c v w r s x y : W) → v ≡ K.times c w → K.times (K.times v r) y ≡ K.times x (K.times w s) → K.times (K.times x (K.inverse y)) s ≡ K.times c r
  recorded_ratio c v w r s x y v-is even =
      let x_is = ratio_back x y in
      let d = K.times x (K.inverse y) in
      right_injective K (K.times w y) (K.times d s) (K.times c r)
      (exchange K d s w y ∙ ap (λ z. K.times (K.times d w) z) (K.comm s y) ∙ exchange K d w y s ∙ ap (λ z. K.times z (K.times w s)) (sym x_is) ∙ sym even
      ∙ ap (λ z. K.times (K.times z r) y) v-is ∙ ap (λ z. K.times z y) (K.assoc c w r ∙ ap (K.times c) (K.comm w r) ∙ sym (K.assoc c r w)) ∙ K.assoc (K.times c r) w y)

  module _ (T : Two W) (R : Side → ℕ → Option (At W)) (N : ℕ → ℕ → Option ℕ) (base len : ℕ) (pairing : Pairing T R N base len) where
    abbrev E : Exploration W
    E = explored K R N

    known : (p q : ℕ) → E.found p q ≡ true → (e : ℕ) × (N p q ≡ Some e)
    known p q e = some_known (N p q) e

    entry_of : (p q : ℕ) (e : E.found p q ≡ true) → Entry T R (known p q e).0 p q
    entry_of p q e = (pairing.numbered p q (known p q e).0 (known p q e).1).2

    found_of : (p q e : ℕ) → N p q ≡ Some e → E.found p q ≡ true
    found_of p q e h = ap is_known h

    ratio_is : (p q e : ℕ) (entry : Entry T R e p q) → N p q ≡ Some e → E.ratio p q ≡ K.times entry.first_weight (K.inverse entry.second_weight)
    ratio_is p q e entry h =
        ap (ratio_at K R) h
        ∙ ap (λ o. ratio_of K o (R Second e)) entry.first_run
        ∙ ap (ratio_of K (Some (record { state = p; weight = entry.first_weight }))) entry.second_run

    -- entries with these pairs, their rows of runs, and the ratio of the two products
    record MetRow (ps qs : List ℕ) : Type 0 where
      es : List ℕ
      first_tuple : Tuple First N ps es
      second_tuple : Tuple Second N qs es
      v : W
      w : W
      first_row : row_runs K (map (R First) es) ≡ Some (record { states = ps; weight = v })
      second_row : row_runs K (map (R Second) es) ≡ Some (record { states = qs; weight = w })
      weighs : v ≡ K.times (ratios K E ps qs) w

    met_row : (ps qs : List ℕ) → Paired E ps qs → MetRow ps qs
    met_row [] [] h = record { es = []; first_tuple = tt; second_tuple = tt; v = K.one; w = K.one; first_row = refl; second_row = refl; weighs = sym (K.unit K.one) }
    met_row [] (q ∷ qs) h = absurd h
    met_row (p ∷ ps) [] h = absurd h
    met_row (p ∷ ps) (q ∷ qs) h =
        let e = (known p q h.0).0 in
        let entry = entry_of p q h.0 in
        let rest = met_row ps qs h.1 in
        let a : At W = record { state = p; weight = entry.first_weight } in
        let b : At W = record { state = q; weight = entry.second_weight } in
        record {
          es = e ∷ rest.es;
          first_tuple = ((q, (known p q h.0).1), rest.first_tuple);
          second_tuple = ((p, (known p q h.0).1), rest.second_tuple);
          v = K.times entry.first_weight rest.v;
          w = K.times entry.second_weight rest.w;
          first_row = ap (λ o. beside K o (row_runs K (map (R First) rest.es))) entry.first_run ∙ ap (beside K (Some a)) rest.first_row;
          second_row = ap (λ o. beside K o (row_runs K (map (R Second) rest.es))) entry.second_run ∙ ap (beside K (Some b)) rest.second_row;
          weighs =
              let one : entry.first_weight ≡ K.times (E.ratio p q) entry.second_weight =
              ratio_back entry.first_weight entry.second_weight ∙ ap (λ z. K.times z entry.second_weight) (sym (ratio_is p q e entry (known p q h.0).1)) in
              let two = rest.weighs in
              let three = exchange K (E.ratio p q) entry.second_weight (ratios K E ps qs) rest.w in
              cc;
        }

    -- every rule is clear
    module _ (clear_first : (r : Transition W) → ContainsAt T.first.rules r → ClearRule K T R N First r) (clear_second : (r : Transition W) → ContainsAt T.second.rules r → ClearRule K T R N Second r) (same : T.first.ranks ≡ T.second.ranks) (live₁ : DecidesLive K T.first T.first_live) (live₂ : DecidesLive K T.second T.second_live) (sound₁ : Sound T.first) (sound₂ : Sound T.second) where
      -- the run of the first rule over the row, and of the second
      ran : (A : Automaton W) (live : ℕ → Bool) (f : ℕ → Option (At W)) (s : ℕ) (es ps : List ℕ) (v : W) (r : Transition W) → row_runs K (map f es) ≡ Some (record { states = ps; weight = v }) → find A.rules s ps ≡ Some r → live r.target ≡ true → to_live live (step K A s (row_runs K (map f es))) ≡ Some (record { state = r.target; weight = K.times v r.weight })
      ran A live f s es ps v r row there l =
          to_live_is live (step K A s (row_runs K (map f es))) (record { state = r.target; weight = K.times v r.weight }) (ap (step K A s) row ∙ ap (applied K v) there) l

      -- a run to a live state comes by a rule to a live state
      record Comes (A : Automaton W) (live : ℕ → Bool) (s : ℕ) (ps : List ℕ) (v : W) (a : At W) : Type 0 where
        rule : Transition W
        there : find A.rules s ps ≡ Some rule
        is : a ≡ record { state = rule.target; weight = K.times v rule.weight }
        is_live : live rule.target ≡ true

      comes : (A : Automaton W) (live : ℕ → Bool) (f : ℕ → Option (At W)) (s : ℕ) (es ps : List ℕ) (v : W) (a : At W) → row_runs K (map f es) ≡ Some (record { states = ps; weight = v }) → to_live live (step K A s (row_runs K (map f es))) ≡ Some a → Comes A live s ps v a
      comes A live f s es ps v a row e =
          let l = to_live_some live (step K A s (row_runs K (map f es))) a e in
          let d = applied_some K v (find A.rules s ps) a (sym (ap (step K A s) row) ∙ l.0) in
          record { rule = d.0; there = d.1; is = d.2; is_live = ap (λ (x : At W). live x.state) (sym d.2) ∙ l.1 }

      -- the rule that is found is clear, at its symbol and its children
      clear_found : (side : Side) (A : Automaton W) (live : ℕ → Bool) → ((r : Transition W) → ContainsAt A.rules r → ClearRule K T R N side r) → live_on T side ≡ live → Sound A → A.ranks ≡ T.first.ranks → (s : ℕ) (ps es : List ℕ) (r : Transition W) → find A.rules s ps ≡ Some r → live r.target ≡ true → Tuple side N ps es → Clears K R N (node_run K T R First s es) (node_run K T R Second s es)
      clear_found side A live clear l-is sound ranks s ps es r there l tuple =
          let has = find_all (ContainsAt A.rules) A.rules s ps r (all_has_itself A.rules) there in
          let within = find_all (Within A.ranks A.states) A.rules s ps r sound.within there in
          let s_is = find_symbol A.rules s ps r there in
          let ps_is = find_children A.rules s ps r there in
          let low : r.symbol < length T.first.ranks = subst (λ (rs : List ℕ). r.symbol < length rs) ranks within.symbol_within in
          subst (λ (k : ℕ). Clears K R N (node_run K T R First k es) (node_run K T R Second k es)) s_is
          (clear r has low (ap (λ (f : ℕ → Bool). f r.target) l-is ∙ l) es (subst (λ (qs : List ℕ). Tuple side N qs es) (sym ps_is) tuple))

      forth : (s : ℕ) (ps qs : List ℕ) (r : Transition W) → Paired E ps qs → find T.first.rules s ps ≡ Some r → Live K T.first r.target → Answered K T.second E s ps qs r
      forth s ps qs r paired there l =
          let row = met_row ps qs paired in
          let flag : T.first_live r.target ≡ true = (live₁ r.target).1 l in
          let clears = clear_found First T.first T.first_live clear_first refl sound₁ refl s ps row.es r there flag row.first_tuple in
          let both = clears_first K R N (node_run K T R First s row.es) (node_run K T R Second s row.es) (record { state = r.target; weight = K.times row.v r.weight }) (ran T.first T.first_live (R First) s row.es ps row.v r row.first_row there flag) clears in
          answered row both.0 both.2 both.3 both.4 (comes T.second T.second_live (R Second) s row.es qs row.w both.0 row.second_row both.1)
        where
          answered : (row : MetRow ps qs) (b : At W) (e : ℕ) → N r.target b.state ≡ Some e → Even K R e (K.times row.v r.weight) b.weight → Comes T.second T.second_live s qs row.w b → Answered K T.second E s ps qs r
          answered row b e number even come =
              let o = come.rule in
              let number' : N r.target o.target ≡ Some e = ap (λ (x : At W). N r.target x.state) (sym come.is) ∙ number in
              let entry = (pairing.numbered r.target o.target e number').2 in
              let even' : K.times (K.times row.v r.weight) entry.second_weight ≡ K.times entry.first_weight (K.times row.w o.weight) =
              even (record { state = r.target; weight = entry.first_weight }) (record { state = o.target; weight = entry.second_weight }) entry.first_run entry.second_run ∙ ap (λ (x : At W). K.times entry.first_weight x.weight) come.is in
              record {
                other = o;
                there = come.there;
                live_target = (live₂ o.target).0 come.is_live;
                target_found = found_of r.target o.target e number';
                recorded = ap (λ z. K.times z o.weight) (ratio_is r.target o.target e entry number')
                    ∙ recorded_ratio (ratios K E ps qs) row.v row.w r.weight o.weight entry.first_weight entry.second_weight row.weighs even';
              }

      back : (s : ℕ) (ps qs : List ℕ) (r : Transition W) → Paired E ps qs → find T.second.rules s qs ≡ Some r → Live K T.second r.target → (o : Transition W) × (find T.first.rules s ps ≡ Some o) × Live K T.first o.target
      back s ps qs r paired there l =
          let row = met_row ps qs paired in
          let flag : T.second_live r.target ≡ true = (live₂ r.target).1 l in
          let clears = clear_found Second T.second T.second_live clear_second refl sound₂ (sym same) s qs row.es r there flag row.second_tuple in
          let other = clears_second K R N (node_run K T R First s row.es) (node_run K T R Second s row.es) (record { state = r.target; weight = K.times row.w r.weight }) (ran T.second T.second_live (R Second) s row.es qs row.w r row.second_row there flag) clears in
          let come = comes T.first T.first_live (R First) s row.es ps row.v other.0 row.first_row other.1 in
          (come.rule, come.there, (live₁ come.rule.target).0 come.is_live)

      pub settled : Explored K T.first T.second E
      settled = record {
        forth = forth;
        back = back;
        agree = λ p q e. (entry_of p q e).agree;
        agree_one = λ p q e accepts.
            let entry = entry_of p q e in
            ratio_is p q (known p q e).0 entry (known p q e).1 ∙ ap (λ z. K.times z (K.inverse entry.second_weight)) (entry.agree_one accepts) ∙ K.cancel entry.second_weight;
      }
