-- Rules that stay clear while pairs are found over other states.
use Rattle.std.proofs.Common.{◌≡◌, ℕ, suc, ◌<◌, ◌≤◌, Bool, true, List, [], ◌∷◌, map, length, get_or, Some, None, Option, sym, refl, ap, ◌∙◌, ap₂, ⊎_elim, arith}
use Rattle.std.specs.List.{list_all, range_with_len}
use Rattle.std.proofs.lemmas.List.FromFn.{length-range_with_len, get_or-range_with_len}
use Rattle.std.proofs.lemmas.List.Folds.{list_all_at}
use Rattle.std.proofs.lemmas.Bool.{cases_Bool, both_ways, ltb-true}
use Rattle.kinds.specs.Weights.{Weights}
use Rattle.automata.specs.Automata.{Transition}
use Rattle.automata.specs.Runs.{At, step}
use Rattle.rules.specs.declared.side.Side.{Side}
use Rattle.rules.specs.declared.side.Side.TheVariants.{First, Second}
use Rattle.rules.specs.Running.{row_runs}
use Rattle.comparison.specs.Scanning.{Two, is_before, early_pairs, of_side, other_side, to_live, live_on, number_by, Clears, Tuple, node_run, PairsWithin, ClearRule, Rested, ClearSince}
use Rattle.comparison.specs.Exploring.{Grown}
use Rattle.comparison.proofs.Judgments.{judged_same}
use Rattle.comparison.proofs.Tuples.{below_others}

-- where all pass, each does
holds_at : {X : Type 0} (test : X → Bool) (xs : List X) (i : ℕ) (d : X) → list_all test xs ≡ true → i < length xs → test (get_or xs i d) ≡ true
holds_at test xs i d all h = ⊎_elim (λ t. t) (λ f. absurd (both_ways (list_all test xs) (list_all_at test xs i d h f) all)) (cases_Bool (test (get_or xs i d)))

-- a known entry that is tested is early
before_is : (o : Option ℕ) (m e : ℕ) → is_before o m ≡ true → o ≡ Some e → e < m
before_is None m e h known = let z : ◌≡◌ {A = ℕ} 0 1 = cc in absurd (omega arith)
before_is (Some x) m e h known = let same : x ≡ e = cc in omega (arith, ltb-true x m h)

pub rested_by : {W : Type 0} (T : Two W) (side : Side) (N : ℕ → ℕ → Option ℕ) (m : ℕ) (ps : List ℕ) → PairsWithin T N → list_all (early_pairs side N m (of_side T (other_side side)).states) ps ≡ true → Rested side N m ps
rested_by T side N m ps within h k l q e known =
    let n = (of_side T (other_side side)).states in
    let p = get_or ps k 0 in
    let low : q < n = below_others T N within side p q e known in
    let test = λ (i : ℕ). is_before (number_by side N p i) m in
    let early : list_all test (range_with_len 0 n) ≡ true = holds_at (early_pairs side N m n) ps k 0 h l in
    let here : test (get_or (range_with_len 0 n) q 0) ≡ true = holds_at test (range_with_len 0 n) q 0 early (omega (arith, length-range_with_len 0 n)) in
    let there : get_or (range_with_len 0 n) q 0 ≡ q = get_or-range_with_len 0 n q 0 low ∙ (omega arith) in
    before_is (number_by side N p q) m e (ap test (sym there) ∙ here) known

module _ {W : Type 0} (K : Weights W) (T : Two W) (R R' : Side → ℕ → Option (At W)) (N N' : ℕ → ℕ → Option ℕ) (len : ℕ) (grown : Grown R R' N N' len) where
  known_by : (side : Side) (p q e : ℕ) → number_by side N p q ≡ Some e → (e < len) × (number_by side N' p q ≡ Some e)
  known_by First p q e h = grown.known p q e h
  known_by Second p q e h = grown.known q p e h

  earlier_by : (side : Side) (p q e : ℕ) → number_by side N' p q ≡ Some e → e < len → number_by side N p q ≡ Some e
  earlier_by First p q e h = grown.earlier p q e h
  earlier_by Second p q e h = grown.earlier q p e h

  rested_before : (side : Side) (m : ℕ) (ps : List ℕ) → Rested side N' m ps → Rested side N m ps
  rested_before side m ps rested k h q e known = rested k h q e (known_by side (get_or ps k 0) q e known).1

  -- tuples over states with early pairs only were there before
  tuple_before : (side : Side) (m : ℕ) → m ≤ len → (ps es : List ℕ) → Rested side N' m ps → Tuple side N' ps es → Tuple side N ps es
  tuple_before side m low [] [] rested t = tt
  tuple_before side m low [] (e ∷ es) rested t = absurd t
  tuple_before side m low (p ∷ ps) [] rested t = absurd t
  tuple_before side m low (p ∷ ps) (e ∷ es) rested t =
      let q = t.0.0 in
      let early : e < m = rested 0 (omega arith) q e t.0.1 in
      ((q, earlier_by side p q e t.0.1 (omega arith)), tuple_before side m low ps es (λ k h. rested (suc k) (omega arith)) t.1)

  tuple_runs : (side other : Side) (ps es : List ℕ) → Tuple side N ps es → map (R' other) es ≡ map (R other) es
  tuple_runs side other [] [] t = refl
  tuple_runs side other [] (e ∷ es) t = absurd t
  tuple_runs side other (p ∷ ps) [] t = absurd t
  tuple_runs side other (p ∷ ps) (e ∷ es) t =
      ap₂ ◌∷◌ (grown.runs other e (known_by side p t.0.0 e t.0.1).0) (tuple_runs side other ps es t.1)

  clears_kept : (x y : Option (At W)) → Clears K R N x y → Clears K R' N' x y
  clears_kept None None c = tt
  clears_kept None (Some b) c = absurd c
  clears_kept (Some a) None c = absurd c
  clears_kept (Some a) (Some b) c =
      let k = grown.known a.state b.state c.0 c.1 in
      (c.0, k.1, λ f g i j. c.2 f g (sym (grown.runs First c.0 k.0) ∙ i) (sym (grown.runs Second c.0 k.0) ∙ j))

  rule_kept : (side : Side) (r : Transition W) (m : ℕ) → m ≤ len → Rested side N' m r.children → ClearRule K T R N side r → ClearRule K T R' N' side r
  rule_kept side r m low rested clear within live es tuple =
      let before = tuple_before side m low r.children es rested tuple in
      let s = r.symbol in
      judged_same K R' N' (node_run K T R First s es) (node_run K T R' First s es) (node_run K T R Second s es) (node_run K T R' Second s es) None (run_same First before) (run_same Second before)
      (clears_kept (node_run K T R First s es) (node_run K T R Second s es) (clear within live es before))
    where
      run_same : (other : Side) → Tuple side N r.children es → node_run K T R other r.symbol es ≡ node_run K T R' other r.symbol es
      run_same other t = ap (λ xs. to_live (live_on T other) (step K (of_side T other) r.symbol (row_runs K xs))) (sym (tuple_runs side other r.children es t))

  pub since_kept : (m i j : ℕ) → m ≤ len → ClearSince K T R N m i j → ClearSince K T R' N' m i j
  since_kept m i j low clear = record {
    first_clear = λ k r h e rested. rule_kept First r m low rested (clear.first_clear k r h e (rested_before First m r.children rested));
    second_clear = λ k r h e rested. rule_kept Second r m low rested (clear.second_clear k r h e (rested_before Second m r.children rested));
  }
