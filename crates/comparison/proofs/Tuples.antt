-- Filling the places of a node one by one, with every known pair in its turn.
use Rattle.std.proofs.Common.{◌≡◌, ℕ, zero, suc, ◌+◌, ◌<◌, ◌≤◌, false, List, [], ◌∷◌, ◌++◌, length, get_or, set, Some, None, Option, sym, refl, ap, ◌∙◌, subst, ⊎_elim, arith}
use Rattle.std.specs.Option.{is_some}
use Rattle.std.proofs.lemmas.List.{append-nil, append_assoc, length-set, get_or-set_same, get_or-set_other}
use Rattle.std.proofs.lemmas.Bool.{cases_eq, true≢false}
use Rattle.kinds.specs.Weights.{Weights}
use Rattle.automata.specs.Runs.{At}
use Rattle.trees.specs.declared.node.Node.{Node}
use Rattle.rules.specs.declared.side.Side.{Side}
use Rattle.rules.specs.declared.side.Side.TheVariants.{First, Second}
use Rattle.comparison.specs.Scanning.{Two, of_side, other_side, number_by, PairsWithin, Said, ClearOver, Filled}

pub absent : {X : Type 0} (o : Option X) → is_some o ≡ false → o ≡ None
absent None e = refl
absent (Some x) e = absurd (true≢false e)

pub empty : {X : Type 0} (xs : List X) → length xs ≡ 0 → xs ≡ []
empty [] e = refl
empty (x ∷ xs) e = absurd (omega arith)

-- one place more
pub filled_more : (N : ℕ → ℕ → Option ℕ) (place e p q : ℕ) (n m : Node) → place < length n.children → m.children ≡ set n.children place e → N p q ≡ Some e → Filled N place n → Filled N (place + 1) m
filled_more N place e p q n m room is known f = record {
  four = ap length is ∙ length-set n.children place e ∙ f.four;
  entries = λ k h. ⊎_elim
      (λ same.
      let here : get_or m.children k 0 ≡ e = ap (λ l. get_or l k 0) is ∙ ap (λ j. get_or (set n.children place e) j 0) same ∙ get_or-set_same n.children place e 0 room in
      (p, q, known ∙ ap Some (sym here)))
      (λ apart.
      let there : get_or m.children k 0 ≡ get_or n.children k 0 = ap (λ l. get_or l k 0) is ∙ get_or-set_other n.children place k e 0 apart in
      let old = f.entries k (omega arith) in
      (old.0, old.1, old.2 ∙ ap Some (sym there))) (cases_eq k place);
  padded = λ k h l. ap (λ cs. get_or cs k 0) is ∙ get_or-set_other n.children place k e 0 (λ same. omega arith) ∙ f.padded k (omega arith) l;
}

pub filled_by : (N : ℕ → ℕ → Option ℕ) (side : Side) (place e p q : ℕ) (n m : Node) → place < length n.children → m.children ≡ set n.children place e → number_by side N p q ≡ Some e → Filled N place n → Filled N (place + 1) m
filled_by N First place e p q n m room is known f = filled_more N place e p q n m room is known f
filled_by N Second place e p q n m room is known f = filled_more N place e q p n m room is known f

pub below_others : {W : Type 0} (T : Two W) (N : ℕ → ℕ → Option ℕ) → PairsWithin T N → (side : Side) (p q e : ℕ) → number_by side N p q ≡ Some e → q < (of_side T (other_side side)).states
below_others T N within First p q e known = (within p q e known).1
below_others T N within Second p q e known = (within q p e known).0

module _ {W : Type 0} (K : Weights W) (T : Two W) (R : Side → ℕ → Option (At W)) (N : ℕ → ℕ → Option ℕ) (side : Side) (s : ℕ) where
  -- clear with every pair of p and a state below n
  abbrev pub EachClear : List ℕ → ℕ → List ℕ → ℕ → Type 0
  EachClear before p ps n = (q e : ℕ) → q < n → number_by side N p q ≡ Some e → ClearOver K T R N side s (before ++ e ∷ []) ps

  pub each_more : (before : List ℕ) (p : ℕ) (ps : List ℕ) (n : ℕ) → ((e : ℕ) → number_by side N p n ≡ Some e → ClearOver K T R N side s (before ++ e ∷ []) ps) → EachClear before p ps n → EachClear before p ps (n + 1)
  each_more before p ps n here each q e h known =
      ⊎_elim (λ same. here e (ap (number_by side N p) (sym same) ∙ known)) (λ apart. each q e (omega arith) known) (cases_eq q n)

  pub each_all : PairsWithin T N → (before : List ℕ) (p : ℕ) (ps : List ℕ) (n : ℕ) → (of_side T (other_side side)).states ≤ n → EachClear before p ps n → ClearOver K T R N side s before (p ∷ ps)
  each_all within before p ps n h each [] t = absurd t
  each_all within before p ps n h each (e ∷ es) t =
      let q = t.0.0 in
      let low : q < (of_side T (other_side side)).states = below_others T N within side p q e t.0.1 in
      subst (λ (xs : List ℕ). Said K T R N s xs None) (append_assoc before (e ∷ []) es) (each q e (omega arith) t.0.1 es t.1)

  pub over_none : (before : List ℕ) → Said K T R N s before None → ClearOver K T R N side s before []
  over_none before said [] t = subst (λ (xs : List ℕ). Said K T R N s xs None) (sym (append-nil before)) said
  over_none before said (x ∷ es) t = absurd t

  -- the pair of p and q is that of the entry o
  pub each_here : (before : List ℕ) (p q o : ℕ) (ps : List ℕ) → number_by side N p q ≡ Some o → ClearOver K T R N side s (before ++ o ∷ []) ps → (e : ℕ) → number_by side N p q ≡ Some e → ClearOver K T R N side s (before ++ e ∷ []) ps
  each_here before p q o ps here clear e known =
      let both : Some o ≡ Some e = sym here ∙ known in
      let same : o ≡ e = cc in
      subst (λ (x : ℕ). ClearOver K T R N side s (before ++ x ∷ []) ps) same clear

  pub each_none : (before : List ℕ) (p q : ℕ) (ps : List ℕ) → number_by side N p q ≡ None → (e : ℕ) → number_by side N p q ≡ Some e → ClearOver K T R N side s (before ++ e ∷ []) ps
  each_none before p q ps none e known =
      let both : ◌≡◌ {A = Option ℕ} None (Some e) = sym none ∙ known in
      let z : ◌≡◌ {A = ℕ} 0 1 = cc in absurd (omega arith)

pub filled_none : (N : ℕ → ℕ → Option ℕ) (s : ℕ) → Filled N 0 (record { symbol = s; children = 0 ∷ 0 ∷ 0 ∷ 0 ∷ [] })
filled_none N s = record { four = refl; entries = λ k h. absurd (omega arith); padded = zeros }
  where
    zeros : (k : ℕ) → 0 ≤ k → k < 4 → ◌≡◌ {A = ℕ} (get_or (0 ∷ 0 ∷ 0 ∷ 0 ∷ []) k 0) 0
    zeros zero h l = refl
    zeros (suc zero) h l = refl
    zeros (suc (suc zero)) h l = refl
    zeros (suc (suc (suc zero))) h l = refl
    zeros (suc (suc (suc (suc k)))) h l = absurd (omega arith)
