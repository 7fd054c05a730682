-- A row of runs gathered from its last entry to its first, and the step over it.
use Rattle.std.proofs.Common.{◌≡◌, ℕ, zero, suc, ◌+◌, ◌<◌, ◌≤◌, List, [], ◌∷◌, ◌++◌, map, length, get_or, take, set, Some, None, Option, sym, refl, ap, ◌∙◌, le_of_suc-le-suc, arith}
use Rattle.std.specs.Option.{option_map}
use Rattle.std.proofs.lemmas.List.{take_more, take_more_set, take_all, map_push, length-take-le}
use Rattle.kinds.specs.Weights.{Weights}
use Rattle.automata.specs.Trees.{rank}
use Rattle.automata.specs.Automata.{find}
use Rattle.automata.specs.Runs.{At, Ats, beside, applied, step}
use Rattle.rules.specs.declared.rule.Rule.{Rule}
use Rattle.rules.specs.declared.shape.Shape.{Shape}
use Rattle.rules.specs.Shapes.{ranks_in, automaton, transition}
use Rattle.rules.specs.Running.{row_runs, ats_of}

pub take_set_lt : {X : Type 0} (n : ℕ) (xs : List X) (i : ℕ) (y : X) → i < n → take n (set xs i y) ≡ set (take n xs) i y
take_set_lt zero xs i y h = absurd (omega arith)
take_set_lt (suc n) [] i y h = refl
take_set_lt (suc n) (x ∷ xs) zero y h = refl
take_set_lt (suc n) (x ∷ xs) (suc i) y h = ap (λ l. x ∷ l) (take_set_lt n xs i y (le_of_suc-le-suc h))

beside_none : {W : Type 0} (K : Weights W) (o : Option (At W)) → beside K o None ≡ None
beside_none K None = refl
beside_none K (Some a) = refl

-- a row of runs with one more behind it
row_with : {W : Type 0} → Weights W → At W → Option (Ats W) → Option (Ats W)
row_with K b None = None
row_with K b (Some a) = Some (record { states = a.states ++ b.state ∷ []; weight = K.times a.weight b.weight })

row_push : {W : Type 0} (K : Weights W) (os : List (Option (At W))) (b : At W) → row_runs K (os ++ Some b ∷ []) ≡ row_with K b (row_runs K os)
unfolding row_with
row_push K [] b = ap (λ w. Some (record { states = b.state ∷ []; weight = w })) (K.comm b.weight K.one)
row_push K (None ∷ os) b = refl
row_push K (Some a ∷ os) b = ap (beside K (Some a)) (row_push K os b) ∙ at (row_runs K os)
  where
    at : (o : Option (Ats _)) → beside K (Some a) (row_with K b o) ≡ row_with K b (beside K (Some a) o)
    at None = refl
    at (Some r) = ap (λ w. Some (record { states = a.state ∷ (r.states ++ b.state ∷ []); weight = w })) (sym (K.assoc a.weight r.weight b.weight))

module _ {W : Type 0} (K : Weights W) (f : ℕ → Option (At W)) where
  -- an entry without a run leaves the row without one
  pub row_lacks : (es : List ℕ) (k : ℕ) → k < length es → f (get_or es k 0) ≡ None → row_runs K (map f es) ≡ None
  row_lacks [] k h e = absurd (omega arith)
  row_lacks (x ∷ es) zero h e = ap (λ o. beside K o (row_runs K (map f es))) e
  row_lacks (x ∷ es) (suc k) h e = ap (beside K (f x)) (row_lacks es k (le_of_suc-le-suc h) e) ∙ beside_none K (f x)

  -- the states of the first k entries stand in the first places; w is the product of their weights
  abbrev pub Gathering : List ℕ → List ℕ → ℕ → W → Type 0
  Gathering es states k w = row_runs K (map f (take k es)) ≡ Some (record { states = take k states; weight = w })

  -- one entry more, with the run a
  pub gathering_more : (es states : List ℕ) (k : ℕ) (w : W) (a : At W) → k < length es → k < length states → Gathering es states k w → f (get_or es k 0) ≡ Some a → Gathering es (set states k a.state) (k + 1) (K.times w a.weight)
  unfolding row_with
  gathering_more es states k w a low room g r =
      ap (λ l. row_runs K (map f l)) (take_more es k 0 low)
      ∙ ap (row_runs K) (map_push f (take k es) (get_or es k 0))
      ∙ ap (λ o. row_runs K (map f (take k es) ++ o ∷ [])) r
      ∙ row_push K (map f (take k es)) a
      ∙ ap (row_with K a) g
      ∙ ap (λ (l : List ℕ). Some (record { states = l; weight = K.times w a.weight })) (sym (take_more_set states k a.state room))

  pub gathering_all : (es states : List ℕ) (k : ℕ) (w : W) → k ≡ length es → Gathering es states k w → row_runs K (map f es) ≡ Some (record { states = take (length es) states; weight = w })
  gathering_all es states k w end g =
      ap (λ l. row_runs K (map f l)) (sym (take_all k es (omega arith))) ∙ g ∙ ap (λ n. Some (record { states = take n states; weight = w })) end

pub run_is : {W : Type 0} {p q : ℕ} {v w : W} → p ≡ q → v ≡ w → ◌≡◌ {A = Option (At W)} (Some (record { state = p; weight = v })) (Some (record { state = q; weight = w }))
run_is e f = λ i. Some (record { state = e i; weight = f i })

-- a node whose children are the first n of its places, gathered over the first m, which are as many
module _ {V W : Type 0} (K : Weights W) (stands : V → W) (shape : Shape) (rules : List (Rule V)) (s : ℕ) (f : ℕ → Option (At W)) (children states : List ℕ) (m : ℕ) (same : m ≡ rank (ranks_in shape) s) (long : m ≤ length children) where
  abbrev row : Option (Ats W)
  row = row_runs K (map f (take (rank (ranks_in shape) s) children))

  pub node_lacks : None ≡ row_runs K (map f (take m children)) → None ≡ step K (automaton stands shape rules) s row
  node_lacks g = ap (step K (automaton stands shape rules) s) (g ∙ ap (λ k. row_runs K (map f (take k children))) same)

  pub node_runs : (v : V) (o : Option (Rule V)) → m ≤ length states → Some (ats_of stands (length (take m children)) (states, v)) ≡ row_runs K (map f (take m children)) → ((ranks : List ℕ) → length (take m states) ≡ rank ranks s → option_map (transition stands ranks) o ≡ find (map (transition stands ranks) rules) s (take m states)) → applied K (stands v) (option_map (transition stands (ranks_in shape)) o) ≡ step K (automaton stands shape rules) s row
  node_runs v o room g found =
      let cut : length (take m children) ≡ m = length-take-le m children long in
      let gathered : row ≡ Some (record { states = take m states; weight = stands v }) =
      ap (λ k. row_runs K (map f (take k children))) (sym same) ∙ sym g ∙ ap (λ k. Some (record { states = take k states; weight = stands v })) cut in
      ap (applied K (stands v)) (found (ranks_in shape) (length-take-le m states room ∙ same)) ∙ ap (step K (automaton stands shape rules) s) (sym gathered)
