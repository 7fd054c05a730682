-- Telling two automata apart by exploring pairs of live states that one tree has.
use Rattle.std.specs.Prelude.{◌≡◌, ℕ, ◌<◌, Bool, true, ◌⊎◌, List, [], ◌∷◌, length, Some, ◌≢◌}
use Rattle.kinds.specs.Weights.{Weights}
use Rattle.automata.specs.Trees.{Tree, Row, node, size, rank, Over, Overs}
use Rattle.automata.specs.Automata.{Transition, Automaton, find}
use Rattle.automata.specs.Runs.{At, Ats, run, runs, weight_of, Alike}
use Rattle.automata.specs.Contexts.{plug, Live, Sign}

-- pairs of states found so far, each with the ratio of the first run weight to the second
pub record Exploration (W : Type 0) : Type 0 where
  pub found : ℕ → ℕ → Bool
  pub ratio : ℕ → ℕ → W

-- place by place, the two lists of states are pairs found
abbrev pub Paired : {W : Type 0} → Exploration W → List ℕ → List ℕ → Type 0
Paired E [] [] = Unit {0}
Paired E [] (q ∷ qs) = ⊥
Paired E (p ∷ ps) [] = ⊥
Paired E (p ∷ ps) (q ∷ qs) = (E.found p q ≡ true) × Paired E ps qs

-- the product of their ratios
abbrev pub ratios : {W : Type 0} → Weights W → Exploration W → List ℕ → List ℕ → W
ratios K E [] qs = K.one
ratios K E (p ∷ ps) [] = K.one
ratios K E (p ∷ ps) (q ∷ qs) = K.times (E.ratio p q) (ratios K E ps qs)

-- the rule of B for s(qs) answers the rule r of A for s(ps), with the ratio that is recorded
pub record Answered {W : Type 0} (K : Weights W) (B : Automaton W) (E : Exploration W) (s : ℕ) (ps qs : List ℕ) (r : Transition W) : Type 0 where
  pub other : Transition W
  pub there : find B.rules s qs ≡ Some other
  pub live_target : Live K B other.target
  pub target_found : E.found r.target other.target ≡ true
  pub recorded : K.times (E.ratio r.target other.target) other.weight ≡ K.times (ratios K E ps qs) r.weight

-- every rule to a live state has its counterpart for every tuple of pairs, and accepting pairs agree with ratio one
pub record Explored {W : Type 0} (K : Weights W) (A B : Automaton W) (E : Exploration W) : Type 0 where
  pub forth : (s : ℕ) (ps qs : List ℕ) (r : Transition W) → Paired E ps qs → find A.rules s ps ≡ Some r → Live K A r.target → Answered K B E s ps qs r
  pub back : (s : ℕ) (ps qs : List ℕ) (r : Transition W) → Paired E ps qs → find B.rules s qs ≡ Some r → Live K B r.target → (o : Transition W) × (find A.rules s ps ≡ Some o) × Live K A o.target
  pub agree : (p q : ℕ) → E.found p q ≡ true → A.accepting p ≡ B.accepting q
  pub agree_one : (p q : ℕ) → E.found p q ≡ true → A.accepting p ≡ true → E.ratio p q ≡ K.one

abbrev pub SameByExploring : {W : Type 0} → Weights W → Type 0
SameByExploring {W} K = (A B : Automaton W) (E : Exploration W) → A.ranks ≡ B.ranks → Explored K A B E → Alike K A B

-- a tree over the alphabet that the two weigh differently
pub record Witness {W : Type 0} (K : Weights W) (A B : Automaton W) (t : Tree) : Type 0 where
  pub over : Over A.ranks t
  pub differs : weight_of K A t ≡ weight_of K B t → ⊥

-- each way in which an exploration fails names a witness
pub record Failing {W : Type 0} (K : Weights W) (A B : Automaton W) : Type 0 where
  -- a rule of A to a live state without a counterpart to a live state
  pub lone : (s : ℕ) (ts : Row) (a b : Ats W) (r : Transition W) (c : Sign K A r.target) → s < length A.ranks → size ts ≡ rank A.ranks s → Overs A.ranks ts → runs K A ts ≡ Some a → runs K B ts ≡ Some b → find A.rules s a.states ≡ Some r → ((o : Transition W) → find B.rules s b.states ≡ Some o → Live K B o.target → ⊥) → Witness K A B (plug c.context (node s ts))
  -- two trees of one pair of states whose ratios differ
  pub uneven : (t u : Tree) (p q : ℕ) (v w x y : W) (c : Sign K A p) → Over A.ranks t → Over A.ranks u → run K A t ≡ Some (record { state = p; weight = v }) → run K B t ≡ Some (record { state = q; weight = w }) → run K A u ≡ Some (record { state = p; weight = x }) → run K B u ≡ Some (record { state = q; weight = y }) → (K.times v y ≢ K.times x w) → Witness K A B (plug c.context t) ⊎ Witness K A B (plug c.context u)
  -- a pair of which one accepts and the other does not, or that accepts with two weights
  pub unlike : (t : Tree) (a b : At W) → Over A.ranks t → run K A t ≡ Some a → run K B t ≡ Some b → (A.accepting a.state ≢ B.accepting b.state) → Witness K A B t
  pub unequal : (t : Tree) (a b : At W) → Over A.ranks t → run K A t ≡ Some a → run K B t ≡ Some b → A.accepting a.state ≡ true → B.accepting b.state ≡ true → (a.weight ≢ b.weight) → Witness K A B t

-- over one alphabet
abbrev pub FailingWitnessed : {W : Type 0} → Weights W → Type 0
FailingWitnessed {W} K = (A B : Automaton W) → A.ranks ≡ B.ranks → Failing K A B
