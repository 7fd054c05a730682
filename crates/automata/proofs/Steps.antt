-- What a run is made of: the parts of a row's run, the rule that a step used, an accepting state; so a run's state has what all targets have.
use Rattle.std.proofs.Common.{◌≡◌, ℕ, Bool, true, false, cond, [], ◌∷◌, Some, None, Option, refl, arith}
use Rattle.std.specs.List.{AllByRecursion}
use Rattle.kinds.specs.Weights.{Weights}
use Rattle.automata.specs.Trees.{Tree, Row, node, none, ◌▹◌}
use Rattle.automata.specs.Automata.{Transition, Automaton, find}
use Rattle.automata.specs.Runs.{At, Ats, beside, applied, step, run, runs, accepted}
use Rattle.automata.proofs.Finds.{find_all}

-- a run before the runs of a row are both there
pub record Beside {W : Type 0} (K : Weights W) (o : Option (At W)) (p : Option (Ats W)) (b : Ats W) : Type 0 where
  pub first : At W
  pub rest : Ats W
  pub first_is : o ≡ Some first
  pub rest_is : p ≡ Some rest
  pub both : b ≡ record { states = first.state ∷ rest.states; weight = K.times first.weight rest.weight }

-- a step used a rule for the states of the row
pub record Stepped {W : Type 0} (K : Weights W) (A : Automaton W) (s : ℕ) (o : Option (Ats W)) (a : At W) : Type 0 where
  pub row : Ats W
  pub rule : Transition W
  pub row_is : o ≡ Some row
  pub found : find A.rules s row.states ≡ Some rule
  pub reached : a ≡ record { state = rule.target; weight = K.times row.weight rule.weight }

-- a run to an accepting state, with the run weight w
pub record Accepted {W : Type 0} (A : Automaton W) (o : Option (At W)) (w : W) : Type 0 where
  pub run_is : At W
  pub there : o ≡ Some run_is
  pub accepts : A.accepting run_is.state ≡ true
  pub weighs : run_is.weight ≡ w

pub accepted_some : {W : Type 0} (A : Automaton W) (o : Option (At W)) (w : W) → accepted A o ≡ Some w → Accepted A o w
accepted_some A None w e = let z : ◌≡◌ {A = ℕ} 0 1 = cc in absurd (omega arith)
accepted_some A (Some a) w e = at (A.accepting a.state) refl e
  where
    at : (b : Bool) → A.accepting a.state ≡ b → cond b (Some a.weight) None ≡ Some w → Accepted A (Some a) w
    at true h k = record { run_is = a; there = refl; accepts = h; weighs = cc }
    at false h k = let z : ◌≡◌ {A = ℕ} 0 1 = cc in absurd (omega arith)

module _ {W : Type 0} (K : Weights W) where
  pub beside_some : (o : Option (At W)) (p : Option (Ats W)) (b : Ats W) → beside K o p ≡ Some b → Beside K o p b
  beside_some None p b e = let z : ◌≡◌ {A = ℕ} 0 1 = cc in absurd (omega arith)
  beside_some (Some a) None b e = let z : ◌≡◌ {A = ℕ} 0 1 = cc in absurd (omega arith)
  beside_some (Some a) (Some c) b e = record { first = a; rest = c; first_is = refl; rest_is = refl; both = cc }

  pub step_some : (A : Automaton W) (s : ℕ) (o : Option (Ats W)) (a : At W) → step K A s o ≡ Some a → Stepped K A s o a
  step_some A s None a e = let z : ◌≡◌ {A = ℕ} 0 1 = cc in absurd (omega arith)
  step_some A s (Some b) a e = at (find A.rules s b.states) refl e
    where
      at : (f : Option (Transition W)) → find A.rules s b.states ≡ f → applied K b.weight f ≡ Some a → Stepped K A s (Some b) a
      at None h k = let z : ◌≡◌ {A = ℕ} 0 1 = cc in absurd (omega arith)
      at (Some r) h k = record { row = b; rule = r; row_is = refl; found = h; reached = cc }

  -- what the targets of all rules have, the state of every run has
  module _ (A : Automaton W) (P : ℕ → Type 0) (all : AllByRecursion (λ r. P r.target) A.rules) where
    pub run_all : (t : Tree) (a : At W) → run K A t ≡ Some a → P a.state
    run_all (node s ts) a e =
        let d = step_some A s (runs K A ts) a e in
        rw d.reached (find_all (λ r. P r.target) A.rules s d.row.states d.rule all d.found)

    pub runs_all : (ts : Row) (b : Ats W) → runs K A ts ≡ Some b → AllByRecursion P b.states
    runs_all none b e = let i : b ≡ record { states = []; weight = K.one } = cc in rw i tt
    runs_all (t ▹ ts) b e =
        let d = beside_some (run K A t) (runs K A ts) b e in
        rw d.both (run_all t d.first d.first_is, runs_all ts d.rest d.rest_is)
