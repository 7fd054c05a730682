-- Two automata with a complete exploration weigh every tree alike.
use Rattle.std.proofs.Common.{◌≡◌, ℕ, true, [], ◌∷◌, Some, None, Option, sym, refl, ◌∙◌, subst}
use Rattle.std.specs.List.{AllByRecursion}
use Rattle.kinds.specs.Weights.{Weights}
use Rattle.automata.specs.Trees.{Tree, Row, node, none, ◌▹◌, Over, Overs}
use Rattle.automata.specs.Automata.{Transition, Automaton, find}
use Rattle.automata.specs.Runs.{At, Ats, run, runs, weight_of}
use Rattle.automata.specs.Contexts.{hole, Live}
use Rattle.automata.specs.Comparing.{Exploration, Paired, ratios, Answered, Explored, SameByExploring}
use Rattle.automata.proofs.Groups.{exchange, left_comm}
use Rattle.automata.proofs.Steps.{beside_some, step_some, accepted_some}
use Rattle.automata.proofs.Lives.{children_live}
use Rattle.automata.proofs.Signs.{weighs_live}

-- B runs the tree, which A runs to a, to a state that is found beside a's, with the ratio of the run weights
pub record Met {W : Type 0} (K : Weights W) (B : Automaton W) (E : Exploration W) (t : Tree) (a : At W) : Type 0 where
  pub other : At W
  pub runs_other : run K B t ≡ Some other
  pub pair_found : E.found a.state other.state ≡ true
  pub weighs : a.weight ≡ K.times (E.ratio a.state other.state) other.weight

-- the same of a row, place by place
pub record Mets {W : Type 0} (K : Weights W) (B : Automaton W) (E : Exploration W) (ts : Row) (a : Ats W) : Type 0 where
  pub other : Ats W
  pub runs_other : runs K B ts ≡ Some other
  pub paired : Paired E a.states other.states
  pub weighs : a.weight ≡ K.times (ratios K E a.states other.states) other.weight

-- A runs the tree to a live state
abbrev pub LiveRun : {W : Type 0} → Weights W → Automaton W → Tree → Type 0
LiveRun {W} K A t = (a : At W) × (run K A t ≡ Some a) × Live K A a.state

abbrev pub LiveRuns : {W : Type 0} → Weights W → Automaton W → Row → Type 0
LiveRuns {W} K A ts = (a : Ats W) × (runs K A ts ≡ Some a) × AllByRecursion (Live K A) a.states

-- from a = c b and d w = c v
carried : {W : Type 0} (K : Weights W) (a b c d v w : W) → a ≡ K.times c b → K.times d w ≡ K.times c v → K.times a v ≡ K.times d (K.times b w)
carried K a b c d v w e f =
    let p = left_comm K d b w in
    let q = left_comm K c b v in
    let r = K.assoc c b v in
    cc

module _ {W : Type 0} (K : Weights W) (A B : Automaton W) (E : Exploration W) (x : Explored K A B E) where
  met_node : (s : ℕ) (ts : Row) (a : Ats W) (r : Transition W) → Mets K B E ts a → find A.rules s a.states ≡ Some r → Live K A r.target → Met K B E (node s ts) (record { state = r.target; weight = K.times a.weight r.weight })
  met_node s ts a r m f l =
      let n : Answered K B E s a.states m.other.states r = x.forth s a.states m.other.states r m.paired f l in
      record {
        other = record { state = n.other.target; weight = K.times m.other.weight n.other.weight };
        runs_other = rw (m.runs_other, n.there);
        pair_found = n.target_found;
        weighs = carried K a.weight m.other.weight (ratios K E a.states m.other.states) (E.ratio r.target n.other.target) r.weight n.other.weight m.weighs n.recorded;
      }

  met_beside : (t : Tree) (ts : Row) (a : At W) (b : Ats W) → Met K B E t a → Mets K B E ts b → Mets K B E (t ▹ ts) (record { states = a.state ∷ b.states; weight = K.times a.weight b.weight })
  met_beside t ts a b m n = record {
    other = record { states = m.other.state ∷ n.other.states; weight = K.times m.other.weight n.other.weight };
    runs_other = rw (m.runs_other, n.runs_other);
    paired = (m.pair_found, n.paired);
    weighs =
        let p = exchange K (E.ratio a.state m.other.state) m.other.weight (ratios K E b.states n.other.states) n.other.weight in
        cc;
  }

  mutual
    -- a tree that A runs to a live state
    met : (t : Tree) (a : At W) → Over A.ranks t → run K A t ≡ Some a → Live K A a.state → Met K B E t a
    met (node s ts) a o e l =
        let b = step_some K A s (runs K A ts) a e in
        let l' : Live K A b.rule.target = rw b.reached at l in
        let m = mets ts b.row o.2 b.row_is (children_live K A s ts b.row b.rule o.0 o.1 o.2 b.row_is b.found l'.sign) in
        rw b.reached (met_node s ts b.row b.rule m b.found l')

    mets : (ts : Row) (a : Ats W) → Overs A.ranks ts → runs K A ts ≡ Some a → AllByRecursion (Live K A) a.states → Mets K B E ts a
    mets none a o e l =
        let empty : a ≡ record { states = []; weight = K.one } = cc in
        rw empty (record { other = record { states = []; weight = K.one }; runs_other = refl; paired = tt; weighs = sym (K.unit K.one) })
    mets (t ▹ ts) a o e l =
        let b = beside_some K (run K A t) (runs K A ts) a e in
        let l' : AllByRecursion (Live K A) (b.first.state ∷ b.rest.states) = rw b.both at l in
        rw b.both (met_beside t ts b.first b.rest (met t b.first o.0 b.first_is l'.0) (mets ts b.rest o.1 b.rest_is l'.1))

  back_node : (s : ℕ) (ts : Row) (a b : Ats W) (r : Transition W) → runs K A ts ≡ Some a → Mets K B E ts a → runs K B ts ≡ Some b → find B.rules s b.states ≡ Some r → Live K B r.target → LiveRun K A (node s ts)
  back_node s ts a b r e m f g l =
      let h = m.runs_other in
      let i : m.other ≡ b = cc in
      let k = x.back s a.states m.other.states r m.paired (rw i g) l in
      (record { state = k.0.target; weight = K.times a.weight k.0.weight }, rw (e, k.1), k.2)

  module _ (same : A.ranks ≡ B.ranks) where
    mutual
      -- a tree that B runs to a live state
      met_back : (t : Tree) (b : At W) → Over A.ranks t → run K B t ≡ Some b → Live K B b.state → LiveRun K A t
      met_back (node s ts) b o e l =
          let c = step_some K B s (runs K B ts) b e in
          let l' : Live K B c.rule.target = rw c.reached at l in
          let o' : Over B.ranks (node s ts) = subst (λ y. Over y (node s ts)) same o in
          let m = mets_back ts c.row o.2 c.row_is (children_live K B s ts c.row c.rule o'.0 o'.1 o'.2 c.row_is c.found l'.sign) in
          back_node s ts m.0 c.row c.rule m.1 (mets ts m.0 o.2 m.1 m.2) c.row_is c.found l'

      mets_back : (ts : Row) (b : Ats W) → Overs A.ranks ts → runs K B ts ≡ Some b → AllByRecursion (Live K B) b.states → LiveRuns K A ts
      mets_back none b o e l = (record { states = []; weight = K.one }, refl, tt)
      mets_back (t ▹ ts) b o e l =
          let c = beside_some K (run K B t) (runs K B ts) b e in
          let l' : AllByRecursion (Live K B) (c.first.state ∷ c.rest.states) = rw c.both at l in
          let m = met_back t c.first o.0 c.first_is l'.0 in
          let n = mets_back ts c.rest o.1 c.rest_is l'.1 in
          (record { states = m.0.state ∷ n.0.states; weight = K.times m.0.weight n.0.weight }, rw (m.1, n.1), (m.2, n.2))

    weighs_forth : (t : Tree) (w : W) → Over A.ranks t → weight_of K A t ≡ Some w → weight_of K B t ≡ Some w
    weighs_forth t w o e =
        let c = accepted_some A (run K A t) w e in
        let m = met t c.run_is o c.there (weighs_live K A hole t c.run_is.state c.run_is.weight w tt o c.there e) in
        let agrees : B.accepting m.other.state ≡ true = sym (x.agree c.run_is.state m.other.state m.pair_found) ∙ c.accepts in
        let one = x.agree_one c.run_is.state m.other.state m.pair_found c.accepts in
        let i = m.weighs in
        let k = K.unit m.other.weight in
        rw (m.runs_other, agrees) (cc)

    weighs_back : (t : Tree) (w : W) → Over A.ranks t → weight_of K B t ≡ Some w → (v : W) × (weight_of K A t ≡ Some v)
    weighs_back t w o e =
        let c = accepted_some B (run K B t) w e in
        let n = met_back t c.run_is o c.there (weighs_live K B hole t c.run_is.state c.run_is.weight w tt (subst (λ y. Over y t) same o) c.there e) in
        let m = met t n.0 o n.1 n.2 in
        let i : m.other ≡ c.run_is = cc in
        let agrees : A.accepting n.0.state ≡ true = x.agree n.0.state m.other.state m.pair_found ∙ rw i c.accepts in
        (n.0.weight, rw (n.1, agrees))

same_option : {W : Type 0} (o p : Option W) → ((w : W) → o ≡ Some w → p ≡ Some w) → ((w : W) → p ≡ Some w → (v : W) × (o ≡ Some v)) → o ≡ p
same_option None None f g = refl
same_option None (Some w) f g = let v = g w refl in v.1 ∙ sym (f v.0 v.1)
same_option (Some w) p f g = sym (f w refl)

pub same_by_exploring : {W : Type 0} (K : Weights W) → SameByExploring K
same_by_exploring K A B E same x = record {
  alphabet = same;
  weights = λ t o. same_option (weight_of K A t) (weight_of K B t) (λ w. weighs_forth K A B E x same t w o) (λ w. weighs_back K A B E x same t w o);
}
