-- A symbol over rows of trees with a hole between them: the rule that is looked up, and rows of trees that have given states.
use Rattle.std.proofs.Common.{◌≡◌, ℕ, suc, List, [], ◌∷◌, ◌++◌, length, Some, None, Option, sym, refl, ap, ◌∙◌}
use Rattle.std.specs.List.{AllByRecursion}
use Rattle.kinds.specs.Weights.{Weights}
use Rattle.automata.specs.Trees.{Row, none, ◌▹◌, size, Overs}
use Rattle.automata.specs.Automata.{Automaton, find}
use Rattle.automata.specs.Runs.{At, Ats, beside, applied, step, run, runs}
use Rattle.automata.specs.Contexts.{ahead, Reachable}

pub all_before : {X : Type 0} (P : X → Type 0) (xs ys : List X) → AllByRecursion P (xs ++ ys) → AllByRecursion P xs
all_before P [] ys h = tt
all_before P (x ∷ xs) ys h = (h.0, all_before P xs ys h.1)

pub all_after : {X : Type 0} (P : X → Type 0) (xs ys : List X) → AllByRecursion P (xs ++ ys) → AllByRecursion P ys
all_after P [] ys h = h
all_after P (x ∷ xs) ys h = all_after P xs ys h.1

-- the runs of one row before the runs of another
abbrev pub both : {W : Type 0} → Weights W → Option (Ats W) → Option (Ats W) → Option (Ats W)
both K None o = None
both K (Some b) None = None
both K (Some b) (Some d) = Some (record { states = b.states ++ d.states; weight = K.times b.weight d.weight })

-- the run weight of a row with a in the place between b and d
abbrev pub between : {W : Type 0} → Weights W → Ats W → At W → Ats W → W
between K b a d = K.times b.weight (K.times a.weight d.weight)

-- trees over the alphabet that have the states qs
pub record Access {W : Type 0} (K : Weights W) (A : Automaton W) (qs : List ℕ) : Type 0 where
  pub row : Row
  pub over : Overs A.ranks row
  pub as_many : size row ≡ length qs
  pub weight : W
  pub runs_to : runs K A row ≡ Some (record { states = qs; weight = weight })

module _ {W : Type 0} (K : Weights W) (A : Automaton W) where
  none_both : (o : Option (Ats W)) → o ≡ both K (Some (record { states = []; weight = K.one })) o
  none_both None = refl
  none_both (Some d) = ap (λ x. Some (record { states = d.states; weight = x })) (sym (K.unit d.weight))

  beside_both : (a : Option (At W)) (b o : Option (Ats W)) → beside K a (both K b o) ≡ both K (beside K a b) o
  beside_both None b o = refl
  beside_both (Some a) None o = refl
  beside_both (Some a) (Some b) None = refl
  beside_both (Some a) (Some b) (Some d) =
      ap (λ x. Some (record { states = a.state ∷ b.states ++ d.states; weight = x })) (sym (K.assoc a.weight b.weight d.weight))

  pub ahead_both : (ts : Row) (o : Option (Ats W)) → ahead K A ts o ≡ both K (runs K A ts) o
  ahead_both none o = none_both o
  ahead_both (t ▹ ts) o = ap (beside K (run K A t)) (ahead_both ts o) ∙ beside_both (run K A t) (runs K A ts) o

  -- the rule that a symbol over two rows looks up for a run in the hole between them
  pub place : (s : ℕ) (before after : Row) (b d : Ats W) (a : At W) → runs K A before ≡ Some b → runs K A after ≡ Some d
      → step K A s (ahead K A before (beside K (Some a) (runs K A after))) ≡ applied K (between K b a d) (find A.rules s (b.states ++ a.state ∷ d.states))
  place s before after b d a e k =
      ap (step K A s) (ahead_both before (beside K (Some a) (runs K A after)))
      ∙ ap (λ x. step K A s (both K x (beside K (Some a) (runs K A after)))) e
      ∙ ap (λ x. step K A s (both K (Some b) (beside K (Some a) x))) k

  pub access : (qs : List ℕ) → AllByRecursion (Reachable K A) qs → Access K A qs
  access [] h = record { row = none; over = tt; as_many = refl; weight = K.one; runs_to = refl }
  access (q ∷ qs) h =
      let i : Access K A qs = access qs h.1 in
      record {
        row = h.0.tree ▹ i.row;
        over = (h.0.over, i.over);
        as_many = ap suc i.as_many;
        weight = K.times h.0.weight i.weight;
        runs_to = ap (λ x. beside K x (runs K A i.row)) h.0.runs_to ∙ ap (beside K (Some (record { state = q; weight = h.0.weight }))) i.runs_to;
      }
