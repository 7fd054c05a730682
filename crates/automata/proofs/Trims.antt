-- Trimming: without the states that are not live every tree weighs the same.
use Rattle.std.proofs.Common.{◌≡◌, ℕ, Bool, true, false, cond, ◌∷◌, Some, None, Option, sym, refl, ap, ◌∙◌, ap₂, arith}
use Rattle.std.specs.List.{AllByRecursion}
use Rattle.std.proofs.ByRecursion.{All-weaker}
use Rattle.kinds.specs.Weights.{Weights}
use Rattle.automata.specs.Trees.{Tree, Row, node, none, ◌▹◌, Over, Overs}
use Rattle.automata.specs.Automata.{Automaton, Sound}
use Rattle.automata.specs.Runs.{At, Ats, beside, applied, step, run, runs, accepted, weight_of}
use Rattle.automata.specs.Contexts.{Sign, Live}
use Rattle.automata.specs.Merging.{keeps, dropped, Trimming}
use Rattle.automata.proofs.Finds.{find_children}
use Rattle.automata.proofs.Steps.{beside_some, step_some}
use Rattle.automata.proofs.Lives.{sign_accepting, children_live}
use Rattle.automata.proofs.Drops.{kept_from, find_passes, run_dropped}

module _ {W : Type 0} (K : Weights W) (A : Automaton W) where
  module _ (keep : ℕ → Bool) (sound : Sound A) (live : (q : ℕ) → Live K A q → keep q ≡ true) where
    -- a run to a state with a sign of life passes live states only
    mutual
      pub run_stays : (t : Tree) (a : At W) → Over A.ranks t → run K A t ≡ Some a → Sign K A a.state → run K (dropped keep A) t ≡ Some a
      run_stays (node s ts) a o e g =
          let d = step_some K A s (runs K A ts) a e in
          let r = d.rule in
          let i : a.state ≡ r.target = ap (λ x. x.state) d.reached in
          let sign : Sign K A r.target = rw i at g in
          let target : Live K A r.target = record {
            reachable = record { tree = node s ts; over = o; weight = a.weight; runs_to = e ∙ rw (← i) };
            sign = sign;
          } in
          let children : AllByRecursion (Live K A) d.row.states = children_live K A s ts d.row r o.0 o.1 o.2 d.row_is d.found sign in
          let all : AllByRecursion (λ q. keep q ≡ true) d.row.states = All-weaker (Live K A) (λ q. keep q ≡ true) live d.row.states children in
          let kept : keeps keep r ≡ true = kept_from keep r (live r.target target) (rw (find_children A.rules s d.row.states r d.found) all) in
          ap (step K (dropped keep A) s) (runs_stay ts d.row o.2 d.row_is children)
          ∙ ap (applied K d.row.weight) (find_passes (keeps keep) A.rules s d.row.states r sound.single d.found kept)
          ∙ ap (λ x. Some x) (sym d.reached)

      pub runs_stay : (ts : Row) (b : Ats W) → Overs A.ranks ts → runs K A ts ≡ Some b → AllByRecursion (Live K A) b.states → runs K (dropped keep A) ts ≡ Some b
      runs_stay none b o e h = e
      runs_stay (t ▹ ts) b o e h =
          let d = beside_some K (run K A t) (runs K A ts) b e in
          let both : AllByRecursion (Live K A) (d.first.state ∷ d.rest.states) = rw d.both at h in
          ap₂ (beside K) (run_stays t d.first o.0 d.first_is both.0.sign) (runs_stay ts d.rest o.1 d.rest_is both.1)
          ∙ ap (λ x. Some x) (sym d.both)

    pub trimmed_weight : (t : Tree) → Over A.ranks t → weight_of K A t ≡ weight_of K (dropped keep A) t
    trimmed_weight t o = at (run K A t) (run K (dropped keep A) t) refl refl
      where
        at : (x y : Option (At W)) → run K A t ≡ x → run K (dropped keep A) t ≡ y → accepted A x ≡ accepted (dropped keep A) y
        at None None e f = refl
        at x (Some b) e f = ap (accepted A) (sym e ∙ run_dropped K A keep sound.single t b f)
        at (Some a) None e f = accepts (A.accepting a.state) refl
          where
            accepts : (b : Bool) → A.accepting a.state ≡ b → cond b (Some a.weight) None ≡ None
            accepts true h =
                let stays = run_stays t a o e (sign_accepting K A a.state h) in
                let z : ◌≡◌ {A = ℕ} 0 1 = cc in
                absurd (omega arith)
            accepts false h = refl

pub trimming : {W : Type 0} (K : Weights W) → Trimming K
trimming K A keep sound live = record { alphabet = refl; weights = trimmed_weight K A keep sound (λ q. (live q).1) }
