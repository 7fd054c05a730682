-- A relation between runs that every rule with live states keeps is kept by every context that leads to a live state.
use Rattle.std.proofs.Common.{◌≡◌, ℕ, true, cond, ◌∷◌, ◌++◌, Some, None, Option, sym, refl, ap, ◌∙◌, subst, arith}
use Rattle.std.specs.List.{AllByRecursion}
use Rattle.kinds.specs.Weights.{Weights}
use Rattle.automata.specs.Trees.{Row, ◌▹◌, size, joined, rank}
use Rattle.automata.specs.Automata.{Transition, Automaton, find}
use Rattle.automata.specs.Runs.{At, Ats, beside, applied, step, run, runs, accepted}
use Rattle.automata.specs.Contexts.{Context, hole, under, OverContext, ahead, fill, starting, value, Reachable, Live}
use Rattle.automata.proofs.Finds.{find_children}
use Rattle.automata.proofs.Plugs.{runs_joined}
use Rattle.automata.proofs.Steps.{accepted_some}
use Rattle.automata.proofs.Lives.{size_joined, over_joined, sign_accepting, reachable_fill, children_live}
use Rattle.automata.proofs.Rows.{both, ahead_both, between, place, all_after}

-- the run that a rule makes of x between b and d
abbrev pub reached : {W : Type 0} → Weights W → Ats W → At W → Ats W → Transition W → At W
reached K b x d r = record { state = r.target; weight = K.times (between K b x d) r.weight }

-- the runs of two rows and the run between them are there, and a rule is found
pub record Parts {W : Type 0} (K : Weights W) (A : Automaton W) (s : ℕ) (l : Option (Ats W)) (o : Option (At W)) (r : Option (Ats W)) (a : At W) : Type 0 where
  pub left : Ats W
  pub inner : At W
  pub right : Ats W
  pub rule : Transition W
  pub left_is : l ≡ Some left
  pub inner_is : o ≡ Some inner
  pub right_is : r ≡ Some right
  pub found : find A.rules s (left.states ++ inner.state ∷ right.states) ≡ Some rule
  pub whole : a ≡ reached K left inner right rule

module _ {W : Type 0} (K : Weights W) (A : Automaton W) where
  parts_both : (s : ℕ) (l : Option (Ats W)) (o : Option (At W)) (r : Option (Ats W)) (a : At W) → step K A s (both K l (beside K o r)) ≡ Some a → Parts K A s l o r a
  parts_both s None o r a e = let z : ◌≡◌ {A = ℕ} 0 1 = cc in absurd (omega arith)
  parts_both s (Some b) None r a e = let z : ◌≡◌ {A = ℕ} 0 1 = cc in absurd (omega arith)
  parts_both s (Some b) (Some x) None a e = let z : ◌≡◌ {A = ℕ} 0 1 = cc in absurd (omega arith)
  parts_both s (Some b) (Some x) (Some d) a e = at (find A.rules s (b.states ++ x.state ∷ d.states)) refl e
    where
      at : (f : Option (Transition W)) → find A.rules s (b.states ++ x.state ∷ d.states) ≡ f → applied K (between K b x d) f ≡ Some a → Parts K A s (Some b) (Some x) (Some d) a
      at None h k = let z : ◌≡◌ {A = ℕ} 0 1 = cc in absurd (omega arith)
      at (Some r) h k = record { left = b; inner = x; right = d; rule = r; left_is = refl; inner_is = refl; right_is = refl; found = h; whole = cc }

  pub parts : (s : ℕ) (before after : Row) (o : Option (At W)) (a : At W) → step K A s (ahead K A before (beside K o (runs K A after))) ≡ Some a → Parts K A s (runs K A before) o (runs K A after) a
  parts s before after o a e = parts_both s (runs K A before) o (runs K A after) a (ap (step K A s) (sym (ahead_both K A before (beside K o (runs K A after)))) ∙ e)

  whole_is : (s : ℕ) (before after : Row) (o : Option (At W)) (b d : Ats W) (x : At W) (r : Transition W) → runs K A before ≡ Some b → o ≡ Some x → runs K A after ≡ Some d → find A.rules s (b.states ++ x.state ∷ d.states) ≡ Some r
      → step K A s (ahead K A before (beside K o (runs K A after))) ≡ Some (reached K b x d r)
  whole_is s before after o b d x r e h k f =
      ap (λ y. step K A s (ahead K A before (beside K y (runs K A after)))) h ∙ place K A s before after b d x e k ∙ ap (applied K (between K b x d)) f

  -- the children of a rule that a context uses are live, if its target is
  row_live : (s : ℕ) (before after : Row) (c : Context) (p : ℕ) (a : At W) (h : Parts K A s (runs K A before) (fill K A c (starting K p)) (runs K A after) a)
      → OverContext A.ranks (under s before c after) → Reachable K A p → Live K A h.rule.target → AllByRecursion (Live K A) (h.left.states ++ h.inner.state ∷ h.right.states)
  row_live s before after c p a h over reach live =
      let x : Reachable K A h.inner.state = reachable_fill K A c p h.inner over.3 reach h.inner_is in
      let ts : Row = joined before (x.tree ▹ after) in
      let n = size_joined before (x.tree ▹ after) in
      let m = over.1 in
      let size_is : size ts ≡ rank A.ranks s = omega arith in
      let row : Ats W = record { states = h.left.states ++ h.inner.state ∷ h.right.states; weight = between K h.left (record { state = h.inner.state; weight = x.weight }) h.right } in
      let runs_to : runs K A ts ≡ Some row =
      runs_joined K A before (x.tree ▹ after)
      ∙ ahead_both K A before (beside K (run K A x.tree) (runs K A after))
      ∙ rw (h.left_is, x.runs_to, h.right_is) in
      children_live K A s ts row h.rule over.0 size_is (over_joined A.ranks before (x.tree ▹ after) over.2 (x.over, over.4)) runs_to h.found live.sign

  -- every rule whose states are live keeps R: there is a rule for the other run, and the runs that the two make are related
  abbrev pub Kept : (At W → At W → Type 0) → Type 0
  Kept R = (s : ℕ) (b d : Ats W) (x y : At W) (r : Transition W) → R x y → find A.rules s (b.states ++ x.state ∷ d.states) ≡ Some r → AllByRecursion (Live K A) r.children → Live K A r.target
      → (r' : Transition W) × (find A.rules s (b.states ++ y.state ∷ d.states) ≡ Some r') × R (reached K b x d r) (reached K b y d r')

  -- there is a run, and a is related to it
  pub record Answers (R : At W → At W → Type 0) (a : At W) (o : Option (At W)) : Type 0 where
    pub answer : At W
    pub there : o ≡ Some answer
    pub related : R a answer

  pub simulated : (R : At W → At W → Type 0) → Kept R → (c : Context) (p q : ℕ) (a : At W) → OverContext A.ranks c → Reachable K A p → R (record { state = p; weight = K.one }) (record { state = q; weight = K.one })
      → fill K A c (starting K p) ≡ Some a → Live K A a.state → Answers R a (fill K A c (starting K q))
  simulated R kept hole p q a over reach h e live =
      let i : record { state = p; weight = K.one } ≡ a = cc in
      record { answer = record { state = q; weight = K.one }; there = refl; related = rw (← i) h }
  simulated R kept (under s before c after) p q a over reach h e live =
      let m : Parts K A s (runs K A before) (fill K A c (starting K p)) (runs K A after) a = parts s before after (fill K A c (starting K p)) a e in
      let target : Live K A m.rule.target = rw m.whole at live in
      let row : AllByRecursion (Live K A) (m.left.states ++ m.inner.state ∷ m.right.states) = row_live s before after c p a m over reach target in
      let inside : Live K A m.inner.state = (all_after (Live K A) m.left.states (m.inner.state ∷ m.right.states) row).0 in
      let n : Answers R m.inner (fill K A c (starting K q)) = simulated R kept c p q m.inner over.3 reach h m.inner_is inside in
      let children : AllByRecursion (Live K A) m.rule.children = rw (find_children A.rules s (m.left.states ++ m.inner.state ∷ m.right.states) m.rule m.found) row in
      let k = kept s m.left m.right m.inner n.answer m.rule n.related m.found children target in
      record {
        answer = reached K m.left n.answer m.right k.0;
        there = whole_is s before after (fill K A c (starting K q)) m.left m.right n.answer k.0 m.left_is n.there m.right_is k.1;
        related = subst (λ x. R x (reached K m.left n.answer m.right k.0)) (sym m.whole) k.2;
      }

  -- if one run gives a weight in a context and related states accept alike, then the other gives one, and the runs are related
  pub record Gives (R : At W → At W → Type 0) (w : W) (o : Option W) : Type 0 where
    pub this : At W
    pub other : At W
    pub related : R this other
    pub accepts : A.accepting this.state ≡ true
    pub this_weight : this.weight ≡ w
    pub other_gives : o ≡ Some other.weight

  pub value_simulated : (R : At W → At W → Type 0) → Kept R → ((x y : At W) → R x y → A.accepting x.state ≡ A.accepting y.state) → (c : Context) (p q : ℕ) (w : W) → OverContext A.ranks c → Reachable K A p → R (record { state = p; weight = K.one }) (record { state = q; weight = K.one })
      → value K A c p ≡ Some w → Gives R w (value K A c q)
  value_simulated R kept same c p q w over reach h e =
      let f = accepted_some A (fill K A c (starting K p)) w e in
      let x : At W = f.run_is in
      let l : Live K A x.state = record { reachable = reachable_fill K A c p x over reach f.there; sign = sign_accepting K A x.state f.accepts } in
      let n : Answers R x (fill K A c (starting K q)) = simulated R kept c p q x over reach h f.there l in
      let y : At W = n.answer in
      let also : A.accepting y.state ≡ true = sym (same x y n.related) ∙ f.accepts in
      record {
        this = x;
        other = y;
        related = n.related;
        accepts = f.accepts;
        this_weight = f.weighs;
        other_gives = ap (accepted A) n.there ∙ ap (λ b. cond b (Some y.weight) None) also;
      }
