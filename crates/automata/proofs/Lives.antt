-- What leads to a live state is live: contexts and rules keep states reachable upwards and signs of life downwards.
use Rattle.std.proofs.Common.{◌≡◌, ℕ, ◌+◌, ◌<◌, true, cond, List, [], length, Some, None, Option, sym, refl, ap, ◌∙◌, ap₂, arith}
use Rattle.std.specs.List.{AllByRecursion}
use Rattle.std.proofs.ByRecursion.{All-weaker}
use Rattle.kinds.specs.Weights.{Weights}
use Rattle.automata.specs.Trees.{Tree, Row, none, ◌▹◌, size, joined, rank, Over, Overs}
use Rattle.automata.specs.Automata.{Transition, Automaton, find, Within, Sound}
use Rattle.automata.specs.Runs.{At, Ats, beside, run, runs}
use Rattle.automata.specs.Contexts.{Context, hole, under, OverContext, plug, ahead, fill, starting, scaled, Reachable, Sign, Live}
use Rattle.automata.specs.Pushing.{given}
use Rattle.automata.proofs.Plugs.{scaled_at, nested, over_nested, runs_joined, run_plug, fill_scaled, from_start, value_nested}
use Rattle.automata.proofs.Steps.{beside_some, run_all}

pub size_joined : (ts us : Row) → size (joined ts us) ≡ size ts + size us
size_joined none us = omega arith
size_joined (t ▹ ts) us = let ih = size_joined ts us in omega arith

pub over_joined : (ranks : List ℕ) (ts us : Row) → Overs ranks ts → Overs ranks us → Overs ranks (joined ts us)
over_joined ranks none us h k = k
over_joined ranks (t ▹ ts) us h k = (h.0, over_joined ranks ts us h.1 k)

pub joined_assoc : (ts us vs : Row) → joined (joined ts us) vs ≡ joined ts (joined us vs)
joined_assoc none us vs = refl
joined_assoc (t ▹ ts) us vs = ap (λ x. t ▹ x) (joined_assoc ts us vs)

pub over_plug : (ranks : List ℕ) (c : Context) (t : Tree) → OverContext ranks c → Over ranks t → Over ranks (plug c t)
over_plug ranks hole t h k = k
over_plug ranks (under s before c after) t h k =
    let n = size_joined before (plug c t ▹ after) in
    let m = h.1 in
    let e : size (joined before (plug c t ▹ after)) ≡ rank ranks s = omega arith in
    (h.0, e, over_joined ranks before (plug c t ▹ after) h.2 (over_plug ranks c t h.3 k, h.4))

module _ {W : Type 0} (K : Weights W) (A : Automaton W) where
  -- the hole is a sign of life of an accepting state
  pub sign_accepting : (q : ℕ) → A.accepting q ≡ true → Sign K A q
  sign_accepting q e = record { context = hole; over = tt; weight = K.one; gives = ap (λ b. cond b (Some K.one) None) e }

  -- a context takes a reachable state to a reachable one
  pub reachable_fill : (c : Context) (p : ℕ) (a : At W) → OverContext A.ranks c → Reachable K A p → fill K A c (starting K p) ≡ Some a → Reachable K A a.state
  reachable_fill c p a h r e = record {
    tree = plug c r.tree;
    over = over_plug A.ranks c r.tree h r.over;
    weight = K.times r.weight a.weight;
    runs_to =
        run_plug K A c r.tree
        ∙ ap (fill K A c) (r.runs_to ∙ from_start K A (record { state = p; weight = r.weight }))
        ∙ fill_scaled K A r.weight c (starting K p)
        ∙ ap (scaled_at K r.weight) e;
  }

  -- what a context takes to a state with a sign of life has one
  pub sign_fill : (d : Context) (p : ℕ) (a : At W) → OverContext A.ranks d → fill K A d (starting K p) ≡ Some a → Sign K A a.state → Sign K A p
  sign_fill d p a h e g = record {
    context = nested g.context d;
    over = over_nested A.ranks g.context d g.over h;
    weight = K.times a.weight g.weight;
    gives =
        value_nested K A g.context d p
        ∙ ap (given K A g.context) e
        ∙ ap (scaled K a.weight) g.gives;
  }

  pub state_within : Sound A → (t : Tree) (a : At W) → run K A t ≡ Some a → a.state < A.states
  state_within h = run_all K A (λ q. q < A.states) (All-weaker (Within A.ranks A.states) (λ r. r.target < A.states) (λ r w. w.target_within) A.rules h.within)

  -- a weight times a run is there only if the run is, with the same state
  unscaled : (w : W) (o : Option (At W)) (a : At W) → scaled_at K w o ≡ Some a → (b : At W) × (o ≡ Some b) × (b.state ≡ a.state)
  unscaled w None a e = let z : ◌≡◌ {A = ℕ} 0 1 = cc in absurd (omega arith)
  unscaled w (Some b) a e = (b, refl, cc)

  -- a place between two rows under s, if the rule found there has a target with a sign of life
  place_sign : (s : ℕ) (before after : Row) (a : At W) (b c : Ats W) (r : Transition W) → OverContext A.ranks (under s before hole after) → runs K A after ≡ Some b → ahead K A before (beside K (Some a) (Some b)) ≡ Some c → find A.rules s c.states ≡ Some r → Sign K A r.target → Sign K A a.state
  place_sign s before after a b c r h e k f g =
      let d = under s before hole after in
      let reached : At W = record { state = r.target; weight = K.times c.weight r.weight } in
      let there : fill K A d (Some a) ≡ Some reached = rw (e, k, f) in
      let u = unscaled a.weight (fill K A d (starting K a.state)) reached (sym (fill_scaled K A a.weight d (starting K a.state)) ∙ ap (fill K A d) (sym (from_start K A a)) ∙ there) in
      sign_fill d a.state u.0 h u.1 (rw u.2 g)

  rest_live : (s : ℕ) (before after : Row) (b c : Ats W) (r : Transition W) → s < length A.ranks → size (joined before after) ≡ rank A.ranks s → Overs A.ranks before → Overs A.ranks after → runs K A after ≡ Some b → runs K A (joined before after) ≡ Some c → find A.rules s c.states ≡ Some r → Sign K A r.target → AllByRecursion (Live K A) b.states
  rest_live s before none b c r h n o v e k f g = let i : b ≡ record { states = []; weight = K.one } = cc in rw i tt
  rest_live s before (t ▹ ts) b c r h n o v e k f g =
      let p = beside_some K (run K A t) (runs K A ts) b e in
      let m = size_joined before (t ▹ ts) in
      let size_is : size before + 1 + size ts ≡ rank A.ranks s = omega arith in
      let whole : ahead K A before (beside K (run K A t) (runs K A ts)) ≡ Some c = sym (runs_joined K A before (t ▹ ts)) ∙ k in
      let split : ahead K A before (beside K (Some p.first) (Some p.rest)) ≡ Some c =
      ap₂ (λ x y. ahead K A before (beside K x y)) (sym p.first_is) (sym p.rest_is) ∙ whole in
      let head : Live K A p.first.state = record {
        reachable = record { tree = t; over = v.0; weight = p.first.weight; runs_to = p.first_is };
        sign = place_sign s before ts p.first p.rest c r (h, size_is, o, tt, v.1) p.rest_is split f g;
      } in
      let again = joined_assoc before (t ▹ none) ts in
      let tail : AllByRecursion (Live K A) p.rest.states =
      rest_live s (joined before (t ▹ none)) ts p.rest c r h (ap size again ∙ n) (over_joined A.ranks before (t ▹ none) o (v.0, tt)) v.1 p.rest_is (ap (runs K A) again ∙ k) f g in
      rw p.both (head, tail)

  -- the children of a rule to a state with a sign of life are live, if trees run to them
  pub children_live : (s : ℕ) (ts : Row) (b : Ats W) (r : Transition W) → s < length A.ranks → size ts ≡ rank A.ranks s → Overs A.ranks ts → runs K A ts ≡ Some b → find A.rules s b.states ≡ Some r → Sign K A r.target → AllByRecursion (Live K A) b.states
  children_live s ts b r h n v e f g = rest_live s none ts b b r h n tt v e e f g
