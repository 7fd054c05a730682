-- What a tree weighs in a context: something where the context is a sign of life of its state, and nothing where it has no state.
use Rattle.std.proofs.Common.{◌≡◌, ℕ, Some, None, Option, sym, refl, ap, ◌∙◌, arith}
use Rattle.kinds.specs.Weights.{Weights}
use Rattle.automata.specs.Trees.{Tree, Over}
use Rattle.automata.specs.Automata.{Automaton}
use Rattle.automata.specs.Runs.{run, weight_of}
use Rattle.automata.specs.Contexts.{Context, OverContext, plug, value, scaled, Sign, Live}
use Rattle.automata.specs.Pushing.{given}
use Rattle.automata.proofs.Plugs.{weight_plug}

module _ {W : Type 0} (K : Weights W) (A : Automaton W) where
  pub weighs_in : (c : Context) (t : Tree) (p : ℕ) (w : W) → run K A t ≡ Some (record { state = p; weight = w }) → weight_of K A (plug c t) ≡ scaled K w (value K A c p)
  weighs_in c t p w e = weight_plug K A c t ∙ ap (given K A c) e

  pub weighs_sign : (t : Tree) (p : ℕ) (w : W) (c : Sign K A p) → run K A t ≡ Some (record { state = p; weight = w }) → weight_of K A (plug c.context t) ≡ Some (K.times w c.weight)
  weighs_sign t p w c e = weighs_in c.context t p w e ∙ ap (scaled K w) c.gives

  pub weighs_nothing : (c : Context) (t : Tree) → run K A t ≡ None → weight_of K A (plug c t) ≡ None
  weighs_nothing c t e = weight_plug K A c t ∙ ap (given K A c) e

  -- where a multiple is something, so is what was multiplied
  scaled_some : (w v : W) (o : Option W) → scaled K w o ≡ Some v → (x : W) × (o ≡ Some x)
  scaled_some w v None e = let z : ◌≡◌ {A = ℕ} 0 1 = cc in absurd (omega arith)
  scaled_some w v (Some x) e = (x, refl)

  -- the state of a tree that weighs something in a context is live
  pub weighs_live : (c : Context) (t : Tree) (p : ℕ) (w v : W) → OverContext A.ranks c → Over A.ranks t → run K A t ≡ Some (record { state = p; weight = w }) → weight_of K A (plug c t) ≡ Some v → Live K A p
  weighs_live c t p w v h k e g =
      let x = scaled_some w v (value K A c p) (sym (weighs_in c t p w e) ∙ g) in
      record {
        reachable = record { tree = t; over = k; weight = w; runs_to = e };
        sign = record { context = c; over = h; weight = x.0; gives = x.1 };
      }
