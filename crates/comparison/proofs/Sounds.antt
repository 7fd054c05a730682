-- Testing whether rules are sound, one behind the other.
use Rattle.std.proofs.Common.{◌≡◌, ℕ, zero, suc, ◌+◌, ◌<◌, ◌≤◌, Bool, true, false, cond, List, [], ◌∷◌, ◌++◌, map, length, get_or, take, Some, None, Decides, sym, refl, ap, ◌∙◌, subst, arith}
use Rattle.std.specs.List.{AllByRecursion, slice_get}
use Rattle.std.proofs.ByRecursion.{All-push}
use Rattle.std.proofs.lemmas.List.{take_more, take_all, take-map, map_push}
use Rattle.std.proofs.lemmas.Bool.{both_ways, false≢true}
use Rattle.automata.specs.Automata.{Transition, fits_left, find, Within, Single, Sound}
use Rattle.automata.proofs.Finds.{fits_symbol, fits_children}
use Rattle.rules.specs.declared.rule.Rule.{Rule}
use Rattle.rules.specs.declared.shape.Shape.{Shape}
use Rattle.rules.specs.Shapes.{ranks_in, states_in, transition, automaton}
use Rattle.rules.proofs.Books.{single_push}
use Rattle.liveness.proofs.Derivations.{nth_mapped}
use Rattle.liveness.proofs.Reaches.{all_nth, find_itself}
use Rattle.comparison.specs.Soundness.{Next}

module _ {W : Type 0} where
  -- no rule before another has its left side
  single_before : (ts : List (Transition W)) (i : ℕ) (t : Transition W) → Single ts → slice_get ts i ≡ Some t → find (take i ts) t.symbol t.children ≡ None
  single_before [] i t s e = let z : ◌≡◌ {A = ℕ} 0 1 = cc in absurd (omega arith)
  single_before (x ∷ ts) zero t s e = refl
  single_before (x ∷ ts) (suc i) t s e = at (fits_left x t.symbol t.children) refl (single_before ts i t s.1 e)
    where
      at : (b : Bool) → fits_left x t.symbol t.children ≡ b → find (take i ts) t.symbol t.children ≡ None → cond b (Some x) (find (take i ts) t.symbol t.children) ≡ None
      at true f ih =
          let p = fits_symbol x t.symbol t.children f in
          let q = fits_children x t.symbol t.children f in
          let gone : find ts x.symbol x.children ≡ None = s.0 in
          let there = find_itself ts i t s.1 e in
          let z : ◌≡◌ {A = ℕ} 0 1 = cc in absurd (omega arith)
      at false f ih = ih

-- the rule x at the place i, behind the first j rules
module _ {V W : Type 0} (stands : V → W) (shape : Shape) (rules : List (Rule V)) (i j : ℕ) (same : j ≡ i) (x : Rule V) (low : i < length rules) (is : x ≡ get_or rules i x) where
  abbrev t : Transition W
  t = transition stands (ranks_in shape) x

  abbrev before : List (Transition W)
  before = map (transition stands (ranks_in shape)) (take j rules)

  pub sound_more : Sound (automaton stands shape (take i rules)) → Next (ranks_in shape) (states_in shape) before t → Sound (automaton stands shape (take (i + 1) rules))
  sound_more s n =
      let first : map (transition stands (ranks_in shape)) (take i rules) ≡ before = ap (λ k. map (transition stands (ranks_in shape)) (take k rules)) (sym same) in
      let one : map (transition stands (ranks_in shape)) (take (i + 1) rules) ≡ before ++ t ∷ [] =
      ap (map (transition stands (ranks_in shape))) (take_more rules i x low ∙ ap (λ y. take i rules ++ y ∷ []) (sym is)) ∙ map_push (transition stands (ranks_in shape)) (take i rules) x ∙ ap (λ us. us ++ t ∷ []) first in
      record {
        within = subst (AllByRecursion (Within (ranks_in shape) (states_in shape))) (sym one) (All-push (Within (ranks_in shape) (states_in shape)) before t (subst (AllByRecursion (Within (ranks_in shape) (states_in shape))) first s.within) n.within);
        single = subst Single (sym one) (single_push before t (subst Single first s.single) n.free);
      }

  sound_before : Sound (automaton stands shape rules) → Next (ranks_in shape) (states_in shape) before t
  sound_before s =
      let ts = map (transition stands (ranks_in shape)) rules in
      let there : slice_get ts i ≡ Some t = nth_mapped (transition stands (ranks_in shape)) rules i x low is in
      record {
        within = all_nth (Within (ranks_in shape) (states_in shape)) ts i t s.within there;
        free = ap (λ us. find us t.symbol t.children) (sym (take-map (transition stands (ranks_in shape)) j rules) ∙ ap (λ k. take k ts) same) ∙ single_before ts i t s.single there;
      }

  pub sound_fails : (r : Bool) → Decides r (Next (ranks_in shape) (states_in shape) before t) → r ≡ false → Decides false (Sound (automaton stands shape rules))
  sound_fails r d e = ((λ f. absurd (false≢true f)), (λ s. absurd (both_ways r e (d.1 (sound_before s)))))

pub sound_all : {V W : Type 0} (stands : V → W) (shape : Shape) (rules : List (Rule V)) (i : ℕ) → length rules ≤ i → Sound (automaton stands shape (take i rules)) → Decides true (Sound (automaton stands shape rules))
sound_all stands shape rules i past s = ((λ e. subst (λ rs. Sound (automaton stands shape rs)) (take_all i rules past) s), (λ h. refl))
