-- A push of one state, rule by rule and child by child.
use Rattle.std.proofs.Common.{◌≡◌, ℕ, ◌+◌, ◌<◌, ◌≤◌, min, Bool, true, false, cond, eqb, List, [], ◌∷◌, ◌++◌, map, length, get_or, take, drop, set, sym, refl, ap, ◌∙◌, subst, ap₂, ⊎_elim, add-zero, arith, length-set}
use Rattle.std.proofs.lemmas.List.{take_more, take_more_set, take_all, take-append-le, take-append-drop, length-take-le, length-append, map_push, get_or-drop, drop-drop, drop_all, drop-set-lt}
use Rattle.std.proofs.lemmas.Slice.{drop-append-drop}
use Rattle.std.proofs.lemmas.Bool.{eq-eqb, ne_eqb, both_ways, cases_eq, cases_lt}
use Rattle.kinds.specs.Weights.{Weights}
use Rattle.automata.specs.Pushing.{undone, reweighed}
use Rattle.automata.specs.Runs.{Alike}
use Rattle.automata.proofs.Groups.{unit_right, inverse_one}
use Rattle.automata.proofs.Pushes.{pushing}
use Rattle.trees.proofs.Ranks.{take_capped}
use Rattle.rules.specs.declared.rule.Rule.{Rule}
use Rattle.rules.specs.declared.shape.Shape.{Shape}
use Rattle.rules.specs.Books.{holding}
use Rattle.rules.specs.Pushing.{at_state, at_places, pushed_book, PushedTo, Pushes}
use Rattle.rules.specs.Shapes.{ranks_in, states_in, accepts_in, transition}

module _ {W : Type 0} (K : Weights W) (q : ℕ) where
  places_push : (b : W) (ps : List ℕ) (p : ℕ) → at_places K q b (ps ++ p ∷ []) ≡ K.times (at_places K q b ps) (at_state K q b p)
  places_push b [] p = K.comm (at_state K q b p) K.one
  places_push b (r ∷ ps) p = ap (K.times (at_state K q b r)) (places_push b ps p) ∙ sym (K.assoc (at_state K q b r) (at_places K q b ps) (at_state K q b p))

  -- one place more: v is w times what the places before give
  pub past : (b : W) (ps : List ℕ) (k : ℕ) (w v : W) → k < length ps → v ≡ K.times w (at_places K q b (take k ps)) → K.times v (at_state K q b (get_or ps k 0)) ≡ K.times w (at_places K q b (take (k + 1) ps))
  past b ps k w v h e =
      ap (λ x. K.times x (at_state K q b (get_or ps k 0))) e
      ∙ K.assoc w (at_places K q b (take k ps)) (at_state K q b (get_or ps k 0))
      ∙ ap (K.times w) (sym (ap (at_places K q b) (take_more ps k 0 h) ∙ places_push b (take k ps) (get_or ps k 0)))

  -- a state that is pushed, and one that is not
  pub times_here : (w f : W) (p : ℕ) → p ≡ q → K.times w f ≡ K.times w (at_state K q f p)
  times_here w f p e = ap (λ t. K.times w (cond t f K.one)) (sym (eq-eqb p q e))

  pub times_other : (w f : W) (p : ℕ) → (p ≡ q → ⊥) → w ≡ K.times w (at_state K q f p)
  times_other w f p n = sym (unit_right K w) ∙ ap (λ t. K.times w (cond t f K.one)) (sym (ne_eqb p q n))

  -- the inverse of the factor at a state: v is b at the pushed state, and one elsewhere
  pub state_undo : (f b v : W) (p : ℕ) → b ≡ K.inverse f → v ≡ at_state K q b p → v ≡ K.inverse (at_state K q f p)
  state_undo f b v p inverted e = e ∙ ap (λ x. at_state K q x p) inverted ∙ at (eqb p q)
    where
      at : (t : Bool) → cond t (K.inverse f) K.one ≡ K.inverse (cond t f K.one)
      at true = refl
      at false = sym (inverse_one K)

  -- the inverses of the factors, place by place
  pub places_undo : (f : W) (ps : List ℕ) → at_places K q (K.inverse f) ps ≡ undone K (at_state K q f) ps
  places_undo f [] = refl
  places_undo f (p ∷ ps) = ap₂ K.times (state_undo f (K.inverse f) (at_state K q (K.inverse f) p) p refl refl) (places_undo f ps)

  pub pushed_is : (w f v b r : W) (t u n m : ℕ) (ps : List ℕ) → r ≡ K.times v (at_places K q b (take n ps)) → v ≡ K.times w (at_state K q f u) → u ≡ t → b ≡ K.inverse f → n ≡ m → r ≡ K.times (K.times w (at_state K q f t)) (undone K (at_state K q f) (take m ps))
  pushed_is w f v b r t u n m ps e1 e2 e3 e4 e5 =
      e1 ∙ (λ i. K.times ((e2 ∙ ap (λ x. K.times w (at_state K q f x)) e3) i) (at_places K q (e4 i) (take (e5 i) ps))) ∙ ap (K.times (K.times w (at_state K q f t))) (places_undo f (take m ps))

module _ {V W : Type 0} (K : Weights W) (stands : V → W) (ranks : List ℕ) (q : ℕ) (f : W) where
  pub pushed_none : (xs : List (Rule V)) → PushedTo K stands ranks q f xs xs 0
  pushed_none xs = record { same_length = refl; pushed_rules = refl; same_rest = refl }

  pub pushed_more : (xs ys : List (Rule V)) (i : ℕ) (x : Rule V) (v : V) → i < length xs → PushedTo K stands ranks q f xs ys i → x ≡ get_or ys i x → stands v ≡ (reweighed K (at_state K q f) (transition stands ranks x)).weight → PushedTo K stands ranks q f xs (set ys i (record { left = x.left; target = x.target; weight = v })) (i + 1)
  pushed_more xs ys i x v h p read w =
      let y : Rule V = record { left = x.left; target = x.target; weight = v } in
      let k : i < length ys = omega (arith, p.same_length) in
      let same : get_or xs i x ≡ x = sym (getD_first xs i x) ∙ ap (λ zs. get_or zs 0 x) (sym p.same_rest) ∙ getD_first ys i x ∙ sym read in
      let last : transition stands ranks y ≡ reweighed K (at_state K q f) (transition stands ranks (get_or xs i x)) =
      (λ j. record { symbol = x.left.symbol; children = (transition stands ranks x).children; target = x.target; weight = w j }) ∙ ap (λ z. reweighed K (at_state K q f) (transition stands ranks z)) (sym same) in
      record {
        same_length = length-set ys i y ∙ p.same_length;
        pushed_rules =
            ap (map (transition stands ranks)) (take_more_set ys i y k)
            ∙ map_push (transition stands ranks) (take i ys) y
            ∙ ap₂ (λ zs z. zs ++ z ∷ []) p.pushed_rules last
            ∙ sym (ap (λ zs. map (reweighed K (at_state K q f)) (map (transition stands ranks) zs)) (take_more xs i x h)
            ∙ ap (map (reweighed K (at_state K q f))) (map_push (transition stands ranks) (take i xs) (get_or xs i x))
            ∙ map_push (reweighed K (at_state K q f)) (map (transition stands ranks) (take i xs)) (transition stands ranks (get_or xs i x)));
        same_rest = drop-set-lt (i + 1) ys i y (omega arith) ∙ drop_step ys xs i p.same_rest;
      }
    where
      getD_first : (zs : List (Rule V)) (j : ℕ) (d : Rule V) → get_or (drop j zs) 0 d ≡ get_or zs j d
      getD_first zs j d = get_or-drop j zs 0 d ∙ ap (λ n. get_or zs n d) (add-zero j)

      drop_step : (ws zs : List (Rule V)) (j : ℕ) → drop j ws ≡ drop j zs → drop (j + 1) ws ≡ drop (j + 1) zs
      drop_step ws zs j e = sym (drop-drop 1 j ws) ∙ ap (drop 1) e ∙ drop-drop 1 j zs

  -- the memory beyond its first rules, which were pushed apart
  pub pushed_front : (xs ys : List (Rule V)) (n i : ℕ) → n ≤ length xs → length ys ≤ i → PushedTo K stands ranks q f (take n xs) ys i → PushedTo K stands ranks q f xs (ys ++ drop n xs) n
  pushed_front xs ys n i few all p =
      let long : length ys ≡ n = p.same_length ∙ length-take-le n xs few in
      let front : take n (ys ++ drop n xs) ≡ take i ys = take-append-le n ys (drop n xs) (omega arith) ∙ take_all n ys (omega arith) ∙ sym (take_all i ys all) in
      let whole : take i (take n xs) ≡ take n xs = take_all i (take n xs) (omega (arith, p.same_length)) in
      record {
        same_length = length-append ys (drop n xs) ∙ ap (λ m. m + length (drop n xs)) long ∙ sym (ap (λ m. m + length (drop n xs)) (length-take-le n xs few)) ∙ sym (length-append (take n xs) (drop n xs)) ∙ ap length (take-append-drop n xs);
        pushed_rules = ap (map (transition stands ranks)) front ∙ p.pushed_rules ∙ ap (λ zs. map (reweighed K (at_state K q f)) (map (transition stands ranks) zs)) whole;
        same_rest = drop-append-drop n xs ys n (omega arith) long;
      }

-- a memory whose table's rules are all pushed, at a state that is not accepting
pub pushes : {V W : Type 0} (K : Weights W) (stands : V → W) (shape : Shape) (count q n : ℕ) (f : W) (xs ys : List (Rule V)) → n ≡ min count (length xs) → PushedTo K stands (ranks_in shape) q f xs ys n → accepts_in shape q ≡ false → Pushes K stands shape count q f xs ys
pushes K stands shape count q n f xs ys capped p plain =
    let all_xs : take n xs ≡ take count xs = take_capped count n xs capped in
    let all_ys : take n ys ≡ take count ys = take_capped count n ys (capped ∙ ap (min count) (sym p.same_length)) in
    let content : map (transition stands (ranks_in shape)) (take count ys) ≡ map (reweighed K (at_state K q f)) (map (transition stands (ranks_in shape)) (take count xs)) =
    ap (map (transition stands (ranks_in shape))) (sym all_ys) ∙ p.pushed_rules ∙ ap (λ zs. map (reweighed K (at_state K q f)) (map (transition stands (ranks_in shape)) zs)) all_xs in
    let rules : holding stands shape ys count ≡ pushed_book K (holding stands shape xs count) q f =
    λ i. record { places = p.same_length i; content = record { ranks = ranks_in shape; states = states_in shape; accepting = accepts_in shape; rules = content i } } in
    let one_accepting : (r : ℕ) → accepts_in shape r ≡ true → at_state K q f r ≡ K.one =
    λ r e. ⊎_elim (λ h. absurd (both_ways (accepts_in shape q) plain (ap (accepts_in shape) (sym h) ∙ e))) (λ h. ap (λ b. cond b f K.one) (ne_eqb r q h)) (cases_eq r q) in
    record {
      rules = rules;
      beyond = ⊎_elim
          (λ h. let e : n ≡ count = omega arith in ap (λ k. drop k ys) (sym e) ∙ p.same_rest ∙ ap (λ k. drop k xs) e)
          (λ h. drop_all count ys (omega (arith, p.same_length)) ∙ sym (drop_all count xs h)) (cases_lt count (length xs));
      alike = subst (λ b. Alike K (holding stands shape xs count).content b.content) (sym rules) ((pushing K (holding stands shape xs count).content (at_state K q f)).alike one_accepting);
    }
