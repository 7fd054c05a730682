-- The rules of a merged automaton, one rule more at a time.
use Rattle.std.proofs.Common.{◌≡◌, Bool, true, false, cond, not, List, [], ◌∷◌, ◌++◌, map, is_some, Some, None, filter, Option, sym, refl, ap, ◌∙◌, ap₂}
use Rattle.std.proofs.lemmas.List.{append-nil, map_push}
use Rattle.std.proofs.lemmas.List.Elements.{filter-append}
use Rattle.kinds.specs.Weights.{Weights}
use Rattle.automata.specs.Automata.{Transition, fits_left, find}
use Rattle.automata.specs.Merging.{keeps, Grouping, relabelled, firsts}
use Rattle.automata.proofs.Finds.{fits_symbol, fits_children, fits_itself}
use Rattle.automata.proofs.Firsts.{find_firsts}
use Rattle.reduction.specs.Renaming.{renamed, taken}

-- t after the rules, unless one of them has its left side
abbrev pub added : {W : Type 0} → List (Transition W) → Transition W → List (Transition W)
added rs t = cond (taken rs t) rs (rs ++ t ∷ [])

module _ {W : Type 0} where
  -- two rules have each the left side of the other, or neither has
  fits_back : (x r : Transition W) → fits_left x r.symbol r.children ≡ true → fits_left r x.symbol x.children ≡ true
  fits_back x r e =
      ap₂ (fits_left r) (fits_symbol x r.symbol r.children e) (fits_children x r.symbol r.children e) ∙ fits_itself r

  fits_swap : (x r : Transition W) → fits_left r x.symbol x.children ≡ fits_left x r.symbol r.children
  fits_swap x r = at (fits_left r x.symbol x.children) (fits_left x r.symbol r.children) refl refl
    where
      at : (b c : Bool) → fits_left r x.symbol x.children ≡ b → fits_left x r.symbol r.children ≡ c → b ≡ c
      at true c e f = sym (fits_back r x e) ∙ f
      at false true e f = sym e ∙ fits_back x r f
      at false false e f = refl

  -- a rule goes past a filter to the rules behind another
  added_behind : (x r : Transition W) (p : Transition W → Bool) (rs : List (Transition W)) (b d whole : Bool) → p r ≡ not b → whole ≡ cond b true d → x ∷ filter p (cond d rs (rs ++ r ∷ [])) ≡ cond whole (x ∷ filter p rs) (x ∷ filter p rs ++ r ∷ [])
  added_behind x r p rs true true whole e f = rw f
  added_behind x r p rs true false whole e f =
      ap (λ l. x ∷ l) (filter-append p rs (r ∷ []) ∙ ap (λ c. filter p rs ++ cond c (r ∷ []) []) e ∙ append-nil (filter p rs)) ∙ rw f
  added_behind x r p rs false true whole e f = rw f
  added_behind x r p rs false false whole e f =
      ap (λ l. x ∷ l) (filter-append p rs (r ∷ []) ∙ ap (λ c. filter p rs ++ cond c (r ∷ []) []) e) ∙ rw f

  -- one rule more, at the end
  pub firsts_push : (rs : List (Transition W)) (r : Transition W) → firsts (rs ++ r ∷ []) ≡ added (firsts rs) r
  firsts_push [] r = refl
  firsts_push (x ∷ rs) r =
      let p : Transition W → Bool = λ y. not (fits_left y x.symbol x.children) in
      let b = fits_left x r.symbol r.children in
      let whole : taken (firsts (x ∷ rs)) r ≡ cond b true (taken (firsts rs) r) =
      ap is_some (find_firsts (x ∷ rs) r.symbol r.children ∙ ap (cond b (Some x)) (sym (find_firsts rs r.symbol r.children))) ∙ some_or b (find (firsts rs) r.symbol r.children) in
      ap (λ l. x ∷ filter p l) (firsts_push rs r)
      ∙ added_behind x r p (firsts rs) b (taken (firsts rs) r) (taken (firsts (x ∷ rs)) r) (ap not (fits_swap x r)) whole
    where
      some_or : (b : Bool) (o : Option (Transition W)) → is_some (cond b (Some x) o) ≡ cond b true (is_some o)
      some_or true o = refl
      some_or false o = refl

  -- a rule that may be there is added
  abbrev pub after : List (Transition W) → Option (Transition W) → List (Transition W)
  after rs None = rs
  after rs (Some t) = added rs t

  module _ (K : Weights W) (G : Grouping W) where
    abbrev pub merged_rules : List (Transition W) → List (Transition W)
    merged_rules ts = firsts (map (relabelled K G) (filter (keeps G.member) ts))

    pub merged_push : (ts : List (Transition W)) (t : Transition W) → merged_rules (ts ++ t ∷ []) ≡ after (merged_rules ts) (renamed K G t)
    merged_push ts t =
        ap (λ l. firsts (map (relabelled K G) l)) (filter-append (keeps G.member) ts (t ∷ []))
        ∙ at (keeps G.member t)
      where
        at : (b : Bool) → firsts (map (relabelled K G) (filter (keeps G.member) ts ++ cond b (t ∷ []) [])) ≡ after (merged_rules ts) (cond b (Some (relabelled K G t)) None)
        at true = ap firsts (map_push (relabelled K G) (filter (keeps G.member) ts) t) ∙ firsts_push (map (relabelled K G) (filter (keeps G.member) ts)) (relabelled K G t)
        at false = ap (λ l. firsts (map (relabelled K G) l)) (append-nil (filter (keeps G.member) ts))
