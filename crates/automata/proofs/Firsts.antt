-- Looking up a rule among the first ones with each left side, and among changed rules.
use Rattle.std.proofs.Common.{◌≡◌, ℕ, Bool, true, false, cond, not, List, [], ◌∷◌, map, Some, None, filter, sym, refl, ap, ◌∙◌, ap₂, arith}
use Rattle.std.specs.List.{AllByRecursion}
use Rattle.std.proofs.ByRecursion.{all_kept_by}
use Rattle.automata.specs.Automata.{Transition, fits_left, find, Single}
use Rattle.automata.specs.Merging.{firsts}
use Rattle.automata.proofs.Finds.{fits_symbol, fits_children, fits_itself}
use Rattle.automata.proofs.Drops.{passing, find_kept}

-- a rule that a changed rule came from, which is the one for its own left side
pub record Source {W : Type 0} (g : Transition W → Transition W) (rs : List (Transition W)) (s : ℕ) (qs : List ℕ) (x : Transition W) : Type 0 where
  pub rule : Transition W
  pub comes : x ≡ g rule
  pub itself : find rs rule.symbol rule.children ≡ Some rule
  pub fits : fits_left (g rule) s qs ≡ true

module _ {W : Type 0} where
  -- a filter that every rule with the left side passes changes no look-up of it
  find_kept_whole : (p : Transition W → Bool) (rs : List (Transition W)) (s : ℕ) (qs : List ℕ) → ((x : Transition W) → fits_left x s qs ≡ true → p x ≡ true) → find (filter p rs) s qs ≡ find rs s qs
  find_kept_whole p [] s qs h = refl
  find_kept_whole p (x ∷ rs) s qs h = at (fits_left x s qs) (p x) refl refl (h x) (find_kept_whole p rs s qs h)
    where
      at : (b c : Bool) → fits_left x s qs ≡ b → p x ≡ c → (fits_left x s qs ≡ true → p x ≡ true) → find (filter p rs) s qs ≡ find rs s qs → find (cond c (x ∷ filter p rs) (filter p rs)) s qs ≡ cond b (Some x) (find rs s qs)
      at true true f k i ih = rw f
      at true false f k i ih = let j = i f in let z : ◌≡◌ {A = ℕ} 0 1 = cc in absurd (omega arith)
      at false true f k i ih = rw f ih
      at false false f k i ih = ih

  -- a filter that no rule with the left side passes leaves none
  find_kept_none : (p : Transition W → Bool) (rs : List (Transition W)) (s : ℕ) (qs : List ℕ) → ((x : Transition W) → fits_left x s qs ≡ true → p x ≡ false) → find (filter p rs) s qs ≡ None
  find_kept_none p [] s qs h = refl
  find_kept_none p (x ∷ rs) s qs h = at (fits_left x s qs) (p x) refl refl (h x) (find_kept_none p rs s qs h)
    where
      at : (b c : Bool) → fits_left x s qs ≡ b → p x ≡ c → (fits_left x s qs ≡ true → p x ≡ false) → find (filter p rs) s qs ≡ None → find (cond c (x ∷ filter p rs) (filter p rs)) s qs ≡ None
      at true true f k i ih = let j = i f in let z : ◌≡◌ {A = ℕ} 0 1 = cc in absurd (omega arith)
      at true false f k i ih = ih
      at false true f k i ih = rw f ih
      at false false f k i ih = ih

  -- two rules that fit one left side fit each other's
  fits_other : (r x : Transition W) (s : ℕ) (qs : List ℕ) → fits_left x s qs ≡ true → fits_left x r.symbol r.children ≡ true → fits_left r s qs ≡ true
  fits_other r x s qs f k =
      let i : r.symbol ≡ s = sym (fits_symbol x r.symbol r.children k) ∙ fits_symbol x s qs f in
      let j : r.children ≡ qs = sym (fits_children x r.symbol r.children k) ∙ fits_children x s qs f in
      ap₂ (fits_left r) (sym i) (sym j) ∙ fits_itself r

  pub find_firsts : (rs : List (Transition W)) (s : ℕ) (qs : List ℕ) → find (firsts rs) s qs ≡ find rs s qs
  find_firsts [] s qs = refl
  find_firsts (r ∷ rs) s qs = at (fits_left r s qs) refl (find_firsts rs s qs)
    where
      at : (b : Bool) → fits_left r s qs ≡ b → find (firsts rs) s qs ≡ find rs s qs → cond b (Some r) (find (filter (λ x. not (fits_left x r.symbol r.children)) (firsts rs)) s qs) ≡ cond b (Some r) (find rs s qs)
      at true f ih = refl
      at false f ih = find_kept_whole (λ x. not (fits_left x r.symbol r.children)) (firsts rs) s qs (λ x k. stays x k (fits_left x r.symbol r.children) refl) ∙ ih
        where
          stays : (x : Transition W) → fits_left x s qs ≡ true → (c : Bool) → fits_left x r.symbol r.children ≡ c → not c ≡ true
          stays x k true h = let j = fits_other r x s qs k h in let z : ◌≡◌ {A = ℕ} 0 1 = cc in absurd (omega arith)
          stays x k false h = refl

  pub single_kept : (p : Transition W → Bool) (rs : List (Transition W)) → Single rs → Single (filter p rs)
  single_kept p [] h = tt
  single_kept p (x ∷ rs) h = at (p x) (single_kept p rs h.1)
    where
      at : (b : Bool) → Single (filter p rs) → Single (cond b (x ∷ filter p rs) (filter p rs))
      at true ih = (find_kept p rs x.symbol x.children h.1 ∙ ap (passing p) h.0, ih)
      at false ih = ih

  pub single_firsts : (rs : List (Transition W)) → Single (firsts rs)
  single_firsts [] = tt
  single_firsts (r ∷ rs) =
      let p : Transition W → Bool = λ x. not (fits_left x r.symbol r.children) in
      (find_kept_none p (firsts rs) r.symbol r.children (λ x k. ap not k), single_kept p (firsts rs) (single_firsts rs))

  pub all_firsts : (P : Transition W → Type 0) (rs : List (Transition W)) → AllByRecursion P rs → AllByRecursion P (firsts rs)
  all_firsts P [] h = tt
  all_firsts P (r ∷ rs) h = (h.0, all_kept_by (λ x. not (fits_left x r.symbol r.children)) P (firsts rs) (all_firsts P rs h.1))

  -- what is found among changed rules came from a rule
  pub find_source : (g : Transition W → Transition W) (rs : List (Transition W)) (s : ℕ) (qs : List ℕ) (x : Transition W) → Single rs → find (map g rs) s qs ≡ Some x → Source g rs s qs x
  find_source g [] s qs x h e = let z : ◌≡◌ {A = ℕ} 0 1 = cc in absurd (omega arith)
  find_source g (r ∷ rs) s qs x h e = at (fits_left (g r) s qs) refl e (find_source g rs s qs x h.1)
    where
      later : (b : Bool) (y : Transition W) → fits_left r y.symbol y.children ≡ b → find rs y.symbol y.children ≡ Some y → cond b (Some r) (find rs y.symbol y.children) ≡ Some y
      later true y f k =
          let gone = ap₂ (find rs) (sym (fits_symbol r y.symbol y.children f)) (sym (fits_children r y.symbol y.children f)) ∙ h.0 in
          let z : ◌≡◌ {A = ℕ} 0 1 = cc in
          absurd (omega arith)
      later false y f k = k

      at : (b : Bool) → fits_left (g r) s qs ≡ b → cond b (Some (g r)) (find (map g rs) s qs) ≡ Some x → (find (map g rs) s qs ≡ Some x → Source g rs s qs x) → Source g (r ∷ rs) s qs x
      at true f k ih = record { rule = r; comes = cc; itself = rw (fits_itself r); fits = f }
      at false f k ih =
          let i = ih k in
          let y = i.rule in
          record { rule = y; comes = i.comes; itself = later (fits_left r y.symbol y.children) y refl i.itself; fits = i.fits }

  -- if a rule is there, then one is found among the changed rules for any left side that it fits after the change
  pub find_changed : (g : Transition W → Transition W) (rs : List (Transition W)) (s t : ℕ) (ps qs : List ℕ) (r : Transition W) → find rs s ps ≡ Some r → fits_left (g r) t qs ≡ true → find (map g rs) t qs ≡ None → ⊥
  find_changed g [] s t ps qs r e f n = let z : ◌≡◌ {A = ℕ} 0 1 = cc in omega arith
  find_changed g (x ∷ rs) s t ps qs r e f n = at (fits_left x s ps) (fits_left (g x) t qs) refl e n (find_changed g rs s t ps qs r)
    where
      at : (b c : Bool) → fits_left (g x) t qs ≡ c → cond b (Some x) (find rs s ps) ≡ Some r → cond c (Some (g x)) (find (map g rs) t qs) ≡ None → (find rs s ps ≡ Some r → fits_left (g r) t qs ≡ true → find (map g rs) t qs ≡ None → ⊥) → ⊥
      at b true h k m ih = let z : ◌≡◌ {A = ℕ} 0 1 = cc in omega arith
      at true false h k m ih =
          let i : x ≡ r = cc in
          let j : fits_left (g x) t qs ≡ true = ap (λ y. fits_left (g y) t qs) i ∙ f in
          let z : ◌≡◌ {A = ℕ} 0 1 = cc in
          omega arith
      at false false h k m ih = ih k f m
