-- Swapping all children of a rule for members of the same classes, and the rule found in the merged automaton.
use Rattle.std.proofs.Common.{◌≡◌, ℕ, true, List, [], ◌∷◌, ◌++◌, map, Some, None, Option, sym, refl, ap, ◌∙◌, ap₂, arith}
use Rattle.std.specs.List.{AllByRecursion}
use Rattle.std.proofs.lemmas.List.{append_assoc}
use Rattle.std.proofs.ByRecursion.{All-append}
use Rattle.kinds.specs.Weights.{Weights}
use Rattle.automata.specs.Automata.{Transition, Automaton, fits_left, find, Sound}
use Rattle.automata.specs.Runs.{applied}
use Rattle.automata.specs.Merging.{keeps, dropped, Grouping, relabelled, merged, Counterpart, Admissible}
use Rattle.automata.proofs.Finds.{fits_symbol, fits_children, fits_itself, find_fits, find_children}
use Rattle.automata.proofs.Pushes.{changed}
use Rattle.automata.proofs.Drops.{kept_target, kept_children, kept_from, kept_find, find_passes}
use Rattle.automata.proofs.Firsts.{Source, find_firsts, single_kept, find_source, find_changed}

-- all states of the list are members
abbrev pub Members : {W : Type 0} → Grouping W → List ℕ → Type 0
Members G qs = AllByRecursion (λ q. G.member q ≡ true) qs

module _ {W : Type 0} (K : Weights W) (A : Automaton W) (G : Grouping W) where
  -- a rule whose target and left side are members is kept
  pub keeps_rule : (s : ℕ) (qs : List ℕ) (r : Transition W) → find A.rules s qs ≡ Some r → G.member r.target ≡ true → Members G qs → keeps G.member r ≡ true
  keeps_rule s qs r e t m = kept_from G.member r t (rw (find_children A.rules s qs r e) m)

  -- a counterpart of a counterpart
  counterpart_trans : (r : Transition W) (s : ℕ) (ps qs : List ℕ) (o : Counterpart K A G r s ps) → Counterpart K A G o.other s qs → Counterpart K A G r s qs
  counterpart_trans r s ps qs o u = record {
    other = u.other;
    there = u.there;
    member_target = u.member_target;
    same_class = o.same_class ∙ u.same_class;
    same_weight = o.same_weight ∙ u.same_weight;
  }

  -- a relabelled rule and its relabelled counterpart make the same step
  counterpart_applied : (w : W) (s : ℕ) (qs : List ℕ) (x r : Transition W) (o : Option (Transition W)) (c : Counterpart K A G r s qs) → x ≡ relabelled K G r → Some c.other ≡ o → applied K w (Some x) ≡ applied K w (changed (relabelled K G) o)
  counterpart_applied w s qs x r o c e f =
      ap (λ y. applied K w (Some y)) e
      ∙ ap₂ (λ y z. Some (record { state = y; weight = K.times w z })) c.same_class c.same_weight
      ∙ ap (λ y. applied K w (changed (relabelled K G) y)) f

  module _ (h : Admissible K A G) where
    -- one place at a time, after the places done
    pub swapped : (s : ℕ) (done ps qs : List ℕ) (r : Transition W) → find A.rules s (done ++ ps) ≡ Some r → G.member r.target ≡ true → Members G done → Members G ps → Members G qs → map G.class ps ≡ map G.class qs → Counterpart K A G r s (done ++ qs)
    swapped s done [] [] r e t d m n c = record { other = r; there = e; member_target = t; same_class = refl; same_weight = refl }
    swapped s done [] (q ∷ qs) r e t d m n c = let z : ◌≡◌ {A = ℕ} 0 1 = cc in absurd (omega arith)
    swapped s done (p ∷ ps) [] r e t d m n c = let z : ◌≡◌ {A = ℕ} 0 1 = cc in absurd (omega arith)
    swapped s done (p ∷ ps) (q ∷ qs) r e t d m n c =
        let head : G.class p ≡ G.class q = cc in
        let tail : map G.class ps ≡ map G.class qs = cc in
        let kept = keeps_rule s (done ++ p ∷ ps) r e t (All-append (λ x. G.member x ≡ true) done (p ∷ ps) d m) in
        let o = h.swaps s done ps p q r e kept n.0 head in
        let there : find A.rules s ((done ++ q ∷ []) ++ ps) ≡ Some o.other = rw append_assoc o.there in
        let members = All-append (λ x. G.member x ≡ true) done (q ∷ []) d (n.0, tt) in
        let u = swapped s (done ++ q ∷ []) ps qs o.other there o.member_target members m.1 n.1 tail in
        counterpart_trans r s (done ++ q ∷ ps) (done ++ q ∷ qs) o (rw append_assoc at u)

    module _ (sound : Sound A) where
      -- the rule found for classes of members came from a rule whose counterpart is the one for the members
      source_counterpart : (s : ℕ) (qs : List ℕ) (x : Transition W) → Members G qs → (o : Source (relabelled K G) (dropped G.member A).rules s (map G.class qs) x) → Counterpart K A G o.rule s qs
      source_counterpart s qs x m o =
          let r = o.rule in
          let k = kept_find (keeps G.member) A.rules r.symbol r.children r sound.single o.itself in
          let symbol : r.symbol ≡ s = fits_symbol (relabelled K G r) s (map G.class qs) o.fits in
          let there : find A.rules s r.children ≡ Some r = ap (λ y. find A.rules y r.children) (sym symbol) ∙ k.0 in
          swapped s [] r.children qs r there (kept_target G.member r k.1) tt (kept_children G.member r k.1) m (fits_children (relabelled K G r) s (map G.class qs) o.fits)

      relabelled_fits : (s : ℕ) (qs : List ℕ) (r : Transition W) → fits_left r s qs ≡ true → fits_left (relabelled K G r) s (map G.class qs) ≡ true
      relabelled_fits s qs r e =
          ap₂ (λ x y. fits_left (relabelled K G r) x (map G.class y)) (sym (fits_symbol r s qs e)) (sym (fits_children r s qs e)) ∙ fits_itself (relabelled K G r)

      same_applied : (w : W) (s : ℕ) (qs : List ℕ) (x o : Option (Transition W)) → Members G qs → find (map (relabelled K G) (dropped G.member A).rules) s (map G.class qs) ≡ x → find (dropped G.member A).rules s qs ≡ o → applied K w x ≡ applied K w (changed (relabelled K G) o)
      same_applied w s qs None None m e f = refl
      same_applied w s qs None (Some r) m e f =
          let kept = (dropped G.member A).rules in
          absurd (find_changed (relabelled K G) kept s s qs (map G.class qs) r f (relabelled_fits s qs r (find_fits kept s qs r f)) e)
      same_applied w s qs (Some x) o m e f =
          let kept = (dropped G.member A).rules in
          let source = find_source (relabelled K G) kept s (map G.class qs) x (single_kept (keeps G.member) A.rules sound.single) e in
          let c = source_counterpart s qs x m source in
          let passes = keeps_rule s qs c.other c.there c.member_target m in
          let there : find kept s qs ≡ Some c.other = find_passes (keeps G.member) A.rules s qs c.other sound.single c.there passes in
          counterpart_applied w s qs x source.rule o c source.comes (sym there ∙ f)

      -- a step of the merged automaton at the classes of members is the relabelled step at the members
      pub applied_merged : (w : W) (s : ℕ) (qs : List ℕ) → Members G qs → applied K w (find (merged K G A).rules s (map G.class qs)) ≡ applied K w (changed (relabelled K G) (find (dropped G.member A).rules s qs))
      applied_merged w s qs m =
          let rules = map (relabelled K G) (dropped G.member A).rules in
          ap (applied K w) (find_firsts rules s (map G.class qs))
          ∙ same_applied w s qs (find rules s (map G.class qs)) (find (dropped G.member A).rules s qs) m refl refl
