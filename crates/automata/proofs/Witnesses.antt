-- Each way in which an exploration fails names a tree that the two automata weigh differently.
use Rattle.std.proofs.Common.{◌≡◌, ℕ, Bool, true, false, cond, ◌⊎◌, Some, None, Option, sym, refl, ◌∙◌, subst, inl, inr, arith}
use Rattle.kinds.specs.Weights.{Weights}
use Rattle.automata.specs.Trees.{Tree, Row, node, Over}
use Rattle.automata.specs.Automata.{Transition, Automaton, find}
use Rattle.automata.specs.Runs.{At, Ats, run, runs, weight_of}
use Rattle.automata.specs.Contexts.{OverContext, plug, value, scaled, Sign, Live}
use Rattle.automata.specs.Comparing.{Witness, FailingWitnessed}
use Rattle.automata.proofs.Groups.{exchange, right_injective, weight_discrete}
use Rattle.automata.proofs.Lives.{over_plug}
use Rattle.automata.proofs.Signs.{weighs_in, weighs_sign, weighs_nothing, weighs_live}

-- from v s = w z and x s = y z
crossed : {W : Type 0} (K : Weights W) (v w x y s z : W) → K.times v s ≡ K.times w z → K.times x s ≡ K.times y z → K.times v y ≡ K.times x w
crossed K v w x y s z e f =
    let p = exchange K v y s z in
    let q = exchange K x w s z in
    let r = K.comm (K.times w z) (K.times y z) in
    right_injective K (K.times s z) (K.times v y) (K.times x w) cc

module _ {W : Type 0} (K : Weights W) (A B : Automaton W) where
  lone_witness : A.ranks ≡ B.ranks → (s : ℕ) (ts : Row) (a b : Ats W) (r : Transition W) (c : Sign K A r.target) → Over A.ranks (node s ts) → runs K A ts ≡ Some a → runs K B ts ≡ Some b → find A.rules s a.states ≡ Some r → ((o : Transition W) → find B.rules s b.states ≡ Some o → Live K B o.target → ⊥) → Witness K A B (plug c.context (node s ts))
  lone_witness ranks s ts a b r c h d e f alone = record {
    over = over_plug A.ranks c.context (node s ts) c.over h;
    differs = λ same. at (find B.rules s b.states) refl (sym same ∙ weighs_sign K A (node s ts) r.target (K.times a.weight r.weight) c (rw (d, f)));
  }
    where
      at : (o : Option (Transition W)) → find B.rules s b.states ≡ o → weight_of K B (plug c.context (node s ts)) ≡ Some (K.times (K.times a.weight r.weight) c.weight) → ⊥
      at None g same =
          let there = weighs_nothing K B c.context (node s ts) (rw (e, g)) in
          let z : ◌≡◌ {A = ℕ} 0 1 = cc in
          omega arith
      at (Some o) g same =
          alone o g (weighs_live K B c.context (node s ts) o.target (K.times b.weight o.weight) (K.times (K.times a.weight r.weight) c.weight) (subst (λ x. OverContext x c.context) ranks c.over) (subst (λ x. Over x (node s ts)) ranks h) (rw (e, g)) same)

  -- a tree whose run in B gives nothing or another weight in a sign of life of its state in A
  sign_witness : (t : Tree) (p q : ℕ) (v w : W) (c : Sign K A p) → Over A.ranks t → run K A t ≡ Some (record { state = p; weight = v }) → run K B t ≡ Some (record { state = q; weight = w }) → (Some (K.times v c.weight) ≡ scaled K w (value K B c.context q) → ⊥) → Witness K A B (plug c.context t)
  sign_witness t p q v w c o e f apart = record {
    over = over_plug A.ranks c.context t c.over o;
    differs = λ same. apart (sym (weighs_sign K A t p v c e) ∙ same ∙ weighs_in K B c.context t q w f);
  }

  uneven_witness : (t u : Tree) (p q : ℕ) (v w x y : W) (c : Sign K A p) → Over A.ranks t → Over A.ranks u → run K A t ≡ Some (record { state = p; weight = v }) → run K B t ≡ Some (record { state = q; weight = w }) → run K A u ≡ Some (record { state = p; weight = x }) → run K B u ≡ Some (record { state = q; weight = y }) → (K.times v y ≡ K.times x w → ⊥) → Witness K A B (plug c.context t) ⊎ Witness K A B (plug c.context u)
  uneven_witness t u p q v w x y c m n e f g h apart = at (value K B c.context q) (sign_witness t p q v w c m e f) (sign_witness u p q x y c n g h)
    where
      at : (o : Option W) → ((Some (K.times v c.weight) ≡ scaled K w o → ⊥) → Witness K A B (plug c.context t)) → ((Some (K.times x c.weight) ≡ scaled K y o → ⊥) → Witness K A B (plug c.context u)) → Witness K A B (plug c.context t) ⊎ Witness K A B (plug c.context u)
      at None first second = inl (first (λ same. let z : ◌≡◌ {A = ℕ} 0 1 = cc in omega arith))
      at (Some z) first second = one (weight_discrete K (K.times v c.weight) (K.times w z))
        where
          one : Dec (K.times v c.weight ≡ K.times w z) → Witness K A B (plug c.context t) ⊎ Witness K A B (plug c.context u)
          one (yes i) = inr (second (λ same. apart (crossed K v w x y c.weight z i cc)))
          one (no i) = inl (first (λ same. i cc))

  unlike_witness : (t : Tree) (a b : At W) → Over A.ranks t → run K A t ≡ Some a → run K B t ≡ Some b → (A.accepting a.state ≡ B.accepting b.state → ⊥) → Witness K A B t
  unlike_witness t a b o e f apart = record { over = o; differs = λ same. at (A.accepting a.state) (B.accepting b.state) refl refl (rw (e, f) at same) }
    where
      at : (p q : Bool) → A.accepting a.state ≡ p → B.accepting b.state ≡ q → cond p (Some a.weight) None ≡ cond q (Some b.weight) None → ⊥
      at true true h k same = apart (h ∙ sym k)
      at true false h k same = let z : ◌≡◌ {A = ℕ} 0 1 = cc in omega arith
      at false true h k same = let z : ◌≡◌ {A = ℕ} 0 1 = cc in omega arith
      at false false h k same = apart (h ∙ sym k)

  unequal_witness : (t : Tree) (a b : At W) → Over A.ranks t → run K A t ≡ Some a → run K B t ≡ Some b → A.accepting a.state ≡ true → B.accepting b.state ≡ true → (a.weight ≡ b.weight → ⊥) → Witness K A B t
  unequal_witness t a b o e f h k apart = record {
    over = o;
    differs = λ same. let both : Some a.weight ≡ Some b.weight = rw (e, f, h, k) at same in apart (cc);
  }

pub failing : {W : Type 0} (K : Weights W) → FailingWitnessed K
failing K A B ranks = record {
  lone = λ s ts a b r c h n o. lone_witness K A B ranks s ts a b r c (h, n, o);
  uneven = uneven_witness K A B;
  unlike = unlike_witness K A B;
  unequal = unequal_witness K A B;
}
