-- The inverses of the factors of children, multiplied on one after another.
use Rattle.std.proofs.Common.{◌≡◌, ℕ, ◌+◌, ◌<◌, ◌≤◌, List, length, get_or, drop, sym, ap, ◌∙◌}
use Rattle.std.proofs.lemmas.List.{at_drop_more, at_drop_all}
use Rattle.kinds.specs.Weights.{Weights}
use Rattle.automata.specs.Pushing.{undone}
use Rattle.automata.proofs.Groups.{unit_right}

module _ {W : Type 0} (K : Weights W) (f : ℕ → W) (w : W) (qs : List ℕ) where
  -- v is w times the inverses of the first k factors
  abbrev pub Undoing : ℕ → W → Type 0
  Undoing k v = K.times v (undone K f (drop k qs)) ≡ K.times w (undone K f qs)

  -- one child more, q
  pub undoing_more : (k q : ℕ) (v u : W) → k < length qs → q ≡ get_or qs k 0 → u ≡ K.times v (K.inverse (f q)) → Undoing k v → Undoing (k + 1) u
  undoing_more k q v u h read next so =
      let here : u ≡ K.times v (K.inverse (f (get_or qs k 0))) = next ∙ ap (λ p. K.times v (K.inverse (f p))) read in
      ap (λ x. K.times x (undone K f (drop (k + 1) qs))) here
      ∙ K.assoc v (K.inverse (f (get_or qs k 0))) (undone K f (drop (k + 1) qs))
      ∙ ap (K.times v) (sym (at_drop_more (undone K f) qs k 0 h))
      ∙ so

  pub undoing_all : (k : ℕ) (v : W) → length qs ≤ k → Undoing k v → v ≡ K.times w (undone K f qs)
  undoing_all k v h u = sym (unit_right K v) ∙ ap (K.times v) (sym (at_drop_all (undone K f) qs k h)) ∙ u
