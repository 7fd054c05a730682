-- One state more: its flag, how it was found, and the list.
use Rattle.std.proofs.Common.{◌≡◌, ℕ, ◌+◌, ◌<◌, ◌≤◌, true, false, length, get_or, set, is_some, Some, None, sym, ◌∙◌, subst, arith, length-set}
use Rattle.std.proofs.lemmas.List.{map-set, length-map, get_or-set_same, get_or-set_other}
use Rattle.liveness.specs.declared.found.Found.{Found}
use Rattle.liveness.specs.Listings.{Flagged, Listed, flags_of, how_of, found_too}
use Rattle.liveness.proofs.Listings.{listed_more, flag_kept, set_here}

-- the arrays have their lengths
pub record Sized {X : Type 0} (F : Found X) : Type 0 where
  pub how : length F.how ≡ 48
  pub order : length F.order ≡ 48

module _ {X : Type 0} (F : Found X) (sized : Sized F) (q : ℕ) (h : X) where
  pub sized_more : Sized (found_too F q h)
  sized_more = record { how = length-set F.how q (Some h) ∙ sized.how; order = length-set F.order F.count q ∙ sized.order }

  pub flags_long : length (flags_of F) ≡ 48
  flags_long = length-map F.how is_some ∙ sized.how

  pub flags_too : set (flags_of F) q true ≡ flags_of (found_too F q h)
  flags_too = sym (map-set is_some F.how q (Some h))

  pub how_here : q < 48 → how_of (found_too F q h) q ≡ Some h
  how_here low = get_or-set_same F.how q (Some h) None (omega (arith, sized.how))

  pub how_other : (p : ℕ) → (p ≡ q → ⊥) → how_of (found_too F q h) p ≡ how_of F p
  how_other p n = get_or-set_other F.how q p (Some h) None n

  pub kept : (p : ℕ) → q < 48 → Flagged (flags_of F) p → Flagged (flags_of (found_too F q h)) p
  kept p low f = subst (λ fs. Flagged fs p) flags_too (flag_kept (flags_of F) q p (omega (arith, flags_long)) f)

  module _ (states : ℕ) (few : states ≤ 48) (listed : Listed states (flags_of F) F.order F.count) (new : q < states) (off : get_or (flags_of F) q false ≡ false) where
    pub here : Flagged (flags_of (found_too F q h)) q
    here = subst (λ fs. Flagged fs q) flags_too (set_here states (flags_of F) F.order F.count flags_long sized.order few listed q new off)

    pub listed_too : Listed states (flags_of (found_too F q h)) (set F.order F.count q) (F.count + 1)
    listed_too = subst (λ fs. Listed states fs (set F.order F.count q) (F.count + 1)) flags_too (listed_more states (flags_of F) F.order F.count flags_long sized.order few listed q new off)
