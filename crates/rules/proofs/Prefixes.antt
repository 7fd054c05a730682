-- Whether a list begins with another, tested place by place.
use Rattle.std.proofs.Common.{◌≡◌, ℕ, ◌≤◌, false, ◌&&◌, eqb, List, [], ◌∷◌, length, take, refl, ap, sym, ⊎_elim, le_of_suc-le-suc, arith}
use Rattle.std.specs.List.{zip, list_all}
use Rattle.std.proofs.lemmas.Bool.{cases_Bool}
use Rattle.automata.specs.Automata.{same_list}
use Rattle.automata.proofs.Finds.{same_list_true}

pub begins_same : (xs ys : List ℕ) → length ys ≤ length xs → list_all (λ (p : ℕ × ℕ). eqb p.0 p.1) (zip xs ys) ≡ same_list (take (length ys) xs) ys
begins_same [] [] l = refl
begins_same (x ∷ xs) [] l = refl
begins_same [] (y ∷ ys) l = absurd (omega arith)
begins_same (x ∷ xs) (y ∷ ys) l = ap (λ b. eqb x y && b) (begins_same xs ys (le_of_suc-le-suc l))

pub not_same : (xs ys : List ℕ) → (xs ≡ ys → ⊥) → false ≡ same_list xs ys
not_same xs ys n = ⊎_elim (λ e. absurd (n (same_list_true xs ys e))) sym (cases_Bool (same_list xs ys))
