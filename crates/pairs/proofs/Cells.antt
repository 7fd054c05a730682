-- A table of pairs that was made with one value has it in every cell.
use Rattle.std.proofs.Common.{◌≡◌, ℕ, zero, suc, Bool, true, false, cond, ◌&&◌, List, [], ltb, replicate, refl, slice_index_or}
use Rattle.std.proofs.lemmas.Bool.{and_parts, ltb-true}
use Rattle.std.proofs.lemmas.List.{get_or-replicate}
use Rattle.trees.proofs.Ranks.{getD_constant}
use Rattle.pairs.specs.Cells.{cell}

pub same_either : {X : Type 0} (b : Bool) (x d : X) → x ≡ d → cond b x d ≡ d
same_either true x d e = e
same_either false x d e = refl

in_row : {X : Type 0} (n : ℕ) (row : List X) (d : X) (p q : ℕ) → slice_index_or row q d ≡ d → slice_index_or (slice_index_or (replicate n row) p []) q d ≡ d
in_row zero row d zero q e = refl
in_row zero row d (suc p) q e = refl
in_row (suc n) row d zero q e = e
in_row (suc n) row d (suc p) q e = in_row n row d p q e

pub cell_constant : {X : Type 0} (n : ℕ) (d : X) (p q : ℕ) → cell (replicate n (replicate n d)) d p q ≡ d
cell_constant n d p q = same_either (ltb p 48 && ltb q 48) _ d (in_row n (replicate n d) d p q (getD_constant n q d))

same_first : {X : Type 0} (b : Bool) (x y d : X) → (b ≡ true → x ≡ y) → cond b x d ≡ cond b y d
same_first true x y d e = e refl
same_first false x y d e = refl

-- made with x, where d is what a pair with a state past the last has
pub cell_filled : {X : Type 0} (x d : X) (p q : ℕ) → cell (replicate 48 (replicate 48 x)) d p q ≡ cond (ltb p 48 && ltb q 48) x d
cell_filled x d p q =
    same_first (ltb p 48 && ltb q 48) _ x d (λ e. let both = and_parts (ltb p 48) (ltb q 48) e in rw (get_or-replicate 48 p (replicate 48 x) [] (ltb-true p 48 both.0)) (get_or-replicate 48 q x d (ltb-true q 48 both.1)))
