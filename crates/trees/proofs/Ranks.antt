-- Reading the ranks of an alphabet out of its array.
use Rattle.std.proofs.Common.{◌≡◌, ℕ, ◌+◌, ◌<◌, ◌≤◌, min, ◌≢◌, List, [], ◌∷◌, ◌++◌, length, get_or, take, set, replicate, Some, None, unwrap_or, sym, ap, ◌∙◌, ⊎_elim, arith}
use Rattle.std.specs.List.{slice_get}
use Rattle.std.proofs.lemmas.List.{get_or-take, get_or-replicate, get_or_past, get_or-set_same, get_or-set_other, take_more, take_more_set, take_all, take_min, length-set, length-take, length-replicate}
use Rattle.std.proofs.lemmas.Option.{slice_get-get_or, slice_get_past, slice_get_within, get_or_from_slice_get, unwrap_or-slice_get}
use Rattle.std.proofs.lemmas.Bool.{cases_lt}
use Rattle.automata.specs.Trees.{rank}
use Rattle.trees.specs.declared.alphabet.Alphabet.{Alphabet}
use Rattle.trees.specs.Alphabets.{ranks_of}

-- one value throughout, and past the end
pub getD_constant : {X : Type 0} (n k : ℕ) (x : X) → get_or (replicate n x) k x ≡ x
getD_constant n k x =
    ⊎_elim (get_or-replicate n k x x)
    (λ h. let l : length (replicate n x) ≤ k = rw (length-replicate n x) h in get_or_past (replicate n x) k x l) (cases_lt k n)

-- an element that is there, and one that is not
pub nth_some : {X : Type 0} (xs : List X) (i : ℕ) (x d : X) → slice_get xs i ≡ Some x → (i < length xs) × (get_or xs i d ≡ x)
nth_some xs i x d e = (slice_get_within xs i x e, get_or_from_slice_get xs i x d e)

pub nth_none : {X : Type 0} (xs : List X) (i : ℕ) → slice_get xs i ≡ None → i < length xs → ⊥
nth_none [] i e l = omega arith
nth_none (x ∷ xs) i e l =
    let f : slice_get (x ∷ xs) i ≡ Some (get_or (x ∷ xs) i x) = slice_get-get_or (x ∷ xs) i x l in
    let z : ◌≡◌ {A = ℕ} 0 1 = cc in omega arith

pub nth_set_same : {X : Type 0} (xs : List X) (i : ℕ) (y : X) → i < length xs → slice_get (set xs i y) i ≡ Some y
nth_set_same xs i y h =
    slice_get-get_or (set xs i y) i y (rw (length-set xs i y) h) ∙ ap Some (get_or-set_same xs i y y h)

pub nth_set_other : {X : Type 0} (xs : List X) (i j : ℕ) (y : X) → j ≢ i → slice_get (set xs i y) j ≡ slice_get xs j
nth_set_other xs i j y n =
    ⊎_elim (λ h. slice_get-get_or (set xs i y) j y (rw (length-set xs i y) h) ∙ ap Some (get_or-set_other xs i j y y n) ∙ sym (slice_get-get_or xs j y h))
    (λ h. slice_get_past (set xs i y) j (rw (length-set xs i y) h) ∙ sym (slice_get_past xs j h)) (cases_lt j (length xs))

-- copying one element more
pub copy_more : {X : Type 0} (xs ys : List X) (i : ℕ) (d : X) → i < length xs → i < length ys → take i xs ≡ take i ys → take (i + 1) (set xs i (get_or ys i d)) ≡ take (i + 1) ys
copy_more xs ys i d h k e =
    take_more_set xs i (get_or ys i d) h ∙ ap (λ zs. zs ++ get_or ys i d ∷ []) e ∙ sym (take_more ys i d k)

pub copy_all : {X : Type 0} (xs ys : List X) (i : ℕ) → length ys ≡ i → take i xs ≡ take i ys → take (length ys) xs ≡ ys
copy_all xs ys i n e = ap (λ k. take k xs) n ∙ e ∙ take_all i ys (omega arith)

-- an element or the default, past the end
pub nth_or : {X : Type 0} (xs : List X) (i : ℕ) (d : X) → unwrap_or (slice_get xs i) d ≡ get_or xs i d
nth_or xs i d = unwrap_or-slice_get xs i d

-- every rank of an alphabet is at most 4
pub rank_small : (a : Alphabet) (s : ℕ) → rank (ranks_of a) s ≤ 4
rank_small a s =
    let within : s < a.symbols → rank (ranks_of a) s ≤ 4 = λ h. rw (get_or-take a.symbols a.ranks s 0 h) (a.small s) in
    let past : a.symbols ≤ s → rank (ranks_of a) s ≤ 4 = λ h. omega (arith, get_or_past (ranks_of a) s 0 (omega (arith, length-take a.symbols a.ranks))) in
    ⊎_elim within past (cases_lt s a.symbols)

pub ranks_few : (a : Alphabet) → length (ranks_of a) ≤ 32
ranks_few a = omega (arith, length-take a.symbols a.ranks, a.few)

-- no more elements than there are
pub take_capped : {X : Type 0} (n m : ℕ) (xs : List X) → m ≡ min n (length xs) → take m xs ≡ take n xs
take_capped n m xs e = ap (λ k. take k xs) e ∙ take_min n xs
