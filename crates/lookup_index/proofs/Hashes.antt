-- The hash of a left side, number by number; it is below 1024.
use Rattle.std.proofs.Common.{◌≡◌, ℕ, ◌+◌, ◌<◌, List, [], ◌∷◌, length, get_or, take, fold, sym, ◌∙◌, ap₂, arith}
use Rattle.std.proofs.lemmas.List.Sums.{fold_more}
use Rattle.automata.specs.Trees.{rank}
use Rattle.rules.specs.declared.left_side.LeftSide.{LeftSide}
use Rattle.lookup_index.specs.Hashing.{mixed, hash_of, left_hash}

mixed_small : (h n : ℕ) → mixed h n < 1024
mixed_small h n = omega arith

folded_small : (h : ℕ) (qs : List ℕ) → h < 1024 → fold mixed h qs < 1024
folded_small h [] small = small
folded_small h (q ∷ qs) small = folded_small (mixed h q) qs (mixed_small h q)

pub hash_small : (s : ℕ) (qs : List ℕ) → hash_of s qs < 1024
hash_small s qs = folded_small (mixed 0 s) qs (mixed_small 0 s)

pub left_hash_small : (ranks : List ℕ) (l : LeftSide) → left_hash ranks l < 1024
left_hash_small ranks l = hash_small l.symbol (take (rank ranks l.symbol) l.children)

pub hash_more : (s : ℕ) (qs : List ℕ) (i h n : ℕ) → i < length qs → h ≡ hash_of s (take i qs) → n ≡ get_or qs i 0 → mixed h n ≡ hash_of s (take (i + 1) qs)
hash_more s qs i h n l e f = ap₂ mixed e f ∙ sym (fold_more mixed (mixed 0 s) qs i 0 l)
