-- A part that is cut into chunks of six bytes.
use Rattle.std.proofs.Common.{◌≡◌, ℕ, Bool, true, false, min, List, [], ◌∷◌, ◌++◌, length, pos, Some, None, Option, MatchOption, IsSome, is_some, Decides, Bor, sym, refl, ap, ◌∙◌, ap₂, arith, length-append}
use denote.Param.Members.{Mut}
use Rattle.std.specs.Fn.{Called}
use Rattle.std.specs.Iterator.{Yields, YieldsThen}
use Rattle.std.specs.Iterator.Adapters.{filter_map_source, filter_map_steps}
use Rattle.std.specs.List.{AllByRecursion, FoldsTo}
use Rattle.std.specs.Slice.Iter.{chunks_rest, chunks_size, chunks_steps}
use Rattle.std.proofs.lemmas.Bool.{false≢true}
use Rattle.layout.specs.Fields.{field, fields, Short, ReadsNumber}
use Rattle.layout.specs.Parts.{Numbers}
use Rattle.layout.proofs.Cuts.{length_field, cut_front}
use Rattle.layout.proofs.Padding.{number_same}

-- the first chunk of fields is the first field
first_field : (n : ℕ) (ns chunk rest : List ℕ) → Short n → fields (n ∷ ns) ≡ chunk ++ rest → length chunk ≡ min 6 (length (fields (n ∷ ns))) → (chunk ≡ field 6 (pos n)) × (rest ≡ fields ns)
first_field n ns chunk rest short is size =
    let long = length_field n short in
    let six : length chunk ≡ 6 = omega (arith, length-append (field 6 (pos n)) (fields ns)) in
    let left = cut_front (fields (n ∷ ns)) (field 6 (pos n)) (fields ns) 6 long refl in
    let right = cut_front (fields (n ∷ ns)) chunk rest 6 six is in
    (sym right.0 ∙ left.0, sym right.1 ∙ left.1)

no_fields : (xs : List ℕ) → length xs ≡ 0 → xs ≡ fields []
no_fields [] none = refl
no_fields (x ∷ xs) none = absurd (omega arith)

-- chunks that are all numbers make the part
pub numbers_all : {F : Type 0} (C : F → Bor (List ℕ) → F → Type 0) → ((f : F) (x : Bor (List ℕ)) (q : F) → C f x q → (n : ℕ) × ReadsNumber x.now (Some n)) → (xs : List (Bor (List ℕ))) (s t : _) (f j : F) → Yields (chunks_steps {A = ℕ}) s xs t → FoldsTo C f xs j → length (chunks_rest t) ≡ 0 → Numbers (chunks_rest s)
numbers_all C reads [] s t f j yields calls none = ([], tt, no_fields (chunks_rest s) (ap (λ c. length (chunks_rest c)) yields ∙ none))
numbers_all C reads (x ∷ xs) s t f j yields calls none =
    let read = reads f x calls.0 calls.1 in
    let others = numbers_all C reads xs yields.0 t calls.0 j yields.2 calls.2 none in
    (read.0 ∷ others.0, (read.1.0, others.1), yields.1.1.0 ∙ ap₂ (λ a b. a ++ b) read.1.1 others.2)

-- the next chunk of a part that is numbers is the first of them
record Next (ns chunk rest : List ℕ) : Type 0 where
  n : ℕ
  others : List ℕ
  are : ns ≡ n ∷ others
  short : Short n
  all : AllByRecursion Short others
  first : chunk ≡ field 6 (pos n)
  left : rest ≡ fields others

next_chunk : (ns : List ℕ) → AllByRecursion Short ns → (s t : _) (x : Bor (List ℕ)) → chunks_size s ≡ 6 → chunks_rest s ≡ fields ns → chunks_steps s (Some x) t → Next ns x.now (chunks_rest t)
next_chunk [] short s t x six is step = absurd (omega (arith, step.1.2, ap length is))
next_chunk (n ∷ ns) short s t x six is step =
    let size : length x.now ≡ min 6 (length (fields (n ∷ ns))) = step.1.1 ∙ ap₂ min six (ap length is) in
    let here = first_field n ns x.now (chunks_rest t) short.0 (sym is ∙ step.1.0) size in
    record { n = n; others = ns; are = refl; short = short.0; all = short.1; first = here.0; left = here.1 }

-- and it is a number
pub numbers_none : (ns : List ℕ) → AllByRecursion Short ns → (xs : List (Bor (List ℕ))) (s t u : _) (y : Bor (List ℕ)) → chunks_size s ≡ 6 → chunks_rest s ≡ fields ns → Yields (chunks_steps {A = ℕ}) s xs t → chunks_steps t (Some y) u → ReadsNumber y.now None → ⊥
numbers_none ns short [] s t u y six is yields step none =
    let next = next_chunk ns short s u y six is (rw (← yields) at step) in
    none next.n next.short next.first
numbers_none ns short (x ∷ xs) s t u y six is yields step none =
    let next = next_chunk ns short s yields.0 x six is yields.1 in
    numbers_none next.others next.all xs yields.0 t u y (yields.1.0 ∙ six) next.left yields.2 step none

-- no chunk of a part that is numbers is passed over
skips_none : {F : Type 0} (C : F → Bor (List ℕ) → F → Type 0) → ((f : F) (x : Bor (List ℕ)) (q : F) → C f x q → ReadsNumber x.now None) → (ns : List ℕ) → AllByRecursion Short ns → (ys : List (Bor (List ℕ))) (s t : _) (f j : F) → chunks_size s ≡ 6 → chunks_rest s ≡ fields ns → Yields (chunks_steps {A = ℕ}) s ys t → FoldsTo C f ys j → (ys ≡ []) × (s ≡ t)
skips_none C none ns short [] s t f j six is yields calls = (refl, yields)
skips_none C none ns short (y ∷ ys) s t f j six is yields calls = absurd (numbers_none ns short [] s s yields.0 y six is refl yields.1 (none f y calls.0 calls.1))

-- what comes next, and what is left
abbrev Kept : List ℕ → Option ℕ → List ℕ → ℕ → Type 0
Kept ns None rest size = ns ≡ []
Kept ns (Some m) rest size = (others : List ℕ) × (ns ≡ m ∷ others) × AllByRecursion Short others × (rest ≡ fields others) × (size ≡ 6)

keeps_next : (ns : List ℕ) → AllByRecursion Short ns → (s t : _) (o : Option (Bor (List ℕ))) (r : Option ℕ) → chunks_size s ≡ 6 → chunks_rest s ≡ fields ns → chunks_steps s o t → MatchOption o (r ≡ None) (λ x. ReadsNumber x.now r × IsSome r) → Kept ns r (chunks_rest t) (chunks_size t)
keeps_next [] short s t None r six is step ends = rw ends refl
keeps_next (n ∷ ns) short s t None r six is step ends = absurd (omega (arith, step.1.0, ap length is, length-append (field 6 (pos n)) (fields ns), length_field n short.0))
keeps_next ns short s t (Some x) None six is step ends = absurd (false≢true ends.1)
keeps_next ns short s t (Some x) (Some m) six is step ends =
    let next = next_chunk ns short s t x six is step in
    let same = number_same m next.n ends.0.0 next.short (sym ends.0.1 ∙ next.first) in
    (next.others, rw same next.are, next.all, next.left, step.0 ∙ six)

told_end : {X : Type 0} (o : Option X) (r : Option ℕ) (P : Type 0) (C R : X → Type 0) → ((x : X) → C x → R x) → MatchOption o ((r ≡ None) × P) (λ x. C x × IsSome r) → MatchOption o (r ≡ None) (λ x. R x × IsSome r)
told_end None r P C R told ends = ends.0
told_end (Some x) r P C R told ends = (told x ends.0, ends.1)

keeps_one : {F : Type 0} (g : Mut F (Bor (List ℕ) × Unit {0}) (Option ℕ)) → ((f : F) (x : Bor (List ℕ)) (r : Option ℕ) (q : F) → Called g f (x, tt) r q → ReadsNumber x.now r) → (ns : List ℕ) → AllByRecursion Short ns → (s t : _) (r : Option ℕ) → chunks_size (filter_map_source s) ≡ 6 → chunks_rest (filter_map_source s) ≡ fields ns → filter_map_steps (chunks_steps {A = ℕ}) g s r t → Kept ns r (chunks_rest (filter_map_source t)) (chunks_size (filter_map_source t))
keeps_one g reads ns short s t r six is step =
    let skips = skips_none _ (λ f x q call. reads f x None q call) ns short step.0 _ _ _ _ six is step.3.1 step.4 in
    keeps_next ns short (filter_map_source s) (filter_map_source t) step.1 r six is (rw (← skips.1) at step.3.2) (told_end step.1 r _ _ _ (λ x call. reads _ x r _ call) step.5)

-- so the numbers that are kept are those of the part
pub numbers_kept : {F : Type 0} (g : Mut F (Bor (List ℕ) × Unit {0}) (Option ℕ)) → ((f : F) (x : Bor (List ℕ)) (r : Option ℕ) (q : F) → Called g f (x, tt) r q → ReadsNumber x.now r) → (ns : List ℕ) → AllByRecursion Short ns → (xs : List ℕ) (s t u : _) → chunks_size (filter_map_source s) ≡ 6 → chunks_rest (filter_map_source s) ≡ fields ns → Yields (filter_map_steps (chunks_steps {A = ℕ}) g) s xs t → filter_map_steps chunks_steps g t None u → xs ≡ ns
numbers_kept g reads ns short [] s t u six is yields step = sym (keeps_one g reads ns short s u None six is (rw (← yields) at step))
numbers_kept g reads ns short (x ∷ xs) s t u six is yields step =
    let kept = keeps_one g reads ns short s yields.0 (Some x) six is yields.1 in
    ap (λ l. x ∷ l) (numbers_kept g reads kept.0 kept.2 xs yields.0 t u kept.4 kept.3 yields.2 step) ∙ sym kept.1

-- a test whether a chunk is a number
abbrev Tests : List ℕ → Bool → Type 0
Tests chunk b = (o : Option ℕ) × ReadsNumber chunk o × (b ≡ is_some o)

some_number : (chunk : List ℕ) → Tests chunk true → (n : ℕ) × ReadsNumber chunk (Some n)
some_number chunk tests = some tests.0 tests.1 tests.2
  where
    some : (o : Option ℕ) → ReadsNumber chunk o → true ≡ is_some o → (n : ℕ) × ReadsNumber chunk (Some n)
    some (Some n) reads is = (n, reads)
    some None reads is = absurd (false≢true (sym is))

no_number : (chunk : List ℕ) → Tests chunk false → ReadsNumber chunk None
no_number chunk tests = none tests.0 tests.1 tests.2
  where
    none : (o : Option ℕ) → ReadsNumber chunk o → false ≡ is_some o → ReadsNumber chunk None
    none (Some n) reads is = absurd (false≢true is)
    none None reads is = reads

-- whether all chunks are numbers tells whether the part is
pub numbers_decided : {F : Type 0} (g : Mut F (Bor (List ℕ) × Unit {0}) Bool) → ((f : F) (x : Bor (List ℕ)) (b : Bool) (q : F) → Called g f (x, tt) b q → (o : Option ℕ) × ReadsNumber x.now o × (b ≡ is_some o)) → (s u : _) (xs : List (Bor (List ℕ))) (o : Option (Bor (List ℕ))) (f j : F) (r : Bool) → chunks_size s ≡ 6 → YieldsThen (chunks_steps {A = ℕ}) s xs o u → FoldsTo (λ p x q. Called g p (x, tt) true q) f xs j → MatchOption o (r ≡ true) (λ x. (r ≡ false) × ((h : F) × Called g j (x, tt) false h)) → Decides r (Numbers (chunks_rest s))
numbers_decided g tests s u xs None f j r six yields calls ends = (λ e. numbers_all _ (λ f x q call. some_number x.now (tests f x true q call)) xs s yields.0 f j yields.1 calls yields.2.1.0, λ numbers. ends)
numbers_decided g tests s u xs (Some x) f j r six yields calls ends = (
  λ e. absurd (false≢true (sym ends.0 ∙ e)),
  λ numbers. absurd (numbers_none numbers.0 numbers.1 xs s yields.0 u x six numbers.2 yields.1 yields.2 (no_number x.now (tests j x false ends.1.0 ends.1.1))),
)
