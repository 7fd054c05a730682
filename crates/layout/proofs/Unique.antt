-- A line has one entry, and a field one number.
use Rattle.std.proofs.Common.{◌≡◌, ℕ, ◌+◌, ◌-◌, List, [], ◌∷◌, ◌++◌, length, get_or, take, drop, replicate, pos, Some, decimal, sym, refl, ap, ◌∙◌, ap₂, arith, length-append}
use native.Mathlib.Decide.{dec_lt}
use lib.ListN.{length-replicate}
use Rattle.std.specs.List.{AllByRecursion}
use Rattle.std.proofs.lemmas.Fmt.{decimal_is_IsNumeral}
use Rattle.std.proofs.ByRecursion.{All-append, All-from_get_or, All-get_or}
use Rattle.std.proofs.lemmas.List.{get_or_at, get_or_append_left, get_or-replicate, drop-drop}
use Rattle.std.proofs.lemmas.Str.Parse.{digit_at}
use Rattle.layout.specs.Fields.{field, fields, Short}
use Rattle.layout.specs.Lines.{Entry, kind, table, accept, rule, end, written, Fits, Begins}
use Rattle.layout.specs.Parts.{Ends}
use Rattle.layout.proofs.Cuts.{length_field, cut_front}
use Rattle.layout.proofs.Entries.{letter, first_letter, rule_cuts}
use Rattle.layout.proofs.Padding.{number_same}

pub fields_same : (ms ns : List ℕ) → AllByRecursion Short ms → AllByRecursion Short ns → fields ms ≡ fields ns → ms ≡ ns
fields_same [] [] all_m all_n is = refl
fields_same [] (n ∷ ns) all_m all_n is = absurd (omega (arith, ap length is, length-append (field 6 (pos n)) (fields ns), length_field n all_n.0))
fields_same (m ∷ ms) [] all_m all_n is = absurd (omega (arith, ap length is, length-append (field 6 (pos m)) (fields ms), length_field m all_m.0))
fields_same (m ∷ ms) (n ∷ ns) all_m all_n is =
    let left = cut_front (fields (m ∷ ms)) (field 6 (pos m)) (fields ms) 6 (length_field m all_m.0) refl in
    let right = cut_front (fields (m ∷ ms)) (field 6 (pos n)) (fields ns) 6 (length_field n all_n.0) is in
    ap₂ (λ x l. x ∷ l) (number_same m n all_m.0 all_n.0 (sym left.0 ∙ right.0)) (fields_same ms ns all_m.1 all_n.1 (sym left.1 ∙ right.1))

-- no byte of a line ends it

abbrev Plain : ℕ → Type 0
Plain b = b ≡ 10 → ⊥

plain_field : (n : ℕ) → Short n → AllByRecursion Plain (field 6 (pos n))
plain_field n short =
    let blanks : ℕ = 6 - length (decimal n) in
    let reads = decimal_is_IsNumeral n (omega arith) in
    All-append Plain (replicate blanks 32) (decimal n)
    (All-from_get_or Plain (replicate blanks 32) 0 (λ i less is. omega (arith, get_or-replicate {A = ℕ} blanks i 32 0 (omega (arith, length-replicate {A = ℕ} blanks 32)))))
    (All-from_get_or Plain (decimal n) 0 (λ i less is. omega (arith, digit_at (decimal n) i reads.0.1 less)))

plain_fields : (ns : List ℕ) → AllByRecursion Short ns → AllByRecursion Plain (fields ns)
plain_fields [] all = tt
plain_fields (n ∷ ns) all = All-append Plain (field 6 (pos n)) (fields ns) (plain_field n all.0) (plain_fields ns all.1)

plain_written : (e : Entry) → Fits e → AllByRecursion Plain (written e)
plain_written (kind n) fits = (λ is. omega arith, plain_fields (n ∷ []) (fits, tt))
plain_written (table n ranks) fits = (λ is. omega arith, plain_fields (n ∷ ranks) fits)
plain_written (accept q) fits = (λ is. omega arith, plain_fields (q ∷ []) (fits, tt))
plain_written (rule s t weight qs) fits = (
  λ is. omega arith,
  All-append Plain (fields (s ∷ t ∷ []) ++ weight) (fields qs) (All-append Plain (fields (s ∷ t ∷ [])) weight (plain_fields (s ∷ t ∷ []) (fits.0, (fits.1, tt))) fits.3) (plain_fields qs fits.5),
)
plain_written end fits = (λ is. omega arith, tt)

-- the line ends where its entry does

begins_ends : (bytes : List ℕ) (e : Entry) (rest : List ℕ) → Begins bytes e rest → Ends bytes (Some (length (written e)))
begins_ends bytes e rest begins =
    let is = begins.line in (
      omega (arith, ap length is, length-append (written e) (10 ∷ rest)),
      rw is (get_or_at (written e) 10 rest 0 (length (written e)) refl),
      λ j less is_ten. All-get_or Plain (written e) j 0 less (plain_written e begins.fits) (sym (ap (λ l. get_or l j 0) is ∙ get_or_append_left (written e) (10 ∷ rest) 0 j less) ∙ is_ten),
    )

-- and nowhere else
ends_once : (bytes : List ℕ) (j k : ℕ) → Ends bytes (Some j) → Ends bytes (Some k) → j ≡ k
ends_once bytes j k one other =
    elim (dec_lt j k) [
      | yes less ↦ absurd (other.2 j less one.1)
      | no more ↦ elim (dec_lt k j) [ yes less ↦ absurd (one.2 k less other.1) | no most ↦ omega arith ]
    ]

pub line_cut : (bytes : List ℕ) (e : Entry) (rest : List ℕ) (k : ℕ) → Begins bytes e rest → Ends bytes (Some k) → (take k bytes ≡ written e) × (drop (k + 1) bytes ≡ rest)
line_cut bytes e rest k begins ends =
    let long = ends_once bytes (length (written e)) k (begins_ends bytes e rest begins) ends in
    let cuts = cut_front bytes (written e) (10 ∷ rest) k long begins.line in
    (cuts.0, sym (drop-drop 1 k bytes) ∙ ap (drop 1) cuts.1)

rule_same : (s t s' t' : ℕ) (v w ms ns : List ℕ) → Fits (rule s t v ms) → Fits (rule s' t' w ns) → written (rule s t v ms) ≡ written (rule s' t' w ns) → rule s t v ms ≡ rule s' t' w ns
rule_same s t s' t' v w ms ns fits_e fits_f is =
    let rest = drop 1 (written (rule s t v ms)) in
    let one = rule_cuts rest s t v ms fits_e refl in
    let other = rule_cuts rest s' t' w ns fits_f is in
    let symbols = number_same s s' fits_e.0 fits_f.0 (sym one.symbol ∙ other.symbol) in
    let targets = number_same t t' fits_e.1 fits_f.1 (sym one.target ∙ other.target) in
    let weights = sym one.bytes ∙ other.bytes in
    let children = fields_same ms ns fits_e.5 fits_f.5 (sym one.others ∙ other.others) in
    λ i. rule (symbols i) (targets i) (weights i) (children i)

other_letter : (e f : Entry) → (letter e ≡ letter f → ⊥) → written e ≡ written f → e ≡ f
other_letter e f apart is = absurd (apart (sym (first_letter e) ∙ ap (λ l. get_or l 0 0) is ∙ first_letter f))

written_same : (e f : Entry) → Fits e → Fits f → written e ≡ written f → e ≡ f
written_same (kind m) (kind n) fits_e fits_f is = ap kind (ap (λ l. get_or l 0 0) (fields_same (m ∷ []) (n ∷ []) (fits_e, tt) (fits_f, tt) (ap (drop 1) is)))
written_same (kind m) (table n ns) fits_e fits_f is = other_letter (kind m) (table n ns) (λ z. omega arith) is
written_same (kind m) (accept n) fits_e fits_f is = other_letter (kind m) (accept n) (λ z. omega arith) is
written_same (kind m) (rule s' t' w ns) fits_e fits_f is = other_letter (kind m) (rule s' t' w ns) (λ z. omega arith) is
written_same (kind m) end fits_e fits_f is = other_letter (kind m) end (λ z. omega arith) is
written_same (table m ms) (kind n) fits_e fits_f is = other_letter (table m ms) (kind n) (λ z. omega arith) is
written_same (table m ms) (table n ns) fits_e fits_f is = let same = fields_same (m ∷ ms) (n ∷ ns) fits_e fits_f (ap (drop 1) is) in cc
written_same (table m ms) (accept n) fits_e fits_f is = other_letter (table m ms) (accept n) (λ z. omega arith) is
written_same (table m ms) (rule s' t' w ns) fits_e fits_f is = other_letter (table m ms) (rule s' t' w ns) (λ z. omega arith) is
written_same (table m ms) end fits_e fits_f is = other_letter (table m ms) end (λ z. omega arith) is
written_same (accept m) (kind n) fits_e fits_f is = other_letter (accept m) (kind n) (λ z. omega arith) is
written_same (accept m) (table n ns) fits_e fits_f is = other_letter (accept m) (table n ns) (λ z. omega arith) is
written_same (accept m) (accept n) fits_e fits_f is = ap accept (ap (λ l. get_or l 0 0) (fields_same (m ∷ []) (n ∷ []) (fits_e, tt) (fits_f, tt) (ap (drop 1) is)))
written_same (accept m) (rule s' t' w ns) fits_e fits_f is = other_letter (accept m) (rule s' t' w ns) (λ z. omega arith) is
written_same (accept m) end fits_e fits_f is = other_letter (accept m) end (λ z. omega arith) is
written_same (rule s t v ms) (kind n) fits_e fits_f is = other_letter (rule s t v ms) (kind n) (λ z. omega arith) is
written_same (rule s t v ms) (table n ns) fits_e fits_f is = other_letter (rule s t v ms) (table n ns) (λ z. omega arith) is
written_same (rule s t v ms) (accept n) fits_e fits_f is = other_letter (rule s t v ms) (accept n) (λ z. omega arith) is
written_same (rule s t v ms) (rule s' t' w ns) fits_e fits_f is = rule_same s t s' t' v w ms ns fits_e fits_f is
written_same (rule s t v ms) end fits_e fits_f is = other_letter (rule s t v ms) end (λ z. omega arith) is
written_same end (kind n) fits_e fits_f is = other_letter end (kind n) (λ z. omega arith) is
written_same end (table n ns) fits_e fits_f is = other_letter end (table n ns) (λ z. omega arith) is
written_same end (accept n) fits_e fits_f is = other_letter end (accept n) (λ z. omega arith) is
written_same end (rule s' t' w ns) fits_e fits_f is = other_letter end (rule s' t' w ns) (λ z. omega arith) is
written_same end end fits_e fits_f is = refl

pub begins_once : (bytes : List ℕ) (e f : Entry) (r s : List ℕ) → Begins bytes e r → Begins bytes f s → (e ≡ f) × (r ≡ s)
begins_once bytes e f r s one other =
    let ends = begins_ends bytes e r one in
    let left = line_cut bytes e r (length (written e)) one ends in
    let right = line_cut bytes f s (length (written e)) other ends in
    (written_same e f one.fits other.fits (sym left.0 ∙ right.0), sym left.1 ∙ right.1)
