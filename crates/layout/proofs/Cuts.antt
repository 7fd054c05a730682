-- Parts that are fields of six columns, cut at their columns.
use Rattle.std.proofs.Common.{◌≡◌, ℕ, ◌*◌, List, [], ◌∷◌, ◌++◌, length, take, drop, pos, sym, refl, ap, ◌∙◌, append_assoc, arith, length-append}
use Rattle.std.specs.List.{AllByRecursion}
use Rattle.std.proofs.lemmas.Fmt.{length-decimal-le}
use Rattle.std.proofs.lemmas.List.{take_at, drop_at}
use Rattle.layout.specs.Fields.{field, fields, Short}
use Rattle.layout.proofs.Padding.{field_length}

pub length_field : (n : ℕ) → Short n → length (field 6 (pos n)) ≡ 6
length_field n short = field_length 6 (pos n) (length-decimal-le 6 n (omega arith) (omega arith) (omega arith))

pub length_fields : (ns : List ℕ) → AllByRecursion Short ns → length (fields ns) ≡ 6 * length ns
length_fields [] short = refl
length_fields (n ∷ ns) short = omega (arith, length-append (field 6 (pos n)) (fields ns), length_field n short.0, length_fields ns short.1)

pub fields_append : (ms ns : List ℕ) → fields (ms ++ ns) ≡ fields ms ++ fields ns
fields_append [] ns = refl
fields_append (m ∷ ms) ns = ap (λ l. field 6 (pos m) ++ l) (fields_append ms ns) ∙ sym (append_assoc (field 6 (pos m)) (fields ms) (fields ns))

-- the text is cut where its first part ends
pub cut_front : (u f v : List ℕ) (k : ℕ) → length f ≡ k → u ≡ f ++ v → (take k u ≡ f) × (drop k u ≡ v)
cut_front u f v k long is = (ap (take k) is ∙ take_at f v k long, ap (drop k) is ∙ drop_at f v k long)
