-- What is written, piece by piece.
use Rattle.std.proofs.Common.{◌≡◌, ℕ, ◌+◌, ◌-◌, ◌^◌, ◌<◌, ◌≤◌, List, [], ◌∷◌, ◌++◌, length, get_or, take, pos, Ok, OnOk, Result, refl, append_assoc, append-nil}
use Rattle.std.specs.Fmt.{styled_decimal, format_spec}
use Rattle.std.specs.Result.{is_ok}
use Rattle.std.proofs.lemmas.List.{take_more, take_all}
use Rattle.layout.specs.Answers.{number_line}
use Rattle.layout.specs.Fields.{field, fields}
use Rattle.layout.proofs.Cuts.{fields_append}
use Rattle.layout.proofs.Styled.{styled_number, told}

-- one field more of a line
fields_written : (start out more ns : List ℕ) (i n : ℕ) → i < length ns → n ≡ get_or ns i 0 → out ≡ start ++ fields (take i ns) → more ≡ out ++ field 6 (pos n) → more ≡ start ++ fields (take (i + 1) ns)
fields_written start out more ns i n less element so_far is =
    let next = take_more ns i 0 less in
    let joins = fields_append (take i ns) (get_or ns i 0 ∷ []) in
    let end = append-nil (field 6 (pos (get_or ns i 0))) in
    let grouped = append_assoc start (fields (take i ns)) (field 6 (pos n)) in
    cc

pub fields_told : {E F : Type 0} (r : Result (Unit {0}) E) (s : Result (Unit {0}) F) (start out more ns : List ℕ) (i : ℕ) (u : Unit {0}) → i < length ns → out ≡ start ++ fields (take i ns) → s ≡ Ok u → is_ok s ≡ is_ok r → OnOk r (more ≡ out ++ styled_decimal (format_spec 32 3 0 6 (2 ^ 64 - 1)) (get_or ns i 0)) → more ≡ start ++ fields (take (i + 1) ns)
fields_told r s start out more ns i u less so_far done same written =
    let n = get_or ns i 0 in
    let here = told r s more out _ (field 6 (pos n)) same (styled_number 6 n) written in
    fields_written start out more ns i n less refl so_far (rw done at here)

pub line_written : (start first out after ns : List ℕ) (i letter : ℕ) → length ns ≤ i → first ≡ start ++ letter ∷ [] → out ≡ first ++ fields (take i ns) → after ≡ out ++ 10 ∷ [] → after ≡ start ++ number_line letter ns
line_written start first out after ns i letter most begins body is =
    let all = take_all i ns most in
    let front = append_assoc start (letter ∷ []) (fields ns) in
    let whole = append_assoc start (letter ∷ fields ns) (10 ∷ []) in
    cc
