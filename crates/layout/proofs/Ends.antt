-- The line at a place of a page.
use Rattle.std.proofs.Common.{◌≡◌, ℕ, List, ◌∷◌, length, get_or, take, drop, Some, None, refl, ap, ◌∙◌, arith, length-append}
use Rattle.std.proofs.lemmas.List.{get_or_at}
use Rattle.layout.specs.Lines.{Entry, written, Begins}
use Rattle.layout.specs.Parts.{Unbroken, ReadsEntry, Ends}
use Rattle.layout.proofs.Unique.{line_cut}

-- a text without byte 10 begins with no line
pub unbroken_none : (text : List ℕ) → Unbroken text → (e : Entry) (rest : List ℕ) → Begins text e rest → ⊥
unbroken_none text unbroken e rest begins =
    let is = begins.line in
    unbroken (length (written e)) (omega (arith, ap length is, length-append (written e) (10 ∷ rest)))
    (ap (λ l. get_or l (length (written e)) 0) is ∙ get_or_at (written e) 10 rest 0 (length (written e)) refl)

-- a line of the text before the first byte 10 is one of the page
pub line_none : (page rest : List ℕ) (at k : ℕ) → rest ≡ drop at page → Ends rest (Some k) → ReadsEntry (take k rest) None → (e : Entry) (more : List ℕ) → Begins (drop at page) e more → ⊥
line_none page rest at k cut ends none e more begins =
    none e begins.fits (line_cut rest e more k (rw cut begins) ends).0
