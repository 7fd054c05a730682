-- The bytes of a line, by what it says.
use Rattle.std.specs.Prelude.{◌≡◌, ℕ, ◌<◌, ◌≤◌, List, [], ◌∷◌, ◌++◌, length, drop, Some, None, Option, ◌≢◌}
use Rattle.std.specs.List.{AllByRecursion}
use Rattle.std.proofs.Common.{Bor}
use Rattle.layout.specs.declared.line.Line.{Line}
use Rattle.layout.specs.declared.line.Line.TheVariants.{Kind, Table, Accept, Rule, End}
use Rattle.layout.specs.declared.reading.Reading.{Reading}
use Rattle.layout.specs.Fields.{fields, Short}

-- what a line says: the kind; a number of states and ranks; an accepting state; a rule, with the bytes of its weight; or the end of a table
pub data Entry : Type 0 where
  kind : ℕ → Entry
  table : ℕ → List ℕ → Entry
  accept : ℕ → Entry
  rule : ℕ → ℕ → List ℕ → List ℕ → Entry
  end : Entry

-- its bytes, before the byte 10 that ends it: a letter, then fields
abbrev pub written : Entry → List ℕ
written (kind n) = 75 ∷ fields (n ∷ [])
written (table n ranks) = 84 ∷ fields (n ∷ ranks)
written (accept q) = 65 ∷ fields (q ∷ [])
written (rule s t weight qs) = 82 ∷ fields (s ∷ t ∷ []) ++ weight ++ fields qs
written end = 69 ∷ []

-- its numbers fit their columns; a weight has twelve columns, none of them byte 10; a rule has at most four children
abbrev pub Fits : Entry → Type 0
Fits (kind n) = Short n
Fits (table n ranks) = Short n × AllByRecursion Short ranks
Fits (accept q) = Short q
Fits (rule s t weight qs) = Short s × Short t × (length weight ≡ 12) × AllByRecursion (λ b. b ≢ 10) weight × (length qs ≤ 4) × AllByRecursion Short qs
Fits end = Unit {0}

-- the bytes begin with the line of the entry, and the others follow
pub record Begins (bytes : List ℕ) (e : Entry) (rest : List ℕ) : Type 0 where
  pub fits : Fits e
  pub line : bytes ≡ written e ++ 10 ∷ rest

-- a line as it was read, its parts still bytes, says the entry
pub data Says : Line → Entry → Type 0 where
  says_kind : (n : ℕ) → Says (Kind n) (kind n)
  says_table : (n : ℕ) (part : Bor (List ℕ)) (ranks : List ℕ) → part.now ≡ fields ranks → Says (Table n part) (table n ranks)
  says_accept : (q : ℕ) → Says (Accept q) (accept q)
  says_rule : (s t : ℕ) (weight part : Bor (List ℕ)) (qs : List ℕ) → part.now ≡ fields qs → Says (Rule s t weight part) (rule s t weight.now qs)
  says_end : Says End end

-- the line at a place of the page and where the next begins, if there is one in the layout
abbrev pub ReadsLine : List ℕ → ℕ → Option Reading → Type 0
ReadsLine page at (Some r) = (e : Entry) × Begins (drop at page) e (drop r.next page) × Says r.line e × (at < r.next) × (r.next ≤ length page)
ReadsLine page at None = (e : Entry) (rest : List ℕ) → Begins (drop at page) e rest → ⊥
