-- The text of a line is what is written of its entry.
use Rattle.std.proofs.Common.{◌≡◌, ◌==◌, ℕ, ◌+◌, ◌<◌, ◌≤◌, List, [], ◌∷◌, ◌++◌, length, get_or, take, drop, pos, Bool, true, false, Some, None, Decides, MatchOption, Option, sym, refl, ap, ap₂, ◌∙◌, append_assoc, append-nil, arith, length-take, Bor}
use Rattle.std.specs.Bool.{then_some}
use Rattle.std.specs.List.{AllByRecursion, IsSplitAt}
use Rattle.std.proofs.ByRecursion.{All-from_get_or}
use Rattle.std.proofs.Math.Dec.{eqb-suc-zero}
use Rattle.std.proofs.lemmas.Bool.{false≢true}
use Rattle.std.proofs.lemmas.List.{take-append-drop, drop-drop, get_or-drop, get_or-take}
use Rattle.layout.specs.declared.line.Line.{Line}
use Rattle.layout.specs.declared.line.Line.TheVariants.{Kind, Table, Accept, Rule, End}
use Rattle.layout.specs.Fields.{field, fields, Short, ReadsNumber}
use Rattle.layout.specs.Lines.{Entry, kind, table, accept, rule, end, written, Fits, says_kind, says_table, says_accept, says_rule, says_end}
use Rattle.layout.specs.Parts.{Numbers, Unbroken, ReadsEntry}
use Rattle.layout.proofs.Cuts.{length_field, length_fields, cut_front}

abbrev pub letter : Entry → ℕ
letter (kind n) = 75
letter (table n ranks) = 84
letter (accept q) = 65
letter (rule s t weight qs) = 82
letter end = 69

pub first_letter : (e : Entry) → get_or (written e) 0 0 ≡ letter e
first_letter (kind n) = refl
first_letter (table n ranks) = refl
first_letter (accept q) = refl
first_letter (rule s t weight qs) = refl
first_letter end = refl

same_letter : (x : ℕ) (rest : List ℕ) (e : Entry) → x ∷ rest ≡ written e → x ≡ letter e
same_letter x rest e is = ap (λ l. get_or l 0 0) is ∙ first_letter e

-- a letter tells the entry

kind_of : (e : Entry) → 75 ≡ letter e → (n : ℕ) × (e ≡ kind n)
kind_of (kind n) is = (n, refl)
kind_of (table n ranks) is = absurd (omega arith)
kind_of (accept q) is = absurd (omega arith)
kind_of (rule s t weight qs) is = absurd (omega arith)
kind_of end is = absurd (omega arith)

accept_of : (e : Entry) → 65 ≡ letter e → (q : ℕ) × (e ≡ accept q)
accept_of (kind n) is = absurd (omega arith)
accept_of (table n ranks) is = absurd (omega arith)
accept_of (accept q) is = (q, refl)
accept_of (rule s t weight qs) is = absurd (omega arith)
accept_of end is = absurd (omega arith)

table_of : (e : Entry) → 84 ≡ letter e → (n : ℕ) × (ranks : List ℕ) × (e ≡ table n ranks)
table_of (kind n) is = absurd (omega arith)
table_of (table n ranks) is = (n, ranks, refl)
table_of (accept q) is = absurd (omega arith)
table_of (rule s t weight qs) is = absurd (omega arith)
table_of end is = absurd (omega arith)

rule_of : (e : Entry) → 82 ≡ letter e → (s : ℕ) × (t : ℕ) × (weight : List ℕ) × (qs : List ℕ) × (e ≡ rule s t weight qs)
rule_of (kind n) is = absurd (omega arith)
rule_of (table n ranks) is = absurd (omega arith)
rule_of (accept q) is = absurd (omega arith)
rule_of (rule s t weight qs) is = (s, t, weight, qs, refl)
rule_of end is = absurd (omega arith)

end_of : (e : Entry) → 69 ≡ letter e → e ≡ end
end_of (kind n) is = absurd (omega arith)
end_of (table n ranks) is = absurd (omega arith)
end_of (accept q) is = absurd (omega arith)
end_of (rule s t weight qs) is = absurd (omega arith)
end_of end is = refl

pub end_read : (rest : List ℕ) → ReadsEntry (69 ∷ rest) (then_some (length rest == 0) End)
end_read [] = (end, tt, refl, says_end)
end_read (x ∷ rest) = rw (eqb-suc-zero (length rest)) (λ e fits is. let clash = ap (λ l. length l) (is ∙ ap written (end_of e (same_letter 69 (x ∷ rest) e is))) in omega arith)

-- the lines of one number
one_none : (x : ℕ) (make : ℕ → Entry) → ((n : ℕ) → Fits (make n) → Short n) → ((n : ℕ) → drop 1 (written (make n)) ≡ fields (n ∷ [])) → ((e : Entry) → x ≡ letter e → (n : ℕ) × (e ≡ make n)) → (rest : List ℕ) → ReadsNumber rest None → ReadsEntry (x ∷ rest) None
one_none x make short spells of rest none e fits is =
    let made = of e (same_letter x rest e is) in
    none made.0 (short made.0 (rw made.1 at fits)) (ap (drop 1) is ∙ ap (λ f. drop 1 (written f)) made.1 ∙ spells made.0 ∙ append-nil (field 6 (pos made.0)))

pub kind_read : (rest : List ℕ) (r : Option ℕ) (s : Option Line) → ReadsNumber rest r → MatchOption r (s ≡ None) (λ n. s ≡ Some (Kind n)) → ReadsEntry (75 ∷ rest) s
kind_read rest (Some n) s reads is = rw is (kind n, reads.0, ap (λ l. 75 ∷ l) (reads.1 ∙ sym (append-nil (field 6 (pos n)))), says_kind n)
kind_read rest None s none is = rw is (one_none 75 kind (λ n fits. fits) (λ n. refl) kind_of rest none)

pub accept_read : (rest : List ℕ) (r : Option ℕ) (s : Option Line) → ReadsNumber rest r → MatchOption r (s ≡ None) (λ q. s ≡ Some (Accept q)) → ReadsEntry (65 ∷ rest) s
accept_read rest (Some q) s reads is = rw is (accept q, reads.0, ap (λ l. 65 ∷ l) (reads.1 ∙ sym (append-nil (field 6 (pos q)))), says_accept q)
accept_read rest None s none is = rw is (one_none 65 accept (λ q fits. fits) (λ q. refl) accept_of rest none)

joined : (text front back : List ℕ) (at : ℕ) → IsSplitAt text at front back → text ≡ front ++ back
joined text front back at split = sym (take-append-drop at text) ∙ ap₂ (λ a b. a ++ b) (sym split.1) (sym split.2)

-- a table's line and its parts
record TableParts (first part : List ℕ) : Type 0 where
  n : ℕ
  ranks : List ℕ
  short : Short n
  all : AllByRecursion Short ranks
  states : first ≡ field 6 (pos n)
  others : part ≡ fields ranks

table_parts : (rest first part : List ℕ) (e : Entry) → IsSplitAt rest 6 first part → Fits e → 84 ∷ rest ≡ written e → TableParts first part
table_parts rest first part e split fits is =
    let made = table_of e (same_letter 84 rest e is) in
    let kept = rw made.2 at fits in
    let cuts = cut_front rest (field 6 (pos made.0)) (fields made.1) 6 (length_field made.0 kept.0) (ap (drop 1) is ∙ ap (λ f. drop 1 (written f)) made.2) in
    record { n = made.0; ranks = made.1; short = kept.0; all = kept.1; states = split.1 ∙ cuts.0; others = split.2 ∙ cuts.1 }

pub table_none : (rest first part : List ℕ) (r : Option Line) → r ≡ None → IsSplitAt rest 6 first part → ReadsNumber first None → ReadsEntry (84 ∷ rest) r
table_none rest first part r is split none = rw is (λ e fits same. let parts = table_parts rest first part e split fits same in none parts.n parts.short parts.states)

pub table_read : (rest first : List ℕ) (part : Bor (List ℕ)) (n : ℕ) (b : Bool) → IsSplitAt rest 6 first part.now → ReadsNumber first (Some n) → Decides b (Numbers part.now) → ReadsEntry (84 ∷ rest) (then_some b (Table n part))
table_read rest first part n true split reads decides =
    let numbers = decides.0 refl in
    let halves = take-append-drop 6 rest in
    let front = split.1 in
    let back = split.2 in
    let states = reads.1 in
    let others = numbers.2 in
    (table n numbers.0, (reads.0, numbers.1), cc, says_table n part numbers.0 numbers.2)
table_read rest first part n false split reads decides = λ e fits is.
    let parts = table_parts rest first part.now e split fits is in
    absurd (false≢true (decides.1 (parts.ranks, parts.all, parts.others)))

-- a rule's line and its parts

rule_written : (s t : ℕ) (weight qs : List ℕ) → written (rule s t weight qs) ≡ 82 ∷ (field 6 (pos s) ++ (field 6 (pos t) ++ (weight ++ fields qs)))
rule_written s t weight qs = simp (append-nil, append_assoc)

pub record RuleCuts (rest : List ℕ) (s t : ℕ) (weight qs : List ℕ) : Type 0 where
  pub symbol : take 6 rest ≡ field 6 (pos s)
  pub target : take 6 (drop 6 rest) ≡ field 6 (pos t)
  pub bytes : take 12 (drop 6 (drop 6 rest)) ≡ weight
  pub others : drop 12 (drop 6 (drop 6 rest)) ≡ fields qs

pub rule_cuts : (rest : List ℕ) (s t : ℕ) (weight qs : List ℕ) → Fits (rule s t weight qs) → 82 ∷ rest ≡ written (rule s t weight qs) → RuleCuts rest s t weight qs
rule_cuts rest s t weight qs fits is =
    let whole = ap (drop 1) (is ∙ rule_written s t weight qs) in
    let rest_t : List ℕ = weight ++ fields qs in
    let one = cut_front rest (field 6 (pos s)) (field 6 (pos t) ++ rest_t) 6 (length_field s fits.0) whole in
    let two = cut_front (drop 6 rest) (field 6 (pos t)) rest_t 6 (length_field t fits.1) one.1 in
    let three = cut_front (drop 6 (drop 6 rest)) weight (fields qs) 12 fits.2 two.1 in
    record { symbol = one.0; target = two.0; bytes = three.0; others = three.1 }

record RuleParts (first second part : List ℕ) : Type 0 where
  s : ℕ
  t : ℕ
  qs : List ℕ
  short_s : Short s
  short_t : Short t
  all : AllByRecursion Short qs
  few : length part ≤ 24
  symbol : first ≡ field 6 (pos s)
  target : second ≡ field 6 (pos t)
  others : part ≡ fields qs

rule_parts : (rest middle last first second third part : List ℕ) (e : Entry) → IsSplitAt rest 6 first middle → IsSplitAt middle 6 second last → IsSplitAt last 12 third part → Fits e → 82 ∷ rest ≡ written e → RuleParts first second part
rule_parts rest middle last first second third part e one two three fits is =
    let made = rule_of e (same_letter 82 rest e is) in
    let kept = rw made.4 at fits in
    let cuts = rule_cuts rest made.0 made.1 made.2 made.3 kept (is ∙ ap written made.4) in
    let others = three.2 ∙ ap (drop 12) (two.2 ∙ ap (drop 6) one.2) ∙ cuts.others in
    record {
      s = made.0;
      t = made.1;
      qs = made.3;
      short_s = kept.0;
      short_t = kept.1;
      all = kept.5;
      few = omega (arith, ap length others, length_fields made.3 kept.5, kept.4);
      symbol = one.1 ∙ cuts.symbol;
      target = two.1 ∙ ap (take 6) one.2 ∙ cuts.target;
      others = others;
    }

-- no rule's line has the text
pub rule_none : (rest middle last first second third part : List ℕ) → IsSplitAt rest 6 first middle → IsSplitAt middle 6 second last → IsSplitAt last 12 third part → ((s t : ℕ) (qs : List ℕ) → Short s → Short t → AllByRecursion Short qs → length part ≤ 24 → first ≡ field 6 (pos s) → second ≡ field 6 (pos t) → part ≡ fields qs → ⊥) → ReadsEntry (82 ∷ rest) None
rule_none rest middle last first second third part one two three none = λ e fits is.
    let parts = rule_parts rest middle last first second third part e one two three fits is in
    none parts.s parts.t parts.qs parts.short_s parts.short_t parts.all parts.few parts.symbol parts.target parts.others

unbroken_part : (text : List ℕ) (from count : ℕ) → from + count ≤ length text → Unbroken text → AllByRecursion (λ b. b ≡ 10 → ⊥) (take count (drop from text))
unbroken_part text from count long unbroken =
    All-from_get_or _ (take count (drop from text)) 0 (λ i less is.
    let inside : i < count = omega (arith, length-take count (drop from text)) in
    unbroken (from + i) (omega arith) (sym (get_or-take count (drop from text) i 0 inside ∙ get_or-drop from text i 0) ∙ is))

pub rule_found : (rest middle last first second : List ℕ) (s t : ℕ) (weight part : Bor (List ℕ)) → IsSplitAt rest 6 first middle → IsSplitAt middle 6 second last → IsSplitAt last 12 weight.now part.now → Unbroken rest → ReadsNumber first (Some s) → ReadsNumber second (Some t) → length part.now ≤ 24 → Numbers part.now → ReadsEntry (82 ∷ rest) (Some (Rule s t weight part))
rule_found rest middle last first second s t weight part one two three unbroken symbol target most numbers =
    let qs = numbers.0 in
    let four : length qs ≤ 4 = omega (arith, ap length numbers.2, length_fields qs numbers.1) in
    let behind : last ≡ drop 12 rest = two.2 ∙ ap (drop 6) one.2 ∙ drop-drop 6 6 rest in
    let bytes : weight.now ≡ take 12 (drop 12 rest) = three.1 ∙ ap (take 12) behind in
    let plain = unbroken_part rest 12 12 (omega (arith, one.4, two.4, three.4)) unbroken in
    let whole =
    joined rest first middle 6 one
    ∙ ap₂ (λ a b. a ++ b) symbol.1 (joined middle second last 6 two
    ∙ ap₂ (λ a b. a ++ b) target.1 (joined last weight.now part.now 12 three ∙ ap (λ b. weight.now ++ b) numbers.2)) in
    (rule s t weight.now qs, (symbol.0, target.0, three.3, rw bytes plain, four, numbers.1), ap (λ l. 82 ∷ l) whole ∙ sym (rule_written s t weight.now qs), says_rule s t weight part qs numbers.2)
