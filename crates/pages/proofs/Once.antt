-- A page is read in one way: one first fault, or two tables with one pair of books.
use Rattle.std.proofs.Common.{◌≡◌, ℕ, ◌+◌, ◌⊎◌, List, [], ◌∷◌, ◌++◌, length, Some, None, Option, sym, refl, ap, ◌∙◌, subst, ap₂, inl, inr, append_assoc, arith}
use Rattle.std.specs.List.{AllByRecursion}
use Rattle.kinds.specs.Weights.{Weights}
use Rattle.rules.specs.Books.{Book, opened}
use Rattle.layout.specs.Lines.{Entry, kind, table, accept, rule, end, Fits, Begins}
use Rattle.layout.proofs.Unique.{begins_once}
use Rattle.pages.specs.declared.fault.Fault.{Fault}
use Rattle.pages.specs.declared.fault.Fault.TheVariants.{Layout}
use Rattle.pages.specs.Texts.{rule_places, lines, Text, entries, Fills, Told, Begun, Refuses, Stops}
use Rattle.pages.specs.Pages.{TwoTables, Faulty, in_first, in_second, behind, unlike, ByKind, by_marks, by_residues, by_costs, Known, FirstFault, too_long, no_kind, in_tables}
use Rattle.pages.specs.Laws.{SpellsTables, ReadOnce}
use Rattle.pages.specs.Runs.{Passes, closed, stopped, Ends, Run}
use Rattle.pages.proofs.Runs.{lines_append, run_once}

all_first : (es fs : List Entry) → AllByRecursion Fits (es ++ fs) → AllByRecursion Fits es
all_first [] fs a = tt
all_first (e ∷ es) fs a = (a.0, all_first es fs a.1)

module _ {W : Type 0} (K : Weights W) where
  fills_passes : (b c : Book W) (es : List Entry) → Fills K b es c → Passes K (Some b) es (Some c)
  fills_passes b c [] x = ap Some x
  fills_passes b c (e ∷ es) x = (Some x.0, (x.0, x.1, refl), fills_passes x.0 c es x.2)

  begun_passes : (es : List Entry) (at : Option (Book W)) → Begun K es at → Passes K None es at
  begun_passes [] at x = x
  begun_passes (table n ranks ∷ es) at x =
      let b : Book W = opened ranks n rule_places in
      (Some b, (x.1, refl), subst (Passes K (Some b) es) (sym x.3) (fills_passes b x.0 es x.2))
  begun_passes (kind n ∷ es) at x = absurd x
  begun_passes (accept q ∷ es) at x = absurd x
  begun_passes (rule s t weight qs ∷ es) at x = absurd x
  begun_passes (end ∷ es) at x = absurd x

  told_run : (bytes : List ℕ) (line : ℕ) (t : Text) (b : Book W) (more : List ℕ) → Told K bytes t b more → Run K None bytes line (table t.states t.ranks ∷ t.body) (closed b more)
  told_run bytes line t b more x =
      let es = table t.states t.ranks ∷ t.body in
      record {
        last = Some b;
        rest = lines (end ∷ []) ++ more;
        fit = all_first es (end ∷ []) x.fit;
        spelled = x.spelled ∙ ap (λ r. r ++ more) (lines_append es (end ∷ [])) ∙ append_assoc (lines es) (lines (end ∷ [])) more;
        passes = begun_passes es (Some b) (b, x.tells.measured, x.tells.filled, refl);
        ends = inl (b, more, record { fits = tt; line = refl }, refl, refl);
      }

  stops_run : (bytes : List ℕ) (line : ℕ) (f : Fault) (x : Stops K bytes line f) → Run K None bytes line x.before (stopped f)
  stops_run bytes line f x = record {
    last = x.so_far;
    rest = x.rest;
    fit = x.fit;
    spelled = x.spelled;
    passes = begun_passes x.before x.so_far x.begun;
    ends = cause x.cause;
  }
    where
      cause : ((e : Entry) × (more : List ℕ) × Begins x.rest e more × Refuses K x.so_far e (line + length x.before) f) ⊎ (((e : Entry) (more : List ℕ) → Begins x.rest e more → ⊥) × (f ≡ Layout (line + length x.before))) → Ends K x.so_far x.rest (line + length x.before) (stopped f)
      cause (inl r) = inr (inl (r.0, r.1, f, r.2, r.3, refl))
      cause (inr n) = inr (inr (n.0, ap stopped n.1))

-- the kind with a number is one that is known
kind_known : (P : (W : Type 0) → Weights W → Type 0) (n : ℕ) → ByKind P n → Known n
kind_known P n (by_marks x) = omega arith
kind_known P n (by_residues x) = omega arith
kind_known P n (by_costs x) = omega arith

-- two facts on the kind with one number
kind_both : (P Q : (W : Type 0) → Weights W → Type 0) (n : ℕ) → ByKind P n → ByKind Q n → ByKind (λ W K. P W K × Q W K) n
kind_both P Q n (by_marks x) (by_marks y) = by_marks (x, y)
kind_both P Q n (by_residues x) (by_residues y) = by_residues (x, y)
kind_both P Q n (by_costs x) (by_costs y) = by_costs (x, y)

kind_gives : (P : (W : Type 0) → Weights W → Type 0) (R : Type 0) (n : ℕ) → ((W : Type 0) (K : Weights W) → P W K → R) → ByKind P n → R
kind_gives P R n h (by_marks x) = h _ _ x
kind_gives P R n h (by_residues x) = h _ _ x
kind_gives P R n h (by_costs x) = h _ _ x

module _ {W : Type 0} (K : Weights W) where
  pub told_once : (bytes : List ℕ) (t u : Text) (b c : Book W) (more rest : List ℕ) → Told K bytes t b more → Told K bytes u c rest → (t ≡ u) × (b ≡ c) × (more ≡ rest)
  told_once bytes t u b c more rest x y =
      let r = run_once K None bytes 0 (table t.states t.ranks ∷ t.body) (table u.states u.ranks ∷ u.body) (closed b more) (closed c rest) (told_run K bytes 0 t b more x) (told_run K bytes 0 u c rest y) in
      let es = r.0 in
      let out = r.1 in
      let n : t.states ≡ u.states = cc in
      let rs : t.ranks ≡ u.ranks = cc in
      let body : t.body ≡ u.body = cc in
      let books : b ≡ c = cc in
      let ends : more ≡ rest = cc in
      ((λ i. record { states = n i; ranks = rs i; body = body i }), books, ends)

  pub told_goes_on : (bytes : List ℕ) (line : ℕ) (t : Text) (b : Book W) (more : List ℕ) (f : Fault) → Told K bytes t b more → Stops K bytes line f → ⊥
  told_goes_on bytes line t b more f x y =
      let out = (run_once K None bytes line (table t.states t.ranks ∷ t.body) y.before (closed b more) (stopped f) (told_run K bytes line t b more x) (stops_run K bytes line f y)).1 in
      let z : ◌≡◌ {A = ℕ} 0 1 = cc in
      omega arith

  pub stops_once : (bytes : List ℕ) (line : ℕ) (f g : Fault) → Stops K bytes line f → Stops K bytes line g → f ≡ g
  stops_once bytes line f g x y =
      let out = (run_once K None bytes line x.before y.before (stopped f) (stopped g) (stops_run K bytes line f x) (stops_run K bytes line g y)).1 in
      cc

  -- what follows the first table is one
  told_follows : (P : List ℕ → Type 0) (bytes : List ℕ) (t u : Text) (b c : Book W) (more rest : List ℕ) → Told K bytes t b more → Told K bytes u c rest → P rest → P more
  told_follows P bytes t u b c more rest x y p = subst P (sym (told_once bytes t u b c more rest x y).2) p

  pub tables_once : (bytes : List ℕ) (b c d e : Book W) → TwoTables K bytes b c → TwoTables K bytes d e → (b ≡ d) × (c ≡ e)
  tables_once bytes b c d e x y =
      let first = told_once bytes x.first y.first b d x.between y.between x.first_told y.first_told in
      (first.1, (told_once x.between x.second y.second c e [] [] x.second_told (subst (λ r. Told K r y.second e []) (sym first.2) y.second_told)).1)

  pub tables_fine : (bytes : List ℕ) (b c : Book W) (f : Fault) → TwoTables K bytes b c → b.content.ranks ≡ c.content.ranks → Faulty K bytes f → ⊥
  tables_fine bytes b c f x same (in_first s) = told_goes_on bytes 2 x.first b x.between f x.first_told s
  tables_fine bytes b c f x same (in_second t d more told s) =
      let line = 2 + length (entries t) in
      told_goes_on x.between line x.second c [] f x.second_told (told_follows (λ r. Stops K r line f) bytes x.first t b d x.between more x.first_told told s)
  tables_fine bytes b c f x same (behind t u d e more rest told next some) =
      some (sym (told_once x.between x.second u c e [] rest x.second_told (told_follows (λ r. Told K r u e rest) bytes x.first t b d x.between more x.first_told told next)).2)
  tables_fine bytes b c f x same (unlike d e y other) =
      let books = tables_once bytes b c d e x y in
      other (ap (λ a. a.content.ranks) (sym books.0) ∙ same ∙ ap (λ a. a.content.ranks) books.1)

  pub faulty_once : (bytes : List ℕ) (f g : Fault) → Faulty K bytes f → Faulty K bytes g → f ≡ g
  faulty_once bytes f g (in_first s) (in_first s') = stops_once bytes 2 f g s s'
  faulty_once bytes f g (in_first s) (in_second t b more told s') = absurd (told_goes_on bytes 2 t b more f told s)
  faulty_once bytes f g (in_first s) (behind t u b c more rest told next some) = absurd (told_goes_on bytes 2 t b more f told s)
  faulty_once bytes f g (in_first s) (unlike b c x other) = absurd (told_goes_on bytes 2 x.first b x.between f x.first_told s)
  faulty_once bytes f g (in_second t b more told s) (in_first s') = absurd (told_goes_on bytes 2 t b more g told s')
  faulty_once bytes f g (in_second t b more told s) (in_second t' b' more' told' s') =
      let same = told_once bytes t t' b b' more more' told told' in
      stops_once more (2 + length (entries t)) f g s (subst (λ r. Stops K r (2 + length (entries t)) g) (sym same.2) (subst (λ v. Stops K more' (2 + length (entries v)) g) (sym same.0) s'))
  faulty_once bytes f g (in_second t b more told s) (behind t' u b' c more' rest told' next some) =
      absurd (told_goes_on more (2 + length (entries t)) u c rest f (told_follows (λ r. Told K r u c rest) bytes t t' b b' more more' told told' next) s)
  faulty_once bytes f g (in_second t b more told s) (unlike b' c x other) =
      absurd (told_goes_on more (2 + length (entries t)) x.second c [] f (told_follows (λ r. Told K r x.second c []) bytes t x.first b b' more x.between told x.first_told x.second_told) s)
  faulty_once bytes f g (behind t u b c more rest told next some) (in_first s) = absurd (told_goes_on bytes 2 t b more g told s)
  faulty_once bytes f g (behind t u b c more rest told next some) (in_second t' b' more' told' s) =
      absurd (told_goes_on more' (2 + length (entries t')) u c rest g (told_follows (λ r. Told K r u c rest) bytes t' t b' b more' more told' told next) s)
  faulty_once bytes f g (behind t u b c more rest told next some) (behind t' u' b' c' more' rest' told' next' some') =
      let first = told_once bytes t t' b b' more more' told told' in
      let second = told_once more u u' c c' rest rest' next (subst (λ r. Told K r u' c' rest') (sym first.2) next') in
      ap₂ (λ v w. Layout (2 + length (entries v) + length (entries w))) first.0 second.0
  faulty_once bytes f g (behind t u b c more rest told next some) (unlike b' c' x other) =
      absurd (some (told_once more u x.second c c' rest [] next (told_follows (λ r. Told K r x.second c' []) bytes t x.first b b' more x.between told x.first_told x.second_told)).2)
  faulty_once bytes f g (unlike b c x other) (in_first s) = absurd (told_goes_on bytes 2 x.first b x.between g x.first_told s)
  faulty_once bytes f g (unlike b c x other) (in_second t b' more told s) =
      absurd (told_goes_on more (2 + length (entries t)) x.second c [] g (told_follows (λ r. Told K r x.second c []) bytes t x.first b' b more x.between told x.first_told x.second_told) s)
  faulty_once bytes f g (unlike b c x other) (behind t u b' c' more rest told next some) =
      absurd (some (told_once more u x.second c' c rest [] next (told_follows (λ r. Told K r x.second c []) bytes t x.first b' b more x.between told x.first_told x.second_told)).2)
  faulty_once bytes f g (unlike b c x other) (unlike b' c' x' other') = refl

-- the line of the kind is one
pub kind_once : (page : List ℕ) (n m : ℕ) (more rest : List ℕ) → Begins page (kind n) more → Begins page (kind m) rest → (n ≡ m) × (more ≡ rest)
kind_once page n m more rest x y =
    let same = begins_once page (kind n) (kind m) more rest x y in
    let e = same.0 in
    let number : n ≡ m = cc in
    (number, same.1)

pub fault_once : (page : List ℕ) (f g : Fault) → FirstFault page f → FirstFault page g → f ≡ g
fault_once page f g (too_long x) (too_long y) = refl
fault_once page f g (too_long x) (no_kind fits y) = absurd (x fits)
fault_once page f g (too_long x) (in_tables n more fits b y) = absurd (x fits)
fault_once page f g (no_kind fits x) (too_long y) = absurd (y fits)
fault_once page f g (no_kind fits x) (no_kind fits' y) = refl
fault_once page f g (no_kind fits x) (in_tables n more fits' b y) = absurd (x n more b (kind_known (λ W K. Faulty K more g) n y))
fault_once page f g (in_tables n more fits b x) (too_long y) = absurd (y fits)
fault_once page f g (in_tables n more fits b x) (no_kind fits' y) = absurd (y n more b (kind_known (λ W K. Faulty K more f) n x))
fault_once page f g (in_tables n more fits b x) (in_tables m rest fits' c y) =
    let same = kind_once page n m more rest b c in
    let y' = subst (ByKind (λ W K. Faulty K more g)) (sym same.0) (subst (λ r. ByKind (λ W K. Faulty K r g) m) (sym same.1) y) in
    kind_gives (λ W K. Faulty K more f × Faulty K more g) (f ≡ g) n (λ W K h. faulty_once K more f g h.0 h.1) (kind_both (λ W K. Faulty K more f) (λ W K. Faulty K more g) n x y')

spelled_fine : (page : List ℕ) (f : Fault) → SpellsTables page → FirstFault page f → ⊥
spelled_fine page f x (too_long y) = y x.2
spelled_fine page f x (no_kind fits y) =
    y x.0 x.1 x.3 (kind_known (λ W K. (b : Book W) × (c : Book W) × TwoTables K x.1 b c × (b.content.ranks ≡ c.content.ranks)) x.0 x.4)
spelled_fine page f x (in_tables m rest fits c y) =
    let n = x.0 in
    let more = x.1 in
    let same = kind_once page n m more rest x.3 c in
    let y' = subst (ByKind (λ W K. Faulty K more f)) (sym same.0) (subst (λ r. ByKind (λ W K. Faulty K r f) m) (sym same.1) y) in
    kind_gives (λ W K. ((b : Book W) × (c : Book W) × TwoTables K more b c × (b.content.ranks ≡ c.content.ranks)) × Faulty K more f) ⊥ n (λ W K h. tables_fine K more h.0.0 h.0.1 f h.0.2 h.0.3 h.1) (kind_both (λ W K. (b : Book W) × (c : Book W) × TwoTables K more b c × (b.content.ranks ≡ c.content.ranks)) (λ W K. Faulty K more f) n x.4 y')

pub read_once : {W : Type 0} (K : Weights W) → ReadOnce K
read_once K = record {
  one_fault = fault_once;
  one_pair = λ page n m more rest b c d e x y s t.
      let same = kind_once page n m more rest x y in
      let books = tables_once K more b c d e s (subst (λ r. TwoTables K r d e) (sym same.1) t) in
      (same.0, books.0, books.1);
  never_both = spelled_fine;
}
