-- From what the calls of two tables promise of their histories to the answer.
use Rattle.std.proofs.Common.{◌≡◌, ℕ, ◌+◌, ◌*◌, ◌<◌, ◌≤◌, List, [], ◌∷◌, ◌++◌, length, get_or, take, ℤ, Ok, Err, vec_items, Option, Result, Vec, sym, refl, ap, ◌∙◌, subst, ap₂, inr, ⊎_elim, mul-le-mul, arith}
use lib.Seq.{take-append-le}
use Rattle.std.specs.Option.{option_map}
use Rattle.std.specs.List.{ContainsAt}
use Rattle.std.proofs.lemmas.List.{length-take, get_or-take, get_or_past, take_all}
use Rattle.std.proofs.lemmas.Bool.{cases_lt}
use Rattle.kinds.specs.Weights.{Weights}
use Rattle.automata.specs.Trees.{rank}
use Rattle.automata.specs.Runs.{weight_of}
use Rattle.automata.proofs.Alikes.{alike_sym, alike_trans}
use Rattle.trees.specs.declared.node.Node.{Node}
use Rattle.trees.specs.declared.refusal.Refusal.{Refusal}
use Rattle.trees.specs.declared.refusal.Refusal.TheVariants.{Alphabets, Short}
use Rattle.trees.specs.Lists.{blank, children_of, IsTreeList, bad_list, tree_of}
use Rattle.trees.specs.Refusals.{when, Answers}
use Rattle.trees.proofs.Refusals.{list_fine}
use Rattle.comparison.specs.declared.comparison.Comparison.{Comparison}
use Rattle.comparison.specs.declared.comparison.Comparison.TheVariants.{Same, Different}
use Rattle.comparison.specs.Comparing.{compare_tests, ToldApart, Compares}
use Rattle.layout.specs.Answers.{weight_line}
use Rattle.rules.specs.Books.{Book, holding}
use Rattle.rules.specs.Weighing.{weight_said}
use Rattle.rules.specs.declared.weighing.Weighing.{Weighing}
use Rattle.tables.specs.declared.closed.Closed.{Closed}
use Rattle.tables.specs.Histories.{Opening, Call, reduce, Lived, book, Continues, WeighsAsBooked}
use Rattle.tables.specs.Images.{closed_holds, SameClosed}
use Rattle.tables.specs.Promises.{Whole}
use Rattle.tables.proofs.Faithful.{faithful}
use Rattle.tables.proofs.Wholes.{not_apart}
use Rattle.pages.specs.declared.at.At.{At}
use Rattle.pages.specs.declared.fault.Fault.TheVariants.{Table}
use Rattle.pages.specs.declared.trouble.Trouble.{Trouble}
use Rattle.pages.specs.declared.trouble.Trouble.TheVariants.{Fault as refused, NoMemory}
use Rattle.pages.specs.Answering.{verdict_line, node_lines, Least, Verdict}
use Rattle.pages.specs.Judging.{ByHistory, ByHistories, Faultless, Codes, Apart, TellsSame, TellsDifferent, Judges}
use Rattle.pages.specs.Reading.{placed}
use Rattle.pages.proofs.Calls.{placed_ok, placed_err}

-- a table that has not changed holds what it held
pub same_held : {V W : Type 0} (stands : V → W) (c c' : Closed V) → SameClosed c c' → closed_holds stands c' ≡ closed_holds stands c
same_held stands c c' s = λ i. holding stands (s.shape i) (s.memory i) (s.count i)

-- an entry that has a child is there
child_there : (ranks : List ℕ) (list : List Node) (j i : ℕ) → ContainsAt (children_of ranks (get_or list j blank)) i → j < length list
child_there ranks list j i has =
    ⊎_elim (λ less. less)
    (λ past. let few = length-take {A = ℕ} (rank ranks 0) [] in
    let none : length (children_of ranks (get_or list j blank)) ≡ length (children_of ranks blank) = ap (λ (n : Node). length (children_of ranks n)) (get_or_past list j blank past) in
    absurd (omega (arith, none, few, has.1)))
    (cases_lt j (length list))

module _ {W : Type 0} (K : Weights W) where
  -- what a reduction leaves is the least by the book
  least_by : (o : Opening) (h : List (Call W)) (b b' : Book W) (n : ℕ) (answer : ℕ × ℕ) → Continues K o (reduce n (Ok answer) ∷ h) b b' → Least K (book o h) answer.1
  least_by o h b b' n answer c =
      let f = c.faithful in
      let few = f.fewest answer refl in
      record {
        smallest = b'.content;
        sound = f.sound;
        alike = f.weighs;
        states = few.0;
        least = λ B sound alike.
            let size = few.1 B sound (alike_trans K b'.content (book o h).content B (alike_sym K (book o h).content b'.content f.weighs) alike) in
            omega (arith, size, few.0);
      }

  pub reduced_least : (b b' : Book W) (n : ℕ) (r : Result (ℕ × ℕ) Refusal) (p : Result (ℕ × ℕ) (At Refusal)) (answer : ℕ × ℕ) → p ≡ placed 0 r → p ≡ Ok answer → ((o : Opening) (h : List (Call W)) → Lived K o h b → Continues K o (reduce n r ∷ h) b b') → ByHistory K b (λ c. Least K c answer.1)
  reduced_least b b' n r p answer e is c o h l =
      least_by o h b b' n answer (subst (λ (s : Result (ℕ × ℕ) Refusal). Continues K o (reduce n s ∷ h) b b') (placed_ok 0 r p answer e is) (c o h l))

  -- what is said of a tree has the code of its weight by the book
  pub weighed_code : {V : Type 0} (stands : V → W) (held : Book W) (list : List Node) (r : Result (Weighing V) Refusal) (p : Result (Weighing V) (At Refusal)) (w : Weighing V) (code : Option ℤ) → p ≡ placed 0 r → p ≡ Ok w → code ≡ option_map K.code (weight_said stands w) → ((o : Opening) (h : List (Call W)) → Lived K o h held → WeighsAsBooked K stands (book o h) (tree_of held.content.ranks list) r) → ByHistory K held (λ b. Codes K b list code)
  weighed_code {V} stands held list r p w code e is said a o h l =
      let weighs : weight_of K (book o h).content (tree_of held.content.ranks list) ≡ weight_said stands w =
      subst (WeighsAsBooked K stands (book o h) (tree_of held.content.ranks list)) (placed_ok 0 r p w e is) (a o h l) in
      said ∙ ap (option_map K.code) (sym weighs) ∙ ap (λ (rs : List ℕ). option_map K.code (weight_of K (book o h).content (tree_of rs list))) (sym (faithful K o l).weighs.alphabet)

  -- a tree list with enough places is not refused
  pub weighed_never : {V : Type 0} (Done : Weighing V → Type 0) (Unchanged : Type 0) (held : Book W) (list : List Node) (places : ℕ) (r : Result (Weighing V) Refusal) (p : Result (Weighing V) (At Refusal)) (x : At Refusal) → p ≡ placed 0 r → p ≡ Err x → length list ≤ places → Answers (bad_list held.content.ranks list ∷ when (places < length list) Short ∷ []) Done Unchanged r → ByHistory K held (λ b. IsTreeList b.content.ranks list → ⊥)
  weighed_never Done Unchanged held list places r p x e is room a o h l good =
      let ranks = held.content.ranks in
      let met = subst (Answers (bad_list ranks list ∷ when (places < length list) Short ∷ []) Done Unchanged) (placed_err 0 r p x e is).1 a in
      let fine = subst (λ (rs : List ℕ). IsTreeList rs list) (faithful K o l).weighs.alphabet good in
      ⊎_elim (list_fine ranks list fine x.error) (λ rest. ⊎_elim (λ short. omega (arith, short.0)) (λ other. other.1) rest.1) met.0

  -- the verdict on tables that a list tells apart
  pub told_different : (b d : Book W) (n m : ℕ) (list : List Node) (ranks out : List ℕ) (first second : Option ℤ) → Apart K b d list → Least K b n → Least K d m → ranks ≡ b.content.ranks → Codes K b list first → Codes K d list second → out ≡ verdict_line 1 n m (length list) ++ node_lines ranks 0 list ++ weight_line 1 first ++ weight_line 2 second → Verdict K b d out
  told_different b d n m list ranks out first second apart least₁ least₂ alphabet code₁ code₂ is =
      let one : second ≡ option_map K.code (weight_of K d.content (tree_of b.content.ranks list)) =
      code₂ ∙ ap (λ (rs : List ℕ). option_map K.code (weight_of K d.content (tree_of rs list))) (sym apart.one_alphabet) in
      record {
        n = n;
        m = m;
        first_least = least₁;
        second_least = least₂;
        told = inr (record {
          list = list;
          is_list = apart.is_list;
          used = apart.used;
          witness = apart.witness;
          bytes = is ∙ (λ i. verdict_line 1 n m (length list) ++ node_lines (alphabet i) 0 list ++ weight_line 1 (code₁ i) ++ weight_line 2 (one i));
        });
      }

  -- the first entries that a comparison leaves
  pub apart_told : (b d : Book W) (list list' : List Node) (k : ℕ) → b.content.ranks ≡ d.content.ranks → ToldApart K b.content d.content list list' k → Apart K b d (take k list')
  apart_told b d list list' k one t = record {
    one_alphabet = one;
    is_list = t.is_list;
    used = λ i less.
        let size = length-take k list' in
        let child = t.used i (omega (arith, size)) in
        let j = child.0 in
        let there : j < length list' = child_there b.content.ranks list' j i child.3 in
        (j, child.1, omega (arith, size, there, child.2), subst (λ (n : Node). ContainsAt (children_of b.content.ranks n) i) (sym (get_or-take k list' j blank child.2)) child.3);
    witness = t.witness;
  }

-- the places for two tables of at most 48 states
pub places_enough : (n m : ℕ) → n ≤ 48 → m ≤ 48 → 2 * ((n + 1) * (m + 1)) ≤ 4802
places_enough n m few less = omega (arith, mul-le-mul {n₁ = n + 1} {m₁ = m + 1} {n₂ = 49} {m₂ = 49} (omega arith) (omega arith))

-- the first elements of a vector that was lent and got the elements xs
pub restored : {X : Type 0} (n k : ℕ) (xs ys zs : List X) → length xs ≡ n → zs ≡ take k (take n (xs ++ ys)) → zs ≡ take k xs
restored n k xs ys zs long is =
    let some : n ≤ length xs = omega arith in
    let all : length xs ≤ n = omega arith in
    is ∙ ap (take k) (take-append-le n xs ys some ∙ take_all n xs all)

-- the verdict on tables over one alphabet
judges_by : {W Z : Type 0} (K : Weights W) (b d : Book W) (r : Result (Vec ℕ Z) Trouble) → b.content.ranks ≡ d.content.ranks → Faultless (λ out. Verdict K b d (vec_items out)) r → Judges K b d r
judges_by K b d (Ok out) one told = (one, told)
judges_by K b d (Err (refused f)) one told = absurd told
judges_by K b d (Err NoMemory) one told = tt

-- behind a comparison of two tables
module _ {V W : Type 0} (K : Weights W) (stands : V → W) (first second : Closed V) (list list' : List Node) (places : ℕ) (Unchanged : Type 0) (r : Result Comparison Refusal) (p : Result Comparison (At Refusal)) (at : p ≡ placed 0 r) (answer : Answers (compare_tests (closed_holds stands first).content (closed_holds stands second).content (length list) places) (Compares K (closed_holds stands first).content (closed_holds stands second).content list list') Unchanged r) where
  abbrev A : Book W
  A = closed_holds stands first

  abbrev B : Book W
  B = closed_holds stands second

  -- it is refused for unequal alphabets only
  pub judged_refused : (x : At Refusal) → p ≡ Err x → length list ≡ 4802 → places ≡ 4802 → ByHistories K A B (λ b d. (Table x.line x.error ≡ Table 0 Alphabets) × (b.content.ranks ≡ d.content.ranks → ⊥))
  judged_refused x is long many o h l o' h' l' =
      let err = placed_err 0 r p x at is in
      let met = (subst (Answers (compare_tests A.content B.content (length list) places) (Compares K A.content B.content list list') Unchanged) err.1 answer).0 in
      let room = places_enough A.content.states B.content.states first.shape.measure.few second.shape.measure.few in
      ⊎_elim (λ unlike. (ap₂ Table err.0 unlike.1, λ one. unlike.0 (sym (faithful K o l).weighs.alphabet ∙ one ∙ (faithful K o' l').weighs.alphabet)))
      (λ rest. absurd (⊎_elim (λ short. ⊎_elim (λ z. omega (arith, z, room)) (λ z. omega (arith, z, room)) short.0) (λ other. other.1) rest.1)) met

  module _ {Z : Type 0} (first' second' : Closed V) (same₁ : SameClosed first first') (same₂ : SameClosed second second') (whole : (o₁ o₂ : Opening) (h₁ h₂ : List (Call W)) → Lived K o₁ h₁ A → Lived K o₂ h₂ B → Whole K stands o₁ o₂ h₁ h₂ A B list list' places r) (out : Result (Vec ℕ Z) Trouble) where
    pub judged_same : p ≡ Ok Same → TellsSame K (closed_holds stands first') (closed_holds stands second') out → ByHistories K A B (λ b d. Judges K b d out)
    judged_same is told o h l o' h' l' =
        let compared = (whole o o' h h' l l').by_books Same (placed_ok 0 r p Same at is) in
        judges_by K (book o h) (book o' h') out compared.0.alphabet
        (told o h (subst (Lived K o h) (sym (same_held stands first first' same₁)) l) o' h' (subst (Lived K o' h') (sym (same_held stands second second' same₂)) l') compared.0)

    pub judged_different : (k : ℕ) (tree : List Node) → p ≡ Ok (Different k) → tree ≡ take k list' → TellsDifferent K (closed_holds stands first') (closed_holds stands second') tree out → ByHistories K A B (λ b d. Judges K b d out)
    judged_different k tree is cut told o h l o' h' l' =
        let done = placed_ok 0 r p (Different k) at is in
        let compared = (whole o o' h h' l l').by_books (Different k) done in
        let none = (subst (Answers (compare_tests A.content B.content (length list) places) (Compares K A.content B.content list list') Unchanged) done answer).0 in
        let one : (book o h).content.ranks ≡ (book o' h').content.ranks =
        (faithful K o l).weighs.alphabet ∙ not_apart A.content.ranks B.content.ranks (λ n. none.0 Alphabets (n, refl)) ∙ sym (faithful K o' l').weighs.alphabet in
        judges_by K (book o h) (book o' h') out one
        (told o h (subst (Lived K o h) (sym (same_held stands first first' same₁)) l) o' h' (subst (Lived K o' h') (sym (same_held stands second second' same₂)) l')
        (subst (Apart K (book o h) (book o' h')) (sym cut) (apart_told K (book o h) (book o' h') list list' k one compared)))
