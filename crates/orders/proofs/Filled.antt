-- A draft that was opened, marked and filled with lines holds the table of the lines.
use Rattle.std.proofs.Common.{◌≡◌, ℕ, Bool, true, false, cond, eqb, List, [], ◌∷◌, ◌++◌, map, sym, refl, ap, ◌∙◌, append_assoc}
use Rattle.std.proofs.lemmas.List.{append-nil}
use Rattle.kinds.specs.declared.cost.Cost.{Cost}
use Rattle.automata.specs.Automata.{Transition, Automaton}
use Rattle.rules.specs.Books.{Book, Opens, Accepts, added}
use Rattle.orders.specs.declared.line.Line.{Line}
use Rattle.orders.specs.Symbols.{order_ranks}
use Rattle.orders.specs.Tables.{line_rule, lines_added, order_table}

-- the automaton with these rules behind its own
abbrev with_rules : Automaton Cost → List (Transition Cost) → Automaton Cost
with_rules A rs = record { ranks = A.ranks; states = A.states; accepting = A.accepting; rules = A.rules ++ rs }

lines_content : (b : Book Cost) (ls : List Line) → (lines_added b ls).content ≡ with_rules b.content (map line_rule ls)
lines_content b [] = ap (λ rs. record { ranks = b.content.ranks; states = b.content.states; accepting = b.content.accepting; rules = rs }) (sym (append-nil b.content.rules))
lines_content b (l ∷ ls) =
    lines_content (added b (line_rule l)) ls
    ∙ ap (λ rs. record { ranks = b.content.ranks; states = b.content.states; accepting = b.content.accepting; rules = rs }) (append_assoc b.content.rules (line_rule l ∷ []) (map line_rule ls))

flag : (b : Bool) → cond b true false ≡ b
flag true = refl
flag false = refl

pub filled : (b b₁ b₂ : Book Cost) (n q : ℕ) (ls : List Line) → Opens order_ranks 11 n b → q ≡ 10 → Accepts q b b₁ → b₂ ≡ lines_added b₁ ls → b₂.content ≡ order_table ls
filled b b₁ b₂ n q ls o at a e = ap (λ b. b.content) e ∙ lines_content b₁ ls ∙ marked
  where
    ranks : b₁.content.ranks ≡ order_ranks
    ranks = a.same_ranks ∙ o.same_ranks

    states : b₁.content.states ≡ 11
    states = a.same_states ∙ o.same_states

    rules : b₁.content.rules ≡ []
    rules = a.same_rules ∙ o.no_rules

    marks : (p : ℕ) → b₁.content.accepting p ≡ eqb p 10
    marks p = a.marks p ∙ ap (cond (eqb p q) true) (o.no_accepting p) ∙ flag (eqb p q) ∙ ap (eqb p) at

    marked : with_rules b₁.content (map line_rule ls) ≡ order_table ls
    marked = λ i. record { ranks = ranks i; states = states i; accepting = λ p. marks p i; rules = rules i ++ map line_rule ls }
