-- The whole promise over the calls of two tables.
use Rattle.std.specs.Prelude.{◌≡◌, ℕ, ◌≤◌, List, length, Ok, Result}
use Rattle.kinds.specs.Weights.{Weights}
use Rattle.automata.specs.Trees.{Tree}
use Rattle.automata.specs.Runs.{weight_of, Alike}
use Rattle.trees.specs.declared.node.Node.{Node}
use Rattle.trees.specs.declared.refusal.Refusal.{Refusal}
use Rattle.trees.specs.Refusals.{checks, Answers}
use Rattle.rules.specs.declared.weighing.Weighing.{Weighing}
use Rattle.rules.specs.Books.{Book}
use Rattle.rules.specs.Pushing.{push_checks, pushed_book}
use Rattle.rules.specs.Weighing.{Weighed, weight_said}
use Rattle.comparison.specs.declared.comparison.Comparison.{Comparison}
use Rattle.comparison.specs.Witnesses.{places_needed}
use Rattle.comparison.specs.Comparing.{Compared}
use Rattle.tables.specs.Reductions.{Reduces}
use Rattle.tables.specs.Histories.{Opening, Call, book, Faithful}

-- what the calls of a table promise of it: it is faithful to its book, what weigh may say of a tree is what the tree weighs by the book,
-- and neither a push nor a reduction moves a tree's weight
pub record Kept {V W : Type 0} (K : Weights W) (stands : V → W) (o : Opening) (h : List (Call W)) (b : Book W) : Type 0 where
  pub faithful : Faithful K o h b
  pub weighings : (t : Tree) (w : Weighing V) → Weighed stands K b.content t w → weight_of K (book o h).content t ≡ weight_said stands w
  pub pushes : (q : ℕ) (f : W) (r : Result (Unit {0}) Refusal) (b' : Book W) → Answers (checks (push_checks b q)) (λ _. b' ≡ pushed_book K b q f) (b' ≡ b) r → Alike K b.content b'.content
  pub reductions : (n : ℕ) (r : Result (ℕ × ℕ) Refusal) (b' : Book W) → Reduces K b n r b' → Alike K b.content b'.content

-- both tables keep their promises; given one alphabet and lists that are long enough the two are compared, and the answer is that of the two books
pub record Whole {V W : Type 0} (K : Weights W) (stands : V → W) (o₁ o₂ : Opening) (h₁ h₂ : List (Call W)) (b₁ b₂ : Book W) (list list' : List Node) (places : ℕ) (r : Result Comparison Refusal) : Type 0 where
  pub first : Kept K stands o₁ h₁ b₁
  pub second : Kept K stands o₂ h₂ b₂
  pub let_in : (book o₁ h₁).content.ranks ≡ (book o₂ h₂).content.ranks → places_needed b₁.content b₂.content ≤ length list → places_needed b₁.content b₂.content ≤ places → (answer : Comparison) × (r ≡ Ok answer)
  pub by_books : (answer : Comparison) → r ≡ Ok answer → Compared K (book o₁ h₁).content (book o₂ h₂).content list list' answer
