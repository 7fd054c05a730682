-- What is said of a tree is what it weighs by the book of the table.
use Rattle.std.proofs.Common.{◌≡◌, ℕ, cond, List, Some, None, Ok, Err, Option, Result, sym, refl, ap, ◌∙◌, subst}
use Rattle.std.specs.Option.{option_map}
use Rattle.kinds.specs.Weights.{Weights}
use Rattle.automata.specs.Trees.{Tree, Over}
use Rattle.automata.specs.Automata.{Automaton}
use Rattle.automata.specs.Runs.{At, run, accepted}
use Rattle.trees.specs.declared.refusal.Refusal.{Refusal}
use Rattle.trees.specs.Refusals.{Test, Answers}
use Rattle.rules.specs.Books.{Book}
use Rattle.rules.specs.Weighing.{Said, Weighed, weight_said}
use Rattle.rules.specs.declared.weighing.Weighing.{Weighing}
use Rattle.rules.specs.declared.weighing.Weighing.TheVariants.{NoRun, Ended, Weighs}
use Rattle.tables.specs.Histories.{Opening, Call, Lived, book, WeighsAsBooked}
use Rattle.tables.proofs.Faithful.{faithful}

module _ {V W : Type 0} (K : Weights W) (stands : V → W) where
  pub said_weight : (A : Automaton W) (ran : Option (At W)) (w : Weighing V) → Said stands A.accepting ran w → accepted A ran ≡ weight_said stands w
  said_weight A ran NoRun s = ap (accepted A) s
  said_weight A ran (Ended q) s = ended ran s.1
    where
      ended : (o : Option (At W)) → option_map (λ a. a.state) o ≡ Some q → accepted A o ≡ None
      ended None e = refl
      ended (Some a) e = let same : a.state ≡ q = cc in ap (λ b. cond b (Some a.weight) None) (ap A.accepting same ∙ s.0)
  said_weight A ran (Weighs q v) s = ap (accepted A) s.1 ∙ ap (λ b. cond b (Some (stands v)) None) s.0

  pub booked : (tests : List Test) (b : Book W) (t : Tree) (Unchanged : Type 0) (r : Result (Weighing V) Refusal) (o : Opening) (h : List (Call W)) → Answers tests (Weighed stands K b.content t) Unchanged r → Lived K o h b → WeighsAsBooked K stands (book o h) t r
  booked tests b t Unchanged (Err e) o h a l = tt
  booked tests b t Unchanged (Ok w) o h a l =
      let f = faithful K o l in
      f.weighs.weights t (subst (λ (ranks : List ℕ). Over ranks t) (sym f.weighs.alphabet) a.1.over) ∙ said_weight b.content (run K b.content t) w a.1.says
