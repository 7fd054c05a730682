-- A page is read in one way.
use Rattle.std.specs.Prelude.{◌≡◌, ℕ, List}
use Rattle.kinds.specs.Weights.{Weights}
use Rattle.rules.specs.Books.{Book}
use Rattle.layout.specs.Lines.{kind, Begins}
use Rattle.pages.specs.declared.fault.Fault.{Fault}
use Rattle.pages.specs.Pages.{TwoTables, ByKind, FitsPage, FirstFault}

-- the page spells two tables over one alphabet
abbrev pub SpellsTables : List ℕ → Type 0
SpellsTables page =
    (n : ℕ) × (more : List ℕ) × FitsPage page × Begins page (kind n) more
    × ByKind (λ W K. (b : Book W) × (c : Book W) × TwoTables K more b c × (b.content.ranks ≡ c.content.ranks)) n

-- a page has one first fault at most, one pair of books for a kind at most, and never both
pub record ReadOnce {W : Type 0} (K : Weights W) : Type 0 where
  pub one_fault : (page : List ℕ) (f g : Fault) → FirstFault page f → FirstFault page g → f ≡ g
  pub one_pair : (page : List ℕ) (n m : ℕ) (more rest : List ℕ) (b c d e : Book W) → Begins page (kind n) more → Begins page (kind m) rest → TwoTables K more b c → TwoTables K rest d e → (n ≡ m) × (b ≡ d) × (c ≡ e)
  pub never_both : (page : List ℕ) (f : Fault) → SpellsTables page → FirstFault page f → ⊥
