use Rattle.std.proofs.Common.{◌≡◌, ℕ}
use Rattle.rules.proofs.Undone.{Undoing}
use Rattle.rules.proofs.pushing.undone_all.Given as goal

abbrev pub invariant-loop-child : goal.invariant-loop-child
invariant-loop-child g l =
    (f : ℕ → g.row.W-Weight.Denot) → ((w : _) (q : ℕ) (v : _) → goal.U-post g l.undo w q v → g.W.Kind.stands v ≡ g.W.Kind.weights.times (g.W.Kind.stands w) (g.W.Kind.weights.inverse (f q))) → Undoing g.W.Kind.weights f (g.W.Kind.stands l.initial.left) l.children l.child-index (g.W.Kind.stands l.left)
