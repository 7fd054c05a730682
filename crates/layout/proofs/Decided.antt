-- A test that failed.
use Rattle.std.proofs.Common.{◌≡◌, ℕ, Bool, false, Decides, arith}

pub fails : {P : Type 0} (r : Bool) → Decides r P → r ≡ false → P → ⊥
fails r decides left p = let holds = decides.1 p in let z : ◌≡◌ {A = ℕ} 0 1 = cc in absurd (omega arith)
