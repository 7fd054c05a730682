-- What a kind answers: its refusal by number, and what the reading of a code gives.
use Rattle.std.specs.Prelude.{◌≡◌, ℕ, ℤ, Ok, Err, Result, ◌≢◌}
use Rattle.kinds.specs.declared.refusal.KindRefusal.{KindRefusal}
use Rattle.kinds.specs.declared.refusal.KindRefusal.TheVariants.{NoWeight}
use Rattle.kinds.specs.Weights.{Weights}

-- the number of each refusal of this layer
abbrev pub refusal_number : KindRefusal → ℕ
refusal_number NoWeight = 8

-- a code is read as a value that stands for its weight, or refused exactly if no weight has it
abbrev pub Reads : {V W : Type 0} → Weights W → (V → W) → ℤ → Result V KindRefusal → Type 0
Reads K stands c (Ok v) = K.code (stands v) ≡ c
Reads {V} {W} K stands c (Err e) = (e ≡ NoWeight) × ((w : W) → K.code w ≢ c)
