-- Reading the weight of a field.
use Rattle.std.proofs.Common.{◌≡◌, ℕ, List, ℤ, Ok, Err, Result, sym, ap, ◌∙◌}
use Rattle.kinds.specs.Weights.{Weights}
use Rattle.kinds.specs.Reading.{Reads}
use Rattle.kinds.specs.declared.refusal.KindRefusal.{KindRefusal}
use Rattle.layout.specs.Fields.{field, Long}
use Rattle.layout.proofs.Padding.{field_same}
use Rattle.pages.specs.Reading.{ReadsWeight}

-- a code that was read, and what the kind answers to it
pub weight_read : {V W : Type 0} (K : Weights W) (stands : V → W) (bytes : List ℕ) (z : ℤ) (r : Result V KindRefusal) → Long z → bytes ≡ field 12 z → Reads K stands z r → ReadsWeight K stands bytes r
weight_read K stands bytes z (Ok v) long is reads = is ∙ ap (field 12) (sym reads)
weight_read K stands bytes z (Err e) long is reads =
    (reads.0, λ x s. reads.1 x (field_same (K.code x) z (K.low x, K.high x) long (sym s ∙ is)))
