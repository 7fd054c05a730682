-- Marks: one weight, with code 1.
use Rattle.std.specs.Prelude.{pos, refl}
use Rattle.std.specs.Int.Signed.{le_z_yes}
use Rattle.kinds.specs.declared.marks.Marks.{Marks}
use Rattle.kinds.specs.Weights.{Weights}

abbrev pub mark : Marks
mark = record {}

abbrev pub marks : Weights Marks
marks = record {
  one = mark;
  times = λ a b. mark;
  inverse = λ a. mark;
  code = λ a. pos 1;
  assoc = λ a b c. refl;
  comm = λ a b. refl;
  unit = λ a. refl;
  cancel = λ a. refl;
  distinct = λ a b e. refl;
  low = λ a. le_z_yes tt;
  high = λ a. le_z_yes tt;
}
