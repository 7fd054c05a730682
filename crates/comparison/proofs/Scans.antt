-- Which rules of two tables are clear, place by place.
use Rattle.std.proofs.Common.{◌≡◌, ℕ, ◌<◌, ◌≤◌, List, map, length, get_or, Some, None, Option, sym, ap, ◌∙◌, subst, arith}
use Rattle.std.specs.List.{slice_get}
use Rattle.std.proofs.lemmas.List.{length-map}
use Rattle.std.proofs.lemmas.Option.{slice_get_past}
use Rattle.kinds.specs.Weights.{Weights}
use Rattle.automata.specs.Runs.{At}
use Rattle.rules.specs.declared.rule.Rule.{Rule}
use Rattle.rules.specs.declared.side.Side.{Side}
use Rattle.rules.specs.declared.side.Side.TheVariants.{First, Second}
use Rattle.rules.specs.Shapes.{ranks_in, transition}
use Rattle.liveness.proofs.Derivations.{nth_mapped}
use Rattle.comparison.specs.declared.scan_tables.LiveTables.{LiveTables}
use Rattle.comparison.specs.Scanning.{Two, two, ClearRule, Rested, Quiet, ClearAt}

-- no element stands at a place past the end
pub none_past : {X Y : Type 0} (f : X → Y) (xs : List X) (i : ℕ) (y : Y) → length xs ≤ i → slice_get (map f xs) i ≡ Some y → ⊥
none_past f xs i y h e =
    let none : slice_get (map f xs) i ≡ None = slice_get_past (map f xs) i (omega (arith, length-map xs f)) in
    let z : ◌≡◌ {A = ℕ} 0 1 = cc in omega arith

module _ {V W : Type 0} (K : Weights W) (stands : V → W) (t : LiveTables V) (R : Side → ℕ → Option (At W)) (N : ℕ → ℕ → Option ℕ) (i j : ℕ) where
  abbrev T : Two W
  T = two stands t

  -- the transition of the rule in the place i, and of that in the place j
  here_first : (x : Rule V) → x ≡ get_or t.tables.first.rules.now i x → i < length t.tables.first.rules.now → slice_get T.first.rules i ≡ Some (transition stands (ranks_in t.tables.first.shape.now) x)
  here_first x x-is h = nth_mapped (transition stands (ranks_in t.tables.first.shape.now)) t.tables.first.rules.now i x h x-is

  here_second : (x : Rule V) → x ≡ get_or t.tables.second.rules.now j x → ranks_in t.tables.first.shape.now ≡ ranks_in t.tables.second.shape.now → j < length t.tables.second.rules.now → slice_get T.second.rules j ≡ Some (transition stands (ranks_in t.tables.first.shape.now) x)
  here_second x x-is ranks h =
      nth_mapped (transition stands (ranks_in t.tables.second.shape.now)) t.tables.second.rules.now j x h x-is ∙ ap (λ rs. Some (transition stands rs x)) (sym ranks)

  pub quiet_first : (x : Rule V) → x ≡ get_or t.tables.first.rules.now i x → (since : Option ℕ) → i < length t.tables.first.rules.now → Quiet K T R N since → (m : ℕ) → since ≡ Some m → Rested First N m (transition stands (ranks_in t.tables.first.shape.now) x).children → ClearRule K T R N First (transition stands (ranks_in t.tables.first.shape.now) x)
  quiet_first x x-is since h quiet m e =
      (quiet m e).first_clear i (transition stands (ranks_in t.tables.first.shape.now) x) (omega (arith, length-map t.tables.first.rules.now (transition stands (ranks_in t.tables.first.shape.now)))) (here_first x x-is h)

  pub quiet_second : (x : Rule V) → x ≡ get_or t.tables.second.rules.now j x → (since : Option ℕ) → ranks_in t.tables.first.shape.now ≡ ranks_in t.tables.second.shape.now → j < length t.tables.second.rules.now → Quiet K T R N since → (m : ℕ) → since ≡ Some m → Rested Second N m (transition stands (ranks_in t.tables.first.shape.now) x).children → ClearRule K T R N Second (transition stands (ranks_in t.tables.first.shape.now) x)
  quiet_second x x-is since ranks h quiet m e =
      (quiet m e).second_clear j (transition stands (ranks_in t.tables.first.shape.now) x) (omega (arith, length-map t.tables.second.rules.now (transition stands (ranks_in t.tables.second.shape.now)))) (here_second x x-is ranks h)

  pub clear_first : (x : Rule V) → x ≡ get_or t.tables.first.rules.now i x → i < length t.tables.first.rules.now → ClearRule K T R N First (transition stands (ranks_in t.tables.first.shape.now) x) → ClearAt K T R N i j
  clear_first x x-is h clear = (
    (λ r e.
        let here = here_first x x-is h in
        let same : transition stands (ranks_in t.tables.first.shape.now) x ≡ r = cc in
        subst (ClearRule K T R N First) same clear),
    (λ past r e. absurd (omega (arith, length-map t.tables.first.rules.now (transition stands (ranks_in t.tables.first.shape.now)), past))),
  )

  pub clear_second : (x : Rule V) → x ≡ get_or t.tables.second.rules.now j x → ranks_in t.tables.first.shape.now ≡ ranks_in t.tables.second.shape.now → length t.tables.first.rules.now ≤ i → j < length t.tables.second.rules.now → ClearRule K T R N Second (transition stands (ranks_in t.tables.first.shape.now) x) → ClearAt K T R N i j
  clear_second x x-is ranks past h clear = (
    (λ r e. absurd (none_past (transition stands (ranks_in t.tables.first.shape.now)) t.tables.first.rules.now i r past e)),
    (λ most r e.
        let here = here_second x x-is ranks h in
        let same : transition stands (ranks_in t.tables.first.shape.now) x ≡ r = cc in
        subst (ClearRule K T R N Second) same clear),
  )

  pub clear_past : length t.tables.first.rules.now ≤ i → length t.tables.second.rules.now ≤ j → ClearAt K T R N i j
  clear_past h l = (
    (λ r e. absurd (none_past (transition stands (ranks_in t.tables.first.shape.now)) t.tables.first.rules.now i r h e)),
    (λ most r e. absurd (none_past (transition stands (ranks_in t.tables.second.shape.now)) t.tables.second.rules.now j r l e)),
  )
