use Rattle.std.proofs.Common.{◌≡◌, ap, ◌∙◌, fold, refl, arith, rules}
use Rattle.std.proofs.lemmas.Iterator.{YieldsList-from_range}
use Rattle.std.proofs.lemmas.Iterator.Consumers.{fold_from_yields_List}
use Rattle.std.specs.List.{range_with_len}
use Rattle.kinds.specs.declared.residue.Residue.{Residue}
use Rattle.kinds.proofs.Powers.{turned, from_one}
use Rattle.kinds.proofs.residue.Residue.power.Goals as goal

pub returns : goal.returns
returns c =
    let run : c.fold.result ≡ fold (turned c.args.self) c.one.result (range_with_len 0 c.args.turns) = fold_from_yields_List _ _ _ _ c.fold.ensures.ran (YieldsList-from_range 0 c.args.turns c.args.turns refl (omega arith)) (λ a x b q k. search rules) in
    ap (λ (r : Residue). r.code) run ∙ from_one c.args.self c.one.result c.args.turns c.one.ensures.number
