use Rattle.std.proofs.Common.{◌≡◌, ◌<◌, length, Some, sym, refl, ap, ◌∙◌, arith}
use Rattle.std.specs.Option.{option_map}
use Rattle.std.specs.List.{slice_get}
use Rattle.std.proofs.lemmas.Option.{slice_get_read}
use Rattle.rules.specs.Shapes.{transition}
use Rattle.rules.specs.Lookup.{has_left}
use Rattle.lookup_index.proofs.Positions.{position_first}
use Rattle.lookup_index.proofs.Located.{located, find_located}
use Rattle.lookup_index.proofs.rule_index.RuleIndex.rule_for.Goals as goal

pub returns-in_err-place : goal.returns-in_err-place
returns-in_err-place g c ranks indexed fits =
    ap (option_map (transition g.W.Kind.stands ranks)) c.from_residual.ensures
    ∙ sym (find_located g.W.Kind.stands ranks c.args.symbol c.args.children.now fits c.args.rules.now ∙ ap (located (transition g.W.Kind.stands ranks) c.args.rules.now) (position_first (λ rule. has_left c.args.symbol c.args.children.now rule.left) c.args.rules.now ∙ sym (c.find.ensures.first ranks indexed fits) ∙ c.in_err-place.was))

within : (g : _) (c : goal.In_ok-place g) → c.in_ok-place.place < length c.args.rules.now
within g c = c.find.ensures.within c.in_ok-place.place c.in_ok-place.was

pub offset_bounds-rules-place : goal.offset_bounds-rules-place
offset_bounds-rules-place g c = omega (arith, within g c)

pub bounds-rules-place : goal.bounds-rules-place
bounds-rules-place g c = within g c

pub returns : goal.returns
returns g c ranks indexed fits =
    let here : slice_get c.args.rules.now c.in_ok-place.place ≡ Some c.index-rules-place.result =
    slice_get_read c.args.rules.now (length c.args.rules.now) c.in_ok-place.place c.index-rules-place.result refl (c.find.ensures.within c.in_ok-place.place c.in_ok-place.was) c.index-rules-place.is in
    sym (find_located g.W.Kind.stands ranks c.args.symbol c.args.children.now fits c.args.rules.now
    ∙ ap (located (transition g.W.Kind.stands ranks) c.args.rules.now) (position_first (λ rule. has_left c.args.symbol c.args.children.now rule.left) c.args.rules.now ∙ sym (c.find.ensures.first ranks indexed fits) ∙ c.in_ok-place.was)
    ∙ ap (option_map (transition g.W.Kind.stands ranks)) here)
