use Rattle.std.proofs.Common.{length, refl, ap}
use Rattle.std.proofs.lemmas.Option.{slice_get_read}
use Rattle.lookup_index.proofs.rule_index.calls.left_at.Goals as goal

pub returns : goal.returns
returns g c = (
  c.index-rules-place.result,
  slice_get_read c.args.rules.now (length c.args.rules.now) c.args.place c.index-rules-place.result refl c.requires c.index-rules-place.is,
  ap (λ rule. rule.left) c.index-rules-place.is,
)
