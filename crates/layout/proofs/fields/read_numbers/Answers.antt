use Rattle.std.proofs.Common.{◌≡◌, ◌∙◌, ap, rules}
use Rattle.std.proofs.lemmas.Result.{IfOk-weaker}
use Rattle.std.specs.Iterator.Adapters.{filter_map_source}
use Rattle.std.specs.Slice.Iter.{chunks_rest, chunks_size}
use Rattle.layout.proofs.Sixes.{numbers_kept}
use Rattle.layout.proofs.fields.read_numbers.Goals as goal

pub returns : goal.returns
returns c =
    let six : chunks_size (filter_map_source c.filter_map.result) ≡ 6 = ap chunks_size c.filter_map.ensures.source ∙ c.fields_of.ensures.size in
    let whole : chunks_rest (filter_map_source c.filter_map.result) ≡ c.args.part.now = ap chunks_rest c.filter_map.ensures.source ∙ c.fields_of.ensures.rest in
    IfOk-weaker c.collect.result _ _
    (λ v d ns short is.
    let end = d.1.2 tt in
    d.2.0 ∙ numbers_kept _ (λ f x r q call. search rules) ns short d.0 c.filter_map.result d.1.0 end.0 six (whole ∙ is) d.1.1 end.1)
    c.collect.ensures.ran
