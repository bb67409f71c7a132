use Rattle.std.proofs.Common.{◌∙◌, ap}
use Rattle.vp_quant.specs.Quant.{factors}
use Rattle.vp_encode.proofs.ChoosingLemmas.{none_is, told_as}
use Rattle.vp_encode.proofs.frame.choose_frame.Goals as goal

pub returns-clause-told : goal.returns-clause-told
returns-clause-told c =
    told_as (λ k. k.now) c.args.kept c.args.dim c.args.refresh_golden c.is_none.result c.saved_in.result c.args.settings.now c.args.source.now _ c.in_ok-macroblocks.macroblocks c.header_over-header.result
    c.requires.allowed c.requires.width c.requires.height c.requires.segments
    (λ i. record {
      source = c.in_ok-source.ensures.value i;
      factors = (c.of-factors.ensures ∙ c.of.ensures.value ∙ ap (factors c.args.settings.now.qi) c.quantiser.ensures) i;
      search = c.search_in.ensures.value i;
    })
    c.in_ok-macroblocks.ensures.chosen (c.saved_in.ensures c.args.dim) (none_is c.args.kept c.is_none.result c.is_none.ensures) c.header_over-header.ensures
