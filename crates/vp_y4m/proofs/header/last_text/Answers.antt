use Rattle.vp_y4m.proofs.HeaderLemmas.{token_more, token_last}
use Rattle.vp_y4m.proofs.header.last_text.Goals as goal

pub loop-token-preserved : goal.loop-token-preserved
loop-token-preserved c =
    token_more c.args.kind c.args.line.now c.loop-token.rest.now c.in-Some.token.now c.in-Some.behind.now _ _ _ c.in-Some.ensures.0 c.in-Some.ensures.1 c.in-Some.ensures.2 c.text_after_kind.ensures c.or-last.ensures c.loop-token.invariant

pub returns : goal.returns
returns c = token_last c.args.kind c.args.line.now c.loop-token.rest.now _ _ _ c.in_default.ensures c.text_after_kind-2.ensures c.or.ensures c.loop-token.invariant
