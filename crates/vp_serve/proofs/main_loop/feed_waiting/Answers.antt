use Rattle.std.proofs.Common.{◌∙◌, refl, sym, ap}
use Rattle.vp_serve.specs.ServerLoop.{LoopState}
use Rattle.vp_serve.proofs.Continuing.{logs_none}
use Rattle.vp_serve.proofs.LoopTurnLemmas.{through_fed, through_none}
use Rattle.vp_serve.proofs.main_loop.feed_waiting.Goals as goal

pub returns-clause-feeds : goal.returns-clause-feeds
returns-clause-feeds g c names =
    let a = g.T.Transport.log c.args.transport.now in
    let b = g.T.Transport.log c.report_feed.new.transport in
    let h = c.feed-outcome.ensures in
    through_fed names c.report_feed.result c.args.server.now c.feed-outcome.new.self h.0 c.feed-outcome.result a b h.1 (logs_none a b c.report_feed.ensures.logs) c.report_feed.ensures.took

pub returns-clause-kept : goal.returns-clause-kept
returns-clause-kept g c = ap (λ (x : LoopState). x.connections) c.feed-outcome.ensures.1.2

pub returns-in_default-clause-feeds : goal.returns-in_default-clause-feeds
returns-in_default-clause-feeds g c names =
    let a = g.T.Transport.log c.args.transport.now in
    through_none names c.args.server.now a a (logs_none a a refl) (sym c.waiting_place.ensures ∙ c.in_default.is)
