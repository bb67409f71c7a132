use Rattle.std.proofs.Common.{◌∙◌, refl, sym, inl, inr}
use Rattle.vp_serve.proofs.Continuing.{logs_none}
use Rattle.vp_serve.proofs.LoopTurnLemmas.{feeds_quiet}
use Rattle.vp_serve.proofs.OneConnection.{true_false}
use Rattle.vp_serve.proofs.main_loop.poll_files.Goals as goal

pub returns-then-not-is_due-clause-feeds : goal.returns-then-not-is_due-clause-feeds
unfolding feeds_quiet
returns-then-not-is_due-clause-feeds g c =
    let a = g.T.Transport.log c.args.transport.now in
    (feeds_quiet c.args.names.now c.args.server.now a a (logs_none a a refl), λ h. refl, λ due. absurd (true_false (sym due ∙ c.if-not-is_due.true)))

pub returns-clause-feeds : goal.returns-clause-feeds
returns-clause-feeds g c = (c.read_files.ensures.feeds.feeds, λ h. absurd (true_false (sym c.if-not-is_due.false ∙ h)), λ due waits. elim (c.read_files.ensures.feeds.left waits) [ inl never ↦ absurd (true_false (sym never)) | inr is ↦ is ])
