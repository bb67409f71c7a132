use Rattle.std.proofs.Common.{◌∷◌, Some, ◌∙◌, [], ℕ, List, subst, sym, refl, ap}
use Rattle.vp_serve.specs.declared.options.FilePiece.{FilePiece}
use Rattle.vp_serve.specs.Transfer.{Logs, Grows}
use Rattle.std.specs.Prelude.{is_some}
use Rattle.vp_serve.specs.ServerLoop.{LoopState}
use Rattle.vp_serve.proofs.Continuing.{logs_none}
use Rattle.vp_serve.proofs.LoopTurnLemmas.{through_read, through_quiet}
use Rattle.vp_serve.proofs.main_loop.read_one.Goals as goal

pub returns-in-Some-clause-feeds : goal.returns-in-Some-clause-feeds
returns-in-Some-clause-feeds g c names there =
    let a = g.T.Transport.log c.args.transport.now in
    let b = g.T.Transport.log c.read_piece.new.transport in
    let d = g.T.Transport.log c.feed_waiting.new.transport in
    let piece : FilePiece = record { place = c.args.place; name = c.in-Ok.own; bytes = c.in-Some.bytes } in
    through_read names c.feed_waiting.result c.args.server.now c.grown.new.self c.feed_waiting.new.server piece a b d (is_some c.args.server.now.waiting) c.grown.ensures
    (subst (λ (l : List ℕ). Logs a b (Grows c.args.place l c.in-Some.bytes ∷ [])) (sym c.in-Ok.ensures) c.in-Some.ensures.logs) (there ∙ ap (λ (l : List ℕ). Some l) (sym c.in-Ok.ensures))
    (c.feed_waiting.ensures.feeds names)

pub returns-in-Some-clause-kept : goal.returns-in-Some-clause-kept
returns-in-Some-clause-kept g c = c.feed_waiting.ensures.kept ∙ ap (λ (x : LoopState). x.connections) c.grown.ensures.1

pub returns-in-None-clause-feeds : goal.returns-in-None-clause-feeds
returns-in-None-clause-feeds g c names there = through_quiet names c.args.server.now (g.T.Transport.log c.args.transport.now) (g.T.Transport.log c.read_piece.new.transport) c.in-None.ensures.logs

pub returns-then-is_some-clause-feeds : goal.returns-then-is_some-clause-feeds
returns-then-is_some-clause-feeds g c names there =
    let a = g.T.Transport.log c.args.transport.now in
    through_quiet names c.args.server.now a a (logs_none a a refl)

pub returns-in_default-clause-feeds : goal.returns-in_default-clause-feeds
returns-in_default-clause-feeds g c names there =
    let a = g.T.Transport.log c.args.transport.now in
    through_quiet names c.args.server.now a a (logs_none a a refl)
