use Rattle.vp_serve.proofs.LoopTurnLemmas.{follows_none, follows_on}
use Rattle.vp_serve.proofs.main_loop.catch_up.Goals as goal

pub loop-turn-init : goal.loop-turn-init
loop-turn-init g c = follows_none c.args.names.now c.args.server.now (g.T.Transport.log c.args.transport.now)

pub loop-turn-preserved : goal.loop-turn-preserved
loop-turn-preserved g c =
    let log = g.T.Transport.log in
    follows_on c.args.names.now c.read_files.result c.args.server.now c.loop-turn.server c.read_files.new.server (log c.args.transport.now) (log c.loop-turn.transport) (log c.read_files.new.transport) c.loop-turn.invariant c.read_files.ensures.feeds.feeds

pub returns-then-not-read_files-clause-files : goal.returns-then-not-read_files-clause-files
returns-then-not-read_files-clause-files g c =
    let log = g.T.Transport.log in
    follows_on c.args.names.now c.read_files.result c.args.server.now c.loop-turn.server c.read_files.new.server (log c.args.transport.now) (log c.loop-turn.transport) (log c.read_files.new.transport) c.loop-turn.invariant c.read_files.ensures.feeds.feeds

pub returns-then-not-read_files-clause-continues : goal.returns-then-not-read_files-clause-continues
returns-then-not-read_files-clause-continues g c = (returns-then-not-read_files-clause-files g c).does

pub returns-clause-files : goal.returns-clause-files
returns-clause-files g c = c.loop-turn.invariant

pub returns-clause-continues : goal.returns-clause-continues
returns-clause-continues g c = c.loop-turn.invariant.does
