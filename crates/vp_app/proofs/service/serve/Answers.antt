use Rattle.vp_app.proofs.RunLemmas.{runs_service}
use Rattle.vp_commands.specs.Commands.{read_side}
use Rattle.vp_app.proofs.service.serve.Goals as goal

pub returns-in-Ok-clause-served : goal.returns-in-Ok-clause-served
returns-in-Ok-clause-served g c =
    runs_service c.args.service.now c.serve_over.result c.in-Ok.hub
    (read_side g.R.Read.remaining c.args.input.now) (read_side g.R.Read.remaining c.serve_over.new.input)
    c.in-Ok.ensures.hub c.serve_over.ensures.served
