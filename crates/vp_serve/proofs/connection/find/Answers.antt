use Rattle.std.proofs.Common.{sym, ◌∙◌}
use Rattle.vp_serve.proofs.Places.{place-none, place-of}
use Rattle.vp_serve.proofs.connection.find.Goals as goal

pub returns-clause-none : goal.returns-clause-none
returns-clause-none c none = place-none c.args.number c.args.connections.now (sym none ∙ c.place_of.ensures.place)

pub returns-clause-some : goal.returns-clause-some
returns-clause-some c = place-of c.args.number c.args.connections.now c.place_of.result c.place_of.ensures.place
