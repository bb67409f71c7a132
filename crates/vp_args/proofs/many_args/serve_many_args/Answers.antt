use Rattle.std.proofs.Common.{refl}
use Rattle.vp_args.proofs.many_args.serve_many_args.Goals as goal

pub returns-clause-plan : goal.returns-clause-plan
returns-clause-plan c = let h = rw c.as_slice.ensures at c.in_ok-max_connections.ensures.numbers in record {
  address_is = refl;
  connections_are = h.1.1.1.1.0.0;
  cache_is = h.1.1.1.1.1.0.0;
  shows = c.is_set.ensures;
  stills = c.is_set-2.ensures;
  streams_are = c.in_ok-streams.ensures.named.0;
  most_are = h.0.0;
  timeout_is = h.1.0.0;
  follows = c.is_set-follow.ensures;
  interval_is = h.1.1.0.0;
  cursors_are = h.1.1.1.0.0;
  logs = c.is_set-3.ensures;
  files = c.in_ok-streams.ensures.named.1;
}
