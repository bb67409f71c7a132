use Rattle.std.proofs.Common.{◌+◌, take}
use Rattle.std.proofs.lemmas.List.{take_more, take_all}
use Rattle.vp_hub.proofs.Serving.{costs-push, costs_to_end, costs_served, at_most, counted_more}
use Rattle.vp_hub.proofs.feed_bytes.feed_bytes.Goals as goal

pub returns-in_err-take-clause-most : goal.returns-in_err-take-clause-most
returns-in_err-take-clause-most c =
    at_most c.from_residual.result c.args.streams.now c.args.piece.now c.loop-byte.byte-index (c.args.state_of_connection.now, c.args.out.now) (c.loop-byte.state_of_connection, c.loop-byte.out)
    c.args.pictures.now.kept c.loop-byte.pictures.kept c.take.new.pictures.kept c.loop-byte.invariant.cost c.take.new.pictures.work c.loop-byte.pictures.work
    c.loop-byte-test.true c.loop-byte.invariant.costs c.loop-byte.invariant.work c.in_err-take.ensures.most

pub loop-byte-preserved : goal.loop-byte-preserved
loop-byte-preserved c =
    let work = c.in_ok-take.ensures.work in
    record {
      kept = c.take.ensures.kept;
      cursors = c.take.ensures.cursors;
      cost = c.loop-byte.invariant.cost + work.0;
      costs =
          rw (take_more c.args.piece.now c.loop-byte.byte-index 0 c.loop-byte-test.true)
          (costs-push c.args.streams.now (take c.loop-byte.byte-index c.args.piece.now) _ (c.args.state_of_connection.now, c.args.out.now) (c.loop-byte.state_of_connection, c.loop-byte.out) (c.take.new.state_of_connection, c.take.new.out)
          c.args.pictures.now.kept c.loop-byte.pictures.kept c.take.new.pictures.kept c.loop-byte.invariant.cost work.0
          c.loop-byte.invariant.costs c.in_ok-take.ensures.took work.1);
      work = counted_more c.loop-byte.invariant.cost work.0 c.take.new.pictures.work c.loop-byte.pictures.work c.loop-byte.invariant.work work.2;
    }

pub returns-after-loop-byte-clause-served : goal.returns-after-loop-byte-clause-served
returns-after-loop-byte-clause-served c =
    costs_served c.args.streams.now c.args.piece.now (c.args.state_of_connection.now, c.args.out.now) (c.loop-byte.state_of_connection, c.loop-byte.out) c.args.pictures.now.kept c.loop-byte.pictures.kept c.loop-byte.invariant.cost
    (rw (take_all c.loop-byte.byte-index c.args.piece.now c.loop-byte-test.false) at c.loop-byte.invariant.costs)

pub returns-then-state_of_connection-clause-served : goal.returns-then-state_of_connection-clause-served
returns-then-state_of_connection-clause-served c =
    costs_served c.args.streams.now c.args.piece.now (c.args.state_of_connection.now, c.args.out.now) (c.loop-byte.state_of_connection, c.loop-byte.out) c.args.pictures.now.kept c.loop-byte.pictures.kept c.loop-byte.invariant.cost
    (costs_to_end c.args.streams.now c.args.piece.now c.loop-byte.byte-index (c.args.state_of_connection.now, c.args.out.now) (c.loop-byte.state_of_connection, c.loop-byte.out) c.args.pictures.now.kept c.loop-byte.pictures.kept c.loop-byte.invariant.cost
    c.if-state_of_connection.true c.loop-byte.invariant.costs)

pub returns-then-state_of_connection-clause-work : goal.returns-then-state_of_connection-clause-work
returns-then-state_of_connection-clause-work c = (
  c.loop-byte.invariant.cost,
  costs_to_end c.args.streams.now c.args.piece.now c.loop-byte.byte-index (c.args.state_of_connection.now, c.args.out.now) (c.loop-byte.state_of_connection, c.loop-byte.out) c.args.pictures.now.kept c.loop-byte.pictures.kept c.loop-byte.invariant.cost
      c.if-state_of_connection.true c.loop-byte.invariant.costs,
  c.loop-byte.invariant.work,
)
