use Rattle.std.proofs.Common.{◌++◌}
use Rattle.vp_base.specs.Counted.{counted_contents}
use Rattle.vp_base.proofs.Writes.{appends_both, front_first, front_second}
use Rattle.vp_stream.proofs.shown_planes.ShownPlanes.put.Goals as goal

pub returns-in_err-put_all-clause-prefix : goal.returns-in_err-put_all-clause-prefix
returns-in_err-put_all-clause-prefix g c =
    let before = counted_contents g.W.Write.contents c.args.writer.now in
    let after = counted_contents g.W.Write.contents c.put_all.new.writer in
    let y = c.args.self.now.y.now in
    let u = c.args.self.now.u.now in
    front_first before after (y ++ u) c.args.self.now.v.now (front_first before after y u c.put_all.ensures.prefix)

pub returns-in_err-put_all-2-clause-prefix : goal.returns-in_err-put_all-2-clause-prefix
returns-in_err-put_all-2-clause-prefix g c =
    let before = counted_contents g.W.Write.contents c.args.writer.now in
    let between = counted_contents g.W.Write.contents c.put_all.new.writer in
    let after = counted_contents g.W.Write.contents c.put_all-2.new.writer in
    let y = c.args.self.now.y.now in
    let u = c.args.self.now.u.now in
    front_first before after (y ++ u) c.args.self.now.v.now
    (front_second before between after y u c.in_ok-put_all.ensures.ok c.put_all-2.ensures.prefix)

pub returns-clause-prefix : goal.returns-clause-prefix
returns-clause-prefix g c =
    let before = counted_contents g.W.Write.contents c.args.writer.now in
    let first = counted_contents g.W.Write.contents c.put_all.new.writer in
    let second = counted_contents g.W.Write.contents c.put_all-2.new.writer in
    let after = counted_contents g.W.Write.contents c.put_all-3.new.writer in
    let y = c.args.self.now.y.now in
    let u = c.args.self.now.u.now in
    front_second before second after (y ++ u) c.args.self.now.v.now
    (appends_both before first second y u c.in_ok-put_all.ensures.ok c.in_ok-put_all-2.ensures.ok) c.put_all-3.ensures.prefix
