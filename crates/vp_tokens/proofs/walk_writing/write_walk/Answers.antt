use Rattle.std.proofs.Common.{true, false, sym}
use Rattle.vp_bool.proofs.WritingLemmas.{Continues-given}
use Rattle.vp_tokens.proofs.WalkWritingLemmas.{walk_written, start}
use Rattle.vp_tokens.proofs.walk_writing.write_walk.Goals as goal

pub returns-in_ok-write_end : goal.returns-in_ok-write_end
returns-in_ok-write_end c =
    walk_written c.args.row.now c.args.from true c.args.what (start c.requires) c.in_ok-write_end.ensures (Continues-given (sym c.in-EndOfBlock.is) _)

pub returns-in_ok-write_more : goal.returns-in_ok-write_more
returns-in_ok-write_more c =
    walk_written c.args.row.now c.args.from false c.args.what (start c.requires) c.in_ok-write_end-2.ensures c.in_ok-write_more.ensures
