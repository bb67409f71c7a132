use Rattle.vp8_c.proofs.FileLemmas.{fed_whole}
use Rattle.vp8_c.proofs.stream_handle.StreamHandle.of_file.Goals as goal

pub returns-clause-file : goal.returns-clause-file
returns-clause-file c =
    fed_whole c.args.bytes.now c.feed.result _ c.empty-whole.result c.feed.new.self.file c.finish-fault.new.self.file c.empty-whole.ensures c.feed.ensures.fed c.if-feed-eq-MEMORY.false c.finish-fault.ensures.finished
