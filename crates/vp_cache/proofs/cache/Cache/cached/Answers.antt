use Rattle.vp_cache.proofs.EntryLemmas.{held_answer}
use Rattle.vp_cache.proofs.cache.Cache.cached.Goals as goal

pub returns-clause-answer : goal.returns-clause-answer
returns-clause-answer c stream kept = held_answer c.args.stream_no c.args.n stream c.args.self.now.entries kept
