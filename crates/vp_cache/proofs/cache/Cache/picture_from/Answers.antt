use Rattle.std.proofs.Common.{◌≡◌, Some, rules}
use Rattle.vp_cache.specs.Cache.{cached}
use Rattle.vp_cache.proofs.EntryLemmas.{kept_there}
use Rattle.vp_cache.proofs.cache.Cache.picture_from.Goals as goal

pub returns-in_err-answer-clause-there : goal.returns-in_err-answer-clause-there
returns-in_err-answer-clause-there c =
    let is : Some c.in-Some.kept.now ≡ cached c.args.stream_no c.args.n c.args.self.now.entries = search rules in
    kept_there c.from_residual.result c.args.stream_no c.args.n c.in-Some.kept.now c.args.stream.now c.args.self.now.entries is c.requires.answers
