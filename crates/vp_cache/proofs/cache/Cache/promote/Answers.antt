use Rattle.std.proofs.Common.{subst, sym}
use Rattle.vp_cache.specs.Cache.{Cache, AreAnswersOf}
use Rattle.vp_cache.proofs.EntryLemmas.{brought_is, brought_keeps}
use Rattle.vp_cache.proofs.cache.Cache.promote.Goals as goal

pub returns-clause-entries : goal.returns-clause-entries
returns-clause-entries c = brought_is c.args.self.now c.self.inside.entries c.promote.new.self c.args.stream_no c.args.n c.self.view_is c.promote.ensures.entries

pub returns-clause-kept : goal.returns-clause-kept
returns-clause-kept c number stream kept =
    subst (λ (s : Cache). AreAnswersOf number stream s.entries)
    (sym (brought_is c.args.self.now c.self.inside.entries c.promote.new.self c.args.stream_no c.args.n c.self.view_is c.promote.ensures.entries))
    (brought_keeps c.args.self.now c.args.stream_no c.args.n number stream kept)
