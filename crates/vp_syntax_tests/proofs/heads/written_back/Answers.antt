use Rattle.std.proofs.Common.{sym, subst, is_some}
use Rattle.vp_head.specs.Spelled.{IsWritableHeader, kept_before}
use Rattle.vp_head.proofs.SpelledLemmas.{header-spelled}
use Rattle.vp_syntax_tests.proofs.heads.written_back.Goals as goal

pub write-requires : goal.write-requires
write-requires g c =
    let tag = c.expect-tag.result in
    let saved = c.defaults-saved.result in
    subst (λ r. IsWritableHeader (is_some tag.key) (kept_before saved tag) r.0) (sym c.read.ensures.value) (header-spelled saved tag _)
