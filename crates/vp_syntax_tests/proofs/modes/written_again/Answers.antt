use Rattle.std.proofs.Common.{sym, subst, is_some}
use Rattle.vp_head.specs.Spelled as header_spelled
use Rattle.vp_head.proofs.SpelledLemmas.{header-spelled}
use Rattle.vp_modes.proofs.SpelledLemmas.{spelled}
use Rattle.vp_syntax_tests.proofs.modes.written_again.Goals as goal

pub write-requires : goal.write-requires
write-requires g c =
    let tag = c.key_tag-tag.result in
    let saved = c.defaults-saved.result in
    subst (λ r. header_spelled.IsWritableHeader (is_some tag.key) (header_spelled.kept_before saved tag) r.0) (sym c.read.ensures.value) (header-spelled saved tag _)

pub write_modes-requires-clause-spelled : goal.write_modes-requires-clause-spelled
write_modes-requires-clause-spelled g c = rw c.read_modes-modes.ensures.value (spelled _ _ _ _)
