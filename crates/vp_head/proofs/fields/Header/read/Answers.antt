use Rattle.std.proofs.Common.{true, false, inl, inr}
use Rattle.vp_head.proofs.HeaderLemmas.{defaults_in_range, read_in_range, read-signed_in_range, read-kept_in_range}
use Rattle.vp_head.proofs.fields.Header.read.Goals as goal

pub returns-then-is_some-clause-bounds : goal.returns-then-is_some-clause-bounds
returns-then-is_some-clause-bounds c = rw c.read_with_kept.ensures.value (read_in_range true _ _)

pub returns-then-is_some-clause-signed : goal.returns-then-is_some-clause-signed
returns-then-is_some-clause-signed c = λ _. rw c.read_with_kept.ensures.value (read-signed_in_range true _ _ (rw c.defaults.ensures defaults_in_range))

pub returns-then-is_some-clause-kept : goal.returns-then-is_some-clause-kept
returns-then-is_some-clause-kept c = λ _. rw c.read_with_kept.ensures.value (read-kept_in_range true _ _ (rw c.defaults.ensures defaults_in_range))

pub returns-else-is_some-clause-bounds : goal.returns-else-is_some-clause-bounds
returns-else-is_some-clause-bounds c = rw c.read_with_kept-else-is_some.ensures.value (read_in_range false _ _)

pub returns-else-is_some-clause-signed : goal.returns-else-is_some-clause-signed
returns-else-is_some-clause-signed c = λ h.
    rw c.read_with_kept-else-is_some.ensures.value (read-signed_in_range false _ _ (elim h [ inl k ↦ absurd (cc) | inr g ↦ g ]))

pub returns-else-is_some-clause-kept : goal.returns-else-is_some-clause-kept
returns-else-is_some-clause-kept c = λ h.
    rw c.read_with_kept-else-is_some.ensures.value (read-kept_in_range false _ _ (elim h [ inl k ↦ absurd (cc) | inr g ↦ g ]))
