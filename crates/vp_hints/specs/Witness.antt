-- Readers and writers that remember what was read, and why a call failed. Pinned by the test `a_witness_remembers`.
use Rattle.std.specs.Prelude.{ℕ, List, Option}
use Rattle.std.specs.declared.io.Error.{Error}
use Rattle.vp_hints.specs.declared.witness.Witness.{Witness}
use Rattle.vp_hints.specs.Seen.{Sight, seen_view}

abbrev pub witness_inner : {T : Type 0} → Witness T → T
witness_inner w = w.inner

-- what was seen of the bytes that were read
abbrev pub witness_sight : {T : Type 0} → Witness T → Sight
witness_sight w = seen_view w.seen

-- the error of the last call that failed
abbrev pub witness_error : {T : Type 0} → Witness T → Option Error
witness_error w = w.error

-- the bytes that the inner reader has left, if known
abbrev pub witness_remaining : {R : Type 0} → (R → Option (List ℕ)) → Witness R → Option (List ℕ)
witness_remaining remaining w = remaining w.inner

-- the bytes that the inner writer contains, if known
abbrev pub witness_contents : {W : Type 0} → (W → Option (List ℕ)) → Witness W → Option (List ℕ)
witness_contents contents w = contents w.inner
