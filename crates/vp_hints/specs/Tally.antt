-- Writers that remember what was written. Pinned by the test `a_tally_remembers`.
use Rattle.std.specs.Prelude.{ℕ, List, Option}
use Rattle.vp_hints.specs.declared.tally.Tally.{Tally}
use Rattle.vp_hints.specs.Seen.{Sight, seen_view}

-- what was seen of the bytes that were written
abbrev pub tally_sight : {W : Type 0} → Tally W → Sight
tally_sight t = seen_view t.seen

-- the bytes that the inner writer contains, if known
abbrev pub tally_contents : {W : Type 0} → (W → Option (List ℕ)) → Tally W → Option (List ℕ)
tally_contents contents t = contents t.inner
