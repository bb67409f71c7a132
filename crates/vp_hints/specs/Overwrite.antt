-- Files that are overwritten, and emptied no sooner than that. Pinned by the test `an_old_file_is_emptied_late`.
use Rattle.std.specs.Prelude.{Bool, ℕ, List, Option}
use Rattle.vp_hints.specs.declared.overwrite.Overwrite.{Overwrite}

-- the file
abbrev pub overwritten : {F : Type 0} → Overwrite F → F
overwritten w = w.file

-- what the file held before is gone
abbrev pub is_begun : {F : Type 0} → Overwrite F → Bool
is_begun w = w.begun

-- the bytes that the file contains, if known
abbrev pub overwrite_contents : {F : Type 0} → (F → Option (List ℕ)) → Overwrite F → Option (List ℕ)
overwrite_contents contents w = contents w.file
