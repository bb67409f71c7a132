-- What the consumed bytes prove about the whole file, and the number of reads. Pinned by the test `reads_are_counted`.
use Rattle.std.specs.Prelude.{ℕ, ◌≡◌, ◌≢◌, ◌<◌, ◌≤◌, ◌+◌, List, ◌++◌, length, take, Option, Some, None, Result, Ok, Err}
use Rattle.std.specs.Io.KnownBytes.{Consumes, IsAtEnd}
use Rattle.vp_y4m.specs.declared.fault.SourceFault.{SourceFault}
use Rattle.vp_y4m.specs.declared.fault.SourceFault.TheVariants.{Magic, Size, Colour, Interlaced, Torn, Device, Memory}

-- the consumed bytes determine the result, whatever follows them
pub record Shows {A : Type 0} (read answer : List ℕ → A) (before after : Option (List ℕ)) : Type 0 where
  pub taken : List ℕ
  pub consumed : Consumes before after taken
  pub shown : (rest : List ℕ) → read (taken ++ rest) ≡ answer rest

-- the consumed bytes give the result at the end of the input, which is reached
pub record ShowsAtEnd {A : Type 0} (read : List ℕ → A) (answer : A) (before after : Option (List ℕ)) : Type 0 where
  pub taken : List ℕ
  pub consumed : Consumes before after taken
  pub at_end : IsAtEnd after
  pub shown : read taken ≡ answer

-- the consumed bytes prove the fault, whatever follows them, and no prefix of them does
pub record ShowsFault {A : Type 0} (read : List ℕ → Result A SourceFault) (fault : SourceFault)
    (before after : Option (List ℕ)) : Type 0 where
  pub taken : List ℕ
  pub consumed : Consumes before after taken
  pub shown : (rest : List ℕ) → read (taken ++ rest) ≡ Err fault
  pub tight : (n : ℕ) → n < length taken → read (take n taken) ≢ Err fault

-- some bytes are consumed
abbrev pub TakesBytes : Option (List ℕ) → Option (List ℕ) → Type 0
TakesBytes before after = (taken : List ℕ) × Consumes before after taken

-- The consumed bytes prove a fault of the file; they end with the line that has it, and `Torn` occurs only at the end
-- of the input. After a failed read nothing is known of the rest. Reading a line allocates nothing.
abbrev pub Fails : {A : Type 0} → (List ℕ → Result A SourceFault) → SourceFault → Option (List ℕ) → Option (List ℕ)
    → Type 0
Fails read Torn before after = ShowsAtEnd read (Err Torn) before after
Fails read Device before after = TakesBytes before after
Fails read Memory before after = ⊥
Fails read Magic before after = ShowsFault read Magic before after
Fails read Size before after = ShowsFault read Size before after
Fails read Colour before after = ShowsFault read Colour before after
Fails read Interlaced before after = ShowsFault read Interlaced before after

-- ---- The number of reads

-- The number of reads is at most the number of consumed bytes, plus the reads that consume nothing.
abbrev pub TakesInReads : ℕ → Option (List ℕ) → Option (List ℕ) → (old new : ℕ) → Type 0
TakesInReads idle before after old new = (taken : List ℕ) × Consumes before after taken
    × (new ≤ old + (length taken + idle))

-- The reads that consume nothing: one at the end of the input, or one that failed. It is the last read.
abbrev pub idle_behind : SourceFault → ℕ
idle_behind Torn = 1
idle_behind Device = 1
idle_behind Magic = 0
idle_behind Size = 0
idle_behind Colour = 0
idle_behind Interlaced = 0
idle_behind Memory = 0

-- the reads that consume nothing, for a result that determines their number itself
abbrev pub idle_reads : {A : Type 0} → (A → ℕ) → Result A SourceFault → ℕ
idle_reads idle (Ok answer) = idle answer
idle_reads idle (Err fault) = idle_behind fault

-- the reads that consume nothing for an optional result: one if it is None
abbrev pub idle_at_none : {A : Type 0} → Option A → ℕ
idle_at_none (Some x) = 0
idle_at_none None = 1
