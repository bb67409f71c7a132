-- How often a reader is read.
use Rattle.std.proofs.Common.{◌≡◌, ◌∙◌, ℕ, ◌≤◌, ◌+◌, List, [], ◌++◌, length, Option, Some, None, IfSome, ap, length-append, arith}
use Rattle.std.specs.Io.KnownBytes.{Consumes}
use Rattle.std.proofs.KnownBytes.{Consumes-nil, Consumes-trans}
use Rattle.vp_base.specs.Counted.{one_more}
use Rattle.vp_y4m.specs.declared.fault.SourceFault.{SourceFault}
use Rattle.vp_y4m.specs.declared.fault.SourceFault.TheVariants.{Magic, Size, Colour, Interlaced, Torn, Device, Memory}
use Rattle.vp_y4m.specs.Reads.{TakesInReads, idle_behind, idle_at_none}

-- nothing was read
pub no_reads : (idle : ℕ) (a : Option (List ℕ)) (now : ℕ) → TakesInReads idle a a now now
no_reads idle a now = ([], Consumes-nil a, omega arith)

-- one read more, which took these bytes
pub one_read : (idle n : ℕ) (xs ys : List ℕ) (a b c : Option (List ℕ)) (old mid new : ℕ) → length xs ≡ n → Consumes a b xs → Consumes b c ys
    → mid ≤ old + n → new ≡ one_more mid → 1 ≤ length ys + idle → TakesInReads idle a c old new
one_read idle n xs ys a b c old mid new l p q few once some =
    (xs ++ ys, Consumes-trans a b c xs ys p q, let e = length-append xs ys in omega arith)

-- no more reads than bytes, and then others
pub reads_then : (idle : ℕ) (a b c : Option (List ℕ)) (old mid new : ℕ) → TakesInReads 0 a b old mid → TakesInReads idle b c mid new → TakesInReads idle a c old new
reads_then idle a b c old mid new s t =
    (s.0 ++ t.0, Consumes-trans a b c s.0 t.0 s.1 t.1, let e = length-append s.0 t.0 in let x = s.2 in let y = t.2 in omega arith)

-- more reads that took none
pub reads_more : (m n : ℕ) (a b : Option (List ℕ)) (old new : ℕ) → m ≤ n → TakesInReads m a b old new → TakesInReads n a b old new
reads_more m n a b old new le s = (s.0, s.1, let x = s.2 in omega arith)

-- at most one took none
pub one_at_most : (fault : SourceFault) → idle_behind fault ≤ 1
one_at_most Magic = omega arith
one_at_most Size = omega arith
one_at_most Colour = omega arith
one_at_most Interlaced = omega arith
one_at_most Torn = omega arith
one_at_most Device = omega arith
one_at_most Memory = omega arith

pub one_at_an_answer : {A : Type 0} (answer : Option A) → idle_at_none answer ≤ 1
one_at_an_answer (Some x) = omega arith
one_at_an_answer None = omega arith

-- where the bytes are known, those taken are among them
pub reads_most : (idle : ℕ) (a b : Option (List ℕ)) (old new : ℕ) → idle ≤ 1 → TakesInReads idle a b old new → IfSome a (λ bytes. new ≤ old + (length bytes + 1))
reads_most idle None b old new le s = tt
reads_most idle (Some x) None old new le s = absurd s.1
reads_most idle (Some x) (Some y) old new le s =
    let e : length x ≡ length s.0 + length y = ap length s.1 ∙ length-append s.0 y in
    let few = s.2 in
    omega arith
