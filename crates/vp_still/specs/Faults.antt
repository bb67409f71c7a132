-- Why a file gives no picture. Pinned by the tests `files_without_the_picture`, `torn_files_without_the_picture`,
-- `fault_before_the_first_picture` and `packets_of_a_webp_file`.
use Rattle.std.specs.Prelude.{◌≡◌, ◌<◌, ℕ, zero, suc, List, length, Option, Some, None, Result, Ok, Err, MatchBool}
use Rattle.std.specs.Prelude.{codes, nat_eq}
use Rattle.std.specs.List.{starts_with}
use Rattle.vp_base.specs.declared.limits.Limits.{Limits}
use Rattle.vp_ivf.specs.declared.fault.FileFault.{FileFault}
use Rattle.vp_ivf.specs.Ivf.{Contents}
use Rattle.vp_ivf.specs.Reader.{finish_answer}
use Rattle.vp_webp.specs.declared.fault.WebPFault.{WebPFault}
use Rattle.vp_webp.specs.WebP.{StillImage, still_image}
use Rattle.vp_decode.specs.Step as step_is
use Rattle.vp_stream.specs.Answers.{reading_of}
use Rattle.vp_stream.specs.Seeking.{AnswerValue, Shown, Hidden, Fault, NoPacket, answer_at}
use Rattle.vp_still.specs.declared.fault.FindFault.{FindFault}
use Rattle.vp_still.specs.declared.fault.FindFault.TheVariants as fault_is
use Rattle.vp_still.specs.Found.{IsUnshown}

-- ---- of an IVF file

-- the fault of a file without the wanted picture: its own, or else this one
abbrev pub missing : Result (Unit {0}) FileFault → FindFault → FindFault
missing (Ok ended) other = other
missing (Err fault) other = fault_is.File fault

-- the fault of a packet by its answer; `other` if there is no packet
abbrev pub IsFaultOfAnswer : AnswerValue → FindFault → FindFault → Type 0
IsFaultOfAnswer (Shown w h pixels) other e = ⊥
IsFaultOfAnswer Hidden other e = e ≡ fault_is.Hidden
IsFaultOfAnswer (Fault fault) other e = e ≡ fault_is.Packet fault
IsFaultOfAnswer NoPacket other e = e ≡ other

-- no packet shows a picture
pub record HasNoPicture (limits : Limits) (r : Contents) (e : FindFault) : Type 0 where
  pub unshown : (k : ℕ) → k < length r.packets → IsUnshown (answer_at limits r.packets k)
  pub fault : e ≡ missing (finish_answer r) (fault_is.NoPicture (length r.packets))

-- the fault of the packet with the wanted number, or of a file in which no packet shows a picture
abbrev pub IsFaultOfIvf : Limits → Contents → Option ℕ → FindFault → Type 0
IsFaultOfIvf limits r (Some n) e =
    IsFaultOfAnswer (answer_at limits r.packets n) (missing (finish_answer r) (fault_is.NoPacket (length r.packets))) e
IsFaultOfIvf limits r None e = HasNoPicture limits r e

-- ---- of a WebP file

-- the fault of a packet by the answer of the packet step
abbrev pub IsFaultOfStep : step_is.Answer → FindFault → Type 0
IsFaultOfStep (step_is.Shown p) e = ⊥
IsFaultOfStep step_is.Hidden e = e ≡ fault_is.Hidden
IsFaultOfStep (step_is.Fault fault) e = e ≡ fault_is.Packet fault

-- the fault of the file, or of its packet
abbrev pub IsFaultOfWebP : Limits → Result StillImage WebPFault → FindFault → Type 0
IsFaultOfWebP limits (Err fault) e = e ≡ fault_is.WebP fault
IsFaultOfWebP limits (Ok image) e = IsFaultOfStep (step_is.step limits None image.packet).1 e

-- the fault for another number than 0: that of the file, or else that it has no such packet
abbrev pub IsFaultOfOther : Result StillImage WebPFault → FindFault → Type 0
IsFaultOfOther (Err fault) e = e ≡ fault_is.WebP fault
IsFaultOfOther (Ok image) e = e ≡ fault_is.NoPacket 1

-- the fault for this number: a WebP file has packet 0 alone
abbrev pub IsFaultOfRiff : Limits → List ℕ → Option ℕ → FindFault → Type 0
IsFaultOfRiff limits file None e = IsFaultOfWebP limits (still_image file) e
IsFaultOfRiff limits file (Some zero) e = IsFaultOfWebP limits (still_image file) e
IsFaultOfRiff limits file (Some (suc n)) e = IsFaultOfOther (still_image file) e

-- ---- of either

-- the fault of a file: a WebP file begins with `RIFF`
abbrev pub IsFaultIn : Limits → List ℕ → Option ℕ → FindFault → Type 0
IsFaultIn limits file wanted e =
    MatchBool (starts_with nat_eq file (codes "RIFF")) (IsFaultOfRiff limits file wanted e)
    (IsFaultOfIvf limits (reading_of limits file) wanted e)
