-- The content of a WebP resource: the file of a packet's picture. Pinned by the test `stills_over_http`.
use Rattle.std.specs.Prelude.{◌≡◌, ◌⊎◌, ℕ, List, codes, Option, Some, None, slice_get}
use Rattle.vp_scale.specs.declared.scale.Scale.{Scale}
use Rattle.vp_ivf.specs.declared.packet.Packet.{Packet}
use Rattle.vp_head.specs.Names.{packet_fault_name}
use Rattle.vp_stream.specs.Seeking.{AnswerValue, Shown, Hidden, Fault, NoPacket, answer_at}
use Rattle.vp_still.specs.declared.still.Coding.{Coding}
use Rattle.vp_still.specs.Still.{IsStill, kept_file}
use Rattle.vp_still.specs.TooLong.{IsTooLongStill}
use Rattle.vp_heads.specs.declared.status.Status.TheVariants.{NotFound}
use Rattle.vp_heads.specs.Replies.{Content, WebP, Faulted, Failed}
use Rattle.vp_hub.specs.declared.source.Source.{Source}

-- The content for a picture of w by h pixels, which this packet shows: the file of the packet unchanged, or of the
-- picture that is made smaller or encoded, with the quantiser index 8. The picture's squared distance from the decoded
-- file is that of `IsStill`.
pub record IsStillFile (scale : Scale) (packet : List ℕ) (w h : ℕ) (pixels : List ℕ) (c : Content) : Type 0 where
  pub coding : Coding
  pub file : List ℕ
  pub still : IsStill scale 8 packet w h pixels coding file
  pub content : c ≡ WebP file

-- the content for a picture that is encoded and whose key frame is too long
pub record IsLongStill (scale : Scale) (packet : List ℕ) (w h : ℕ) (pixels : List ℕ) (c : Content) : Type 0 where
  pub encoded : kept_file scale packet ≡ None
  pub long : IsTooLongStill scale 8 w h pixels
  pub content : c ≡ Faulted (codes "TooLong")

-- the content for a packet's answer, given the packet
abbrev pub IsStillBy : Scale → AnswerValue → Option Packet → Content → Type 0
IsStillBy scale (Shown w h pixels) (Some p) c =
    IsStillFile scale p.bytes w h pixels c ⊎ IsLongStill scale p.bytes w h pixels c
IsStillBy scale (Shown w h pixels) None c = ⊥
IsStillBy scale Hidden packet c = c ≡ Failed NotFound
IsStillBy scale NoPacket packet c = c ≡ Failed NotFound
IsStillBy scale (Fault f) packet c = c ≡ Faulted (packet_fault_name f)

-- the content for packet n of a stream
abbrev pub IsStillContent : Scale → Option Source → ℕ → Content → Type 0
IsStillContent scale None n c = c ≡ Failed NotFound
IsStillContent scale (Some s) n c =
    IsStillBy scale (answer_at s.stream.limits s.stream.reading.packets n) (slice_get s.stream.reading.packets n) c
