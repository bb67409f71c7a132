-- The content of each resource: the list of names, a stream's information, and a picture as I420, YUV4MPEG2 or WebP.
-- Pinned by the tests `serve_one_frame`, `streams_are_listed`, `info_of_a_stream`, `a_picture_as_video` and
-- `stills_over_http`.
use Rattle.std.specs.Prelude.{◌≡◌, ℕ, Bool, true, false, List, [], ◌∷◌, ◌++◌, length, codes, decimal, Option, Some}
use Rattle.std.specs.Prelude.{None, slice_get}
use Rattle.std.specs.List.{flat_map}
use Rattle.vp_ivf.specs.declared.fault.FileFault.{FileFault}
use Rattle.vp_ivf.specs.declared.packet.IvfHead.{IvfHead}
use Rattle.vp_ivf.specs.Names.{file_fault_name}
use Rattle.vp_head.specs.Names.{packet_fault_name}
use Rattle.vp_y4m.specs.Text.{header_text}
use Rattle.vp_stream.specs.Stream.{stream_refusal}
use Rattle.vp_stream.specs.Texts.{head_lines}
use Rattle.vp_stream.specs.Seeking.{AnswerValue, Shown, Hidden, Fault, NoPacket, answer_at}
use Rattle.vp_heads.specs.declared.request.Request.{Request}
use Rattle.vp_heads.specs.declared.request.Resource.{Resource}
use Rattle.vp_heads.specs.declared.request.Resource.TheVariants as wanted
use Rattle.vp_heads.specs.declared.status.Status.TheVariants.{BadRequest, NotFound, MethodNotAllowed}
use Rattle.vp_heads.specs.Routes.{routes_of}
use Rattle.vp_heads.specs.Requests.{IsRequestFor}
use Rattle.vp_heads.specs.Replies.{Content, Lines, Pixels, Faulted, Failed, reply_to}
use Rattle.vp_hub.specs.Stills.{IsStillContent}
use Rattle.vp_hub.specs.declared.source.Source.{Source}
use Rattle.vp_hub.specs.declared.source.StreamEnd.{StreamEnd}
use Rattle.vp_hub.specs.declared.source.StreamEnd.TheVariants.{Open, Good, Faulty}

-- the names of the streams, the streams in the same order, and whether they are shown as WebP files too
pub record Streams : Type 0 where
  pub names : List (List ℕ)
  pub sources : List Source
  pub webp : Bool

-- ---- the list of names: each name and a line feed

-- the list of names
abbrev pub names_text : List (List ℕ) → List ℕ
names_text names = flat_map (λ (name : List ℕ). name ++ 10 ∷ []) names

-- ---- a stream's information: its state, the number of whole packets, and the lines for its head once it is valid

-- the fault of the stream, if it has one, which includes `Torn` after its end; else whether it has ended
abbrev pub state_by : StreamEnd → Option FileFault → List ℕ
state_by (Faulty f) fault = file_fault_name f
state_by Good fault = codes "ended"
state_by Open (Some f) = file_fault_name f
state_by Open None = codes "open"

-- the information about a stream
unfoldable pub info_text : Source → List ℕ
info_text s =
    codes "state " ++ (state_by s.end (stream_refusal s.stream)
    ++ (codes "\npackets " ++ (decimal (length s.stream.reading.packets)
    ++ (codes "\n" ++ head_lines s.stream.reading.head))))

-- the content of the information page
abbrev pub info_content : Option Source → Content
info_content None = Failed NotFound
info_content (Some s) = Lines (info_text s)

-- ---- a packet's picture: its I420 pixels; in a YUV4MPEG2 file after the header line and the frame line

-- the bytes before the I420 pixels: the header line and the frame line of a YUV4MPEG2 file
abbrev pub front_by : Bool → Option IvfHead → ℕ → ℕ → List ℕ
front_by false head w h = []
front_by true None w h = codes "FRAME\n"
front_by true (Some head) w h = header_text w h head.rate head.scale ++ codes "FRAME\n"

-- the content for a packet's answer
abbrev pub picture_by : Bool → Option IvfHead → AnswerValue → Content
picture_by video head (Shown w h pixels) = Pixels (front_by video head w h ++ pixels)
picture_by video head Hidden = Failed NotFound
picture_by video head NoPacket = Failed NotFound
picture_by video head (Fault f) = Faulted (packet_fault_name f)

-- the content for packet n of a stream
abbrev pub picture_content : Bool → Option Source → ℕ → Content
picture_content video None n = Failed NotFound
picture_content video (Some s) n = picture_by video s.stream.reading.head
    (answer_at s.stream.limits s.stream.reading.packets n)

-- the content for a resource, without WebP files
abbrev pub content_of : Streams → Resource → Content
content_of s wanted.Bad = Failed BadRequest
content_of s wanted.WrongMethod = Failed MethodNotAllowed
content_of s wanted.Missing = Failed NotFound
content_of s wanted.Streams = Lines (names_text s.names)
content_of s (wanted.Info k) = info_content (slice_get s.sources k)
content_of s (wanted.Frame k n) = picture_content false (slice_get s.sources k) n
content_of s (wanted.Video k n) = picture_content true (slice_get s.sources k) n
content_of s (wanted.Still k n scale) = Failed NotFound

-- the content for a resource: of a picture that is encoded, one of the files that the encoder may choose
abbrev pub IsContentOf : Streams → Resource → Content → Type 0
IsContentOf s (wanted.Still k n scale) c = IsStillContent scale (slice_get s.sources k) n c
IsContentOf s w c = c ≡ content_of s w

-- the response to a request, and whether it closes the connection
pub record IsReplyTo (s : Streams) (request : Request) (r : List ℕ × Bool) : Type 0 where
  pub content : Content
  pub content_is : IsContentOf s request.wanted content
  pub reply : r ≡ (reply_to request content, request.closing)

-- the response to a request head, and whether it closes the connection
unfoldable pub IsReply : Streams → List ℕ → List ℕ × Bool → Type 0
IsReply s head r = (request : Request) × IsRequestFor (routes_of s.webp) s.names head request × IsReplyTo s request r
