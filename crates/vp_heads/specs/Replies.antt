-- The bytes of a response: status line, fields and body (RFC 9112, chapter 4; RFC 9110, chapters 8, 14 and 15). Pinned
-- by the tests `serve_one_frame`, `head_requests`, `packet_fault_served`, `head_too_long` and `stills_over_http`.
use Rattle.std.specs.Prelude.{ℕ, Bool, List, [], ◌∷◌, ◌++◌, decimal, codes, length, if◌then◌else◌, unwrap_or}
use Rattle.http.specs.StatusCode.{reason_phrase}
use Rattle.vp_heads.specs.declared.status.Status.{Status}
use Rattle.vp_heads.specs.declared.status.Status.TheVariants as status
use Rattle.vp_heads.specs.declared.request.Request.{Request}
use Rattle.vp_heads.specs.declared.ranges.Part.{Part}
use Rattle.vp_heads.specs.declared.ranges.Part.TheVariants.{All, Slice, Beyond}
use Rattle.vp_heads.specs.Ranges.{selected_part, slice_of}
use Rattle.vp_heads.specs.Requests.{unreadable}

-- the status code (RFC 9110, chapter 15)
abbrev pub code_of : Status → ℕ
code_of status.Good = 200
code_of status.Partial = 206
code_of status.BadRequest = 400
code_of status.NotFound = 404
code_of status.MethodNotAllowed = 405
code_of status.RangeNotSatisfiable = 416
code_of status.Unprocessable = 422
code_of status.TooLong = 431

-- the reason phrase
unfoldable pub phrase_of : Status → List ℕ
phrase_of s = unwrap_or (reason_phrase (code_of s)) []

-- the Content-Type of text
abbrev pub plain_text : List ℕ
plain_text = codes "text/plain"

-- the Content-Type of pictures
abbrev pub octets : List ℕ
octets = codes "application/octet-stream"

-- the Content-Type of WebP files
abbrev pub webp_image : List ℕ
webp_image = codes "image/webp"

-- the Connection field, if the connection is closed
abbrev pub closing_line : Bool → List ℕ
closing_line closing = if closing then codes "Connection: close\r\n" else []

-- the head of a response; `size` is the body's length; there may be one more field, and a Connection field
unfoldable pub reply_head : ℕ → List ℕ → List ℕ → ℕ → List ℕ → List ℕ → List ℕ
reply_head code phrase kind size more close =
    codes "HTTP/1.1 " ++ (decimal code ++ (codes " " ++ (phrase
    ++ (codes "\r\nContent-Type: " ++ (kind
    ++ (codes "\r\nContent-Length: " ++ (decimal size ++ (codes "\r\n"
    ++ (more ++ (close ++ codes "\r\n"))))))))))

-- a response: head and body; the body is left out if the request is HEAD
abbrev pub reply_text : Request → Status → List ℕ → List ℕ → List ℕ → List ℕ
reply_text request s kind more body =
    reply_head (code_of s) (phrase_of s) kind (length body) more (closing_line request.closing)
    ++ (if request.head_only then [] else body)

-- the body of an error response: its reason phrase, as a line
abbrev pub phrase_line : Status → List ℕ
phrase_line s = phrase_of s ++ 10 ∷ []

-- the Allow field for status 405
abbrev pub allow_line : List ℕ
allow_line = codes "Allow: GET, HEAD\r\n"

-- the Allow field for an error: only status 405 has one
abbrev pub allowing : Status → List ℕ
allowing status.MethodNotAllowed = allow_line
allowing _ = []

-- an error response
abbrev pub error_text : Request → Status → List ℕ
error_text request s = reply_text request s plain_text (allowing s) (phrase_line s)

-- the Content-Range field of a part of a picture
abbrev pub range_line : ℕ → ℕ → ℕ → List ℕ
range_line first last size =
    codes "Content-Range: bytes " ++ (decimal first ++ (codes "-"
    ++ (decimal last ++ (codes "/" ++ (decimal size ++ codes "\r\n")))))

-- the Content-Range field of status 416
abbrev pub no_range_line : ℕ → List ℕ
no_range_line size = codes "Content-Range: bytes */" ++ (decimal size ++ codes "\r\n")

-- the response with a picture, or a part of it, given its Content-Type
abbrev pub part_text : Part → List ℕ → Request → List ℕ → List ℕ
part_text All kind request body = reply_text request status.Good kind [] body
part_text (Slice first last) kind request body =
    reply_text request status.Partial kind (range_line first last (length body)) (slice_of first last body)
part_text Beyond kind request body =
    reply_text request status.RangeNotSatisfiable plain_text (no_range_line (length body))
    (phrase_line status.RangeNotSatisfiable)

-- the content for a request: text, a picture, a WebP file, the name of a packet's fault, or an error
pub data Content : Type 0 where
  Lines : List ℕ → Content
  Pixels : List ℕ → Content
  WebP : List ℕ → Content
  Faulted : List ℕ → Content
  Failed : Status → Content

-- the response to a request
unfoldable pub reply_to : Request → Content → List ℕ
reply_to request (Lines body) = reply_text request status.Good plain_text [] body
reply_to request (Pixels body) = part_text (selected_part request.range (length body)) octets request body
reply_to request (WebP body) = part_text (selected_part request.range (length body)) webp_image request body
reply_to request (Faulted name) = reply_text request status.Unprocessable plain_text [] (name ++ 10 ∷ [])
reply_to request (Failed s) = error_text request s

-- the response to a head that doesn't end within 8,192 bytes
unfoldable pub too_long : List ℕ
too_long = error_text unreadable status.TooLong
