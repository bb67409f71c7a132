-- The statement of the law `stills_are_optional`: a hub that shows no WebP files. Pinned by the test
-- `stills_are_optional`.
use Rattle.std.specs.Prelude.{◌≡◌, ◌↔◌, ℕ, Bool, false, List}
use Rattle.vp_heads.specs.declared.request.Request.{Request}
use Rattle.vp_heads.specs.Requests.{IsRequestFor}
use Rattle.vp_heads.specs.Routes.{our_routes}
use Rattle.vp_heads.specs.Replies.{reply_to}
use Rattle.vp_hub.specs.Pages.{Streams, IsReply, content_of}

-- the response by the four routes: each resource has one content
abbrev pub IsPlainReply : Streams → List ℕ → List ℕ × Bool → Type 0
IsPlainReply s head r =
    (request : Request) × IsRequestFor our_routes s.names head request
    × (r ≡ (reply_to request (content_of s request.wanted), request.closing))

-- a hub that shows no WebP files responds by the four routes
abbrev pub StillsAreOptional : Type 0
StillsAreOptional = (s : Streams) (head : List ℕ) (r : List ℕ × Bool) → s.webp ≡ false
    → IsReply s head r ↔ IsPlainReply s head r
