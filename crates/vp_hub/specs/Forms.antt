-- Private to the crate: a packet's picture by the form in which it is shown, and what is appended to a response.
use Rattle.std.specs.Prelude.{◌≡◌, ◌++◌, ℕ, true, false, List, Option}
use Rattle.vp_heads.specs.declared.request.Request.{Request}
use Rattle.vp_heads.specs.Replies.{Content, reply_to}
use Rattle.vp_hub.specs.declared.pages.Form.{Form}
use Rattle.vp_hub.specs.declared.pages.Form.TheVariants.{Pixels, Video, Still}
use Rattle.vp_hub.specs.declared.source.Source.{Source}
use Rattle.vp_hub.specs.Pages.{picture_content}
use Rattle.vp_hub.specs.Stills.{IsStillContent}

-- the content for packet n of a stream
abbrev pub IsPictureContent : Form → Option Source → ℕ → Content → Type 0
IsPictureContent Pixels s n c = c ≡ picture_content false s n
IsPictureContent Video s n c = c ≡ picture_content true s n
IsPictureContent (Still scale) s n c = IsStillContent scale s n c

-- the response with such a content is appended
pub record Puts (P : Content → Type 0) (request : Request) (old new : List ℕ) : Type 0 where
  pub content : Content
  pub content_is : P content
  pub put : new ≡ old ++ reply_to request content
