-- Hubs that show no WebP files: each resource has one content.
use Rattle.std.proofs.Common.{◌≡◌, ◌∙◌, ℕ, Bool, false, List, refl, sym, ap, subst}
use Rattle.vp_heads.specs.declared.request.Request.{Request}
use Rattle.vp_heads.specs.declared.request.Resource.{Resource}
use Rattle.vp_heads.specs.declared.request.Resource.TheVariants as wanted
use Rattle.vp_heads.specs.Replies.{Content, reply_to}
use Rattle.vp_heads.specs.Requests.{IsRequestFor, IsNoStill}
use Rattle.vp_heads.specs.Routes.{our_routes, routes_of}
use Rattle.vp_heads.proofs.HeadLemmas.{asked_unique}
use Rattle.vp_heads.proofs.NoStill.{none_by_ours}
use Rattle.vp_hub.specs.Pages.{Streams, IsReply, IsContentOf, content_of}
use Rattle.vp_hub.specs.WithoutStills.{IsPlainReply, StillsAreOptional}

content_is : (s : Streams) (w : Resource) (c : Content) → IsNoStill w → IsContentOf s w c → c ≡ content_of s w
content_is s wanted.Bad c none h = h
content_is s wanted.WrongMethod c none h = h
content_is s wanted.Missing c none h = h
content_is s wanted.Streams c none h = h
content_is s (wanted.Info k) c none h = h
content_is s (wanted.Frame k n) c none h = h
content_is s (wanted.Video k n) c none h = h
content_is s (wanted.Still k n scale) c none h = absurd none

is_content : (s : Streams) (w : Resource) → IsNoStill w → IsContentOf s w (content_of s w)
is_content s wanted.Bad none = refl
is_content s wanted.WrongMethod none = refl
is_content s wanted.Missing none = refl
is_content s wanted.Streams none = refl
is_content s (wanted.Info k) none = refl
is_content s (wanted.Frame k n) none = refl
is_content s (wanted.Video k n) none = refl
is_content s (wanted.Still k n scale) none = absurd none

module _ (s : Streams) (head : List ℕ) (r : List ℕ × Bool) (off : s.webp ≡ false) where
  pub plain_of : IsReply s head r → IsPlainReply s head r
  unfolding IsReply
  plain_of h =
      let asked : IsRequestFor our_routes s.names head h.0 = subst (λ (b : Bool). IsRequestFor (routes_of b) s.names head h.0) off h.1 in
      let one : h.2.content ≡ content_of s h.0.wanted = content_is s h.0.wanted h.2.content (none_by_ours s.names head h.0 asked) h.2.content_is in
      (h.0, asked, h.2.reply ∙ ap (λ (c : Content). (reply_to h.0 c, h.0.closing)) one)

  of_plain : IsPlainReply s head r → IsReply s head r
  unfolding IsReply
  of_plain h = (
    h.0,
    subst (λ (b : Bool). IsRequestFor (routes_of b) s.names head h.0) (sym off) h.1,
    record {
      content = content_of s h.0.wanted;
      content_is = is_content s h.0.wanted (none_by_ours s.names head h.0 h.1);
      reply = h.2;
    },
  )

pub stills_optional : StillsAreOptional
stills_optional s head r off = (plain_of s head r off, of_plain s head r off)

-- then a head has one response
pub reply_unique : (s : Streams) (head : List ℕ) (q r : List ℕ × Bool) → s.webp ≡ false → IsReply s head q → IsReply s head r → q ≡ r
reply_unique s head q r off a b =
    let first = plain_of s head q off a in
    let second = plain_of s head r off b in
    first.2
    ∙ ap (λ (x : Request). (reply_to x (content_of s x.wanted), x.closing)) (asked_unique our_routes s.names head first.0 second.0 first.1 second.1)
    ∙ sym second.2
