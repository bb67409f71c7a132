use Rattle.std.proofs.Common.{◌≡◌, ◌+◌, ◌-◌, length, sym, ap, subst, ◌∙◌, arith}
use Rattle.std.proofs.lemmas.List.{length-drop}
use Rattle.std.proofs.lemmas.Result.{err_from_is_err_and}
use Rattle.vp_head.specs.Tag.{IsKeyPacket}
use Rattle.vp_webp.specs.WebP.{StillImage}
use Rattle.vp_webp.proofs.Places.{chunk-lies, payload-at, packet-lies, image-lies, lies-later}
use Rattle.vp_webp.proofs.Images.{image-fault, image-next, image-here, other-fault, other-later}
use Rattle.vp_webp.proofs.reading.find_image.Goals as goal

pub returns-in_err-chunk-clause-value : goal.returns-in_err-chunk-clause-value
returns-in_err-chunk-clause-value c =
    let h = c.loop-chunk.invariant in
    let p = err_from_is_err_and c.from_residual.result c.from_residual.ensures.1 in
    rw (p.1, p.2)
    (sym (image-fault h.0 c.loop-chunk.seen c.loop-chunk.rest.now _ h.1 (sym c.in_err-chunk.ensures.value)) ∙ h.2)

pub returns-in_err-image-clause-value : goal.returns-in_err-image-clause-value
returns-in_err-image-clause-value c =
    let h = c.loop-chunk.invariant in
    let i = c.chunk.inside in
    let next = image-next h.0 c.loop-chunk.seen c.loop-chunk.rest.now i.payload.now i.rest.now i.kind
    c.in_ok-chunk.chunk _ h.1 h.2 c.chunk.view_is c.in_ok-chunk.ensures.value c.in_ok-chunk.ensures.shorter in
    let p = err_from_is_err_and c.from_residual-in_err-image.result c.from_residual-in_err-image.ensures.1 in
    rw (p.1, p.2)
    (c.in_err-image.ensures.value ∙ image-here i.kind i.payload.now i.rest.now c.loop-chunk.seen _ _ c.in-Vp8.is next.2)

pub returns-in-Vp8-clause-value : goal.returns-in-Vp8-clause-value
returns-in-Vp8-clause-value c =
    let h = c.loop-chunk.invariant in
    let i = c.chunk.inside in
    let body = c.args.body.now in
    let start = length body - length c.loop-chunk.rest.now + 8 in
    let lies = chunk-lies c.loop-chunk.rest.now i.payload.now i.rest.now i.kind c.in_ok-chunk.chunk c.chunk.view_is
    c.in_ok-chunk.ensures.value in
    let at = payload-at body c.loop-chunk.rest.now i.payload.now h.3 start h.4 lies.here
    (omega (arith, ap length h.4, length-drop h.3 body, lies.within)) in
    let inside : c.image.inside.packet.now ≡ c.in_ok-image.image.packet = ap (λ (x : StillImage). x.packet) c.image.view_is in
    let same = packet-lies c.loop-chunk.seen c.image.inside.packet.now i.payload.now body start c.in_ok-image.image at
    inside c.in_ok-image.ensures.image in
    let next = image-next h.0 c.loop-chunk.seen c.loop-chunk.rest.now i.payload.now i.rest.now i.kind
    c.in_ok-chunk.chunk _ h.1 h.2 c.chunk.view_is c.in_ok-chunk.ensures.value c.in_ok-chunk.ensures.shorter in
    let first = image-here i.kind i.payload.now i.rest.now c.loop-chunk.seen _ _ c.in-Vp8.is next.2 in
    image-lies c.loop-chunk.seen _ i.payload.now c.in_ok-image.image _ same c.in_ok-image.ensures.value
    c.in_ok-image.ensures.image first

pub returns-in-Vp8-clause-within : goal.returns-in-Vp8-clause-within
returns-in-Vp8-clause-within c =
    let h = c.loop-chunk.invariant in
    let i = c.chunk.inside in
    let lies = chunk-lies c.loop-chunk.rest.now i.payload.now i.rest.now i.kind c.in_ok-chunk.chunk c.chunk.view_is
    c.in_ok-chunk.ensures.value in
    let inside : c.image.inside.packet.now ≡ c.in_ok-image.image.packet = ap (λ (x : StillImage). x.packet) c.image.view_is in
    let packet : c.in_ok-image.image.packet ≡ i.payload.now = ap (λ (x : StillImage). x.packet) c.in_ok-image.ensures.image in
    omega (arith, ap length h.4, length-drop h.3 c.args.body.now, lies.within, ap length inside, ap length packet)

pub returns-in-Vp8-clause-key : goal.returns-in-Vp8-clause-key
returns-in-Vp8-clause-key c =
    let h = c.loop-chunk.invariant in
    let i = c.chunk.inside in
    let body = c.args.body.now in
    let start = length body - length c.loop-chunk.rest.now + 8 in
    let lies = chunk-lies c.loop-chunk.rest.now i.payload.now i.rest.now i.kind c.in_ok-chunk.chunk c.chunk.view_is
    c.in_ok-chunk.ensures.value in
    let at = payload-at body c.loop-chunk.rest.now i.payload.now h.3 start h.4 lies.here
    (omega (arith, ap length h.4, length-drop h.3 body, lies.within)) in
    let inside : c.image.inside.packet.now ≡ c.in_ok-image.image.packet = ap (λ (x : StillImage). x.packet) c.image.view_is in
    let same = packet-lies c.loop-chunk.seen c.image.inside.packet.now i.payload.now body start c.in_ok-image.image at
    inside c.in_ok-image.ensures.image in
    let packet : i.payload.now ≡ c.in_ok-image.image.packet = sym (ap (λ (x : StillImage). x.packet) c.in_ok-image.ensures.image) in
    subst IsKeyPacket (sym (same ∙ packet)) c.in_ok-image.ensures.key

pub returns-in_err-seen-clause-value : goal.returns-in_err-seen-clause-value
returns-in_err-seen-clause-value c =
    let h = c.loop-chunk.invariant in
    let i = c.chunk.inside in
    let next = image-next h.0 c.loop-chunk.seen c.loop-chunk.rest.now i.payload.now i.rest.now i.kind
    c.in_ok-chunk.chunk _ h.1 h.2 c.chunk.view_is c.in_ok-chunk.ensures.value c.in_ok-chunk.ensures.shorter in
    let p = err_from_is_err_and c.from_residual-in_err-seen.result c.from_residual-in_err-seen.ensures.1 in
    rw (p.1, p.2)
    (sym (other-fault i.kind i.payload.now i.rest.now c.loop-chunk.seen _ _ c.in_default.not-Vp8
    (sym c.in_err-seen.ensures)) ∙ next.2)

pub loop-chunk-preserved : goal.loop-chunk-preserved
loop-chunk-preserved c =
    let h = c.loop-chunk.invariant in
    let i = c.chunk.inside in
    let next = image-next h.0 c.loop-chunk.seen c.loop-chunk.rest.now i.payload.now i.rest.now i.kind
    c.in_ok-chunk.chunk _ h.1 h.2 c.chunk.view_is c.in_ok-chunk.ensures.value c.in_ok-chunk.ensures.shorter in
    let lies = chunk-lies c.loop-chunk.rest.now i.payload.now i.rest.now i.kind c.in_ok-chunk.chunk c.chunk.view_is
    c.in_ok-chunk.ensures.value in (
      next.0,
      next.1,
      sym (other-later i.kind i.payload.now i.rest.now c.loop-chunk.seen _ _ c.in_default.not-Vp8
          (sym c.in_ok-seen.ensures)) ∙ next.2,
      h.3 + lies.until,
      lies-later c.args.body.now c.loop-chunk.rest.now i.rest.now h.3 lies.until h.4 lies.later,
    )
