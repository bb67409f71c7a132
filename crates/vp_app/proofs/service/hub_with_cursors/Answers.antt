use Rattle.std.proofs.Common.{◌≡◌, ◌∙◌, ap, subst}
use Rattle.vp_cache.specs.Cache.{empty}
use Rattle.vp_cache.specs.Cursors.{no_cursors}
use Rattle.vp_hub.specs.Hub.{new_hub_state, stream_limits}
use Rattle.vp_app.specs.Serving.{names_of}
use Rattle.vp_app.proofs.service.hub_with_cursors.Goals as goal

pub returns-in-Ok-hub_of-clause-hub : goal.returns-in-Ok-hub_of-clause-hub
returns-in-Ok-hub_of-clause-hub c =
    let limits = c.in-Some.limits in
    let value = c.in-Some.ensures.value in
    let usual = c.usual-usual.ensures in (
      limits,
      record {
        pixels = value.0 ∙ usual.pixels;
        packet_bytes = value.1 ∙ usual.packet_bytes;
        packets = value.2 ∙ usual.packets;
        cache_is = value.3;
      },
      subst (λ names. c.in-Ok-hub_of.hub ≡ record { state = new_hub_state c.args.service.now.webp names limits; cache = empty limits.cache; cursors = no_cursors c.args.cursors (stream_limits limits); work = 0 }) (c.in-Ok.ensures ∙ ap names_of c.deref.ensures.value) c.in-Ok-hub_of.ensures.hub,
    )
