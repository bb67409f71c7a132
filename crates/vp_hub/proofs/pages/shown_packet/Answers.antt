use Rattle.std.proofs.Common.{◌∙◌, sym, ap, option_map, Bor}
use Rattle.vp_ivf.specs.declared.packet.Packet.{Packet}
use Rattle.vp_still.proofs.PixelLemmas.{in_range, not_none, whole_at}
use Rattle.vp_hub.proofs.pages.shown_packet.Goals as goal

pub unreachable-requires : goal.unreachable-requires
unreachable-requires c =
    let s = c.args.source.now.stream in
    not_none s.reading.packets c.args.n
    (sym (ap (option_map (λ (p : Bor Packet). p.now)) c.in_default.is) ∙ c.packet.ensures.value)
    (in_range s.limits s.reading.packets c.args.n c.args.dim.w c.args.dim.h c.args.pixels.now c.requires)

pub invariant_of-result : goal.invariant_of-result
invariant_of-result c =
    let s = c.args.source.now.stream in
    record { whole = whole_at s.limits s.reading.packets c.args.n c.args.dim.w c.args.dim.h c.args.pixels.now c.requires }
