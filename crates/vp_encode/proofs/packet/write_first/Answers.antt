use Rattle.std.proofs.Common.{◌≡◌, ◌∙◌, sym, subst, refl}
use Rattle.vp_base.specs.Grid.{all as everywhere}
use Rattle.vp_bool.specs.Writing.{Writes}
use Rattle.vp_motion.specs.Map.{intra}
use Rattle.vp_decode.specs.MacroblockMaps.{MacroblockMaps, maps_read, place}
use Rattle.vp_decode.specs.Step.{maps_before}
use Rattle.vp_encode.specs.Written.{encoder_tag, maps_at}
use Rattle.vp_encode.proofs.Candidates.{motion_before-none}
use Rattle.vp_encode.proofs.ContentLemmas.{written_none, written_all}
use Rattle.vp_encode.proofs.PacketLemmas.{first_said}
use Rattle.vp_encode.proofs.packet.write_first.Goals as goal

pub write_modes_and_motion-requires-clause-before : goal.write_modes_and_motion-requires-clause-before
write_modes_and_motion-requires-clause-before c =
    written_none c.args.coded.now _ _ _ c.requires.before_columns c.requires.before_rows refl refl c.requires.told.modes

pub returns : goal.returns
returns c =
    let coded = c.args.coded.now in
    let still = motion_before-none coded.macroblocks ∙ (λ i. everywhere (sym c.requires.before_columns i) (sym c.requires.before_rows i) intra) in
    let same : maps_at coded (place 0 0) c.args.before ≡ maps_before c.args.before = λ i. record { modes = c.args.before; motion = still i } in
    let maps : MacroblockMaps = maps_at coded (place coded.macroblocks.rows 0) c.write_modes_and_motion.new.modes in
    let all = c.in_ok-write_modes_and_motion.ensures in
    let written = subst (λ (m : MacroblockMaps). Writes (maps_read coded.header m) c.write.new.e c.write_modes_and_motion.new.e maps) same all.writes in
    first_said c.args.saved.now (encoder_tag c.args.key 0) (maps_before c.args.before) coded maps c.in_ok-bytes.bytes.items c.new-encoder.ensures.value
    c.in_ok-write.ensures written c.in_ok-bytes.ensures (written_all _ _ all.written)
