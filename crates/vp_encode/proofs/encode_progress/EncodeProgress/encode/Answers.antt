use Rattle.std.proofs.Common.{◌≡◌, ◌<◌, ◌≤◌, ◌+◌, ◌++◌, ◌∷◌, [], length, refl, ap, subst, ◌∙◌, arith}
use Rattle.std.proofs.lemmas.Grind.{common_steps}
use Rattle.vp_encode.specs.declared.report.EncodeAllFault.TheVariants as fault
use Rattle.vp_encode.specs.Encoded.{EncodedFrame, IsEncoded}
use Rattle.vp_encode.specs.Calls.{frame_with}
use Rattle.vp_encode.specs.EncodeProgress.{EncodeProgress, IsAdded, IsPictureRefused}
use Rattle.vp_encode.proofs.encode_progress.EncodeProgress.encode.Goals.{In-Ok}
use Rattle.vp_encode.proofs.encode_progress.EncodeProgress.encode.Goals as goal

made : (c : In-Ok) → IsEncoded c.self.inside.encoder (frame_with c.args.picture.now c.in-Ok.encoded) c.encode.new.self
made c = let f = c.in-Ok.ensures in record { chosen = f.choice; decoded = f.decoded; dim = f.dim; settings = f.settings; since = f.since }

pub returns-then-len-self-2 : goal.returns-then-len-self-2
returns-then-len-self-2 c =
    let large : c.self.inside.limits.packet_bytes < length c.in-Ok.encoded.packet = grind (arith, common_steps) in
    let room : length c.self.inside.packets.items < c.self.inside.limits.packets = grind (arith, common_steps) in
    let P : EncodeProgress → Type 0 = λ r. IsPictureRefused r c.args.picture.now fault.PacketTooLarge × (c.self.inside.packets.items ≡ r.packets) in
    subst P c.self.view_is ((frame_with c.args.picture.now c.in-Ok.encoded, c.encode.new.self, refl, room, made (goal.at.returns-then-len-self-2 c).In-Ok, large), refl)

pub returns : goal.returns
returns c =
    let small : length c.in-Ok.encoded.packet ≤ c.self.inside.limits.packet_bytes = grind (arith, common_steps) in
    let room : length c.self.inside.packets.items < c.self.inside.limits.packets = grind (arith, common_steps) in
    let more : c.push.new.self.items ≡ c.self.inside.packets.items ++ c.in-Ok.encoded.packet ∷ [] = grind (arith, common_steps) in
    let P : EncodeProgress → Type 0 = λ r. (f : EncodedFrame) × (f.source ≡ c.args.picture.now)
    × IsAdded r f (record { limits = c.self.inside.limits; encoder = c.encode.new.self; packets = c.push.new.self.items; bytes = c.self.inside.bytes + c.len-bytes.result; error = c.self.inside.error + c.from.result }) in
    subst P c.self.view_is (
      frame_with c.args.picture.now c.in-Ok.encoded,
      refl,
      record {
        room = room;
        small = small;
        encoded = made (goal.at.returns c).In-Ok;
        limits = refl;
        packets = more;
        bytes = ap (λ n. c.self.inside.bytes + n) c.len-bytes.ensures;
        error = ap (λ n. c.self.inside.error + n) (c.from.ensures ∙ c.in-Ok.ensures.error);
      },
    )
