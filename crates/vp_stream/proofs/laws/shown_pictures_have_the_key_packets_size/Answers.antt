use Rattle.vp_stream.proofs.SizeLemmas.{size_of_key}
use Rattle.vp_stream.proofs.laws.shown_pictures_have_the_key_packets_size.Goals as goal

pub returns : goal.returns
returns c limits packets n width height pixels =
    size_of_key limits packets n width height pixels (λ state packet. c.key_packet_resets.ensures limits state packet)
    (λ packet. c.first_byte_says_kind.ensures.key limits packet) (λ packet. c.first_byte_says_kind.ensures.inter limits packet)
