use Rattle.vp_stream.proofs.AnswerLemmas.{from_last_key}
use Rattle.vp_stream.proofs.laws.answers_come_from_the_last_key_packet.Goals as goal

pub returns : goal.returns
returns c limits packets n =
    from_last_key limits packets n (λ state packet. c.key_packet_resets.ensures limits state packet) (λ packet. c.first_byte_says_kind.ensures.inter limits packet)
