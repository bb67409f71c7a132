use Rattle.vp_encoder_tests.proofs.encoding.still_packet_by.Goals as goal

pub write_inter_packet-requires-clause-told : goal.write_inter_packet-requires-clause-told
write_inter_packet-requires-clause-told c = rw (c.defaults.ensures, c.requires.segments) c.in_ok-still.ensures.told
