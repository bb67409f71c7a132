use Rattle.vp_encoder_tests.proofs.encoding.column_packet.Goals as goal

pub write_key_packet-requires-clause-told : goal.write_key_packet-requires-clause-told
write_key_packet-requires-clause-told c = c.in_ok-coded.ensures.told _
