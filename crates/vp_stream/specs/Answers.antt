-- The answers for all packets of a file: the packet step, applied to one packet after another (RFC 6386, chapter 5).
-- Pinned by the tests `empty_key_frame` and `truncated_then_no_reference`, and by streams of other encoders in the
-- gate.
use Rattle.std.specs.Prelude.{ℕ, List, [], ◌∷◌, Option, None}
use Rattle.vp_base.specs.declared.limits.Limits.{Limits}
use Rattle.vp_ivf.specs.declared.packet.Packet.{Packet}
use Rattle.vp_ivf.specs.Ivf.{Contents, read_file}
use Rattle.vp_decode.specs.Step.{DecoderState, Answer, step}

-- the answers for packets, one after another, starting from a state (RFC 6386, chapter 5)
abbrev pub answers_from : Limits → Option DecoderState → List Packet → List Answer
answers_from limits state [] = []
answers_from limits state (p ∷ ps) = (step limits state p.bytes).1
    ∷ answers_from limits (step limits state p.bytes).0 ps

-- the contents of an IVF file: head, packets and fault
abbrev pub reading_of : Limits → List ℕ → Contents
reading_of limits file = read_file limits.packet_bytes limits.packets file

-- the answers for the packets of a file; the first one is decoded without a state
abbrev pub answers_of : Limits → List ℕ → List Answer
answers_of limits file = answers_from limits None (reading_of limits file).packets
