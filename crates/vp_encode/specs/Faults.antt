-- The error of an encoder, from the error of its packet writer.
use Rattle.vp_encode.specs.declared.fault.PacketError.{PacketError}
use Rattle.vp_encode.specs.declared.fault.PacketError.TheVariants as packet_error
use Rattle.vp_encode.specs.declared.fault.EncodeFault.{EncodeFault}
use Rattle.vp_encode.specs.declared.fault.EncodeFault.TheVariants as encode_fault

-- the error of the encoder
abbrev pub fault_of : PacketError → EncodeFault
fault_of packet_error.TooLong = encode_fault.TooLong
fault_of packet_error.Memory = encode_fault.Memory
