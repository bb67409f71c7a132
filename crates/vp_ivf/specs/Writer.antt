-- The model of an IVF writer: the contents of the device, the packets that remain, and the faults in order. Pinned by
-- the tests `file_of_one_packet` and `fails_at_each_write`.
use Rattle.std.specs.Prelude.{ℕ, zero, suc, Bool, true, false, ◌≡◌, ◌≤◌, ◌-◌, List, [], ◌∷◌, ◌++◌, length, Option, Some}
use Rattle.std.specs.Prelude.{None, Result, Ok, Err}
use Rattle.std.specs.Io.KnownBytes.{Appends}
use Rattle.vp_base.specs.Counted.{counted_contents, counted_failures, AppendsPrefix, HasFailed}
use Rattle.vp_ivf.specs.declared.packet.Packet.{Packet}
use Rattle.vp_ivf.specs.declared.packet.IvfHead.{IvfHead}
use Rattle.vp_ivf.specs.declared.writer.Writer.{Writer}
use Rattle.vp_ivf.specs.declared.writer.WriteFault.{WriteFault}
use Rattle.vp_ivf.specs.declared.writer.WriteFault.TheVariants.{Device, Count}
use Rattle.vp_ivf.specs.Text.{file_text}

-- the identity of the mutable reference to the device
abbrev pub device_name : {W : Type 0} → Writer W → ℕ
device_name writer = writer.out.ghost_name

-- the contents of the device, if known
abbrev pub device_contents : {W : Type 0} → (W → Option (List ℕ)) → Writer W → Option (List ℕ)
device_contents contents writer = counted_contents contents writer.out.now

-- the number of failed calls of the device
abbrev pub device_failures : {W : Type 0} → Writer W → ℕ
device_failures writer = counted_failures writer.out.now

-- the number of packets that may still be written
abbrev pub packets_left : {W : Type 0} → Writer W → ℕ
packets_left writer = writer.left

-- whether the device failed
abbrev pub has_failed : {W : Type 0} → Writer W → Bool
has_failed writer = writer.failed

-- why a packet is rejected before anything is written: a failed device, then a reached count
abbrev pub write_refusal : Bool → ℕ → Option WriteFault
write_refusal true left = Some Device
write_refusal false zero = Some Count
write_refusal false (suc left) = None

-- why a writer rejects a packet
abbrev pub packet_refusal : {W : Type 0} → Writer W → Option WriteFault
packet_refusal writer = write_refusal writer.failed writer.left

-- the result of finish: a failed device, then missing packets
abbrev pub finish_at : Bool → ℕ → Result (Unit {0}) WriteFault
finish_at true left = Err Device
finish_at false zero = Ok tt
finish_at false (suc left) = Err Count

-- a history: the contents and the failed calls of the device before the file, the header, the packets passed to the
-- device, in order, and whether the device failed. A failure ends the packets.
pub record Written : Type 0 where
  pub before : Option (List ℕ)
  pub failures : ℕ
  pub head : IvfHead
  pub count : ℕ
  pub packets : List Packet
  pub failed : Bool

-- the history after the header was passed to the device, which failed or not
abbrev pub begun : Option (List ℕ) → ℕ → IvfHead → ℕ → Bool → Written
begun before failures head count failed = record {
  before = before;
  failures = failures;
  head = head;
  count = count;
  packets = [];
  failed = failed;
}

-- the history after one more packet was passed to the device, which failed or not
abbrev pub with_packet : Written → Packet → Bool → Written
with_packet h packet failed = record h { packets = h.packets ++ packet ∷ []; failed = failed }

-- the bytes of the file so far
abbrev pub written_bytes : Written → List ℕ
written_bytes h = file_text h.head h.count h.packets

-- the device contains its old contents and then the file; or a prefix of it, if the device failed
abbrev pub IsWrittenAt : Bool → Option (List ℕ) → Option (List ℕ) → List ℕ → Type 0
IsWrittenAt false before now text = Appends before now text
IsWrittenAt true before now text = AppendsPrefix before now text

-- without a failure the count of failed calls is unchanged; else it rose, or is saturated
abbrev pub IsCountedAt : Bool → ℕ → ℕ → Type 0
IsCountedAt false before now = now ≡ before
IsCountedAt true before now = HasFailed before now

-- the writer is in the state that this history gives
pub record IsWriterAfter {W : Type 0} (contents : W → Option (List ℕ)) (writer : Writer W) (h : Written) : Type 0 where
  pub fits : length h.packets ≤ h.count
  pub left : packets_left writer ≡ h.count - length h.packets
  pub failed : has_failed writer ≡ h.failed
  pub bytes : IsWrittenAt h.failed h.before (device_contents contents writer) (written_bytes h)
  pub failures : IsCountedAt h.failed h.failures (device_failures writer)
