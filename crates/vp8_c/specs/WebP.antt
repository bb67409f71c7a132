-- WebP files: where the packet of a file lies, and the file of a packet. Pinned by the tests `a_webp_file_is_read`
-- and `a_webp_file_is_made`.
use Rattle.std.specs.Prelude.{◌≡◌, ◌≤◌, ◌+◌, ℕ, List, length, take, drop, Result, Ok, Err}
use Rattle.vp_webp.specs.declared.fault.WebPFault.{WebPFault}
use Rattle.vp_webp.specs.declared.fault.WebPWriteFault.{WebPWriteFault}
use Rattle.vp_webp.specs.Text.{webp_file}
use Rattle.vp_webp.specs.WebP.{StillImage, still_image}
use Rattle.vp8_c.specs.declared.status.TheConstants.{OK}
use Rattle.vp8_c.specs.Status.{webp_number, webp_write_number}

-- the packet of an image, or the number of the file's fault
abbrev pub packet_or_number : Result StillImage WebPFault → Result (List ℕ) ℕ
packet_or_number (Ok image) = Ok image.packet
packet_or_number (Err fault) = Err (webp_number fault)

-- the packet of a WebP file, or the number of the file's fault
abbrev pub packet_of_file : List ℕ → Result (List ℕ) ℕ
packet_of_file file = packet_or_number (still_image file)

-- a file, or the number of why there is none
abbrev pub file_or_number : Result (List ℕ) WebPWriteFault → Result (List ℕ) ℕ
file_or_number (Ok file) = Ok file
file_or_number (Err fault) = Err (webp_write_number fault)

-- the WebP file of a packet, or the number of why it has none
abbrev pub file_of_packet : List ℕ → Result (List ℕ) ℕ
file_of_packet packet = file_or_number (webp_file packet)

-- where bytes lie: the index of the first one, and how many they are
pub record Place : Type 0 where
  pub start : ℕ
  pub len : ℕ

abbrev pub place_of : ℕ → ℕ → Place
place_of start len = record { start = start; len = len }

-- the packet's place in the file is written
pub record PlacesPacket (file packet : List ℕ) (status : ℕ) (before after : Place) : Type 0 where
  pub answer : status ≡ OK
  pub within : after.start + after.len ≤ length file
  pub is : take after.len (drop after.start file) ≡ packet
