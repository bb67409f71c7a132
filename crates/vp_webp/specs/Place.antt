-- Where the packet of a file lies among its bytes. Pinned by the test `webp_places`.
use Rattle.std.specs.Prelude.{ℕ, ◌+◌, ◌≤◌, List, length, take, drop, Result, Ok, Err}
use Rattle.vp_webp.specs.declared.reading.Found.{Found}
use Rattle.vp_webp.specs.declared.reading.PacketPlace.{PacketPlace}
use Rattle.vp_webp.specs.declared.reading.Seen.{Seen}
use Rattle.vp_webp.specs.WebP.{StillImage}

-- f of the value, if there is one
abbrev pub result_map : {A B E : Type 0} → (A → B) → Result A E → Result B E
result_map f (Ok a) = Ok (f a)
result_map f (Err e) = Err e

-- the bytes at a place
abbrev pub bytes_at : PacketPlace → List ℕ → List ℕ
bytes_at place bytes = take place.len (drop place.start bytes)

-- the place ends within the bytes
abbrev pub IsWithin : PacketPlace → List ℕ → Type 0
IsWithin place bytes = place.start + place.len ≤ length bytes

-- the image of this packet after these chunks
abbrev pub image_with : Seen → List ℕ → StillImage
image_with seen packet = record { packet = packet; has_alpha = seen.has_alpha; canvas = seen.canvas }

-- the image whose packet lies at this place of the bytes
abbrev pub image_at : List ℕ → Found → StillImage
image_at bytes found = image_with found.seen (bytes_at found.place bytes)
