-- Limits that differ in the cache's number alone.
use Rattle.std.proofs.Common.{◌≡◌, ◌<◌, ◌≤◌, ℕ, false, [], map, refl, ap, subst}
use Rattle.std.specs.Coded.{×_prop, le_prop}
use Rattle.vp_base.specs.declared.limits.Limits.{Limits}
use Rattle.vp_stream.specs.Stream.{initial_stream}
use Rattle.vp_hub.specs.declared.source.StreamEnd.TheVariants.{Open}
use Rattle.vp_hub.specs.Hub.{stream_limits, one_is_in_range}
use Rattle.vp_hub.specs.View.{connection_view, NewHubsAnswerAlike}
use Rattle.vp_hub.proofs.Isolation.{alike}

abbrev IsPixels : ℕ → Type 0
IsPixels p = (0 < p) × (p ≤ 268402689)

abbrev IsPacketBytes : ℕ → Type 0
IsPacketBytes b = (0 < b) × (b ≤ 268435456)

abbrev IsPackets : ℕ → Type 0
IsPackets n = (0 < n) × (n ≤ 16777216)

abbrev limits_by : (p b n : ℕ) → IsPixels p → IsPacketBytes b → IsPackets n → Limits
limits_by p b n u v w = record {
  pixels = p;
  packet_bytes = b;
  packets = n;
  cache = 1;
  pixels_in_range = u;
  packet_bytes_in_range = v;
  packets_in_range = w;
  cache_in_range = one_is_in_range;
}

one_proof : (p b n : ℕ) (u x : IsPixels p) (v y : IsPacketBytes b) (w z : IsPackets n) → limits_by p b n u v w ≡ limits_by p b n x y z
one_proof p b n u x v y w z = λ i. limits_by p b n (×_prop le_prop le_prop u x i) (×_prop le_prop le_prop v y i) (×_prop le_prop le_prop w z i)

-- the limits of a stream are known by three numbers
pub same_limits : (a b : Limits) → a.pixels ≡ b.pixels → a.packet_bytes ≡ b.packet_bytes → a.packets ≡ b.packets → stream_limits a ≡ stream_limits b
same_limits a b e f g =
    let P : ℕ → Type 0 = λ p. (u : IsPixels p) → stream_limits a ≡ limits_by p b.packet_bytes b.packets u b.packet_bytes_in_range b.packets_in_range in
    let Q : ℕ → Type 0 = λ q. (u : IsPixels a.pixels) (v : IsPacketBytes q) → stream_limits a ≡ limits_by a.pixels q b.packets u v b.packets_in_range in
    let R : ℕ → Type 0 = λ r. (u : IsPixels a.pixels) (v : IsPacketBytes a.packet_bytes) (w : IsPackets r) → stream_limits a ≡ limits_by a.pixels a.packet_bytes r u v w in
    subst P e (λ u. subst Q f (λ x v. subst R g (λ x y z. one_proof a.pixels a.packet_bytes a.packets a.pixels_in_range x a.packet_bytes_in_range y a.packets_in_range z) x v b.packets_in_range) u b.packet_bytes_in_range) b.pixels_in_range

pub new_alike : NewHubsAnswerAlike
new_alike names a b c es fs os ps new mid same run ran views =
    alike c _ _ es fs os ps new mid refl run ran
    (ap (λ (l : Limits). connection_view c (record { streams = record { names = names; sources = map (λ _. record { stream = initial_stream l; end = Open }) names; webp = false }; connections = [] }))
    (same_limits a b same.pixels same.packet_bytes same.packets)) views
