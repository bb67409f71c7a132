-- The cache of decoded pictures: its entries, most recent first, its capacity, and the packets decoded for a request.
-- Pinned by the test `cache_is_filled`.
use Rattle.std.specs.Prelude.{◌≡◌, ◌⊎◌, ◌&&◌, ℕ, Bool, nat_eq, List, [], ◌∷◌, take, Option, Some, None, Contains}
use Rattle.std.specs.Borrow.{Bor}
use Rattle.std.specs.Option.{option_map}
use Rattle.std.specs.Map.{lookup, remove_entry}
use Rattle.vp_ivf.specs.declared.packet.Packet.{Packet}
use Rattle.vp_stream.specs.Seeking.{AnswerValue, Shown, Hidden, Fault, NoPacket, answer_at, work_of}
use Rattle.vp_stream.specs.Stream.{Stream as StreamState}

-- a shown picture: its width, height and I420 pixels
pub record CachedPicture : Type 0 where
  pub width : ℕ
  pub height : ℕ
  pub pixels : List ℕ

-- the answer for a cached picture
abbrev pub cached_answer : CachedPicture → AnswerValue
cached_answer p = Shown p.width p.height p.pixels

-- the numbers of a stream and a packet, with the picture
abbrev pub CacheEntry : Type 0
CacheEntry = (ℕ × ℕ) × CachedPicture

-- a cache: its entries, the most recently used one first, and the maximum number of entries
pub record Cache : Type 0 where
  pub entries : List CacheEntry
  pub capacity : ℕ

-- an empty cache
abbrev pub empty : ℕ → Cache
empty capacity = record { entries = []; capacity = capacity }

-- whether two keys are equal
abbrev pub pair_eq : ℕ × ℕ → ℕ × ℕ → Bool
pair_eq a b = nat_eq a.0 b.0 && nat_eq a.1 b.1

-- the cached picture for a packet of a stream
abbrev pub cached : ℕ → ℕ → List CacheEntry → Option CachedPicture
cached number n entries = lookup (pair_eq (number, n)) entries

-- each entry with this stream number is the stream's answer
pub record AreAnswersOf (number : ℕ) (stream : StreamState) (entries : List CacheEntry) : Type 0 where
  pub each : (e : CacheEntry) → Contains entries e → e.0.0 ≡ number
      → answer_at stream.limits stream.reading.packets e.0.1 ≡ cached_answer e.1

-- ---- the entries after a request

-- the entry with this key is moved to the front
abbrev pub in_front : ℕ × ℕ → CachedPicture → List CacheEntry → List CacheEntry
in_front key p entries = (key, p) ∷ remove_entry (pair_eq key) entries

-- a shown answer becomes the first entry, and the list is cut at the capacity; other answers are not cached
abbrev pub put : ℕ × ℕ → AnswerValue → ℕ → List CacheEntry → List CacheEntry
put key (Shown width height pixels) capacity entries =
    take capacity ((key, record { width = width; height = height; pixels = pixels }) ∷ entries)
put key Hidden capacity entries = entries
put key (Fault fault) capacity entries = entries
put key NoPacket capacity entries = entries

-- the cache after a request: a cache hit moves to the front; after a miss the answer is cached, unless memory runs out
abbrev pub IsAfter : Cache → ℕ → ℕ → Option CachedPicture → AnswerValue → Cache → Type 0
IsAfter old number n (Some p) answer new = new ≡ record old { entries = in_front (number, n) p old.entries }
IsAfter old number n None answer new =
    (new ≡ old) ⊎ (new ≡ record old { entries = put (number, n) answer old.capacity old.entries })

-- ---- the number of decoded packets

-- a cache hit decodes nothing
abbrev pub work_beside : Option CachedPicture → List Packet → ℕ → ℕ
work_beside (Some p) packets n = 0
work_beside None packets n = work_of packets n

-- ---- cached pictures in the code

-- the answer for a cached picture, if there is one
abbrev pub option_shown : Option CachedPicture → Option AnswerValue
option_shown (Some p) = Some (cached_answer p)
option_shown None = None

-- the value of a borrowed picture
abbrev pub lent : Option (Bor CachedPicture) → Option CachedPicture
lent o = option_map (λ p. p.now) o

-- a cached picture is the stream's answer for packet n
abbrev pub IsAnswerIf : Option CachedPicture → StreamState → ℕ → Type 0
IsAnswerIf (Some p) stream n = answer_at stream.limits stream.reading.packets n ≡ cached_answer p
IsAnswerIf None stream n = Unit {0}

-- the cache after the picture is moved to the front; unchanged after a miss
abbrev pub moved_to_front : Cache → ℕ → ℕ → Option CachedPicture → Cache
moved_to_front old number n (Some p) = record old { entries = in_front (number, n) p old.entries }
moved_to_front old number n None = old
