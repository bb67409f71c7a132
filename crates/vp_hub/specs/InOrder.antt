-- The statements of the law `frames_in_order_cost_one_each`. Pinned by the test of the same name.
use Rattle.std.specs.Prelude.{◌≡◌, ◌+◌, ◌<◌, ◌≤◌, ℕ, Some, None, length, slice_get}
use Rattle.vp_cache.specs.Cache.{CachedPicture, cached}
use Rattle.vp_cache.specs.Cursors.{least_work}
use Rattle.vp_heads.specs.declared.request.Resource.TheVariants as wanted
use Rattle.vp_hub.specs.declared.picture_cache.Pictures.{Pictures}
use Rattle.vp_hub.specs.declared.source.Source.{Source}
use Rattle.vp_hub.specs.Pages.{Streams}
use Rattle.vp_hub.specs.Work.{IsAfterRequest, cost_of}

-- a cached picture costs nothing
abbrev pub HitsCostNothing : Type 0
HitsCostNothing = (streams : Streams) (k n : ℕ) (pictures : Pictures) (p : CachedPicture)
    → cached k n pictures.cache.entries ≡ Some p
    → (cost_of streams (wanted.Frame k n) pictures ≡ 0) × (cost_of streams (wanted.Video k n) pictures ≡ 0)

-- without it, a frame costs the least number of packets by a cursor of the stream or by none
abbrev pub MissesCostTheLeast : Type 0
MissesCostTheLeast = (streams : Streams) (k n : ℕ) (s : Source) (pictures : Pictures)
    → slice_get streams.sources k ≡ Some s → cached k n pictures.cache.entries ≡ None
    → cost_of streams (wanted.Frame k n) pictures
    ≡ least_work k s.stream.reading.packets n pictures.cursors.entries

-- stream k had packet n decoded for a frame, with room for a cursor
pub record IsDecoded (streams : Streams) (k n : ℕ) (s : Source) (old new : Pictures) : Type 0 where
  pub stream : slice_get streams.sources k ≡ Some s
  pub there : n < length s.stream.reading.packets
  pub room : 0 < old.cursors.capacity
  pub missed : cached k n old.cache.entries ≡ None
  pub after : IsAfterRequest streams (wanted.Frame k n) old new

-- then the next frame costs one packet at most, a key packet or not
abbrev pub NextFrameCostsOne : Type 0
NextFrameCostsOne = (streams : Streams) (k n : ℕ) (s : Source) (old new : Pictures) → IsDecoded streams k n s old new
    → cost_of streams (wanted.Frame k (n + 1)) new ≤ 1

-- and the same frame none, cached or not
abbrev pub SameFrameCostsNone : Type 0
SameFrameCostsNone = (streams : Streams) (k n : ℕ) (s : Source) (old new : Pictures) → IsDecoded streams k n s old new
    → cost_of streams (wanted.Frame k n) new ≡ 0
