-- Hubs without cursors: each picture that isn't cached is decoded from the last key packet on. Pinned by the test
-- `frames_out_of_order` (2, 1, then 2 or 0).
use Rattle.std.specs.Prelude.{◌≡◌, ◌≤◌, ℕ, List, [], Option, Some, None, slice_get}
use Rattle.vp_base.specs.declared.limits.Limits.{Limits}
use Rattle.vp_stream.specs.Seeking.{answer_at}
use Rattle.vp_cache.specs.Cache.{IsAfter, cached, work_beside}
use Rattle.vp_cache.specs.Cache.{Cache}
use Rattle.vp_cache.specs.Cursors.{no_cursors}
use Rattle.vp_cache.specs.Cursors.{Cursors}
use Rattle.vp_heads.specs.declared.request.Resource.{Resource}
use Rattle.vp_heads.specs.declared.request.Resource.TheVariants as wanted
use Rattle.vp_hub.specs.declared.event.Event.{Event}
use Rattle.vp_hub.specs.declared.picture_cache.Pictures.{Pictures}
use Rattle.vp_hub.specs.declared.source.Source.{Source}
use Rattle.vp_hub.specs.Pages.{Streams}
use Rattle.vp_hub.specs.Hub.{Outcome}
use Rattle.vp_hub.specs.Work.{IsAfterRequest, cost_of, Hub, IsWorked, IsWorkedRun}

-- there are no cursors, and no room for any
abbrev pub HasNone : Cursors → Type 0
HasNone cursors = (cursors.capacity ≡ 0) × (cursors.entries ≡ [])

-- the number of packets decoded for packet n of stream k without cursors: 0 for a cache hit or without such a packet,
-- else those from the last key packet on
abbrev pub plain_picture_cost : Option Source → ℕ → ℕ → Cache → ℕ
plain_picture_cost None k n cache = 0
plain_picture_cost (Some s) k n cache = work_beside (cached k n cache.entries) s.stream.reading.packets n

-- the number of packets decoded for a resource without cursors
abbrev pub plain_cost_of : Streams → Resource → Cache → ℕ
plain_cost_of streams (wanted.Frame k n) cache = plain_picture_cost (slice_get streams.sources k) k n cache
plain_cost_of streams (wanted.Video k n) cache = plain_picture_cost (slice_get streams.sources k) k n cache
plain_cost_of streams (wanted.Still k n scale) cache = plain_picture_cost (slice_get streams.sources k) k n cache
plain_cost_of streams _ cache = 0

-- the cache after it: a shown picture is the most recent entry, unless memory ran out for it
abbrev pub IsPlainAfterPicture : Option Source → ℕ → ℕ → Cache → Cache → Type 0
IsPlainAfterPicture None k n old new = new ≡ old
IsPlainAfterPicture (Some s) k n old new =
    IsAfter old k n (cached k n old.entries) (answer_at s.stream.limits s.stream.reading.packets n) new

-- the cache after a request for a resource
abbrev pub IsPlainAfterRequest : Streams → Resource → Cache → Cache → Type 0
IsPlainAfterRequest streams (wanted.Frame k n) old new = IsPlainAfterPicture (slice_get streams.sources k) k n old new
IsPlainAfterRequest streams (wanted.Video k n) old new = IsPlainAfterPicture (slice_get streams.sources k) k n old new
IsPlainAfterRequest streams (wanted.Still k n scale) old new =
    IsPlainAfterPicture (slice_get streams.sources k) k n old new
IsPlainAfterRequest streams _ old new = new ≡ old

-- ---- the statements of the laws

-- no cursors, with room for none, are none
abbrev pub NoRoomIsNone : Type 0
NoRoomIsNone = (limits : Limits) → HasNone (no_cursors 0 limits)

-- without cursors a request costs the packets from the last key packet on
abbrev pub PlainCosts : Type 0
PlainCosts = (streams : Streams) (wanted : Resource) (pictures : Pictures) → HasNone pictures.cursors
    → cost_of streams wanted pictures ≡ plain_cost_of streams wanted pictures.cache

-- and the cache after it is as ever
abbrev pub PlainCaches : Type 0
PlainCaches = (streams : Streams) (wanted : Resource) (old new : Pictures) → HasNone old.cursors
    → IsAfterRequest streams wanted old new
    → IsPlainAfterRequest streams wanted old.cache new.cache × (new.cursors ≡ old.cursors)

-- a hub without cursors stays one
abbrev pub PlainHubsStay : Type 0
PlainHubsStay = (old : Hub) (e : Event) (o : Outcome) (new : Hub) → HasNone old.cursors → IsWorked old e o new
    → new.cursors ≡ old.cursors

-- through any run
abbrev pub PlainRunsStay : Type 0
PlainRunsStay = (old : Hub) (events : List Event) (results : List Outcome) (new : Hub) → HasNone old.cursors
    → IsWorkedRun old events results new → new.cursors ≡ old.cursors

-- with cursors a request costs at most as much as without
abbrev pub CursorsCostNoMore : Type 0
CursorsCostNoMore = (streams : Streams) (wanted : Resource) (pictures : Pictures)
    → cost_of streams wanted pictures ≤ plain_cost_of streams wanted pictures.cache
