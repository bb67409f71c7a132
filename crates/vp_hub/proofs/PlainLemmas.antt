-- Hubs without cursors.
use Rattle.std.proofs.Common.{◌≡◌, ◌≢◌, ◌≤◌, ◌⊎◌, ◌++◌, ◌∷◌, ◌+◌, ℕ, Bool, true, false, cond, List, [], take, nat_lt, Option, Some, None, Ok, Err, refl, sym, ap, subst, ◌∙◌, inl, inr, arith}
use Rattle.std.specs.Prelude.{length, slice_get}
use Rattle.vp_ivf.specs.declared.packet.Packet.{Packet}
use Rattle.vp_stream.specs.Stream.{Stream as StreamState}
use Rattle.vp_stream.specs.Cursor.{Cursor, initial_cursor, cursor_behind}
use Rattle.vp_cache.specs.Cache.{CachedPicture, cached, work_beside}
use Rattle.vp_cache.specs.Cursors.{CursorEntry, nearest, without, after_picture, in_front, unless_cached, work_with}
use Rattle.vp_cache.specs.Cursors.{Cursors}
use Rattle.vp_cache.proofs.CursorLemmas.{costs_no_more}
use Rattle.vp_heads.specs.declared.request.Resource.{Resource}
use Rattle.vp_heads.specs.declared.request.Resource.TheVariants as wanted
use Rattle.vp_hub.specs.declared.picture_cache.Pictures.{Pictures}
use Rattle.vp_hub.specs.declared.source.Source.{Source}
use Rattle.vp_hub.specs.declared.connection.ConnectionState.{ConnectionState}
use Rattle.vp_hub.specs.declared.event.Event.{Event}
use Rattle.vp_hub.specs.declared.event.Event.TheVariants.{Feed, End, Open, Bytes, Shut}
use Rattle.vp_hub.specs.declared.event.HubFault.TheVariants as fault
use Rattle.vp_hub.specs.Pages.{Streams}
use Rattle.vp_hub.specs.Hub.{Chosen, Outcome, HubState, connection_state_of, ends_head}
use Rattle.vp_hub.specs.Work.{Hub, picture_cost, IsAfterPicture, IsCutShort, IsLeftPicture, IsLeft, CostsByte, CostsByteAtMost, Costs, CostsPiece, CostsPieceAtMost, IsWork, IsWorkAtMost, pictures_of}
use Rattle.vp_hub.specs.Plain.{HasNone, plain_picture_cost, IsPlainAfterPicture, NoRoomIsNone, PlainCosts, PlainCaches, PlainHubsStay, PlainRunsStay, CursorsCostNoMore}

-- ---- costs

with_none : (o : Option CachedPicture) (number : ℕ) (ps : List Packet) (n : ℕ) → work_with o number ps n [] ≡ work_beside o ps n
with_none (Some p) number ps n = refl
with_none None number ps n = refl

picture_costs : (source : Option Source) (k n : ℕ) (p : Pictures) → HasNone p.cursors → picture_cost source k n p ≡ plain_picture_cost source k n p.cache
picture_costs None k n p none = refl
picture_costs (Some s) k n p none =
    ap (λ (es : List CursorEntry). work_with (cached k n p.cache.entries) k s.stream.reading.packets n es) none.1
    ∙ with_none (cached k n p.cache.entries) k s.stream.reading.packets n

pub plain_costs : PlainCosts
plain_costs ss wanted.Bad p none = refl
plain_costs ss wanted.WrongMethod p none = refl
plain_costs ss wanted.Missing p none = refl
plain_costs ss wanted.Streams p none = refl
plain_costs ss (wanted.Info k) p none = refl
plain_costs ss (wanted.Frame k n) p none = picture_costs (slice_get ss.sources k) k n p none
plain_costs ss (wanted.Video k n) p none = picture_costs (slice_get ss.sources k) k n p none
plain_costs ss (wanted.Still k n scale) p none = picture_costs (slice_get ss.sources k) k n p none

with_more : (o : Option CachedPicture) (number : ℕ) (ps : List Packet) (n : ℕ) (es : List CursorEntry) → work_with o number ps n es ≤ work_beside o ps n
with_more (Some p) number ps n es = omega arith
with_more None number ps n es = costs_no_more number ps n es

picture_less : (source : Option Source) (k n : ℕ) (p : Pictures) → picture_cost source k n p ≤ plain_picture_cost source k n p.cache
picture_less None k n p = omega arith
picture_less (Some s) k n p = with_more (cached k n p.cache.entries) k s.stream.reading.packets n p.cursors.entries

pub cost_less : CursorsCostNoMore
cost_less ss wanted.Bad p = omega arith
cost_less ss wanted.WrongMethod p = omega arith
cost_less ss wanted.Missing p = omega arith
cost_less ss wanted.Streams p = omega arith
cost_less ss (wanted.Info k) p = omega arith
cost_less ss (wanted.Frame k n) p = picture_less (slice_get ss.sources k) k n p
cost_less ss (wanted.Video k n) p = picture_less (slice_get ss.sources k) k n p
cost_less ss (wanted.Still k n scale) p = picture_less (slice_get ss.sources k) k n p

-- ---- what stays

none_in_front : (c : Cursors) (number : ℕ) (ps : List Packet) (n : ℕ) (cursor : Cursor) → HasNone c → in_front c number ps n cursor ≡ c
none_in_front c number ps n cursor none =
    let gone : (in_front c number ps n cursor).entries ≡ [] = ap (λ m. take m ((number, cursor) ∷ without number (nearest number ps n c.entries) c.entries)) none.0 in
    λ i. record c { entries = (gone ∙ sym none.1) i }

none_after : (c : Cursors) (number : ℕ) (s : StreamState) (n : ℕ) → HasNone c → after_picture c number s n ≡ c
none_after c number s n none = by_test (nat_lt n (length s.reading.packets))
  where
    by_test : (t : Bool) → cond t (in_front c number s.reading.packets n (cursor_behind s.limits s.reading.packets (n + 1))) c ≡ c
    by_test true = none_in_front c number s.reading.packets n (cursor_behind s.limits s.reading.packets (n + 1)) none
    by_test false = refl

unless_same : (o : Option CachedPicture) (old new : Cursors) → new ≡ old → unless_cached o old new ≡ old
unless_same (Some p) old new same = refl
unless_same None old new same = same

picture_caches : (source : Option Source) (k n : ℕ) (old new : Pictures) → HasNone old.cursors → IsAfterPicture source k n old new
    → IsPlainAfterPicture source k n old.cache new.cache × (new.cursors ≡ old.cursors)
picture_caches None k n old new none same = (ap (λ (p : Pictures). p.cache) same, ap (λ (p : Pictures). p.cursors) same)
picture_caches (Some s) k n old new none is =
    (is.0, is.1 ∙ unless_same (cached k n old.cache.entries) old.cursors (after_picture old.cursors k s.stream n) (none_after old.cursors k s.stream n none))

pub plain_caches : PlainCaches
plain_caches ss wanted.Bad old new none same = (ap (λ (p : Pictures). p.cache) same, ap (λ (p : Pictures). p.cursors) same)
plain_caches ss wanted.WrongMethod old new none same = (ap (λ (p : Pictures). p.cache) same, ap (λ (p : Pictures). p.cursors) same)
plain_caches ss wanted.Missing old new none same = (ap (λ (p : Pictures). p.cache) same, ap (λ (p : Pictures). p.cursors) same)
plain_caches ss wanted.Streams old new none same = (ap (λ (p : Pictures). p.cache) same, ap (λ (p : Pictures). p.cursors) same)
plain_caches ss (wanted.Info k) old new none same = (ap (λ (p : Pictures). p.cache) same, ap (λ (p : Pictures). p.cursors) same)
plain_caches ss (wanted.Frame k n) old new none is = picture_caches (slice_get ss.sources k) k n old new none is
plain_caches ss (wanted.Video k n) old new none is = picture_caches (slice_get ss.sources k) k n old new none is
plain_caches ss (wanted.Still k n scale) old new none is = picture_caches (slice_get ss.sources k) k n old new none is

same_cursors : (old new : Pictures) → new ≡ old → new.cursors ≡ old.cursors
same_cursors old new same = ap (λ (p : Pictures). p.cursors) same

cut_short : (source : Option Source) (k n : ℕ) (old new : Pictures) → HasNone old.cursors → IsCutShort source k n old new → new.cursors ≡ old.cursors
cut_short None k n old new none same = same_cursors old new same
cut_short (Some s) k n old new none is = is.1 ∙ none_in_front old.cursors k s.stream.reading.packets n (initial_cursor s.stream.limits) none

picture_left : (source : Option Source) (k n : ℕ) (old new : Pictures) → HasNone old.cursors → IsLeftPicture source k n old new → new.cursors ≡ old.cursors
picture_left source k n old new none (inl same) = same_cursors old new same
picture_left source k n old new none (inr (inl cut)) = cut_short source k n old new none cut
picture_left source k n old new none (inr (inr after)) = (picture_caches source k n old new none after).1

left : (ss : Streams) (w : Resource) (old new : Pictures) → HasNone old.cursors → IsLeft ss w old new → new.cursors ≡ old.cursors
left ss wanted.Bad old new none same = same_cursors old new same
left ss wanted.WrongMethod old new none same = same_cursors old new same
left ss wanted.Missing old new none same = same_cursors old new same
left ss wanted.Streams old new none same = same_cursors old new same
left ss (wanted.Info k) old new none same = same_cursors old new same
left ss (wanted.Frame k n) old new none is = picture_left (slice_get ss.sources k) k n old new none is
left ss (wanted.Video k n) old new none is = picture_left (slice_get ss.sources k) k n old new none is
left ss (wanted.Still k n scale) old new none is = picture_left (slice_get ss.sources k) k n old new none is

-- ---- a hub

either : (t : Bool) (A B C : Type 0) → (A → C) → (B → C) → Chosen t A B → C
either true A B C f g h = f h
either false A B C f g h = g h

byte_stays : (ss : Streams) (b : ℕ) (v : ConnectionState) (old new : Pictures) (cost : ℕ) → HasNone old.cursors → CostsByte ss b v old new cost → new.cursors ≡ old.cursors
byte_stays ss b v old new cost none =
    either v.closed _ _ (new.cursors ≡ old.cursors) (λ h. same_cursors old new h.0)
    (either (ends_head (v.pending ++ b ∷ [])) _ _ (new.cursors ≡ old.cursors)
    (λ h. (plain_caches ss h.request.wanted old new none h.after).1)
    (λ h. same_cursors old new h.0))

still_none : (old new : Cursors) → new ≡ old → HasNone old → HasNone new
still_none old new same none = subst HasNone (sym same) none

costs_stay : (ss : Streams) (bs : List ℕ) (v w : ConnectionState × List ℕ) (old new : Pictures) (cost : ℕ) → HasNone old.cursors → Costs ss bs v w old new cost → new.cursors ≡ old.cursors
costs_stay ss [] v w old new cost none h = same_cursors old new h.1
costs_stay ss (b ∷ bs) v w old new cost none (mid, pictures, first, rest, takes, costs, more, is) =
    let here = byte_stays ss b v.0 old pictures first none costs in
    costs_stay ss bs mid w pictures new rest (still_none old.cursors pictures.cursors here none) more ∙ here

piece_stays : (ss : Streams) (piece : List ℕ) (o : Option ConnectionState) (old new : Pictures) (cost : ℕ) → HasNone old.cursors → CostsPiece ss piece o old new cost → new.cursors ≡ old.cursors
piece_stays ss piece None old new cost none h = same_cursors old new h.0
piece_stays ss piece (Some v) old new cost none h = costs_stay ss piece (v, []) h.0 old new cost none h.1

byte_left : (ss : Streams) (b : ℕ) (v : ConnectionState) (old new : Pictures) (cost : ℕ) → HasNone old.cursors → CostsByteAtMost ss b v old new cost → new.cursors ≡ old.cursors
byte_left ss b v old new cost none (inl h) = same_cursors old new h.0
byte_left ss b v old new cost none (inr h) = left ss h.1.request.wanted old new none h.1.after

piece_left : (ss : Streams) (piece : List ℕ) (o : Option ConnectionState) (old new : Pictures) (work : ℕ) → HasNone old.cursors → CostsPieceAtMost ss piece o old new work → new.cursors ≡ old.cursors
piece_left ss piece None old new work none h = same_cursors old new h.0
piece_left ss piece (Some v) old new work none h =
    let front = costs_stay ss h.front (v, []) h.mid old h.pictures h.before none h.costs in
    byte_left ss h.byte h.mid.0 h.pictures new h.last (still_none old.cursors h.pictures.cursors front none) h.ends ∙ front

work_stays : (e : Event) (s : HubState) (old new : Pictures) (cost : ℕ) → HasNone old.cursors → IsWork e s old new cost → new.cursors ≡ old.cursors
work_stays (Feed name piece) s old new cost none h = same_cursors old new h.0
work_stays (End name) s old new cost none h = same_cursors old new h.0
work_stays (Open c) s old new cost none h = same_cursors old new h.0
work_stays (Bytes c piece) s old new cost none h = piece_stays s.streams piece (connection_state_of c s.connections) old new cost none h
work_stays (Shut c) s old new cost none h = same_cursors old new h.0

work_left : (e : Event) (s : HubState) (old new : Pictures) (work : ℕ) → HasNone old.cursors → IsWorkAtMost e s old new work → new.cursors ≡ old.cursors
work_left (Feed name piece) s old new work none h = same_cursors old new h.0
work_left (End name) s old new work none h = same_cursors old new h.0
work_left (Open c) s old new work none h = same_cursors old new h.0
work_left (Bytes c piece) s old new work none h = piece_left s.streams piece (connection_state_of c s.connections) old new work none h
work_left (Shut c) s old new work none h = same_cursors old new h.0

other_than : (o : Outcome) → (o ≡ Err fault.Memory) ⊎ (o ≢ Err fault.Memory)
other_than (Ok r) = inr (λ e. cc)
other_than (Err fault.UnknownStream) = inr (λ e. cc)
other_than (Err fault.Ended) = inr (λ e. cc)
other_than (Err fault.UnknownConn) = inr (λ e. cc)
other_than (Err fault.AlreadyOpen) = inr (λ e. cc)
other_than (Err fault.TooMany) = inr (λ e. cc)
other_than (Err fault.Failed) = inr (λ e. cc)
other_than (Err fault.Memory) = inl refl

pub hubs_stay : PlainHubsStay
hubs_stay old e o new none h = elim (other_than o) [
  | inl memory ↦ work_left e old.state (pictures_of old) (pictures_of new) new.work none (h.most memory)
  | inr fine ↦ let work = h.work fine in work_stays e old.state (pictures_of old) (pictures_of new) work.0 none work.1
]

pub runs_stay : PlainRunsStay
runs_stay old [] [] new none run = ap (λ (h : Hub). h.cursors) run
runs_stay old (e ∷ es) (o ∷ os) new none run =
    let here = hubs_stay old e o run.0 none run.2 in
    runs_stay run.0 es os new (still_none old.cursors run.0.cursors here none) run.3 ∙ here
runs_stay old [] (o ∷ os) new none run = absurd run
runs_stay old (e ∷ es) [] new none run = absurd run

pub no_room : NoRoomIsNone
no_room limits = (refl, refl)
