-- Frames in order.
use Rattle.std.proofs.Common.{◌≡◌, ◌+◌, ◌<◌, ◌≤◌, ℕ, List, Option, Some, None, refl, sym, ap, subst, ◌∙◌, inl, inr, arith}
use Rattle.std.specs.Prelude.{length, slice_get}
use Rattle.std.proofs.lemmas.Bool.{cases_lt}
use Rattle.vp_ivf.specs.declared.packet.Packet.{Packet}
use Rattle.vp_cache.specs.Cache.{CachedPicture, cached}
use Rattle.vp_cache.specs.Cursors.{CursorEntry, Cursors, least_work, after_picture, unless_cached, work_with}
use Rattle.vp_cache.proofs.CursorLemmas.{next_costs_one, again_costs_none, least_none}
use Rattle.vp_hub.specs.declared.picture_cache.Pictures.{Pictures}
use Rattle.vp_hub.specs.declared.source.Source.{Source}
use Rattle.vp_hub.specs.Work.{picture_cost, IsAfterPicture}
use Rattle.vp_hub.specs.InOrder.{HitsCostNothing, MissesCostTheLeast, NextFrameCostsOne, SameFrameCostsNone}

hit_costs : (source : Option Source) (k n : ℕ) (pictures : Pictures) (p : CachedPicture) → cached k n pictures.cache.entries ≡ Some p → picture_cost source k n pictures ≡ 0
hit_costs None k n pictures p hit = refl
hit_costs (Some s) k n pictures p hit = ap (λ (o : Option CachedPicture). work_with o k s.stream.reading.packets n pictures.cursors.entries) hit

pub misses_cost_the_least : MissesCostTheLeast
misses_cost_the_least ss k n s pictures there missed =
    ap (λ (o : Option Source). picture_cost o k n pictures) there
    ∙ ap (λ (o : Option CachedPicture). work_with o k s.stream.reading.packets n pictures.cursors.entries) missed

pub hits_cost_nothing : HitsCostNothing
hits_cost_nothing ss k n pictures p hit = (hit_costs (slice_get ss.sources k) k n pictures p hit, hit_costs (slice_get ss.sources k) k n pictures p hit)

-- with the cache the cost is not more
with_at_most : (o : Option CachedPicture) (k : ℕ) (ps : List Packet) (n : ℕ) (es : List CursorEntry) → work_with o k ps n es ≤ least_work k ps n es
with_at_most (Some p) k ps n es = omega arith
with_at_most None k ps n es = omega arith

-- the cursors after the frame
cursors_after : (k n : ℕ) (s : Source) (old new : Pictures) → cached k n old.cache.entries ≡ None → IsAfterPicture (Some s) k n old new
    → new.cursors ≡ after_picture old.cursors k s.stream n
cursors_after k n s old new missed after =
    after.1 ∙ ap (λ (o : Option CachedPicture). unless_cached o old.cursors (after_picture old.cursors k s.stream n)) missed

module _ (k n : ℕ) (s : Source) (old new : Pictures) (room : 0 < old.cursors.capacity) (within : n < length s.stream.reading.packets)
    (are : new.cursors ≡ after_picture old.cursors k s.stream n) where
  next_at_most : least_work k s.stream.reading.packets (n + 1) (after_picture old.cursors k s.stream n).entries ≤ 1
  next_at_most = elim (cases_lt (n + 1) (length s.stream.reading.packets)) [
    | inl more ↦ next_costs_one old.cursors k s.stream n room more
    | inr end ↦ omega (arith, least_none k s.stream.reading.packets (n + 1) (after_picture old.cursors k s.stream n).entries end)
  ]

  next_picture : picture_cost (Some s) k (n + 1) new ≤ 1
  next_picture =
      let most = with_at_most (cached k (n + 1) new.cache.entries) k s.stream.reading.packets (n + 1) new.cursors.entries in
      let one : least_work k s.stream.reading.packets (n + 1) new.cursors.entries ≤ 1 =
      subst (λ (c : Cursors). least_work k s.stream.reading.packets (n + 1) c.entries ≤ 1) (sym are) next_at_most in
      omega (arith, most, one)

  same_picture : picture_cost (Some s) k n new ≡ 0
  same_picture =
      let most = with_at_most (cached k n new.cache.entries) k s.stream.reading.packets n new.cursors.entries in
      let none : least_work k s.stream.reading.packets n new.cursors.entries ≡ 0 =
      subst (λ (c : Cursors). least_work k s.stream.reading.packets n c.entries ≡ 0) (sym are) (again_costs_none old.cursors k s.stream n room within) in
      omega (arith, most, none)

pub next_frame : NextFrameCostsOne
next_frame ss k n s old new h =
    let after : IsAfterPicture (Some s) k n old new = subst (λ (o : Option Source). IsAfterPicture o k n old new) h.stream h.after in
    subst (λ (o : Option Source). picture_cost o k (n + 1) new ≤ 1) (sym h.stream)
    (next_picture k n s old new h.room h.there (cursors_after k n s old new h.missed after))

pub same_frame : SameFrameCostsNone
same_frame ss k n s old new h =
    let after : IsAfterPicture (Some s) k n old new = subst (λ (o : Option Source). IsAfterPicture o k n old new) h.stream h.after in
    subst (λ (o : Option Source). picture_cost o k n new ≡ 0) (sym h.stream)
    (same_picture k n s old new h.room h.there (cursors_after k n s old new h.missed after))
