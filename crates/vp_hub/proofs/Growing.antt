-- What is kept while one stream grows.
use Rattle.std.proofs.Common.{◌≡◌, ℕ, zero, suc, List, [], ◌∷◌, Some, map, refl, sym, ap, subst, ◌∙◌, inl, inr, ◌⊎◌}
use Rattle.std.specs.Prelude.{slice_get, slice_set}
use Rattle.std.proofs.lemmas.Bool.Decides.{eqb_tells}
use Rattle.std.proofs.lemmas.Option.{same_Some, none-some}
use Rattle.std.specs.Prelude.{◌≢◌}
use Rattle.vp_stream.specs.Stream.{Stream as StreamState}
use Rattle.vp_cache.specs.Cache.{CacheEntry, AreAnswersOf}
use Rattle.vp_cache.specs.Cursors.{AreCursorsOf}
use Rattle.vp_cache.specs.Cursors.{Cursors as CursorList}
use Rattle.vp_cache.specs.Streams.{IsGrown, KeepsCursors}
use Rattle.lru.proofs.Splits.{Contains-nil}
use Rattle.vp_cache.proofs.GrowthLemmas.{grows, cursors_grow}
use Rattle.vp_hub.specs.declared.source.Source.{Source}
use Rattle.vp_heads.specs.Routes.{name_index}
use Rattle.vp_hub.specs.Pages.{Streams}
use Rattle.vp_hub.specs.Hub.{AreKept, Outcome, at_name, new_source, stream_limits}
use Rattle.vp_hub.specs.Hub.{at_place as done_at_place, at_source}
use Rattle.vp_hub.specs.Work.{AreCursorsFor, HaveCursors}
use Rattle.vp_base.specs.declared.limits.Limits.{Limits}

-- with one stream in place of another, each stream is the new one at its place, or was there
at_place : (k i : ℕ) (old new s : Source) (sources : List Source) → slice_get sources k ≡ Some old
    → slice_get (slice_set sources k new) i ≡ Some s → ((i ≡ k) × (s ≡ new)) ⊎ (slice_get sources i ≡ Some s)
at_place k i old new s [] there at = absurd (none-some old there)
at_place zero zero old new s (x ∷ xs) there at = inl (refl, sym (same_Some new s at))
at_place zero (suc i) old new s (x ∷ xs) there at = inr at
at_place (suc k) zero old new s (x ∷ xs) there at = inr at
at_place (suc k) (suc i) old new s (x ∷ xs) there at = elim (at_place k i old new s xs there at) [
  | inl here ↦ inl (ap suc here.0, here.1)
  | inr was ↦ inr was
]

pub one_grows : (k : ℕ) (old new : Source) (sources : List Source) (entries : List CacheEntry) → slice_get sources k ≡ Some old
    → IsGrown old.stream new.stream → AreKept sources entries → AreKept (slice_set sources k new) entries
one_grows k old new sources entries there grown kept i s at = elim (at_place k i old new s sources there at) [
  | inl here ↦
      subst (λ (t : Source). AreAnswersOf i t.stream entries) (sym here.1)
      (subst (λ (j : ℕ). AreAnswersOf j new.stream entries) (sym here.0) (grows k old.stream new.stream entries grown (kept k old there)))
  | inr was ↦ kept i s was
]

-- the effect on the stream with a name that exists
pub at_name_there : (f : Source → Source × Outcome) (name : List ℕ) (streams : Streams) (k : ℕ) (old : Source) → name_index streams.names name ≡ Some k
    → slice_get streams.sources k ≡ Some old → at_name f name streams ≡ (record streams { sources = slice_set streams.sources k (f old).0 }, (f old).1)
at_name_there f name streams k old is there = ap (done_at_place f streams) is ∙ ap (at_source f k streams) there

-- nothing is kept at first
pub nothing_kept : (sources : List Source) → AreKept sources []
nothing_kept sources k s at = record { each = λ e c same. absurd (Contains-nil e c) }

-- ---- cursors

pub one_keeps_cursors : (k : ℕ) (old new : Source) (sources : List Source) (cursors : CursorList) → slice_get sources k ≡ Some old
    → KeepsCursors old.stream new.stream → new.stream.limits ≡ old.stream.limits → HaveCursors sources cursors → HaveCursors (slice_set sources k new) cursors
one_keeps_cursors k old new sources cursors there grown same kept i s at = elim (at_place k i old new s sources there at) [
  | inl here ↦
      let was = kept k old there in
      let now : AreCursorsFor k new.stream cursors = record { limits = same ∙ was.limits; entries = cursors_grow k old.stream new.stream cursors.entries grown was.entries } in
      subst (λ (t : Source). AreCursorsFor i t.stream cursors) (sym here.1) (subst (λ (j : ℕ). AreCursorsFor j new.stream cursors) (sym here.0) now)
  | inr was ↦ kept i s was
]

-- a request for one stream keeps the cursors of all
pub cursors_of_all : (k : ℕ) (source : Source) (sources : List Source) (old new : CursorList) → slice_get sources k ≡ Some source
    → AreCursorsFor k source.stream new → ((other : ℕ) (s : StreamState) → other ≢ k → AreCursorsFor other s old → AreCursorsFor other s new)
    → HaveCursors sources old → HaveCursors sources new
cursors_of_all k source sources old new there here others kept i s at = elim (eqb_tells i k) [
  | inl e ↦
      let same : source ≡ s = same_Some source s (sym there ∙ (sym (ap (slice_get sources) e.1) ∙ at)) in
      subst (λ (t : Source). AreCursorsFor i t.stream new) same (subst (λ (j : ℕ). AreCursorsFor j source.stream new) (sym e.1) here)
  | inr e ↦ others i s.stream e.1 (kept i s at)
]

same_each : (x s : Source) (names : List (List ℕ)) (k : ℕ) → slice_get (map (λ _. x) names) k ≡ Some s → s ≡ x
same_each x s [] k at = absurd (none-some s at)
same_each x s (n ∷ names) zero at = sym (same_Some x s at)
same_each x s (n ∷ names) (suc k) at = same_each x s names k at

-- no cursors at first
pub no_cursors_yet : (names : List (List ℕ)) (limits : Limits) (cursors : CursorList) → cursors.limits ≡ stream_limits limits
    → ((number : ℕ) (s : Source) → AreCursorsOf number s.stream cursors.entries) → HaveCursors (map (λ _. new_source limits) names) cursors
no_cursors_yet names limits cursors same none k s at = record {
  limits = ap (λ (t : Source). t.stream.limits) (same_each (new_source limits) s names k at) ∙ sym same;
  entries = none k s;
}
