-- Entries while streams grow.
use Rattle.std.proofs.Common.{◌≡◌, ◌≢◌, ℕ, zero, suc, List, [], ◌∷◌, ◌++◌, Option, Some, None, refl, sym, ap, subst, ◌∙◌, inl, inr, ◌⊎◌}
use Rattle.std.specs.Prelude.{slice_get, slice_set}
use Rattle.std.proofs.lemmas.Option.{same_Some, none-some}
use Rattle.vp_base.specs.declared.limits.Limits.{Limits}
use Rattle.vp_ivf.specs.declared.fault.FileFault.{FileFault}
use Rattle.vp_ivf.specs.Ivf.{Contents, resume_at, read_from}
use Rattle.vp_stream.specs.Seeking.{NoPacket, answer_at}
use Rattle.vp_stream.specs.Stream.{Stream as StreamState}
use Rattle.vp_stream.proofs.AnswerLemmas.{answers_stay}
use Rattle.vp_cache.specs.Cache.{AreAnswersOf, cached_answer}
use Rattle.vp_cache.specs.Cursors.{AreCursorsOf}
use Rattle.vp_cache.specs.Streams.{GrowingKeepsEntries, OneGrowing, GrowingKeepsCursors, OneGrowingKeepsCursors}

pub grows : GrowingKeepsEntries
grows number old new entries grown kept = record {
  each = λ e c same.
      let was = kept.each e c same in
      grown e.0.1 (λ none. let no : cached_answer e.1 ≡ NoPacket = sym was ∙ none in cc) ∙ was;
}

-- with one stream in place of another, each stream is the new one at its place, or was there
at_place : (k i : ℕ) (old new s : StreamState) (streams : List StreamState) → slice_get streams k ≡ Some old
    → slice_get (slice_set streams k new) i ≡ Some s → ((i ≡ k) × (s ≡ new)) ⊎ (slice_get streams i ≡ Some s)
at_place k i old new s [] there at = absurd (none-some old there)
at_place zero zero old new s (x ∷ xs) there at = inl (refl, sym (same_Some new s at))
at_place zero (suc i) old new s (x ∷ xs) there at = inr at
at_place (suc k) zero old new s (x ∷ xs) there at = inr at
at_place (suc k) (suc i) old new s (x ∷ xs) there at = elim (at_place k i old new s xs there at) [
  | inl here ↦ inl (ap suc here.0, here.1)
  | inr was ↦ inr was
]

pub one_grows : OneGrowing
one_grows k old new streams entries there grown kept i s at = elim (at_place k i old new s streams there at) [
  | inl here ↦
      subst (λ (t : StreamState). AreAnswersOf i t entries) (sym here.1)
      (subst (λ (j : ℕ). AreAnswersOf j new entries) (sym here.0) (grows k old new entries grown (kept k old there)))
  | inr was ↦ kept i s was
]

pub fed_grows : (f : Option FileFault) (limits : Limits) (r : Contents) (piece : List ℕ) (n : ℕ)
    → answer_at limits r.packets n ≢ NoPacket → answer_at limits (resume_at f limits.packet_bytes r piece).packets n ≡ answer_at limits r.packets n
fed_grows (Some f) limits r piece n h = refl
fed_grows None limits r piece n h =
    answers_stay limits None r.packets (read_from r.head limits.packet_bytes r.left (r.rest ++ piece)).packets n h

-- ---- cursors

pub cursors_grow : GrowingKeepsCursors
cursors_grow number old new entries grown kept = record {
  each = λ e at same. grown e.1 (kept.each e at same);
}

pub one_cursors_grow : OneGrowingKeepsCursors
one_cursors_grow k old new streams entries there grown kept i s at = elim (at_place k i old new s streams there at) [
  | inl here ↦
      subst (λ (t : StreamState). AreCursorsOf i t entries) (sym here.1)
      (subst (λ (j : ℕ). AreCursorsOf j new entries) (sym here.0) (cursors_grow k old new entries grown (kept k old there)))
  | inr was ↦ kept i s was
]
