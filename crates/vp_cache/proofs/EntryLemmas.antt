-- What a cache keeps after a question.
use Rattle.std.proofs.Common.{◌≡◌, ℕ, zero, suc, ◌-◌, ◌<◌, Bool, true, false, ◌&&◌, nat_eq, List, [], ◌∷◌, take, Contains, Option, Some, None, refl, sym, ap, subst, inl, inr, ◌∙◌, arith}
use Rattle.std.specs.Prelude.{Result, Ok, Err, OnErr, length, slice_get}
use Rattle.std.specs.Option.{option_map_or}
use Rattle.std.specs.Map.{lookup, lookup_entry, remove_entry}
use Rattle.std.proofs.lemmas.Bool.{eqb-true}
use Rattle.std.proofs.lemmas.Option.{same_Some}
use Rattle.lru.specs.LruCache.{LruCache, lru_cache, promoted, put_entries}
use Rattle.lru.proofs.Splits.{Contains-cons}
use Rattle.lru.proofs.CallerLemmas.{Contains-lookup, Contains-remove_entry}
use Rattle.vp_ivf.specs.declared.packet.Packet.{Packet}
use Rattle.vp_stream.specs.Seeking.{AnswerValue, NoPacket, answer_at}
use Rattle.vp_base.specs.declared.limits.Limits.{Limits}
use Rattle.vp_decode.specs.Step.{step, DecoderState}
use Rattle.vp_stream.specs.Answers.{answers_from}
use Rattle.vp_stream.specs.Seeking.{answer_or_none}
use Rattle.vp_stream.specs.Stream.{Stream as StreamState}
use Rattle.vp_cache.specs.Cache.{CachedPicture, CacheEntry, Cache, AreAnswersOf, IsAnswerIf, moved_to_front, cached_answer, option_shown, pair_eq, cached, in_front}

both : (a b : Bool) → (a && b) ≡ true → (a ≡ true) × (b ≡ true)
both true b h = (refl, h)
both false b h = cc

-- keys that the test takes for equal are
pub same_key : (a b : ℕ × ℕ) → pair_eq a b ≡ true → a ≡ b
same_key a b h =
    let p = both (nat_eq a.0 b.0) (nat_eq a.1 b.1) h in
    let first : a.0 ≡ b.0 = eqb-true a.0 b.0 p.0 in
    let second : a.1 ≡ b.1 = eqb-true a.1 b.1 p.1 in
    λ i. (first i, second i)

-- ---- what is found under a key

entry_found : (key : ℕ × ℕ) (es : List CacheEntry) (p : CachedPicture) → lookup (pair_eq key) es ≡ Some p → lookup_entry (pair_eq key) es ≡ Some (key, p)
entry_found key [] p h = cc
entry_found key (f ∷ es) p h = (elim (pair_eq key f.0) as (λ y. pair_eq key f.0 ≡ y → lookup_entry (pair_eq key) (f ∷ es) ≡ Some (key, p)) [
  | true ↦ λ t.
      let at : Some f.1 ≡ Some p = rw t at h in
      let value : f.1 ≡ p = same_Some f.1 p at in
      let keys : f.0 ≡ key = sym (same_key key f.0 t) in
      rw t (λ i. Some (keys i, value i))
  | false ↦ λ t. rw t (entry_found key es p (rw t at h))
]) refl

no_entry : (key : ℕ × ℕ) (es : List CacheEntry) → lookup (pair_eq key) es ≡ None → lookup_entry (pair_eq key) es ≡ None
no_entry key [] h = refl
no_entry key (f ∷ es) h = (elim (pair_eq key f.0) as (λ y. pair_eq key f.0 ≡ y → lookup_entry (pair_eq key) (f ∷ es) ≡ None) [
  | true ↦ λ t. let at : Some f.1 ≡ None = rw t at h in cc
  | false ↦ λ t. rw t (no_entry key es (rw t at h))
]) refl

-- a key that is found comes to the front with what is found
pub promoted-found : (key : ℕ × ℕ) (es : List CacheEntry) (p : CachedPicture) → lookup (pair_eq key) es ≡ Some p → promoted (pair_eq key) es ≡ in_front key p es
promoted-found key es p h =
    ap (λ (o : Option CacheEntry). option_map_or (λ e. e ∷ remove_entry (pair_eq key) es) o es) (entry_found key es p h)

cut : (cap : ℕ) (e : CacheEntry) (es : List CacheEntry) → 0 < cap → e ∷ take (cap - 1) es ≡ take cap (e ∷ es)
cut zero e es h = let no : ⊥ = omega (arith, h) in absurd no
cut (suc n) e es h = let k : suc n - 1 ≡ n = omega arith in ap (λ m. e ∷ take m es) k

-- a new key comes to the front, and the list is cut
pub put_entries-new : (key : ℕ × ℕ) (p : CachedPicture) (c : LruCache (ℕ × ℕ) CachedPicture) → 0 < c.cap → lookup (pair_eq key) c.entries ≡ None
    → put_entries pair_eq c key p ≡ take c.cap ((key, p) ∷ c.entries)
put_entries-new key p c room h =
    ap (λ (o : Option CacheEntry). option_map_or (λ e. (e.0, p) ∷ remove_entry (pair_eq key) c.entries) o ((key, p) ∷ take (c.cap - 1) c.entries)) (no_entry key c.entries h)
    ∙ cut c.cap (key, p) c.entries room

-- ---- an answer that was found, or not

abbrev pub IsFound : Option CachedPicture → AnswerValue → Type 0
IsFound o a = (p : CachedPicture) × (o ≡ Some p) × (a ≡ cached_answer p)

pub found : (o : Option CachedPicture) (a : AnswerValue) → Some a ≡ option_shown o → IsFound o a
found (Some p) a h = (p, refl, same_Some a (cached_answer p) h)
found None a h = cc

-- a cache as its entries and its capacity
abbrev pub seen : LruCache (ℕ × ℕ) CachedPicture → Cache
seen c = record { entries = c.entries; capacity = c.cap }

-- ---- each entry was there, or is the answer

-- ---- the answer that was found is the stream's

pub found_is_answer : (number n : ℕ) (a : AnswerValue) (s : StreamState) (es : List CacheEntry) → Some a ≡ option_shown (cached number n es)
    → AreAnswersOf number s es → a ≡ answer_at s.limits s.reading.packets n
found_is_answer number n a s es h kept =
    let f = found (cached number n es) a h in
    let was = Contains-lookup (pair_eq (number, n)) es f.0 f.1 in
    let key : (number, n) ≡ was.0 = same_key (number, n) was.0 was.2 in
    f.2 ∙ (sym (kept.each (was.0, f.0) was.1 (ap (λ (k : ℕ × ℕ). k.0) (sym key)))
    ∙ ap (λ (k : ℕ × ℕ). answer_at s.limits s.reading.packets k.1) (sym key))

-- ---- the count

-- ---- a picture that is moved_to_front to the front

not_promoted : (key : ℕ × ℕ) (es : List CacheEntry) → lookup (pair_eq key) es ≡ None → promoted (pair_eq key) es ≡ es
not_promoted key es h =
    ap (λ (o : Option CacheEntry). option_map_or (λ e. e ∷ remove_entry (pair_eq key) es) o es) (no_entry key es h)

promoted_is : (old : Cache) (number n : ℕ) (o : Option CachedPicture) → cached number n old.entries ≡ o
    → record { entries = promoted (pair_eq (number, n)) old.entries; capacity = old.capacity } ≡ moved_to_front old number n o
promoted_is old number n (Some p) h = ap (λ (es : List CacheEntry). record old { entries = es }) (promoted-found (number, n) old.entries p h)
promoted_is old number n None h = ap (λ (es : List CacheEntry). record old { entries = es }) (not_promoted (number, n) old.entries h)

pub brought_is : (old : Cache) (inside new : LruCache (ℕ × ℕ) CachedPicture) (number n : ℕ) → seen inside ≡ old
    → new ≡ lru_cache (promoted (pair_eq (number, n)) inside.entries) inside.cap → seen new ≡ moved_to_front old number n (cached number n old.entries)
brought_is old inside new number n was is =
    ap seen is ∙ ap (λ (s : Cache). record { entries = promoted (pair_eq (number, n)) s.entries; capacity = s.capacity }) was
    ∙ promoted_is old number n (cached number n old.entries) refl

brought_entry : (old : Cache) (number n : ℕ) (o : Option CachedPicture) (e : CacheEntry) → cached number n old.entries ≡ o
    → Contains (moved_to_front old number n o).entries e → Contains old.entries e
brought_entry old number n (Some p) e h c =
    let was = Contains-lookup (pair_eq (number, n)) old.entries p h in
    elim (Contains-cons ((number, n), p) (remove_entry (pair_eq (number, n)) old.entries) e c) [
      | inl same ↦ subst (Contains old.entries) ((λ i. (sym (same_key (number, n) was.0 was.2) i, p)) ∙ same) was.1
      | inr more ↦ Contains-remove_entry (pair_eq (number, n)) old.entries e more
    ]
brought_entry old number n None e h c = c

-- each entry was there
pub brought_keeps : (old : Cache) (number n other : ℕ) (s : StreamState) → AreAnswersOf other s old.entries
    → AreAnswersOf other s (moved_to_front old number n (cached number n old.entries)).entries
brought_keeps old number n other s kept = record {
  each = λ e c same. kept.each e (brought_entry old number n (cached number n old.entries) e refl c) same;
}

-- ---- what is kept is the stream's answer

held_by : (number n : ℕ) (s : StreamState) (es : List CacheEntry) (o : Option CachedPicture) → cached number n es ≡ o → AreAnswersOf number s es → IsAnswerIf o s n
held_by number n s es (Some p) h kept = sym (found_is_answer number n (cached_answer p) s es (ap option_shown (sym h)) kept)
held_by number n s es None h kept = tt

pub held_answer : (number n : ℕ) (s : StreamState) (es : List CacheEntry) → AreAnswersOf number s es → IsAnswerIf (cached number n es) s n
held_answer number n s es kept = held_by number n s es (cached number n es) refl kept

shown_there : (limits : Limits) (state : Option DecoderState) (ps : List Packet) (n : ℕ) (p : CachedPicture)
    → answer_or_none (slice_get (answers_from limits state ps) n) ≡ cached_answer p → n < length ps
shown_there limits state [] n p h = let no : NoPacket ≡ cached_answer p = h in cc
shown_there limits state (q ∷ ps) zero p h = omega arith
shown_there limits state (q ∷ ps) (suc n) p h = omega (arith, shown_there limits (step limits state q.bytes).0 ps n p h)

-- a picture that is kept is of a packet that is there
pub kept_there : {X Y : Type 0} (r : Result X Y) (number n : ℕ) (p : CachedPicture) (s : StreamState) (es : List CacheEntry) → Some p ≡ cached number n es
    → AreAnswersOf number s es → OnErr r (n < length s.reading.packets)
kept_there (Ok x) number n p s es h kept = tt
kept_there (Err y) number n p s es h kept =
    shown_there s.limits None s.reading.packets n p (held_by number n s es (Some p) (sym h) kept)
