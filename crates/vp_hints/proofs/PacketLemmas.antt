-- The count of packets, as the bytes pass.
use Rattle.std.proofs.Common.{◌≡◌, ◌∙◌, ℕ, ◌+◌, ◌-◌, ◌≤◌, ◌++◌, ◌∷◌, [], List, length, take, drop, sym, ap, subst, refl, zero, suc, arith, le_of_suc-le-suc, not-suc-le-zero, true, false, ◌*◌, ◌/◌, ◌^◌, min}
use Rattle.std.specs.Prelude.{nat_lt, slice_index, ◌<◌, ◌==◌, if◌then◌else◌}
use Rattle.std.proofs.lemmas.Bool.{le-ltb, lt-ltb, ne_eqb}
use Rattle.std.proofs.lemmas.List.{take-append-drop}
use Rattle.vp_hints.specs.declared.packets.Place.{Place}
use Rattle.vp_hints.specs.declared.packets.Place.TheVariants.{Packet, PacketHead}
use Rattle.vp_hints.specs.declared.packets.PacketCount.{PacketCount}
use Rattle.vp_hints.specs.Packets.{count_after, counted_after, place_behind_head, time_behind, time_with}

counted_append : (c : PacketCount) (xs ys : List ℕ) → counted_after c (xs ++ ys) ≡ counted_after (counted_after c xs) ys
counted_append c [] ys = refl
counted_append c (x ∷ xs) ys = counted_append (count_after c x) xs ys

-- then some inside a packet pass
pub then_inside : (c d e : PacketCount) (bytes others inside rest : List ℕ) → counted_after d others ≡ counted_after c bytes
    → others ≡ inside ++ rest → e ≡ counted_after d inside → counted_after e rest ≡ counted_after c bytes
then_inside c d e bytes others inside rest before are is = rw (is) (sym (counted_append d inside rest) ∙ (ap (counted_after d) (sym are) ∙ before))

stepped : (m l whole time byte : ℕ) → nat_lt (suc m) 2 ≡ false → suc m - 1 ≡ suc l
    → count_after (record { place = Packet (suc m); whole = whole; time = time }) byte ≡ record { place = Packet (suc l); whole = whole; time = time }
stepped m l whole time byte many one = rw (many, one) refl

passed_inside : (n m k whole time : ℕ) (bytes : List ℕ) → m ≡ k + n → n ≤ length bytes
    → counted_after (record { place = Packet (suc m); whole = whole; time = time }) (take n bytes) ≡ record { place = Packet (suc k); whole = whole; time = time }
passed_inside zero m k whole time [] e le = let f : m ≡ k = omega (arith, e) in rw (f) refl
passed_inside zero m k whole time (b ∷ bytes) e le = let f : m ≡ k = omega (arith, e) in rw (f) refl
passed_inside (suc n) m k whole time [] e le = absurd (not-suc-le-zero le)
passed_inside (suc n) m k whole time (b ∷ bytes) e le =
    let l : ℕ = m - 1 in
    let many : nat_lt (suc m) 2 ≡ false = le-ltb (suc m) 2 (omega (arith, e)) in
    let one : suc m - 1 ≡ suc l = omega (arith, e) in
    let f : l ≡ k + n = omega (arith, e) in
    ap (λ c. counted_after c (take n bytes)) (stepped m l whole time b many one) ∙ passed_inside n l k whole time bytes f (le_of_suc-le-suc le)

counted_none : (c : PacketCount) (bytes : List ℕ) → c ≡ counted_after c (take zero bytes)
counted_none c [] = refl
counted_none c (b ∷ bytes) = refl

skipped : (old : PacketCount) (left n : ℕ) (bytes : List ℕ) → old.place ≡ Packet left → n ≤ length bytes → n ≤ left - 1
    → record old { place = Packet (left - n) } ≡ counted_after old (take n bytes)
skipped old left zero bytes is le small =
    let e : left - zero ≡ left = omega (arith) in
    rw (e) (subst (λ p. record old { place = p } ≡ counted_after old (take zero bytes)) is (counted_none old bytes))
skipped old left (suc n) bytes is le small =
    let k : ℕ = left - suc (suc n) in
    let m : ℕ = k + suc n in
    let e : left ≡ suc m = omega (arith, small) in
    let f : left - suc n ≡ suc k = omega (arith, small) in
    let g : counted_after (record { place = Packet left; whole = old.whole; time = old.time }) (take (suc n) bytes) ≡ record { place = Packet (suc k); whole = old.whole; time = old.time } =
    subst (λ l. counted_after (record { place = Packet l; whole = old.whole; time = old.time }) (take (suc n) bytes) ≡ record { place = Packet (suc k); whole = old.whole; time = old.time }) (sym e)
    (passed_inside (suc n) m k old.whole old.time bytes refl le) in
    rw (f) (sym g ∙ ap (λ p. counted_after (record { place = p; whole = old.whole; time = old.time }) (take (suc n) bytes)) (sym is))

-- the bytes inside a packet pass at once
pub inside_passed : (old new : PacketCount) (left n : ℕ) (bytes : List ℕ) → old.place ≡ Packet left → n ≤ length bytes → n ≤ left - 1
    → new ≡ record old { place = Packet (left - n) }
    → (inside : List ℕ) × (bytes ≡ inside ++ drop n bytes) × (new ≡ counted_after old inside)
inside_passed old new left n bytes is le small made =
    (take n bytes, sym (take-append-drop n bytes), made ∙ skipped old left n bytes is le small)

-- ---- a packet's head

headed : (passed size whole time byte : ℕ) → nat_lt passed 4 ≡ false → nat_lt passed 11 ≡ true → (passed == 11) ≡ false
    → count_after (record { place = PacketHead passed size; whole = whole; time = time }) byte
    ≡ record { place = PacketHead (passed + 1) size; whole = whole; time = time_with time byte }
headed passed size whole time byte late more not_last = rw (late, more, not_last) refl

head_left : (passed size whole time : ℕ) (bytes : List ℕ) → 4 ≤ passed → 0 < length bytes → passed + length bytes ≡ 12
    → counted_after (record { place = PacketHead passed size; whole = whole; time = time }) bytes
    ≡ record { place = place_behind_head size; whole = if size == 0 then min (whole + 1) (2 ^ 64 - 1) else whole; time = time_behind time bytes }
head_left passed size whole time [] late some long = absurd (not-suc-le-zero some)
head_left passed size whole time (b ∷ []) late some long = let e : passed ≡ 11 = omega arith in rw e refl
head_left passed size whole time (b ∷ d ∷ bytes) late some long =
    let before : nat_lt passed 4 ≡ false = le-ltb passed 4 late in
    let more : nat_lt passed 11 ≡ true = lt-ltb passed 11 (omega arith) in
    let not_last : (passed == 11) ≡ false = ne_eqb passed 11 (λ e. no passed (length bytes) e long) in
    ap (λ c. counted_after c (d ∷ bytes)) (headed passed size whole time b before more not_last)
    ∙ head_left (passed + 1) size whole (time_with time b) (d ∷ bytes) (omega arith) (omega arith) (omega arith)
  where
    no : (p n : ℕ) → p ≡ 11 → p + suc (suc n) ≡ 12 → ⊥
    no p n e f = omega arith

head_whole : (w t s1 s2 s3 s4 : ℕ) (head : List ℕ) → length head ≡ 12
    → s1 ≡ 0 / 256 + slice_index head 0 * 2 ^ 24 → s2 ≡ s1 / 256 + slice_index head 1 * 2 ^ 24
    → s3 ≡ s2 / 256 + slice_index head 2 * 2 ^ 24 → s4 ≡ s3 / 256 + slice_index head 3 * 2 ^ 24
    → counted_after (record { place = PacketHead 0 0; whole = w; time = t }) head
    ≡ record { place = place_behind_head s4; whole = if s4 == 0 then min (w + 1) (2 ^ 64 - 1) else w; time = time_behind t (drop 4 head) }
head_whole w t s1 s2 s3 s4 [] long a b c d = absurd (omega (arith, long))
head_whole w t s1 s2 s3 s4 (x ∷ []) long a b c d = absurd (omega (arith, long))
head_whole w t s1 s2 s3 s4 (x ∷ y ∷ []) long a b c d = absurd (omega (arith, long))
head_whole w t s1 s2 s3 s4 (x ∷ y ∷ z ∷ []) long a b c d = absurd (omega (arith, long))
head_whole w t s1 s2 s3 s4 (x ∷ y ∷ z ∷ v ∷ rest) long a b c d =
    rw (d, c, b, a) (head_left 4 _ w t rest (omega arith) (omega arith) (omega arith))

-- a head passes at once
pub head_passed : (old : PacketCount) (place : Place) (whole time s1 s2 s3 s4 : ℕ) (head : List ℕ) → old.place ≡ PacketHead 0 0 → length head ≡ 12
    → s1 ≡ 0 / 256 + slice_index head 0 * 2 ^ 24 → s2 ≡ s1 / 256 + slice_index head 1 * 2 ^ 24
    → s3 ≡ s2 / 256 + slice_index head 2 * 2 ^ 24 → s4 ≡ s3 / 256 + slice_index head 3 * 2 ^ 24
    → place ≡ place_behind_head s4 → whole ≡ (if s4 == 0 then min (old.whole + 1) (2 ^ 64 - 1) else old.whole)
    → time ≡ time_behind old.time (drop 4 head)
    → record { place = place; whole = whole; time = time } ≡ counted_after old head
head_passed old place whole time s1 s2 s3 s4 head first long a b c d p w t =
    rw (p, w, t) (sym (head_whole old.whole old.time s1 s2 s3 s4 head long a b c d)
    ∙ ap (λ p. counted_after (record { place = p; whole = old.whole; time = old.time }) head) (sym first))
