-- A frame's macroblocks while they are read: the list of those that are read, and the maps that it stands for.
use Rattle.std.proofs.Common.{[]}
use Rattle.vp_decode.proofs.Words.{◌≡◌, ◌∙◌, ℕ, zero, suc, ◌+◌, ◌*◌, ◌<◌, ◌≤◌, List, ◌∷◌, ◌++◌, length, map, drop, replicate, true, Bor, Some, None, refl, ap, sym, arith, Option, option_map, unwrap_or, slice_get, slice_index_or, slice_set, IfSome, slice_get-map, slice_get_within, slice_get-get_or, unwrap_or-slice_get, map-append, length-map, length-replicate, Place, State, bind, Has, changed, repeated, with_entry, entry-inside, number_fits, Header, is_intra, Modes, plain, plain_of, sub_of, modes_at, MacroblockMotion, intra, modes_in, motion_in, with_modes, macroblock_read, MacroblockReader, IsAhead, IsNext, begun, kept_modes, maps_of, maps_so_far, modes_before, with_macroblock, maps_before, get_or_from_slice_get, set-get_or}
use Rattle.std.proofs.Math.Seq.{drop-nil}
use Rattle.vp_tables.specs.declared.modes.SubMode.TheVariants as sub_is
use Rattle.vp_decode.specs.declared.macroblocks.Macroblock.{Macroblock}

-- ---- lists whose first items are replaced

get-read : {A : Type 0} (read rest : List A) (k : ℕ) → k < length read → slice_get (read ++ rest) k ≡ slice_get read k
get-read [] rest k h = absurd (omega arith)
get-read (x ∷ xs) rest zero h = refl
get-read (x ∷ xs) rest (suc k) h = get-read xs rest k (omega arith)

get-unread : {A : Type 0} (read before : List A) (k : ℕ) → length read ≤ k → slice_get (read ++ drop (length read) before) k ≡ slice_get before k
get-unread [] before k h = refl
get-unread (x ∷ xs) before zero h = absurd (omega arith)
get-unread (x ∷ xs) [] (suc k) h =
    ap (λ ys. slice_get (xs ++ ys) k) (sym (drop-nil (length xs))) ∙ get-unread xs [] k (omega arith)
get-unread (x ∷ xs) (b ∷ bs) (suc k) h = get-unread xs bs k (omega arith)

begun-read : {A : Type 0} (before read : List A) (k : ℕ) → k < length read → slice_get (begun before read) k ≡ slice_get read k
unfolding begun
begun-read before read k h = get-read read (drop (length read) before) k h

begun-unread : {A : Type 0} (before read : List A) (k : ℕ) → length read ≤ k → slice_get (begun before read) k ≡ slice_get before k
unfolding begun
begun-unread before read k h = get-unread read before k h

begun-more : {A : Type 0} (before read : List A) (a : A) → length read < length before → begun before (read ++ a ∷ []) ≡ slice_set (begun before read) (length read) a
unfolding begun
begun-more [] read a h = absurd (omega arith)
begun-more (b ∷ bs) [] a h = refl
begun-more (b ∷ bs) (x ∷ xs) a h = ap (λ ys. x ∷ ys) (begun-more bs xs a (omega arith))

begun-none : {A : Type 0} (before : List A) → begun before [] ≡ before
unfolding begun
begun-none before = refl

begun-all : {A : Type 0} (before read : List A) → length read ≡ length before → begun before read ≡ read
unfolding begun
begun-all [] [] h = refl
begun-all (b ∷ bs) [] h = absurd (let no : 0 ≡ suc (length bs) = h in omega arith)
begun-all [] (x ∷ xs) h = absurd (let no : suc (length xs) ≡ 0 = h in omega arith)
begun-all (b ∷ bs) (x ∷ xs) h =
    ap (λ ys. x ∷ ys) (begun-all bs xs (let m : suc (length xs) ≡ suc (length bs) = h in omega arith))

set-same : {A : Type 0} (xs : List A) (k : ℕ) (a : A) → slice_get xs k ≡ Some a → slice_set xs k a ≡ xs
set-same xs k a h = ap (λ y. slice_set xs k y) (sym (get_or_from_slice_get xs k a a h)) ∙ set-get_or xs k a

get-past : {A : Type 0} (xs : List A) (k : ℕ) → None ≡ slice_get xs k → length xs ≤ k
get-past [] k e = omega arith
get-past (x ∷ xs) zero e = absurd cc
get-past (x ∷ xs) (suc k) e = let h = get-past xs k e in omega (arith, h)

-- each item of a list of equal ones
get-same : {A : Type 0} (n k : ℕ) (a : A) → unwrap_or (slice_get (replicate n a) k) a ≡ a
get-same zero k a = refl
get-same (suc n) zero a = refl
get-same (suc n) (suc k) a = get-same n k a

-- ---- the modes before a frame

pub kept-length : (columns rows : ℕ) (kept : Option (Bor (List ℕ))) → IfSome kept (λ s. length s.now ≡ rows * columns)
    → length (kept_modes columns rows (option_map (λ s. s.now) kept)) ≡ rows * columns
unfolding repeated
kept-length columns rows None h = length-replicate (rows * columns) plain
kept-length columns rows (Some s) h = length-map s.now plain_of ∙ h

plain-sub : (o : Option ℕ) (k : ℕ) → sub_of (unwrap_or (option_map plain_of o) plain) k ≡ sub_is.Dc
unfolding sub_of plain
plain-sub None k = refl
plain-sub (Some s) k = refl

kept-sub : (columns rows : ℕ) (kept : Option (List ℕ)) (n k : ℕ) → sub_of (unwrap_or (slice_get (kept_modes columns rows kept) n) plain) k ≡ sub_is.Dc
unfolding repeated
kept-sub columns rows None n k = ap (λ m. sub_of m k) (get-same (rows * columns) n plain) ∙ plain-sub None k
kept-sub columns rows (Some segments) n k = ap (λ o. sub_of (unwrap_or o plain) k) (slice_get-map plain_of segments n) ∙ plain-sub (slice_get segments n) k

plain-segment : plain.segment ≡ 0
unfolding plain
plain-segment = refl

none-segment : (columns rows : ℕ) (kept : Option (List ℕ)) (n : ℕ) → kept ≡ None → (unwrap_or (slice_get (kept_modes columns rows kept) n) plain).segment ≡ 0
unfolding repeated
none-segment columns rows kept n e = rw e (ap (λ (m : Modes). m.segment) (get-same (rows * columns) n plain) ∙ plain-segment)

some-segment : (columns rows : ℕ) (kept : Option (List ℕ)) (n d : ℕ) (segments : List ℕ) → kept ≡ Some segments → n < length segments
    → (unwrap_or (slice_get (kept_modes columns rows kept) n) plain).segment ≡ slice_index_or segments n d
unfolding plain
some-segment columns rows kept n d segments e h =
    rw e (ap (λ o. (unwrap_or o plain).segment) (slice_get-map plain_of segments n ∙ ap (λ o. option_map plain_of o) (slice_get-get_or segments n d h)))

-- ---- the maps so far

pub modes-read : (r : MacroblockReader) (p : Place) (a : Macroblock) → Has (modes_before r) p → Some a ≡ slice_get r.read (p.row * r.columns + p.column)
    → modes_in (maps_so_far r) p ≡ a.modes
modes-read r p a h e =
    let within : p.row * r.columns + p.column < length r.read = slice_get_within r.read _ a (sym e) in
    ap (λ o. unwrap_or o plain) (entry-inside (maps_so_far r).modes p h.column
    ∙ begun-read (modes_before r).entries (map (λ m. m.modes) r.read) (p.row * r.columns + p.column) (rw (length-map r.read (λ m. m.modes)) within)
    ∙ slice_get-map (λ m. m.modes) r.read (p.row * r.columns + p.column) ∙ ap (λ o. option_map (λ m. m.modes) o) (sym e))

pub motion-read : (r : MacroblockReader) (p : Place) (a : Macroblock) → Has (modes_before r) p → Some a ≡ slice_get r.read (p.row * r.columns + p.column)
    → motion_in (maps_so_far r) p ≡ a.motion
motion-read r p a h e =
    let within : p.row * r.columns + p.column < length r.read = slice_get_within r.read _ a (sym e) in
    ap (λ o. unwrap_or o intra) (entry-inside (maps_so_far r).motion p h.column
    ∙ begun-read (repeated r.columns r.rows intra) (map (λ m. m.motion) r.read) (p.row * r.columns + p.column) (rw (length-map r.read (λ m. m.motion)) within)
    ∙ slice_get-map (λ m. m.motion) r.read (p.row * r.columns + p.column) ∙ ap (λ o. option_map (λ m. m.motion) o) (sym e))

modes-unread : (r : MacroblockReader) (p : Place) → Has (modes_before r) p → None ≡ slice_get r.read (p.row * r.columns + p.column)
    → modes_in (maps_so_far r) p ≡ unwrap_or (slice_get (kept_modes r.columns r.rows r.kept_segments) (p.row * r.columns + p.column)) plain
modes-unread r p h e =
    let past = get-past r.read (p.row * r.columns + p.column) e in
    ap (λ o. unwrap_or o plain) (entry-inside (maps_so_far r).modes p h.column
    ∙ begun-unread (modes_before r).entries (map (λ m. m.modes) r.read) (p.row * r.columns + p.column) (rw (length-map r.read (λ m. m.modes)) past))

pub motion-unread : (r : MacroblockReader) (p : Place) → Has (modes_before r) p → None ≡ slice_get r.read (p.row * r.columns + p.column)
    → motion_in (maps_so_far r) p ≡ intra
unfolding repeated
motion-unread r p h e =
    let past = get-past r.read (p.row * r.columns + p.column) e in
    ap (λ o. unwrap_or o intra) (entry-inside (maps_so_far r).motion p h.column
    ∙ begun-unread (repeated r.columns r.rows intra) (map (λ m. m.motion) r.read) (p.row * r.columns + p.column) (rw (length-map r.read (λ m. m.motion)) past))
    ∙ get-same (r.rows * r.columns) (p.row * r.columns + p.column) intra

pub sub-unread : (r : MacroblockReader) (p : Place) (k : ℕ) → Has (modes_before r) p → None ≡ slice_get r.read (p.row * r.columns + p.column)
    → sub_is.Dc ≡ sub_of (modes_in (maps_so_far r) p) k
sub-unread r p k h e =
    sym (ap (λ m. sub_of m k) (modes-unread r p h e) ∙ kept-sub r.columns r.rows r.kept_segments (p.row * r.columns + p.column) k)

pub segment-none : (r : MacroblockReader) (p : Place) → Has (modes_before r) p → None ≡ slice_get r.read (p.row * r.columns + p.column)
    → r.kept_segments ≡ None → 0 ≡ (modes_in (maps_so_far r) p).segment
segment-none r p h e none =
    sym (ap (λ (m : Modes). m.segment) (modes-unread r p h e) ∙ none-segment r.columns r.rows r.kept_segments (p.row * r.columns + p.column) none)

pub segment-kept : (r : MacroblockReader) (p : Place) (segments : List ℕ) (n d : ℕ) → Has (modes_before r) p → None ≡ slice_get r.read (p.row * r.columns + p.column)
    → r.kept_segments ≡ Some segments → n ≡ r.columns → length segments ≡ r.rows * r.columns
    → slice_index_or segments (p.row * n + p.column) d ≡ (modes_in (maps_so_far r) p).segment
segment-kept r p segments n d h e some wide whole =
    let inside : p.row * r.columns + p.column < length segments = let fits = number_fits r.columns r.rows p h.column h.row in omega (arith, whole, fits) in
    rw wide (sym (ap (λ (m : Modes). m.segment) (modes-unread r p h e) ∙ some-segment r.columns r.rows r.kept_segments (p.row * r.columns + p.column) d segments some inside))

-- ---- one more macroblock

more : {A B : Type 0} (f : A → B) (before : List B) (read : List A) (a : A) (n : ℕ) → length read < length before → length read ≡ n
    → begun before (map f (read ++ a ∷ [])) ≡ slice_set (begun before (map f read)) n (f a)
more f before read a n h e =
    let size = length-map read f in
    ap (λ ys. begun before ys) (map-append f read (a ∷ [])) ∙ begun-more before (map f read) (f a) (omega (arith, size, h))
    ∙ ap (λ k. slice_set (begun before (map f read)) k (f a)) (size ∙ e)

pub pushed : (r : MacroblockReader) (p : Place) (a : Macroblock) → length (kept_modes r.columns r.rows r.kept_segments) ≡ r.rows * r.columns → IsNext r p
    → maps_so_far (record r { read = r.read ++ a ∷ [] }) ≡ with_macroblock (maps_so_far r) p a
unfolding changed repeated
pushed r p a whole next =
    let fits = number_fits r.columns r.rows p next.inside.column next.inside.row in
    let number = next.number in
    let modes = more (λ (m : Macroblock). m.modes) (kept_modes r.columns r.rows r.kept_segments) r.read a (p.row * r.columns + p.column) (omega (arith, whole, fits, number)) number in
    let size = length-replicate (r.rows * r.columns) intra in
    let motion = more (λ (m : Macroblock). m.motion) (repeated r.columns r.rows intra) r.read a (p.row * r.columns + p.column) (omega (arith, size, fits, number)) number in
    λ i. record { modes = record { columns = r.columns; rows = r.rows; entries = modes i }; motion = record { columns = r.columns; rows = r.rows; entries = motion i } }

-- an intra macroblock has no motion, as before it is read
still : (r : MacroblockReader) (p : Place) → IsNext r p → changed (maps_so_far r).motion p intra ≡ (maps_so_far r).motion.entries
unfolding changed repeated
still r p next =
    let fits = number_fits r.columns r.rows p next.inside.column next.inside.row in
    let number = next.number in
    let size = length-replicate (r.rows * r.columns) intra in
    let past : length (map (λ m. m.motion) r.read) ≤ p.row * r.columns + p.column = let long = length-map r.read (λ m. m.motion) in omega (arith, long, number) in
    set-same (begun (repeated r.columns r.rows intra) (map (λ m. m.motion) r.read)) (p.row * r.columns + p.column) intra
    (begun-unread (repeated r.columns r.rows intra) (map (λ m. m.motion) r.read) (p.row * r.columns + p.column) past
    ∙ slice_get-get_or (replicate (r.rows * r.columns) intra) (p.row * r.columns + p.column) intra (omega (arith, size, fits))
    ∙ ap Some (sym (unwrap_or-slice_get (replicate (r.rows * r.columns) intra) (p.row * r.columns + p.column) intra) ∙ get-same (r.rows * r.columns) (p.row * r.columns + p.column) intra))

pub intra-read : (h : Header) (r : MacroblockReader) (p : Place) (s : State) (modes : Modes) (motion : MacroblockMotion) (q : MacroblockReader) → IsNext r p
    → maps_so_far q ≡ with_macroblock (maps_so_far r) p (record { modes = modes; motion = motion }) → modes ≡ (modes_at h (maps_so_far r).modes p s).0
    → is_intra modes.reference ≡ true → motion ≡ intra → maps_so_far q ≡ (macroblock_read h p (maps_so_far r) s).0
unfolding macroblock_read bind
intra-read h r p s modes motion q next made read own none =
    let whole : with_macroblock (maps_so_far r) p (record { modes = modes; motion = intra }) ≡ with_modes (maps_so_far r) p modes =
    λ i. record { modes = with_entry (maps_so_far r).modes p modes; motion = record { columns = r.columns; rows = r.rows; entries = still r p next i } } in
    rw (← read, own) (made ∙ ap (λ e. with_macroblock (maps_so_far r) p (record { modes = modes; motion = e })) none ∙ whole)

-- ---- before the first, and after the last

pub nothing-read : (r : MacroblockReader) → r.read ≡ [] → maps_so_far r ≡ maps_before (modes_before r)
nothing-read r none =
    rw none (λ i. record {
      modes = record { columns = r.columns; rows = r.rows; entries = begun-none (kept_modes r.columns r.rows r.kept_segments) i };
      motion = record { columns = r.columns; rows = r.rows; entries = begun-none (repeated r.columns r.rows intra) i };
    })

pub all-read : (r : MacroblockReader) → length (kept_modes r.columns r.rows r.kept_segments) ≡ r.rows * r.columns → length r.read ≡ r.rows * r.columns
    → maps_of r.columns r.rows r.read ≡ maps_so_far r
unfolding repeated
all-read r whole all =
    let modes = begun-all (kept_modes r.columns r.rows r.kept_segments) (map (λ m. m.modes) r.read) (length-map r.read (λ m. m.modes) ∙ all ∙ sym whole) in
    let motion = begun-all (repeated r.columns r.rows intra) (map (λ m. m.motion) r.read) (length-map r.read (λ m. m.motion) ∙ all ∙ sym (length-replicate (r.rows * r.columns) intra)) in
    λ i. record {
      modes = record { columns = r.columns; rows = r.rows; entries = sym modes i };
      motion = record { columns = r.columns; rows = r.rows; entries = sym motion i };
    }

-- ---- how many are read

pub none-ahead : (r : MacroblockReader) → IsAhead r r 0
none-ahead r = record { columns = refl; rows = refl; read = omega arith }

pub then-ahead : (a b c : MacroblockReader) (m n k : ℕ) → IsAhead a b m → IsAhead b c n → m + n ≡ k → IsAhead a c k
then-ahead a b c m n k first second all =
    let one = first.read in
    let two = second.read in
    record { columns = second.columns ∙ first.columns; rows = second.rows ∙ first.rows; read = omega (arith, one, two, all) }
