-- How the tokens of a frame are written, row after row, and what is read of them.
use Rattle.std.proofs.Common.{◌≡◌, ◌∙◌, ℕ, zero, suc, ◌+◌, ◌-◌, ◌%◌, ◌<◌, Bool, true, false, not, ◌||◌, List, [], ◌∷◌, ◌++◌, length, replicate, map, refl, sym, ap, subst, arith, inl, inr, get_or, length-append, add-one}
use Rattle.std.specs.Prelude.{slice_index_or, slice_set, Option, Some, None, unwrap_or}
use Rattle.std.proofs.lemmas.Bool.{cases_Bool, cases_lt, cases_eq}
use Rattle.std.proofs.lemmas.List.{length-set, get_or-set_same, get_or-set_other, length-replicate, ext_get_or, length-map, get_or-map}
use Rattle.std.proofs.Math.Seq.{get_or-append_seam}
use Rattle.vp_bool.specs.Bools.{State, initial_state}
use Rattle.vp_bool.specs.Reader.{Reads, bind, rows}
use Rattle.vp_bool.specs.Intervals.{Interval, whole_interval}
use Rattle.vp_bool.specs.Writing.{Writes, AreProbabilities, HasWritten, write_all}
use Rattle.vp_bool.specs.RoundTrip.{partition_of}
use Rattle.vp_bool.specs.Window.{AreBytes}
use Rattle.vp_bool.proofs.RoundTripLemmas.{write_all-append, reads_back}
use Rattle.vp_bool.proofs.WritingLemmas.{reads-append, probabilities-append, probabilities-none, written-none, written-more}
use Rattle.vp_base.specs.declared.place.Place.{Place}
use Rattle.vp_base.specs.Grid.{Grid, Has, at, entry, with_entry}
use Rattle.vp_base.proofs.OverLemmas.{over-none, over-more}
use Rattle.vp_tables.specs.Modes.{is_by_subblocks, is_split}
use Rattle.vp_head.specs.Reference.{is_intra}
use Rattle.vp_motion.specs.Vector.{MacroblockMotion}
use Rattle.vp_motion.specs.Map.{intra}
use Rattle.vp_refs.specs.References.{References}
use Rattle.vp_recon.specs.Predictor.{has_y2 as source_has_y2}
use Rattle.vp_tokens.specs.declared.contexts.Tokens.{Tokens}
use Rattle.vp_tokens.specs.Blocks.{Blocks, blocks_of, macroblock}
use Rattle.vp_tokens.specs.Spelled.{AreSpelled}
use Rattle.vp_tokens.specs.Contexts.{Contexts, AreContextsAt, right}
use Rattle.vp_tokens.proofs.Steps.{row_begins}
use Rattle.vp_decode.specs.MacroblockMaps.{place}
use Rattle.vp_decode.specs.Frame.{FrameInfo, predictor_by, predictor_at, tokens_of}
use Rattle.vp_decode.specs.TokenRows.{tokens_at, seen_read, row_seen, row_tokens, Readings, row_partition, token_row, nothing_read, readings, tokens_when_read}
use Rattle.vp_decode.proofs.TokenGrid.{tokens_in_turn, rests_in_turn}
use Rattle.vp_choose.specs.declared.frame.Choice.{Choice}
use Rattle.vp_encode.specs.declared.coded_frame.CodedFrame.{CodedFrame}
use Rattle.vp_encode.specs.CodedFrame.{nothing, coded_choice, saved_motion, choice_has_y2, IsInterPlain, AreTokensSpelled}
use Rattle.vp_encode.specs.FrameChoices.{IsMotionOf}
use Rattle.vp_encode.proofs.RasterOrder.{in_rows}
use Rattle.vp_encode.specs.PacketContents.{HasFinalZero}
use Rattle.vp_encode.specs.Written.{finished, partition_of_bools, IsPlanOf, IsTokenRow, AllRead, AreTokenRows, AreTokens, none_seen}

-- ---- a partition with its byte of 0

pub one_zero : AreBytes (0 ∷ [])
one_zero zero = omega arith
one_zero (suc i) = omega arith

pub closed_by : (xs : List ℕ) → HasFinalZero (xs ++ 0 ∷ [])
closed_by xs = record {
  some = omega (arith, length-append xs (0 ∷ []));
  last = let e : length (xs ++ 0 ∷ []) - 1 ≡ length xs = omega (arith, length-append xs (0 ∷ [])) in rw e (get_or-append_seam xs 0 [] 0);
}

-- ---- what a plan of the frame reads at a place

or_none : (b : Bool) → not (b || false) ≡ not b
or_none true = refl
or_none false = refl

source_y2 : (references : Option References) (version : ℕ) (x : Choice) → (references ≡ None → is_intra x.modes.reference ≡ true)
    → source_has_y2 (predictor_by references version x.modes (saved_motion x)) ≡ choice_has_y2 x
source_y2 None version x own = let e : is_intra x.modes.reference ≡ true = own refl in rw e refl
source_y2 (Some r) version x own = elim (cases_Bool (is_intra x.modes.reference)) [ inl e ↦ rw e refl | inr e ↦ rw e refl ]

plan_y2 : (c : CodedFrame) (f : FrameInfo) (p : Place) → IsPlanOf c f → Has c.macroblocks p → source_has_y2 (predictor_at f p) ≡ choice_has_y2 (coded_choice c p)
unfolding predictor_at
plan_y2 c f p plan inside =
    (λ i. source_has_y2 (predictor_by f.references f.version (plan.maps.modes p inside i) (plan.maps.motion p inside i)))
    ∙ source_y2 f.references f.version (coded_choice c p) (λ none. plan.own none p inside)

-- an inter macroblock has no luma mode, and an intra macroblock no vectors
mode_y2 : (x : Choice) → (is_intra x.modes.reference ≡ false → is_by_subblocks x.modes.luma ≡ false)
    → not (is_split (saved_motion x).mode || is_by_subblocks x.modes.luma) ≡ choice_has_y2 x
unfolding intra
mode_y2 x plain = elim (cases_Bool (is_intra x.modes.reference)) [
  | inl own ↦ rw own refl
  | inr inter ↦ rw (inter, plain inter) (or_none (is_split x.motion.mode))
]

pub y2_at : (c : CodedFrame) (p : Place) (x : Choice) (k : Grid MacroblockMotion) (m : MacroblockMotion) (y2 : Bool) → IsMotionOf c.macroblocks k → IsInterPlain c
    → Has c.macroblocks p → entry c.macroblocks p ≡ Some x → entry k p ≡ Some m → y2 ≡ not (is_split m.mode || is_by_subblocks x.modes.luma) → y2 ≡ choice_has_y2 x
y2_at c p x k m y2 motion plain inside is held y2_is =
    let same : coded_choice c p ≡ x = ap (λ o. unwrap_or o nothing) is in
    let moved : m ≡ saved_motion x = ap (λ o. unwrap_or o intra) (sym held) ∙ motion.moved p inside (in_rows p c.macroblocks.rows inside.row) ∙ ap saved_motion same in
    y2_is ∙ (λ i. not (is_split (moved i).mode || is_by_subblocks x.modes.luma))
    ∙ mode_y2 x (λ inter. subst (λ (z : Choice). is_by_subblocks z.modes.luma ≡ false) same (plain p inside (subst (λ (z : Choice). is_intra z.modes.reference ≡ false) (sym same) inter)))

pub spelled_at : (c : CodedFrame) (p : Place) (x : Choice) (y2 : Bool) → AreTokensSpelled c → Has c.macroblocks p → entry c.macroblocks p ≡ Some x → y2 ≡ choice_has_y2 x
    → AreSpelled y2 x.tokens.blocks
spelled_at c p x y2 spelled inside is y2_is =
    subst (λ (b : Bool). AreSpelled b x.tokens.blocks) (sym y2_is)
    (subst (λ (z : Choice). AreSpelled (choice_has_y2 z) z.tokens.blocks) (ap (λ o. unwrap_or o nothing) is) (spelled.blocks p inside))

plan_tokens : (c : CodedFrame) (f : FrameInfo) (p : Place) (g : Grid Blocks) → IsPlanOf c f → Has c.macroblocks p
    → macroblock c.header.probabilities.coefficients g p (choice_has_y2 (coded_choice c p)) (coded_choice c p).modes.skip ≡ tokens_at f p g
unfolding tokens_at
plan_tokens c f p g plan inside =
    let y2 = plan_y2 c f p plan inside in
    sym (λ i. macroblock (plan.header i).probabilities.coefficients g p (y2 i) (plan.maps.modes p inside i).skip)

-- ---- a row

row_seen-more : (f : FrameInfo) (row n : ℕ) (g : Grid Blocks) (s : State) → row_seen f row (n + 1) g s ≡ seen_read f (place row n) (row_seen f row n g s).0 (row_seen f row n g s).1
unfolding row_seen rows bind
row_seen-more f row n g s = rw add-one refl

row_given : (f : FrameInfo) (row n : ℕ) (g k : Grid Blocks) (s t u : State) (x : Tokens) → row_seen f row n g s ≡ (k, t) → tokens_at f (place row n) k t ≡ (x, u)
    → row_seen f row (n + 1) g s ≡ (with_entry k (place row n) (blocks_of (source_has_y2 (predictor_at f (place row n))) x), u)
unfolding seen_read bind
row_given f row n g k s t u x before here =
    row_seen-more f row n g s
    ∙ ap (λ (r : Grid Blocks × State). seen_read f (place row n) r.0 r.1) before
    ∙ ap (λ (r : Tokens × State). (with_entry k (place row n) (blocks_of (source_has_y2 (predictor_at f (place row n))) r.0), r.1)) here

tokens_given : (f : FrameInfo) (row n : ℕ) (g k : Grid Blocks) (s t u : State) (x : Tokens) → row_seen f row n g s ≡ (k, t) → tokens_at f (place row n) k t ≡ (x, u)
    → row_tokens f row g s n ≡ x
unfolding row_tokens
tokens_given f row n g k s t u x before here =
    ap (λ (r : Grid Blocks × State). (tokens_at f (place row n) r.0 r.1).0) before ∙ ap (λ (r : Tokens × State). r.0) here

pub token_row_none : (f : FrameInfo) (c : CodedFrame) (row : ℕ) (g : Grid Blocks) (contexts : Contexts) (e : Interval) → AreContextsAt g (place row 0) contexts → IsTokenRow f c row 0 g contexts e e
unfolding write_all row_seen rows
token_row_none f c row g contexts e stands = record {
  seen = g;
  columns = refl;
  rows = refl;
  stands = stands;
  written = record { bools = []; probabilities = probabilities-none; appended = refl; taken = λ s t r i. (g, r i) };
  tokens = λ s t r column never. absurd (omega arith);
}

pub token_row_next : (f : FrameInfo) (c : CodedFrame) (row n : ℕ) (g : Grid Blocks) (x : Choice) (y2 skip : Bool) (tokens : Tokens) (contexts after : Contexts) {old mid new : Interval}
    → IsPlanOf c f → n < c.macroblocks.columns → row < c.macroblocks.rows → g.columns ≡ c.macroblocks.columns → g.rows ≡ c.macroblocks.rows
    → entry c.macroblocks (place row n) ≡ Some x → y2 ≡ choice_has_y2 x → skip ≡ x.modes.skip → tokens ≡ x.tokens
    → IsTokenRow f c row n g contexts old mid
    → ((k : Grid Blocks) → AreContextsAt k (place row n) contexts → Writes (macroblock c.header.probabilities.coefficients k (place row n) y2 skip) mid new tokens)
    → ((k : Grid Blocks) → Has k (place row n) → AreContextsAt k (place row n) contexts → AreContextsAt (with_entry k (place row n) (blocks_of y2 tokens)) (right (place row n)) after)
    → IsTokenRow f c row (n + 1) g after old new
token_row_next f c row n g x y2 skip tokens contexts after {old = old} {mid = mid} {new = new} plan column inside wide high is kind skip_is tokens_are made writes stands =
    let p = place row n in
    let there : Has c.macroblocks p = record { column = column; row = inside } in
    let same : coded_choice c p ≡ x = ap (λ o. unwrap_or o nothing) is in
    let y2_is : source_has_y2 (predictor_at f p) ≡ y2 = plan_y2 c f p plan there ∙ ap choice_has_y2 same ∙ sym kind in
    let reader : macroblock c.header.probabilities.coefficients made.seen p y2 skip ≡ tokens_at f p made.seen =
    (λ i. macroblock c.header.probabilities.coefficients made.seen p (kind i) (skip_is i))
    ∙ ap (λ (z : Choice). macroblock c.header.probabilities.coefficients made.seen p (choice_has_y2 z) z.modes.skip) (sym same)
    ∙ plan_tokens c f p made.seen plan there in
    let w : Writes (tokens_at f p made.seen) mid new tokens = subst (λ r. Writes r mid new tokens) reader (writes made.seen made.stands) in
    let bs = made.written.bools in
    let seen : Grid Blocks = with_entry made.seen p (blocks_of (source_has_y2 (predictor_at f p)) tokens) in
    record {
      seen = seen;
      columns = made.columns;
      rows = made.rows;
      stands = rw y2_is (stands made.seen (record { column = omega (arith, made.columns, wide); row = omega (arith, made.rows, high) }) made.stands);
      written = record {
        bools = bs ++ w.bools;
        probabilities = probabilities-append bs w.bools made.written.probabilities w.probabilities;
        appended = w.appended ∙ ap (write_all w.bools) made.written.appended ∙ sym (write_all-append bs w.bools old);
        taken = λ s u r. let h = reads-append bs w.bools s u r in row_given f row n g made.seen s h.0 u tokens (made.written.taken s h.0 h.1) (w.taken h.0 u h.2);
      };
      tokens = λ s u r k below. let h = reads-append bs w.bools s u r in elim (cases_lt k n) [
        | inl earlier ↦ made.tokens s h.0 h.1 k earlier
        | inr late ↦ let at_n : n ≡ k = omega arith in
            subst (λ (j : ℕ). row_tokens f row g s j ≡ (coded_choice c (place row j)).tokens) at_n
            (tokens_given f row n g made.seen s h.0 u tokens (made.written.taken s h.0 h.1) (w.taken h.0 u h.2) ∙ tokens_are ∙ ap (λ (z : Choice). z.tokens) (sym same))
      ];
    }

-- ---- row after row

abbrev bools_of : List (List (Bool × ℕ)) → ℕ → List (Bool × ℕ)
bools_of bss i = slice_index_or bss i []

abbrev left : List State → ℕ → State
left ss i = slice_index_or ss i (initial_state [])

none_of : (n i : ℕ) → bools_of (replicate n []) i ≡ []
none_of zero i = refl
none_of (suc n) zero = refl
none_of (suc n) (suc i) = none_of n i

pub frame_none : (f : FrameInfo) (c : CodedFrame) (contexts : Contexts) (es : List Interval) → IsPlanOf c f
    → ((rows_ : ℕ) → AreContextsAt (none_seen c.macroblocks.columns rows_) (place 0 0) contexts)
    → ((i : ℕ) → i < length es → slice_index_or es i whole_interval ≡ whole_interval) → AreTokenRows f c 0 contexts es
unfolding readings
frame_none f c contexts es plan stands empty =
    let columns : f.maps.modes.columns ≡ c.macroblocks.columns = plan.maps.columns in
    let none : List (List (Bool × ℕ)) = replicate (length es) [] in
    record {
      seen = none_seen f.maps.modes.columns f.maps.modes.rows;
      columns = columns;
      rows = plan.maps.rows;
      stands = subst (λ (n : ℕ). AreContextsAt (none_seen n f.maps.modes.rows) (place 0 0) contexts) (sym columns) (stands f.maps.modes.rows);
      bools = none;
      count = length-replicate (length es) [];
      probabilities = λ i. subst AreProbabilities (sym (none_of (length es) i)) probabilities-none;
      written = λ i below. subst (λ (bs : List (Bool × ℕ)). HasWritten bs (slice_index_or es i whole_interval)) (sym (none_of (length es) i)) (empty i below ∙ written-none);
      taken = λ ss ts reads.
          let same : ss ≡ ts = ext_get_or (initial_state []) ss ts (reads.0 ∙ sym reads.1)
          (λ i below. let r : Reads [] (left ss i) (left ts i) = subst (λ (bs : List (Bool × ℕ)). Reads bs (left ss i) (left ts i)) (none_of (length es) i) (reads.2 i (omega (arith, reads.0))) in r) in
          over-none (token_row f) (nothing_read f ss) ∙ ap (nothing_read f) same;
      tokens = λ ss ts reads p never within. absurd (omega arith);
    }

-- one item replaced, and put back
set_back : {A : Type 0} (xs : List A) (k : ℕ) (a d : A) → k < length xs → slice_set (slice_set xs k a) k (slice_index_or xs k d) ≡ xs
set_back xs k a d within =
    ext_get_or d _ xs (length-set (slice_set xs k a) k (get_or xs k d) ∙ length-set xs k a)
    (λ i below. elim (cases_eq i k) [
      | inl same ↦ rw same (get_or-set_same (slice_set xs k a) k (get_or xs k d) d (omega (arith, length-set xs k a)))
      | inr other ↦ get_or-set_other (slice_set xs k a) k i (get_or xs k d) d other ∙ get_or-set_other xs k i a d other
    ])

-- The bools of partition k end with those of the row: before them stands a state of its own.
parted : (bss : List (List (Bool × ℕ))) (k : ℕ) (bs : List (Bool × ℕ)) (ss us : List State) → k < length bss
    → AllRead (slice_set bss k (bools_of bss k ++ bs)) ss us
    → (t : State) × AllRead bss ss (slice_set us k t) × Reads bs t (left us k)
parted bss k bs ss us within reads =
    let n : length (slice_set bss k (bools_of bss k ++ bs)) ≡ length bss = length-set bss k (bools_of bss k ++ bs) in
    let whole : Reads (bools_of bss k ++ bs) (left ss k) (left us k) =
    subst (λ (z : List (Bool × ℕ)). Reads z (left ss k) (left us k)) (get_or-set_same bss k (bools_of bss k ++ bs) [] within) (reads.2 k (omega (arith, n))) in
    let h = reads-append (bools_of bss k) bs (left ss k) (left us k) whole in (
      h.0,
      (
        reads.0 ∙ n,
        length-set us k h.0 ∙ reads.1 ∙ n,
        λ i below. elim (cases_eq i k) [
          | inl same ↦ rw (same, get_or-set_same us k h.0 (initial_state []) (omega (arith, reads.1, n))) h.1
          | inr other ↦
              rw (get_or-set_other us k i h.0 (initial_state []) other)
              (subst (λ (z : List (Bool × ℕ)). Reads z (left ss i) (left us i)) (get_or-set_other bss k i (bools_of bss k ++ bs) [] other) (reads.2 i (omega (arith, n))))
        ],
      ),
      h.2,
    )

-- what a row leaves, where its partition k stood at t
row_left : (f : FrameInfo) (row n k : ℕ) (g h : Grid Blocks) (ts : List State) (t u : State) → f.maps.modes.columns ≡ n → row % length ts ≡ k → left ts k ≡ t
    → row_seen f row n g t ≡ (h, u) → token_row f row (record { seen = g; rests = ts }) ≡ record { seen = h; rests = slice_set ts k u }
row_left f row n k g h ts t u wide at here read =
    let all_of : row_seen f row f.maps.modes.columns g (left ts (row % length ts)) ≡ (h, u) =
    (λ i. row_seen f row (wide i) g (left ts (at i))) ∙ ap (row_seen f row n g) here ∙ read in
    λ i. record { seen = (all_of i).0; rests = slice_set ts (at i) (all_of i).1 }

-- the tokens of a row, by the place
row_tokens_of : (f : FrameInfo) (ss ts : List State) (p : Place) (k : ℕ) (g : Grid Blocks) (t : State) (x : Tokens) → readings f ss p.row ≡ record { seen = g; rests = ts }
    → p.row % length ts ≡ k → left ts k ≡ t → row_tokens f p.row g t p.column ≡ x → tokens_when_read f ss p ≡ x
unfolding tokens_when_read
row_tokens_of f ss ts p k g t x before at here read =
    ap (λ (r : Readings). row_tokens f p.row r.seen (row_partition p.row r) p.column) before
    ∙ ap (λ (j : ℕ). row_tokens f p.row g (left ts j) p.column) at
    ∙ ap (λ (s : State). row_tokens f p.row g s p.column) here
    ∙ read

pub frame_next : (f : FrameInfo) (c : CodedFrame) (row k : ℕ) (before after : Contexts) (es : List Interval) (e new : Interval) → IsPlanOf c f
    → row % length es ≡ k → k < length es → e ≡ slice_index_or es k whole_interval
    → (made : AreTokenRows f c row before es) → IsTokenRow f c row c.macroblocks.columns made.seen after e new
    → AreTokenRows f c (row + 1) after (slice_set es k new)
unfolding readings
frame_next f c row k before after es e new plan at within own made last =
    let bs = last.written.bools in
    let inside : k < length made.bools = omega (arith, made.count) in
    record {
      seen = last.seen;
      columns = last.columns ∙ made.columns;
      rows = last.rows ∙ made.rows;
      stands =
          let end : c.macroblocks.columns ≡ last.seen.columns = sym (last.columns ∙ made.columns) in
          row_begins last.seen row after (subst (λ (n : ℕ). AreContextsAt last.seen (place row n) after) end last.stands);
      bools = slice_set made.bools k (bools_of made.bools k ++ bs);
      count = length-set made.bools k (bools_of made.bools k ++ bs) ∙ made.count ∙ sym (length-set es k new);
      probabilities = λ i. elim (cases_eq i k) [
        | inl same ↦ rw (same, get_or-set_same made.bools k (bools_of made.bools k ++ bs) [] inside)
            (probabilities-append (bools_of made.bools k) bs (made.probabilities k) last.written.probabilities)
        | inr other ↦ rw (get_or-set_other made.bools k i (bools_of made.bools k ++ bs) [] other) (made.probabilities i)
      ];
      written = λ i below. elim (cases_eq i k) [
        | inl same ↦ rw (same, get_or-set_same made.bools k (bools_of made.bools k ++ bs) [] inside, get_or-set_same es k new whole_interval within)
            (written-more (bools_of made.bools k) bs e new (own ∙ made.written k within) last.written.appended)
        | inr other ↦ rw (get_or-set_other made.bools k i (bools_of made.bools k ++ bs) [] other, get_or-set_other es k i new whole_interval other)
            (made.written i (omega (arith, length-set es k new)))
      ];
      taken = λ ss us reads.
          let h = parted made.bools k bs ss us inside reads in
          let ts = slice_set us k h.0 in
          let long : length ts ≡ length es = h.1.1 ∙ made.count in
          let here : left ts k ≡ h.0 = get_or-set_same us k h.0 (initial_state []) (omega (arith, length-set us k h.0)) in
          let u = left us k in
          over-more row (token_row f) (nothing_read f ss)
          ∙ ap (token_row f row) (made.taken ss ts h.1)
          ∙ row_left f row c.macroblocks.columns k made.seen last.seen ts h.0 u plan.maps.columns (ap (λ (n : ℕ). row % n) long ∙ at) here (last.written.taken h.0 u h.2)
          ∙ ap (λ (z : List State). record { seen = last.seen; rests = z }) (set_back us k h.0 (initial_state []) (omega (arith, length-set us k h.0)));
      tokens = λ ss us reads p below column.
          let h = parted made.bools k bs ss us inside reads in
          let ts = slice_set us k h.0 in
          let long : length ts ≡ length es = h.1.1 ∙ made.count in
          let here : left ts k ≡ h.0 = get_or-set_same us k h.0 (initial_state []) (omega (arith, length-set us k h.0)) in
          elim (cases_lt p.row row) [
            | inl earlier ↦ made.tokens ss ts h.1 p earlier column
            | inr late ↦
                let same : row ≡ p.row = omega arith in
                let q : Place = place row p.column in
                let there : q ≡ p = λ i. record { column = p.column; row = same i } in
                subst (λ (z : Place). tokens_when_read f ss z ≡ (coded_choice c z).tokens) there
                (row_tokens_of f ss ts q k made.seen h.0 (coded_choice c q).tokens (made.taken ss ts h.1) (ap (λ (n : ℕ). row % n) long ∙ at) here (last.tokens h.0 (left us k) h.2 p.column column))
          ];
    }

-- ---- all partitions

-- for each of n numbers a state: a list of them
states_of : (n : ℕ) (P : ℕ → State → Type 0) → ((i : ℕ) → i < n → (t : State) × P i t) → (ts : List State) × (length ts ≡ n) × ((i : ℕ) → i < n → P i (left ts i))
states_of zero P each = ([], refl, λ i never. absurd (omega arith))
states_of (suc n) P each =
    let first = each 0 (omega arith) in
    let more = states_of n (λ i. P (suc i)) (λ i below. each (suc i) (omega arith)) in
    (first.0 ∷ more.0, ap suc more.1, at_each n P first.0 more.0 first.1 more.2)
  where
    at_each : (n : ℕ) (P : ℕ → State → Type 0) (t : State) (ts : List State) → P 0 t → ((i : ℕ) → i < n → P (suc i) (left ts i)) → (i : ℕ) → i < suc n → P i (left (t ∷ ts) i)
    at_each n P t ts here there zero below = here
    at_each n P t ts here there (suc i) below = there i (omega arith)

-- the partitions of bools, by what was written into each
same_partitions : (bss : List (List (Bool × ℕ))) (es : List Interval) → length bss ≡ length es
    → ((i : ℕ) → i < length es → HasWritten (slice_index_or bss i []) (slice_index_or es i whole_interval)) → map finished es ≡ map partition_of_bools bss
same_partitions [] [] same written = refl
same_partitions [] (e ∷ es) same written = absurd (omega arith)
same_partitions (bs ∷ bss) [] same written = absurd (omega arith)
same_partitions (bs ∷ bss) (e ∷ es) same written =
    let first = written 0 (omega arith) in
    let more = same_partitions bss es (omega arith) (λ i below. written (suc i) (omega arith)) in
    λ i. finished (first i) ∷ more i

pub frame_written : (f : FrameInfo) (c : CodedFrame) (contexts : Contexts) (es : List Interval) (parts : List (List ℕ)) → IsPlanOf c f → AreTokenRows f c c.macroblocks.rows contexts es
    → parts ≡ map finished es → (bools : List (List (Bool × ℕ))) × AreTokens f c bools × (parts ≡ map partition_of_bools bools)
frame_written f c contexts es parts plan made are = (
  made.bools,
  record {
    probabilities = made.probabilities;
    tokens = λ ss ts reads p inside.
        tokens_in_turn f ss p (omega (arith, plan.maps.columns, inside.column)) (omega (arith, plan.maps.rows, inside.row))
        ∙ made.tokens ss ts reads p inside.row inside.column;
    rests = λ ss ts reads. rests_in_turn f ss ∙ ap (λ (n : ℕ). (readings f ss n).rests) plan.maps.rows ∙ ap (λ (r : Readings). r.rests) (made.taken ss ts reads);
  },
  are ∙ same_partitions made.bools es made.count made.written,
)

-- one of the partitions
part_is : (bools : List (List (Bool × ℕ))) (parts : List (List ℕ)) (i : ℕ) → parts ≡ map partition_of_bools bools → i < length bools → slice_index_or parts i [] ≡ partition_of_bools (bools_of bools i)
part_is bools parts i are below = ap (λ (ps : List (List ℕ)). slice_index_or ps i []) are ∙ get_or-map partition_of_bools bools i [] [] below

pub parts_read : (f : FrameInfo) (c : CodedFrame) (bools : List (List (Bool × ℕ))) (parts : List (List ℕ)) → AreTokens f c bools → parts ≡ map partition_of_bools bools
    → (p : Place) → Has c.macroblocks p → tokens_of f (map initial_state parts) p ≡ (coded_choice c p).tokens
parts_read f c bools parts x are p inside =
    let count : length parts ≡ length bools = ap length are ∙ length-map bools partition_of_bools in
    let n : length (map initial_state parts) ≡ length bools = length-map parts initial_state ∙ count in
    let each : (i : ℕ) → i < length bools → (t : State) × Reads (bools_of bools i) (left (map initial_state parts) i) t =
    λ i below.
    let r = reads_back (bools_of bools i) (0 ∷ []) (x.probabilities i) one_zero in
    let here : left (map initial_state parts) i ≡ initial_state (partition_of_bools (bools_of bools i)) =
    get_or-map initial_state parts i [] (initial_state []) (omega arith) ∙ ap initial_state (part_is bools parts i are below) in
    (r.0, subst (λ (s : State). Reads (bools_of bools i) s r.0) (sym here) r.1) in
    let ts = states_of (length bools) (λ i t. Reads (bools_of bools i) (left (map initial_state parts) i) t) each in
    x.tokens (map initial_state parts) ts.0 (n, ts.1, ts.2) p inside

pub parts_closed : (bools : List (List (Bool × ℕ))) (parts : List (List ℕ)) → parts ≡ map partition_of_bools bools → (i : ℕ) → i < length parts → HasFinalZero (slice_index_or parts i [])
parts_closed bools parts are i below =
    let within : i < length bools = omega (arith, ap length are, length-map bools partition_of_bools) in
    subst HasFinalZero (sym (part_is bools parts i are within)) (closed_by (partition_of (bools_of bools i)))
