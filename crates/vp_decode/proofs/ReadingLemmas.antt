-- How the tokens of a frame are read, macroblock after macroblock and row after row.
use Rattle.vp_decode.proofs.Words.{◌≡◌, ◌≢◌, ◌∙◌, ℕ, ◌+◌, ◌%◌, ◌<◌, Bool, List, length, Some, refl, sym, ap, subst, arith, inl, inr, add-one, slice_set, cases_lt, State, bind, rows, Place, Grid, Has, entry, with_entry, over, over-none, over-more, over-next, over-same, over-holds, Tokens, Blocks, blocks_of, macroblock, Probabilities, AreContextsAt, right, Predictor, macroblock_of, has_y2, rebuilt, modes_in, place, FrameInfo, predictor_at, tokens_of, factors_at, macroblock_at, level_at, tokens_at, seen_read, row_seen, row_tokens, row_partition, token_row, nothing_read, readings, tokens_when_read, FrameDecoder, IsMacroblockStep, IsRow, IsAfterRows, IsSameFrame, IsOneFrame, macroblocks, Level}
use Rattle.vp_tokens.proofs.Steps.{row_begins}
use Rattle.vp_quant.specs.declared.factors.Factors.{Factors}
use Rattle.vp_decode.proofs.MapLemmas.{rows-holds}
use Rattle.vp_decode.proofs.TokenGrid.{tokens_in_turn}

-- ---- the sizes of a frame that is decoded

pub same_frame : (a : FrameDecoder) → IsSameFrame a a
same_frame a = record { info = refl; width = refl; height = refl; level_columns = refl; level_rows = refl; contexts = refl }

pub then_same : (a b c : FrameDecoder) → IsSameFrame a b → IsSameFrame b c → IsSameFrame a c
then_same a b c one two = record {
  info = two.info ∙ one.info;
  width = two.width ∙ one.width;
  height = two.height ∙ one.height;
  level_columns = two.level_columns ∙ one.level_columns;
  level_rows = two.level_rows ∙ one.level_rows;
  contexts = two.contexts ∙ one.contexts;
}

-- one level that is set changes no size
pub set_same : (a b : FrameDecoder) (p : Place) (level : Level) (g : Grid Level) → g ≡ with_entry b.levels p level → IsSameFrame a b → IsSameFrame a (record b { levels = g })
set_same a b p level g e same = record {
  info = same.info;
  width = same.width;
  height = same.height;
  level_columns = ap (λ (z : Grid Level). z.columns) e ∙ same.level_columns;
  level_rows = ap (λ (z : Grid Level). z.rows) e ∙ same.level_rows;
  contexts = same.contexts;
}

pub one_frame : (a b : FrameDecoder) → IsSameFrame a b → IsOneFrame a → IsOneFrame b
one_frame a b same one =
    let width : macroblocks a.picture.width ≡ macroblocks b.picture.width = sym (ap macroblocks same.width) in
    let height : macroblocks a.picture.height ≡ macroblocks b.picture.height = sym (ap macroblocks same.height) in
    record {
      columns = ap (λ (f : FrameInfo). f.maps.modes.columns) same.info ∙ one.columns ∙ width;
      rows = ap (λ (f : FrameInfo). f.maps.modes.rows) same.info ∙ one.rows ∙ height;
      level_columns = same.level_columns ∙ one.level_columns ∙ width;
      level_rows = same.level_rows ∙ one.level_rows ∙ height;
      contexts = same.contexts ∙ one.contexts ∙ width;
    }

-- ---- a row

row_seen-more : (f : FrameInfo) (row n : ℕ) (g : Grid Blocks) (s : State) → row_seen f row (n + 1) g s ≡ seen_read f (place row n) (row_seen f row n g s).0 (row_seen f row n g s).1
unfolding row_seen rows bind
row_seen-more f row n g s = rw add-one refl

pub record IsSized (columns rows_ : ℕ) (g : Grid Blocks) : Type 0 where
  pub columns_are : g.columns ≡ columns
  pub rows_are : g.rows ≡ rows_

row_seen-sized : (f : FrameInfo) (row n : ℕ) (g : Grid Blocks) (s : State) → IsSized g.columns g.rows (row_seen f row n g s).0
unfolding row_seen seen_read bind
row_seen-sized f row n g s =
    rows-holds (λ k r. IsSized g.columns g.rows r.0) n (λ column. seen_read f (place row column)) g s (record { columns_are = refl; rows_are = refl })
    (λ k r below z. record { columns_are = z.columns_are; rows_are = z.rows_are })

pub row_has : (f : FrameInfo) (row n : ℕ) (g : Grid Blocks) (s : State) → n < g.columns → row < g.rows → Has (row_seen f row n g s).0 (place row n)
row_has f row n g s column inside =
    let z = row_seen-sized f row n g s in record { column = omega (arith, z.columns_are); row = omega (arith, z.rows_are) }

pub row_none : (f : FrameInfo) (row : ℕ) (g : Grid Blocks) (s : State) (a : FrameDecoder) → AreContextsAt g (place row 0) a.contexts → IsRow f row 0 g s s a a
unfolding row_seen rows
row_none f row g s a stands = record { contexts = stands; rest = refl; picture = sym (over-none _ _); here = λ column never. absurd (omega arith); elsewhere = λ q other. refl }

pub row_next : (f : FrameInfo) (row n : ℕ) (g : Grid Blocks) (s t u : State) (a b c : FrameDecoder) → IsRow f row n g s t a b
    → IsMacroblockStep f (place row n) (row_seen f row n g s).0 t u b c → IsRow f row (n + 1) g s u a c
unfolding row_tokens
row_next f row n g s t u a b c made last =
    let before : Grid Blocks × State = row_seen f row n g s in
    let step : IsMacroblockStep f (place row n) before.0 before.1 u b c = subst (λ (z : State). IsMacroblockStep f (place row n) before.0 z u b c) made.rest last in
    record {
      contexts = rw (row_seen-more f row n g s) step.contexts;
      rest = rw (row_seen-more f row n g s) step.rest;
      picture =
          step.picture
          ∙ over-next n (λ column. rebuilt (macroblock_at f (place row column) (row_tokens f row g s column)) (place row column)) a.picture b.picture made.picture;
      here = λ column below. elim (cases_lt column n) [
        | inl earlier ↦ step.elsewhere (place row column) (λ e. absurd (let same : column ≡ n = ap (λ (q : Place). q.column) e in omega arith)) ∙ made.here column earlier
        | inr late ↦ let same : n ≡ column = omega arith in
            subst (λ (k : ℕ). entry c.levels (place row k) ≡ Some (level_at f (place row k) (row_tokens f row g s k))) same step.here
      ];
      elsewhere = λ q other. step.elsewhere q (λ e. other (ap (λ (z : Place). z.row) e)) ∙ made.elsewhere q other;
    }

-- what the code does for a macroblock with this predictor and these factors, tokens and filter levels
pub step_made : (f : FrameInfo) (p : Place) (g : Grid Blocks) (s t : State) (a b : FrameDecoder)
    (source : Predictor) (probabilities : Probabilities) (y2 skip : Bool) (tokens : Tokens) (factors : Factors)
    → source ≡ predictor_at f p → probabilities ≡ f.header.probabilities.coefficients → y2 ≡ has_y2 source → skip ≡ (modes_in f.maps p).skip
    → factors ≡ factors_at f p → tokens ≡ (macroblock probabilities g p y2 skip s).0 → t ≡ (macroblock probabilities g p y2 skip s).1
    → AreContextsAt (with_entry g p (blocks_of y2 tokens)) (right p) b.contexts
    → b.picture ≡ rebuilt (macroblock_of source tokens factors) p a.picture
    → entry b.levels p ≡ Some (level_at f p tokens) → ((q : Place) → q ≢ p → entry b.levels q ≡ entry a.levels q)
    → IsMacroblockStep f p g s t a b
unfolding seen_read tokens_at bind
step_made f p g s t a b source probabilities y2 skip tokens factors from coefficients has skips scaled value rest stands picture here elsewhere =
    let y2_is : y2 ≡ has_y2 (predictor_at f p) = has ∙ ap has_y2 from in
    let read : macroblock probabilities g p y2 skip s ≡ tokens_at f p g s = (λ i. macroblock (coefficients i) g p (y2_is i) (skips i) s) in
    let all : tokens ≡ (tokens_at f p g s).0 = value ∙ ap (λ (r : Tokens × State). r.0) read in
    record {
      contexts = subst (λ (z : Grid Blocks). AreContextsAt z (right p) b.contexts) (λ i. with_entry g p (blocks_of (y2_is i) (all i))) stands;
      rest = rest ∙ ap (λ (r : Tokens × State). r.1) read;
      picture = picture ∙ (λ i. rebuilt (macroblock_of (from i) (all i) (scaled i)) p a.picture);
      here = here ∙ ap (λ (z : Tokens). Some (level_at f p z)) all;
      elsewhere = elsewhere;
    }

-- ---- from row to row

readings-more : (f : FrameInfo) (ps : List State) (row : ℕ) → readings f ps (row + 1) ≡ token_row f row (readings f ps row)
unfolding readings
readings-more f ps row = over-more row (token_row f) (nothing_read f ps)

pub readings-sized : (f : FrameInfo) (ps : List State) (row : ℕ) → IsSized f.maps.modes.columns f.maps.modes.rows (readings f ps row).seen
unfolding readings
readings-sized f ps row =
    over-holds (λ r. IsSized f.maps.modes.columns f.maps.modes.rows r.seen) row (token_row f) (nothing_read f ps)
    (λ k below r z. let w = row_seen-sized f k f.maps.modes.columns r.seen (row_partition k r) in record { columns_are = w.columns_are ∙ z.columns_are; rows_are = w.rows_are ∙ z.rows_are })
    (record { columns_are = refl; rows_are = refl })

pub rows_none : (f : FrameInfo) (ps : List State) (a : FrameDecoder) → AreContextsAt (nothing_read f ps).seen (place 0 0) a.contexts → IsAfterRows f ps 0 ps a
unfolding readings over
rows_none f ps a stands = record { contexts = stands; rests = refl; levels = λ q never within. absurd (omega arith) }

-- a row that is read from its partition
abbrev pub IsRowRead : FrameInfo → List State → ℕ → State → FrameDecoder → FrameDecoder → Type 0
IsRowRead f ps row t a b = IsRow f row f.maps.modes.columns (readings f ps row).seen (row_partition row (readings f ps row)) t a b

pub rows_next : (f : FrameInfo) (ps ds : List State) (row : ℕ) (t : State) (a b : FrameDecoder) → IsAfterRows f ps row ds a → row < f.maps.modes.rows → IsRowRead f ps row t a b
    → IsAfterRows f ps (row + 1) (slice_set ds (row % length ds) t) b
unfolding tokens_when_read
rows_next f ps ds row t a b before below made =
    let r = readings f ps row in
    let read : Grid Blocks × State = row_seen f row f.maps.modes.columns r.seen (row_partition row r) in
    let wide : f.maps.modes.columns ≡ read.0.columns = sym ((row_seen-sized f row f.maps.modes.columns r.seen (row_partition row r)).columns_are ∙ (readings-sized f ps row).columns_are) in
    record {
      contexts = rw (readings-more f ps row) (row_begins read.0 row b.contexts (subst (λ (k : ℕ). AreContextsAt read.0 (place row k) b.contexts) wide made.contexts));
      rests = rw (readings-more f ps row) (λ i. slice_set (before.rests i) (row % length (before.rests i)) (made.rest i));
      levels = λ q above within. elim (cases_lt q.row row) [
        | inl earlier ↦ made.elsewhere q (λ e. absurd (omega arith)) ∙ before.levels q earlier within
        | inr late ↦
            let same : row ≡ q.row = omega arith in
            subst (λ (k : ℕ). entry b.levels (place k q.column) ≡ Some (level_at f (place k q.column) (tokens_of f ps (place k q.column)))) same
            (made.here q.column within ∙ ap (λ (x : Tokens). Some (level_at f (place row q.column) x)) (sym (tokens_in_turn f ps (place row q.column) within below)))
      ];
    }

-- the picture of a row, by the tokens of the frame
pub row_of_frame : (f : FrameInfo) (ps : List State) (row : ℕ) (t : State) (a b : FrameDecoder) → row < f.maps.modes.rows → IsRowRead f ps row t a b
    → b.picture ≡ over f.maps.modes.columns (λ column. rebuilt (macroblock_at f (place row column) (tokens_of f ps (place row column))) (place row column)) a.picture
unfolding tokens_when_read
row_of_frame f ps row t a b below made =
    made.picture
    ∙ over-same f.maps.modes.columns _ (λ column. rebuilt (macroblock_at f (place row column) (tokens_of f ps (place row column))) (place row column)) a.picture
    (λ column within p. ap (λ (x : Tokens). rebuilt (macroblock_at f (place row column) x) (place row column) p) (sym (tokens_in_turn f ps (place row column) within below)))

-- what the filter leaves alone
pub rows_kept : (f : FrameInfo) (ps ds : List State) (row : ℕ) (a b : FrameDecoder) → b.contexts ≡ a.contexts → b.levels ≡ a.levels → IsAfterRows f ps row ds a → IsAfterRows f ps row ds b
rows_kept f ps ds row a b contexts levels made = record { contexts = rw contexts made.contexts; rests = made.rests; levels = rw levels made.levels }
