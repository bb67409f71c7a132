-- The grid of a frame's tokens has at each place the tokens that are read there at its turn.
use Rattle.std.proofs.Common.{[]}
use Rattle.vp_decode.proofs.Words.{◌≡◌, ◌≢◌, ◌∙◌, ℕ, zero, suc, ◌*◌, ◌%◌, ◌<◌, ◌≤◌, List, ◌∷◌, length, replicate, map, refl, sym, ap, subst, arith, inl, inr, Option, slice_index_or, slice_set, unwrap_or, cases_lt, length-replicate, length-set, map-set, State, initial_state, bind, rows, Place, Grid, Has, at, all, repeated, entry, mapped, changed, with_entry, over, entry-here, entry-elsewhere, Blocks, blocks_of, has_y2, place, FrameInfo, ReadTokens, no_tokens_read, predictor_at, tokens_read, token_row_read, all_tokens_read, tokens_of, tokens_at, seen_read, row_seen, row_tokens, Readings, row_partition, readings, tokens_when_read}
use Rattle.vp_decode.proofs.MapLemmas.{rows-holds}

-- ---- one macroblock

-- the blocks of the macroblocks that are read
abbrev blocks_in : Grid ReadTokens → Grid Blocks
blocks_in g = mapped (λ m. blocks_of m.has_y2 m.tokens) g

-- what is read at p
abbrev read_at : FrameInfo → Place → Grid ReadTokens → State → ReadTokens
read_at f p g s = record { has_y2 = has_y2 (predictor_at f p); tokens = (tokens_at f p (blocks_in g) s).0 }

-- a grid of this size
record IsWhole (columns rows_ : ℕ) (g : Grid ReadTokens) : Type 0 where
  columns_are : g.columns ≡ columns
  rows_are : g.rows ≡ rows_
  whole : length g.entries ≡ g.rows * g.columns

with_whole : (columns rows_ : ℕ) (g : Grid ReadTokens) (p : Place) (m : ReadTokens) → IsWhole columns rows_ g → IsWhole columns rows_ (with_entry g p m)
unfolding changed
with_whole columns rows_ g p m w = record { columns_are = w.columns_are; rows_are = w.rows_are; whole = length-set g.entries _ m ∙ w.whole }

seen_is : (f : FrameInfo) (p : Place) (g : Grid ReadTokens) (s : State) → (blocks_in (tokens_read f p g s).0, (tokens_read f p g s).1) ≡ seen_read f p (blocks_in g) s
unfolding tokens_read seen_read tokens_at bind changed
seen_is f p g s = simp map-set

-- ---- a row

-- r is what is read of g after the first n macroblocks of a row
record IsRowOf (f : FrameInfo) (row n : ℕ) (g : Grid ReadTokens) (s : State) (r : Grid ReadTokens × State) : Type 0 where
  seen : (blocks_in r.0, r.1) ≡ row_seen f row n (blocks_in g) s
  whole : IsWhole g.columns g.rows r.0
  here : (column : ℕ) → column < n → (at no_tokens_read r.0 (place row column)).tokens ≡ row_tokens f row (blocks_in g) s column
  elsewhere : (q : Place) → q.row ≢ row → entry r.0 q ≡ entry g q

row_went : (f : FrameInfo) (row n : ℕ) (g : Grid ReadTokens) (s : State) (r : Grid ReadTokens × State) → n < g.columns → row < g.rows
    → IsRowOf f row n g s r → IsRowOf f row (suc n) g s (tokens_read f (place row n) r.0 r.1)
unfolding row_tokens row_seen rows bind tokens_read tokens_at
row_went f row n g s r column inside made =
    let p : Place = place row n in
    let w = made.whole in
    let m : ReadTokens = read_at f p r.0 r.1 in
    let has : Has r.0 p = record { column = omega (arith, w.columns_are); row = omega (arith, w.rows_are) } in
    record {
      seen = seen_is f p r.0 r.1 ∙ ap (λ (z : Grid Blocks × State). seen_read f p z.0 z.1) made.seen;
      whole = with_whole g.columns g.rows r.0 p m w;
      here = λ k below. elim (cases_lt k n) [
        | inl earlier ↦
            ap (λ (o : Option ReadTokens). (unwrap_or o no_tokens_read).tokens)
            (entry-elsewhere r.0 p m (place row k) has (λ e. absurd (let same : k ≡ n = ap (λ (q : Place). q.column) e in omega arith)))
            ∙ made.here k earlier
        | inr late ↦
            let same : n ≡ k = omega arith in
            subst (λ (j : ℕ). (at no_tokens_read (with_entry r.0 p m) (place row j)).tokens ≡ row_tokens f row (blocks_in g) s j) same
            (ap (λ (o : Option ReadTokens). (unwrap_or o no_tokens_read).tokens) (entry-here r.0 p m w.whole has)
            ∙ ap (λ (z : Grid Blocks × State). (tokens_at f p z.0 z.1).0) made.seen)
      ];
      elsewhere = λ q other. entry-elsewhere r.0 p m q has (λ e. other (ap (λ (z : Place). z.row) e)) ∙ made.elsewhere q other;
    }

row_is : (f : FrameInfo) (row n : ℕ) (g : Grid ReadTokens) (s : State) → length g.entries ≡ g.rows * g.columns → n ≤ g.columns → row < g.rows
    → IsRowOf f row n g s (rows n (λ column. tokens_read f (place row column)) g s)
unfolding row_seen rows
row_is f row n g s whole fits inside =
    rows-holds (λ k r. IsRowOf f row k g s r) n (λ column. tokens_read f (place row column)) g s
    (record { seen = refl; whole = record { columns_are = refl; rows_are = refl; whole = whole }; here = λ column never. absurd (omega arith); elsewhere = λ q other. refl })
    (λ k r below made. row_went f row k g s r (omega arith) inside made)

-- ---- all rows

-- r is what is read of the partitions after the rows above `row`
record IsRowsOf (f : FrameInfo) (ps : List State) (row : ℕ) (r : Grid ReadTokens × List State) : Type 0 where
  seen : blocks_in r.0 ≡ (readings f ps row).seen
  rests : r.1 ≡ (readings f ps row).rests
  whole : IsWhole f.maps.modes.columns f.maps.modes.rows r.0
  here : (q : Place) → q.row < row → q.column < f.maps.modes.columns → (at no_tokens_read r.0 q).tokens ≡ tokens_when_read f ps q

map-replicate : {A B : Type 0} (h : A → B) (n : ℕ) (a : A) → map h (replicate n a) ≡ replicate n (h a)
map-replicate h zero a = refl
map-replicate h (suc n) a = ap (λ (xs : List _). h a ∷ xs) (map-replicate h n a)

rows_went : (f : FrameInfo) (ps : List State) (row : ℕ) (r : Grid ReadTokens × List State) → row < f.maps.modes.rows → IsRowsOf f ps row r
    → IsRowsOf f ps (suc row) (token_row_read f row r)
unfolding token_row_read tokens_when_read readings over
rows_went f ps row r below made =
    let before : Readings = readings f ps row in
    let w = made.whole in
    let s : State = slice_index_or r.1 (row % length r.1) (initial_state []) in
    let wide : f.maps.modes.columns ≡ r.0.columns = sym w.columns_are in
    let one = row_is f row f.maps.modes.columns r.0 s w.whole (omega (arith, wide)) (omega (arith, w.rows_are)) in
    let own : s ≡ row_partition row before = ap (λ (z : List State). slice_index_or z (row % length z) (initial_state [])) made.rests in
    let after = one.seen ∙ (λ i. row_seen f row f.maps.modes.columns (made.seen i) (own i)) in
    record {
      seen = ap (λ (z : Grid Blocks × State). z.0) after;
      rests = (λ i. slice_set (made.rests i) (row % length (made.rests i)) (after i).1);
      whole = record { columns_are = one.whole.columns_are ∙ w.columns_are; rows_are = one.whole.rows_are ∙ w.rows_are; whole = one.whole.whole };
      here = λ q earlier within. elim (cases_lt q.row row) [
        | inl above ↦
            ap (λ (o : Option ReadTokens). (unwrap_or o no_tokens_read).tokens) (one.elsewhere q (λ e. absurd (omega arith)))
            ∙ made.here q above within
        | inr late ↦
            let same : row ≡ q.row = omega arith in
            subst (λ (k : ℕ). (at no_tokens_read (token_row_read f row r).0 (place k q.column)).tokens ≡ tokens_when_read f ps (place k q.column)) same
            (one.here q.column within ∙ (λ i. row_tokens f row (made.seen i) (own i) q.column))
      ];
    }

rows_are : (f : FrameInfo) (ps : List State) (row : ℕ) → row ≤ f.maps.modes.rows
    → IsRowsOf f ps row (over row (token_row_read f) (all f.maps.modes.columns f.maps.modes.rows no_tokens_read, ps))
unfolding over repeated readings
rows_are f ps zero fits = record {
  seen = simp map-replicate;
  rests = refl;
  whole = record { columns_are = refl; rows_are = refl; whole = length-replicate _ no_tokens_read };
  here = λ q never within. absurd (omega arith);
}
rows_are f ps (suc row) fits = rows_went f ps row _ (omega arith) (rows_are f ps row (omega arith))

-- the tokens of a macroblock are those that are read at its turn
pub tokens_in_turn : (f : FrameInfo) (ps : List State) (p : Place) → p.column < f.maps.modes.columns → p.row < f.maps.modes.rows → tokens_of f ps p ≡ tokens_when_read f ps p
unfolding tokens_of all_tokens_read
tokens_in_turn f ps p column row = (rows_are f ps f.maps.modes.rows (omega arith)).here p row column

-- what is left of the partitions
pub rests_in_turn : (f : FrameInfo) (ps : List State) → (all_tokens_read f ps).1 ≡ (readings f ps f.maps.modes.rows).rests
unfolding all_tokens_read
rests_in_turn f ps = (rows_are f ps f.maps.modes.rows (omega arith)).rests
