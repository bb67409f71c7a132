-- The rows of a frame: filtered by the levels of a grid, rebuilt and filtered one behind, or filtered alone where the
-- picture before the loop filter is given.
use Rattle.vp_decode.proofs.Words.{◌≡◌, ◌∙◌, ℕ, ◌-◌, ◌*◌, ◌<◌, ◌≤◌, List, Some, sym, ap, subst, arith, ◌+◌, get_or, map, State, initial_state, Place, Grid, entry, Has, Image, IsAligned, AreWhole, macroblocks, over, AreOneSize, AreSameAbove, AreSameFrom, over-holds, over-same, over-next, Level, filtered, row_filtered, level_in, macroblock_filtered, rebuilt, row_rebuilt, all_rebuilt, place, FrameInfo, Frame, frame_of, level_at, tokens_of, unfiltered, picture_of, IsSolution, IsShaped, IsBelow, IsAbove, get_or_from_slice_get, entry-inside, row_keeps, row_reads, row_size, Tokens, AreSkipsOf, AreRowLevels, level_by, HasConsistentSizes, ParsedPacket, frame_info_of, frame_of_packet, refl, IsSameFrame, Contexts}
use Rattle.vp_recon.specs.Predictor.{Macroblock}
use Rattle.vp_recon.specs.Equation.{IsUnfiltered}
use Rattle.vp_decode.proofs.SizeLemmas.{row_shaped, KeepsShape, unfiltered_shaped, info-mapped}
use Rattle.vp_decode.proofs.BandLemmas.{below_over}
use Rattle.vp_loop.specs.Levels.{no_level}
use Rattle.vp_decode.specs.RebuiltFrame.{IsRebuiltFrame}

-- ---- a row that is filtered

at_entry : (g : Grid Level) (row column : ℕ) (x : Level) → column < g.columns → entry g (record { column = column; row = row }) ≡ Some x → get_or g.entries (row * g.columns + column) no_level ≡ x
at_entry g row column x h e =
    get_or_from_slice_get g.entries (row * g.columns + column) x no_level (sym (entry-inside g (record { column = column; row = row }) h) ∙ e)

-- a row filtered by the levels of a grid, which has those of f in that row
pub row_by_entries : (g : Grid Level) (f : Place → Level) (row : ℕ) (p : Image) → macroblocks p.width ≡ g.columns
    → ((column : ℕ) → column < g.columns → entry g (record { column = column; row = row }) ≡ Some (f (record { column = column; row = row })))
    → row_filtered (level_in g.entries g.columns) row p ≡ row_filtered f row p
unfolding row_filtered
row_by_entries g f row p wide each =
    over-same (macroblocks p.width) (λ column. macroblock_filtered (level_in g.entries g.columns (record { column = column; row = row })) column row)
    (λ column. macroblock_filtered (f (record { column = column; row = row })) column row) p
    (λ column below q.
    let within : column < g.columns = omega (arith, wide) in
    let here : Place = record { column = column; row = row } in
    ap (λ (x : Level). macroblock_filtered x column row q) (at_entry g row column (f here) within (each column within)))

-- filtering a row works above the next one alone
pub filter_is_above : (width height k : ℕ) (level : Place → Level) → k < macroblocks height → IsAbove width height (k + 1) (row_filtered level k)
filter_is_above width height k level inside = record {
  shaped = row_shaped width height k level;
  keeps = λ p s. row_keeps level k p s.aligned (subst (λ (n : ℕ). k < macroblocks n) (sym s.height_is) inside);
  reads = λ p q sp sq same.
      row_reads level k p q sp.aligned sq.aligned (record { width = sp.width_is ∙ sym sq.width_is; height = sp.height_is ∙ sym sq.height_is })
      (subst (λ (n : ℕ). k < macroblocks n) (sym sp.height_is) inside) same;
}

-- ---- a row that is rebuilt

-- the filter of row k of a frame of so many columns and rows of pixels, and the rebuilding of that row
abbrev pub row_filter : FrameInfo → List State → ℕ → ℕ → ℕ → Image → Image
row_filter f ps width height = row_filtered (frame_of f ps width height).level

abbrev pub row_builder : FrameInfo → List State → ℕ → ℕ → Image → Image
row_builder f ps width k = row_rebuilt (macroblocks width) (λ p. (frame_of f ps 0 0).macroblock p) k

-- what the laws of rebuilding say
pub record Rebuilds : Type 0 where
  pub size : (m : Macroblock) (place : Place) (p : Image) → AreOneSize (rebuilt m place p) p
  pub aligned : (m : Macroblock) (place : Place) (p : Image) → IsAligned p → IsAligned (rebuilt m place p)
  pub whole : (m : Macroblock) (place : Place) (p : Image) → AreWhole p → AreWhole (rebuilt m place p)
  pub above : (m : Macroblock) (place : Place) (p : Image) → AreSameAbove (16 * place.row) (8 * place.row) (rebuilt m place p) p
  pub reads : (m : Macroblock) (place : Place) (p q : Image) (a b : ℕ) → IsAligned p → IsAligned q → AreOneSize p q → place.column < macroblocks p.width → place.row < macroblocks p.height
      → a ≤ 16 * place.row - 1 → b ≤ 8 * place.row - 1 → AreSameFrom a b p q → AreSameFrom a b (rebuilt m place p) (rebuilt m place q)

fewer : (a b : ℕ) (p q : Image) (c d : ℕ) → c ≤ a → d ≤ b → AreSameAbove a b p q → AreSameAbove c d p q
fewer a b p q c d ca db same = record {
  luma = λ u v uin vin less. same.luma u v uin vin (omega arith);
  u = λ u v uin vin less. same.u u v uin vin (omega arith);
  v = λ u v uin vin less. same.v u v uin vin (omega arith);
}

shaped_by : Rebuilds → (width height : ℕ) (m : Macroblock) (q : Place) (p : Image) → IsShaped width height p → IsShaped width height (rebuilt m q p)
shaped_by laws width height m q p s = record {
  width_is = (laws.size m q p).width ∙ s.width_is;
  height_is = (laws.size m q p).height ∙ s.height_is;
  aligned = laws.aligned m q p s.aligned;
  whole = laws.whole m q p s.whole;
}

macroblock_is_below : Rebuilds → (width height k : ℕ) (m : Macroblock) (q : Place) → q.column < macroblocks width → q.row < macroblocks height → k < q.row
    → IsBelow width height k (rebuilt m q)
macroblock_is_below laws width height k m q column row later = record {
  shaped = shaped_by laws width height m q;
  keeps = λ p s. fewer (16 * q.row) (8 * q.row) (rebuilt m q p) p (16 * k) (8 * k) (omega arith) (omega arith) (laws.above m q p);
  reads = λ p r sp sr same.
      laws.reads m q p r (16 * k) (8 * k) sp.aligned sr.aligned (record { width = sp.width_is ∙ sym sr.width_is; height = sp.height_is ∙ sym sr.height_is })
      (subst (λ (n : ℕ). q.column < macroblocks n) (sym sp.width_is) column) (subst (λ (n : ℕ). q.row < macroblocks n) (sym sp.height_is) row)
      (omega arith) (omega arith) same;
}

-- rebuilding a row reads one row above it at most, and changes its own alone
pub row_is_below : Rebuilds → (width height row k : ℕ) (f : Place → Macroblock) → row < macroblocks height → k < row → IsBelow width height k (row_rebuilt (macroblocks width) f row)
row_is_below laws width height row k f inside later =
    below_over width height k (macroblocks width) (λ column. rebuilt (f (place row column)) (place row column))
    (λ column within. macroblock_is_below laws width height k (f (place row column)) (place row column) within inside later)

pub row_keeps_shape : Rebuilds → (width height row : ℕ) (f : Place → Macroblock) (p : Image) → IsShaped width height p → IsShaped width height (row_rebuilt (macroblocks width) f row p)
row_keeps_shape laws width height row f p s =
    over-holds (IsShaped width height) (macroblocks width) (λ column. rebuilt (f (place row column)) (place row column)) p
    (λ column within q t. shaped_by laws width height (f (place row column)) (place row column) q t) s

-- ---- the whole frame

-- all rows rebuilt, and then all filtered, whatever stood in the picture before
pub frame_made : KeepsShape → ((m : Place → Macroblock) (p : Image) → IsAligned p → IsUnfiltered m (all_rebuilt m p)) → ((f : Frame) (p : Image) → IsSolution f p → p ≡ unfiltered f)
    → (f : FrameInfo) (ps : List State) (width height : ℕ) (p : Image) → IsShaped width height p
    → over (macroblocks height) (row_filter f ps width height) (over (macroblocks height) (row_builder f ps width) p) ≡ picture_of (frame_of f ps width height)
unfolding picture_of filtered
frame_made law solves one f ps width height p s =
    let frame : Frame = frame_of f ps width height in
    let made : Image = all_rebuilt frame.macroblock p in
    let rows : over (macroblocks height) (row_builder f ps width) p ≡ made =
    (λ i. over (macroblocks (sym s.height_is i)) (row_rebuilt (macroblocks (sym s.width_is i)) frame.macroblock) p) in
    let is : IsSolution frame made = record {
      width_is = (law.size frame.macroblock p).width ∙ s.width_is;
      height_is = (law.size frame.macroblock p).height ∙ s.height_is;
      aligned = law.aligned frame.macroblock p s.aligned;
      whole = law.whole frame.macroblock p s.whole;
      solves = solves frame.macroblock p s.aligned;
    } in
    ap (λ (q : Image). over (macroblocks height) (row_filter f ps width height) q) (rows ∙ one frame made is)
    ∙ ap (λ (n : ℕ). over (macroblocks n) (row_filter f ps width height) (unfiltered frame)) (sym (unfiltered_shaped law frame).height_is)

-- row k filtered by the levels that are found so far
pub filtered_by_levels : (f : FrameInfo) (ps : List State) (width height k : ℕ) (g : Grid Level) (p : Image)
    → g.columns ≡ macroblocks width → p.width ≡ width
    → ((column : ℕ) → column < macroblocks width → entry g (place k column) ≡ Some (level_at f (place k column) (tokens_of f ps (place k column))))
    → row_filtered (level_in g.entries g.columns) k p ≡ row_filter f ps width height k p
filtered_by_levels f ps width height k g p wide size each =
    row_by_entries g (frame_of f ps width height).level k p (ap (λ (n : ℕ). macroblocks n) size ∙ sym wide) (λ column within. each column (omega (arith, wide)))

-- ---- a frame whose picture before the loop filter is given

-- filtering a row keeps the size
pub row_sized : (level : Place → Level) (row : ℕ) (p q : Image) → q ≡ row_filtered level row p → AreOneSize q p
row_sized level row p q e = record { width = ap (λ (z : Image). z.width) e ∙ (row_size level row p).width; height = ap (λ (z : Image). z.height) e ∙ (row_size level row p).height }

pub filtered_same : (level : Place → Level) (row : ℕ) (p q : Image) (f : FrameInfo) (contexts : Contexts) (levels : Grid Level) → q ≡ row_filtered level row p
    → IsSameFrame (record { info = f; contexts = contexts; picture = p; levels = levels }) (record { info = f; contexts = contexts; picture = q; levels = levels })
filtered_same level row p q f contexts levels e =
    let size = row_sized level row p q e in
    record { info = refl; width = size.width; height = size.height; level_columns = refl; level_rows = refl; contexts = refl }

-- one more row, filtered by the levels of a grid
pub row_more : (f : FrameInfo) (tokens : Place → Tokens) (row : ℕ) (g : Grid Level) (levels : List Level) (p q r : Image) → row < f.maps.modes.rows
    → g.columns ≡ f.maps.modes.columns → f.maps.modes.columns ≡ macroblocks q.width → levels ≡ g.entries → AreRowLevels f row f.maps.modes.columns g → AreSkipsOf f tokens
    → q ≡ over row (row_filtered (level_by f tokens)) p → r ≡ row_filtered (level_in levels (macroblocks q.width)) row q → r ≡ over (row + 1) (row_filtered (level_by f tokens)) p
row_more f tokens row g levels p q r below columns wide entries set skips before made =
    let level : Place → Level = level_by f tokens in
    let width : macroblocks q.width ≡ g.columns = sym (columns ∙ wide) in
    made
    ∙ (λ i. row_filtered (level_in (entries i) (width i)) row q)
    ∙ row_by_entries g level row q width
    (λ column inside.
    let within : column < f.maps.modes.columns = omega (arith, columns) in
    let has : Has f.maps.modes (place row column) = record { column = within; row = below } in
    set column within (tokens (place row column)) (skips (place row column) has))
    ∙ over-next row (row_filtered level) p q before

-- the picture filtered by the levels of the frame's tokens
pub rebuilt_picture : (o : ParsedPacket) (f : FrameInfo) (p q : Image) → f ≡ frame_info_of o → IsRebuiltFrame o p
    → ((tokens : Place → Tokens) → AreSkipsOf f tokens → q ≡ filtered (level_by f tokens) p) → q ≡ picture_of (frame_of_packet o)
unfolding picture_of
rebuilt_picture o f p q same is made =
    let now : (tokens : Place → Tokens) → AreSkipsOf (frame_info_of o) tokens → q ≡ filtered (level_by (frame_info_of o) tokens) p =
    subst (λ (z : FrameInfo). (tokens : Place → Tokens) → AreSkipsOf z tokens → q ≡ filtered (level_by z tokens) p) same made in
    now (tokens_of (frame_info_of o) (map initial_state o.partitions)) is.skipped ∙ ap (filtered (frame_of_packet o).level) is.picture

-- the modes have a place for each macroblock of the picture
pub record IsCovered (f : FrameInfo) (p : Image) : Type 0 where
  pub columns : f.maps.modes.columns ≡ macroblocks p.width
  pub rows : f.maps.modes.rows ≡ macroblocks p.height

pub info_covers : (o : ParsedPacket) (f : FrameInfo) (p : Image) → f ≡ frame_info_of o → HasConsistentSizes o.context → p.width ≡ o.context.width → p.height ≡ o.context.height → IsCovered f p
info_covers o f p same sizes width height =
    let mapped = info-mapped o in
    record {
      columns = ap (λ (z : FrameInfo). z.maps.modes.columns) same ∙ mapped.columns_are ∙ sizes.columns ∙ sym (ap macroblocks width);
      rows = ap (λ (z : FrameInfo). z.maps.modes.rows) same ∙ mapped.rows_are ∙ sizes.rows ∙ sym (ap macroblocks height);
    }

pub rebuilt_covered : KeepsShape → (o : ParsedPacket) (f : FrameInfo) (p : Image) → f ≡ frame_info_of o → HasConsistentSizes o.context → IsRebuiltFrame o p → IsCovered f p
rebuilt_covered law o f p same sizes is =
    let shaped : IsShaped o.context.width o.context.height p = subst (IsShaped o.context.width o.context.height) (sym is.picture) (unfiltered_shaped law (frame_of_packet o)) in
    info_covers o f p same sizes shaped.width_is shaped.height_is
