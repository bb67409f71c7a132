-- A row of a frame's macroblocks is a part of their entries.
use Rattle.vp_decode.proofs.Words.{◌≡◌, ◌∙◌, ℕ, ◌+◌, ◌-◌, ◌*◌, ◌<◌, ◌≤◌, List, length, take, drop, Some, refl, ap, sym, inl, inr, arith, length-drop, nat_lt, option_map, unwrap_or, slice_get, slice_index_or, cases_Bool, get_or-take, get_or-drop, length-take-le, slice_get-get_or, slice_get-map, slice_get_read, Place, Grid, Has, entry, mapped, entry-inside, plain, intra, MacroblockMaps, modes_in, motion_in, place, IsMacroblockRow}
use Rattle.std.proofs.lemmas.Nat.{row_fits}
use Rattle.vp_decode.specs.declared.macroblocks.Macroblock.{Macroblock}

-- n entries of a list, from a row's first one on
abbrev pub part : {A : Type 0} → ℕ → ℕ → List A → List A
part row n xs = take (row * n + n - row * n) (drop (row * n) xs)

-- xs are the entries of a grid with n columns
record IsGrid {A : Type 0} (g : Grid A) (n : ℕ) (xs : List A) : Type 0 where
  columns : n ≡ g.columns
  entries : xs ≡ g.entries
  whole : length xs ≡ g.rows * g.columns

part_length : {A : Type 0} (g : Grid A) (row n : ℕ) (xs : List A) → IsGrid g n xs → row < g.rows → length (part row n xs) ≡ n
part_length g row n xs all below =
    let fits : row * n + n ≤ g.rows * n = row_fits row n g.rows n below (omega arith) in
    let whole : length xs ≡ g.rows * n = all.whole ∙ ap (λ (k : ℕ). g.rows * k) (sym all.columns) in
    let rest = length-drop (row * n) xs in
    let size : row * n + n - row * n ≡ n = omega arith in
    length-take-le (row * n + n - row * n) (drop (row * n) xs) (omega (arith, rest, whole, fits)) ∙ size

part_entry : {A : Type 0} (d : A) (g : Grid A) (row n column : ℕ) (xs : List A) → IsGrid g n xs → row < g.rows → column < n
    → entry g (place row column) ≡ slice_get (part row n xs) column
part_entry {A} d g row n column xs all below inside =
    let fits : row * n + n ≤ g.rows * n = row_fits row n g.rows n below (omega arith) in
    let whole : length xs ≡ g.rows * n = all.whole ∙ ap (λ (k : ℕ). g.rows * k) (sym all.columns) in
    let long = part_length g row n xs all below in
    let columns = all.columns in
    entry-inside g (place row column) (omega (arith, columns, inside)) ∙ (λ i. slice_get (sym all.entries i) (row * sym columns i + column))
    ∙ slice_get-get_or xs (row * n + column) d (omega (arith, whole, fits, inside))
    ∙ ap Some (sym (get_or-drop (row * n) xs column d) ∙ sym (get_or-take (row * n + n - row * n) (drop (row * n) xs) column d (omega (arith, inside))))
    ∙ sym (slice_get-get_or (part row n xs) column d (omega (arith, long, inside)))

-- ---- a row of macroblocks

entry-mapped : {A B : Type 0} (f : A → B) (g : Grid A) (p : Place) → entry (mapped f g) p ≡ option_map f (entry g p)
unfolding entry
entry-mapped f g p = elim (cases_Bool (nat_lt p.column g.columns)) [
  | inl inside ↦ rw inside (slice_get-map f g.entries (p.row * g.columns + p.column))
  | inr outside ↦ rw outside refl
]

-- any macroblock
other : Macroblock
other = record { modes = plain; motion = intra }

pub row_made : (g : Grid Macroblock) (row n : ℕ) (r : List Macroblock) → length g.entries ≡ g.rows * g.columns → n ≡ g.columns → row < g.rows
    → r ≡ part row n g.entries → IsMacroblockRow (record { modes = mapped (λ m. m.modes) g; motion = mapped (λ m. m.motion) g }) row r
row_made g row n r whole wide below here =
    let all : IsGrid g n g.entries = record { columns = wide; entries = refl; whole = whole } in
    record {
      modes = λ column inside. entry-mapped (λ m. m.modes) g (place row column)
          ∙ ap (λ o. option_map (λ m. m.modes) o) (part_entry other g row n column g.entries all below (omega (arith, wide, inside)) ∙ ap (λ es. slice_get es column) (sym here));
      motion = λ column inside. entry-mapped (λ m. m.motion) g (place row column)
          ∙ ap (λ o. option_map (λ m. m.motion) o) (part_entry other g row n column g.entries all below (omega (arith, wide, inside)) ∙ ap (λ es. slice_get es column) (sym here));
      whole = ap length here ∙ part_length g row n g.entries all below ∙ wide;
    }

-- the macroblock at a place of a row
pub item_at : (m : MacroblockMaps) (p : Place) (r : List Macroblock) (a : Macroblock) → IsMacroblockRow m p.row r → Has m.modes p → a ≡ slice_index_or r p.column a
    → (a.modes ≡ modes_in m p) × (a.motion ≡ motion_in m p)
item_at m p r a row has is =
    let here : slice_get r p.column ≡ Some a = slice_get_read r (length r) p.column a refl (let whole = row.whole in omega (arith, has.column, whole)) is in (
      ap (λ o. unwrap_or o plain) (sym (row.modes p.column has.column ∙ ap (λ o. option_map (λ a. a.modes) o) here)),
      ap (λ o. unwrap_or o intra) (sym (row.motion p.column has.column ∙ ap (λ o. option_map (λ a. a.motion) o) here)),
    )
