-- Blocks in the bytes of a plane: stored row after row, and residues added strip after strip and pair after pair.
use Rattle.std.proofs.Common.{◌≡◌, ◌∙◌, ℕ, ◌+◌, ◌*◌, ◌≤◌, List, ◌++◌, length, take, drop, get_or, sym, refl, ap, arith, length-append, length-drop, ◌-◌, ◌/◌, ◌%◌, ℤ, pos, Bool, cond, ◌<◌}
use Rattle.vp_recon.proofs.Words.{Raster, pixel, pixel_index, with_pixels, Image, plane_of, with_plane, raster, written, with_block, IsWhole, BlockLiesAt, IsBlockWritten, IsAdded, IsAddedToBlock, IsAcross, block_sum, strip_sum, IsNothing, with_block_none, with_block_more, IsWhole-with_block, with_block_same, summed, put_chunk_is, length-take, take_all, take-append-le, row_fits, le-ltb, mul-le-mul}
use lib.Lanes.{put_chunk}
use Rattle.vp_base.specs.Raster.{overlay}
use Rattle.vp_recon.proofs.SumLemmas.{own_same, summed-zero}
use Rattle.vp_recon.proofs.Parts.{Lies, block_pixel, was, until, until_none, until_written, until_all, with_block_of}

pub put_over : (xs : List ℕ) (i : ℕ) (vs : List ℕ) → i + length vs ≤ length xs → put_chunk i xs vs ≡ overlay xs i vs
unfolding overlay
put_over xs i vs fits =
    let long : length (take i xs ++ (vs ++ drop (length vs) (drop i xs))) ≡ length xs = simp (length-append, length-take, length-drop) (omega arith) in
    put_chunk_is i xs vs fits ∙ sym (take_all (length xs) (take i xs ++ (vs ++ drop (length vs) (drop i xs))) (omega arith))

pub none_yet : (p : Raster) (x y n : ℕ) (f : ℕ → ℕ → ℕ) (to : List ℕ) → IsWhole p → p.pixels ≡ to → to ≡ written p x y n 0 f
none_yet p x y n f to whole same = sym same ∙ sym (ap (λ (q : Raster). q.pixels) (with_block_none p x y n f whole))

pub place_is : (p : Raster) (x y r at width : ℕ) → p.width ≡ width → at ≡ pixel_index p x y → at + r * width ≡ pixel_index p x (y + r)
place_is p x y r at width wide here =
    let same : r * p.width ≡ r * width = ap (λ (k : ℕ). r * k) wide in
    omega arith

pub one_more : (p : Raster) (x y n r : ℕ) (f : ℕ → ℕ → ℕ) (before after row : List ℕ) (at next width : ℕ) → x + n ≤ p.width → y + r < p.height
    → p.width ≡ width → at ≡ pixel_index p x y → next ≡ at + r * width
    → before ≡ written p x y n r f → next + n ≤ length before → after ≡ put_chunk next before row
    → length row ≡ n → ((c : ℕ) → c < n → get_or row c 0 ≡ f r c) → after ≡ written p x y n (r + 1) f
one_more p x y n r f before after row at next width columns high wide here where_next done fits put size value =
    put
    ∙ put_over before next row (omega arith)
    ∙ ap (λ (i : ℕ). overlay before i row) (where_next ∙ place_is p x y r at width wide here)
    ∙ ap (λ (ns : List ℕ). overlay ns (pixel_index p x (y + r)) row) done
    ∙ ap (λ (q : Raster). q.pixels) (with_block_more p x y n r f row columns high size value)

over_all : (xs vs : List ℕ) → length vs ≡ length xs → overlay xs 0 vs ≡ vs
unfolding overlay
over_all xs vs same = ap (λ (n : ℕ). take n (vs ++ drop (length vs) xs)) (sym same) ∙ take-append-le (length vs) vs (drop (length vs) xs) (omega arith) ∙ take_all (length vs) vs (omega arith)

-- a block's last row ends within the plane's bytes
pub block_room : (p : Raster) (x y n r stride size : ℕ) → stride ≡ p.width → size ≡ p.height * p.width → x + n ≤ p.width → y + r < p.height → (y * stride + x) + r * stride + n ≤ size
block_room p x y n r stride size wide whole columns rows =
    let room : (y + r) * p.width + p.width ≤ p.height * p.width = row_fits (y + r) p.width p.height p.width rows (omega arith) in
    rw wide (omega arith)

pub sums_room : (p : Raster) (x y across stride size : ℕ) → stride ≡ p.width → size ≡ p.height * p.width → IsAcross across → x + 4 * across ≤ p.width → y + 4 * across ≤ p.height
    → (y * stride + x) + (4 * across - 1) * stride + 4 * across ≤ size
sums_room p x y across stride size wide whole is columns rows = block_room p x y (4 * across) (4 * across - 1) stride size wide whole columns (omega (arith, is))

-- pixel j of row r of a block
pub pixel_in : (p : Raster) (ps : List ℕ) (x y r j i w : ℕ) → ps ≡ p.pixels → w ≡ p.width → i ≡ y * w + x + r * w
    → get_or ps (i + j) 0 ≡ pixel p (x + j) (y + r)
pixel_in p ps x y r j i w same wide here =
    ap (λ (l : List ℕ). get_or l (i + j) 0) same
    ∙ ap (λ (n : ℕ). get_or p.pixels n 0) (let e : i + j ≡ (y + r) * w + (x + j) = omega arith in e)
    ∙ ap (λ (v : ℕ). get_or p.pixels ((y + r) * v + (x + j)) 0) wide

-- a block is written in the bytes of a plane, which are lent and put back
pub block_put : (p : Image) (k x y n h stride : ℕ) (f : Raster → ℕ → ℕ → ℕ → ℕ → ℕ) (bytes new : List ℕ) → let q : Raster = plane_of p k in IsWhole q → stride ≡ q.width → bytes ≡ q.pixels → x + n ≤ q.width → y + h ≤ q.height
    → IsBlockWritten n h bytes new (y * stride + x) stride f → with_plane p k (with_pixels q new) ≡ with_plane p k (with_block q x y n h (f q x y))
block_put p k x y n h stride f bytes new whole wide same columns rows to =
    let q : Raster = plane_of p k in
    let at : y * stride + x ≡ y * q.width + x = ap (λ (w : ℕ). y * w + x) wide in
    ap (λ (ns : List ℕ). with_plane p k (raster q.width q.height ns)) (over_all q.pixels new (to.len ∙ ap length same)
    ∙ to.value q x y (record { whole = whole; same = sym same; wide = sym wide; start = at; columns = columns; rows = rows }))

-- the pixels of a block when the parts before k have been added
abbrev pub so_far : Raster → ℕ → ℕ → ℕ → ℕ → (ℕ → ℕ → ℕ) → (ℕ → ℕ → ℕ) → ℕ → Raster
so_far p x y n o at f k = with_block p x y n o (until at k f (was p x y))

-- bytes of which the parts before k of a block have been added
pub record PartsTo (n o : ℕ) (part : ℕ → ℕ → ℕ) (f : Raster → ℕ → ℕ → ℕ → ℕ → ℕ) (first : List ℕ) (at stride k : ℕ) (now : List ℕ) : Type 0 where
  pub value : (p : Raster) (x y : ℕ) → BlockLiesAt p x y n o first at stride → now ≡ (so_far p x y n o part (f p x y) k).pixels
  pub len : length now ≡ length first

pub parts_none : (n o : ℕ) (part : ℕ → ℕ → ℕ) (f : Raster → ℕ → ℕ → ℕ → ℕ → ℕ) (first : List ℕ) (at stride : ℕ) → PartsTo n o part f first at stride 0 first
parts_none n o part f first at stride = record {
  value = λ p x y lies. sym lies.same ∙ ap (λ (q : Raster). q.pixels) (with_block_of p x y n o lies.whole ∙ until_none p x y n o part (f p x y) (was p x y));
  len = refl;
}

pub parts_all : (n o : ℕ) (part : ℕ → ℕ → ℕ) (f : Raster → ℕ → ℕ → ℕ → ℕ → ℕ) (first : List ℕ) (at stride k : ℕ) (now : List ℕ) → PartsTo n o part f first at stride k now
    → ((r c : ℕ) → r < o → c < n → part r c < k) → IsBlockWritten n o first now at stride f
parts_all n o part f first at stride k now done all = record {
  value = λ p x y lies. done.value p x y lies ∙ ap (λ (q : Raster). q.pixels) (until_all p x y n o part (f p x y) (was p x y) k all);
  len = done.len;
}

-- part k is added: m columns and four rows from column a of row b on
part_more : (n o : ℕ) (part : ℕ → ℕ → ℕ) (f : Raster → ℕ → ℕ → ℕ → ℕ → ℕ) (first : List ℕ) (start stride k a b m here : ℕ) (own : ℕ → List ℤ) (now next : List ℕ)
    → PartsTo n o part f first start stride k now → here ≡ start + b * stride + a → a + m ≤ n → b + 4 ≤ o
    → ((r c : ℕ) → r < 4 → c < m → part (b + r) (a + c) ≡ k)
    → ((r c : ℕ) → r < o → c < n → part r c ≡ k → Lies a b m 4 c r)
    → ((p : Raster) (x y r c : ℕ) → r < 4 → c < m → f p x y (b + r) (a + c) ≡ summed (was p x y (b + r) (a + c)) (get_or (own (c / 4)) (4 * r + c % 4) (pos 0)))
    → IsAdded m now next here stride own → PartsTo n o part f first start stride (k + 1) next
part_more n o part f first start stride k a b m here own now next done here_is afits bfits has inside is added = record {
  len = added.len ∙ done.len;
  value = λ p x y lies.
      let q : Raster = so_far p x y n o part (f p x y) k in
      let e : b * p.width ≡ b * stride = ap (λ (w : ℕ). b * w) lies.wide in
      added.value q (x + a) (y + b) (record {
        whole = IsWhole-with_block p x y n o (until part k (f p x y) (was p x y));
        same = sym (done.value p x y lies);
        wide = lies.wide;
        start = omega (arith, e, lies.start);
        columns = omega (arith, lies.columns);
        rows = omega (arith, lies.rows);
      })
      ∙ ap (λ (s : Raster). s.pixels) (until_written p x y n o part (f p x y) (was p x y) k a b m 4 (strip_sum q (x + a) (y + b) own) afits bfits has inside
      (λ r c rin cin.
      let later : part (b + r) (a + c) ≡ k = has r c rin cin in
      ap (λ (v : ℕ). summed v (get_or (own (c / 4)) (4 * r + c % 4) (pos 0)))
      (ap (λ (u : ℕ). pixel q u (y + b + r)) (let e : x + a + c ≡ x + (a + c) = omega arith in e)
      ∙ ap (pixel q (x + (a + c))) (let e : y + b + r ≡ y + (b + r) = omega arith in e)
      ∙ block_pixel p x y n o (until part k (f p x y) (was p x y)) (b + r) (a + c) lies.columns lies.rows (omega arith) (omega arith)
      ∙ ap (λ (t : Bool). cond t (f p x y (b + r) (a + c)) (was p x y (b + r) (a + c))) (le-ltb (part (b + r) (a + c)) k (omega arith)))
      ∙ sym (is p x y r c rin cin)));
}

-- the strips before i of a block have been added, and the pairs before i of a strip from subblock k on
abbrev strip_at : ℕ → ℕ → ℕ
strip_at r c = r / 4

abbrev pair_at : ℕ → ℕ → ℕ
pair_at r c = c / 8

abbrev pub StripsTo : ℕ → (ℕ → List ℤ) → List ℕ → ℕ → ℕ → ℕ → List ℕ → Type 0
StripsTo across own = PartsTo (4 * across) (4 * across) strip_at (λ p x y. block_sum across p x y own)

abbrev pub PairsTo : ℕ → (ℕ → List ℤ) → ℕ → List ℕ → ℕ → ℕ → ℕ → List ℕ → Type 0
PairsTo across own k = PartsTo (4 * across) 4 pair_at (λ p x y. strip_sum p x y (λ j. own (k + j)))

module _ (across : ℕ) (own : ℕ → List ℤ) (first : List ℕ) (at stride : ℕ) where
  pub strips_none : StripsTo across own first at stride 0 first
  strips_none = parts_none (4 * across) (4 * across) strip_at (λ p x y. block_sum across p x y own) first at stride

  pub strips_more : (i start : ℕ) (now next : List ℕ) → i < across → start ≡ at + i * (4 * stride) → StripsTo across own first at stride i now
      → IsAdded (4 * across) now next start stride (λ j. own (across * i + j)) → StripsTo across own first at stride (i + 1) next
  strips_more i start now next below here done added =
      part_more (4 * across) (4 * across) strip_at (λ p x y. block_sum across p x y own) first at stride i 0 (4 * i) (4 * across) start (λ j. own (across * i + j)) now next
      done (omega arith) (omega arith) (omega arith)
      (λ v c vin cin. omega arith)
      (λ v c vin cin same. record { left = omega arith; right = omega arith; top = omega arith; bottom = omega arith })
      (λ p x y v c vin cin.
      let row : (4 * i + v) / 4 ≡ i = omega arith in
      let turn : across * ((4 * i + v) / 4) ≡ across * i = ap (λ (n : ℕ). across * n) row in
      ap (λ (z : ℤ). summed (was p x y (4 * i + v) (0 + c)) z)
      (own_same own (across * ((4 * i + v) / 4) + (0 + c) / 4) (across * i + c / 4) (4 * ((4 * i + v) % 4) + (0 + c) % 4) (4 * v + c % 4) (omega arith) (omega arith))) added

  pub strips_all : (now : List ℕ) (i : ℕ) → across ≤ i → StripsTo across own first at stride i now → IsAddedToBlock across first now at stride own
  strips_all now i all done = parts_all (4 * across) (4 * across) strip_at (λ p x y. block_sum across p x y own) first at stride i now done (λ r j rin jin. omega arith)

  module _ (k : ℕ) where
    pub pairs_none : PairsTo across own k first at stride 0 first
    pairs_none = parts_none (4 * across) 4 pair_at (λ p x y. strip_sum p x y (λ j. own (k + j))) first at stride

    pub pairs_more : (i : ℕ) (now next : List ℕ) → 2 * i + 2 ≤ across → PairsTo across own k first at stride i now → IsAdded 8 now next (at + 8 * i) stride (λ j. own (k + 2 * i + j))
        → PairsTo across own k first at stride (i + 1) next
    pairs_more i now next below done added =
        part_more (4 * across) 4 pair_at (λ p x y. strip_sum p x y (λ j. own (k + j))) first at stride i (8 * i) 0 8 (at + 8 * i) (λ j. own (k + 2 * i + j)) now next
        done (omega arith) (omega arith) (omega arith)
        (λ v c vin cin. omega arith)
        (λ v c vin cin same. record { left = omega arith; right = omega arith; top = omega arith; bottom = omega arith })
        (λ p x y v c vin cin.
        ap (λ (z : ℤ). summed (was p x y (0 + v) (8 * i + c)) z)
        (own_same own (k + (8 * i + c) / 4) (k + 2 * i + c / 4) (4 * (0 + v) + (8 * i + c) % 4) (4 * v + c % 4) (omega arith) (omega arith))) added

    pub pairs_all : (now : List ℕ) (i : ℕ) → across ≤ 2 * i → PairsTo across own k first at stride i now → IsAdded (4 * across) first now at stride (λ j. own (k + j))
    pairs_all now i all done = parts_all (4 * across) 4 pair_at (λ p x y. strip_sum p x y (λ j. own (k + j))) first at stride i now done (λ r j rin jin. omega arith)

-- ---- a strip without residue
pub strip_alone : (p : Raster) (x y n : ℕ) (bytes : List ℕ) (at stride : ℕ) (own : ℕ → List ℤ) → BlockLiesAt p x y n 4 bytes at stride
    → ((i : ℕ) → 4 * i < n → IsNothing (own i)) → ((i : ℕ) → get_or bytes i 0 ≤ 255) → bytes ≡ written p x y n 4 (strip_sum p x y own)
strip_alone p x y n bytes at stride own lies nothing byte =
    sym lies.same
    ∙ ap (λ (q : Raster). q.pixels) (with_block_of p x y n 4 lies.whole
    ∙ with_block_same p x y n 4 (was p x y) (strip_sum p x y own)
    (λ r c rin cin. sym (
    ap (summed (was p x y r c)) (nothing (c / 4) (omega arith) (4 * r + c % 4) (omega arith))
    ∙ summed-zero (was p x y r c) (let e = ap (λ (ns : List ℕ). get_or ns ((y + r) * p.width + (x + c)) 0) lies.same in let b = byte ((y + r) * p.width + (x + c)) in omega (arith, e, b)))))

-- of other names for the same residues
pub added_alike : (n : ℕ) (old new : List ℕ) (at stride : ℕ) (own other : ℕ → List ℤ) → ((i : ℕ) → 4 * i < n → own i ≡ other i)
    → IsAdded n old new at stride own → IsAdded n old new at stride other
added_alike n old new at stride own other same to = record {
  value = λ p x y lies.
      to.value p x y lies
      ∙ ap (λ (q : Raster). q.pixels)
      (with_block_same p x y n 4 (strip_sum p x y own) (strip_sum p x y other)
      (λ r c rin cin. ap (λ (zs : List ℤ). summed (pixel p (x + c) (y + r)) (get_or zs (4 * r + c % 4) (pos 0))) (same (c / 4) (omega arith))));
  len = to.len;
}

-- a strip's last row ends within the bytes
pub strip_room : (across i at start stride size : ℕ) → i < across → at + (4 * across - 1) * stride + 4 * across ≤ size → start ≡ at + i * (4 * stride)
    → start + 3 * stride + 4 * across ≤ size
strip_room across i at start stride size below room here =
    let m : (4 * i + 3) * stride ≤ (4 * across - 1) * stride = mul-le-mul (omega arith) (omega arith) in
    omega arith
