-- Rows that are read.
use Rattle.std.proofs.Common.{◌≡◌, ◌∙◌, ℕ, ◌<◌, ◌≤◌, ◌+◌, ◌-◌, List, ◌++◌, length, take, drop, Option, Result, Ok, Err, OnOk, ◌*◌, inl, inr, refl, sym, ap, length-append, arith}
use Rattle.std.specs.Io.KnownBytes.{Consumes}
use Rattle.std.proofs.KnownBytes.{Consumes-nil, Consumes-trans}
use Rattle.std.proofs.lemmas.List.{length-take, take-append-le, take-append-drop}
use Rattle.std.proofs.Math.Seq.{take-append-add}
use Rattle.std.proofs.lemmas.Nat.{row_fits}
use Rattle.vp_base.specs.Raster.{Raster, pixel, row_of, with_row, with_run}
use Rattle.vp_base.specs.Block.{numbers, IsWhole}
use Rattle.vp_base.specs.Image.{Image, plane_of, with_plane}
use Rattle.vp_base.proofs.BlockLemmas.{run_in_row, numbers_none, numbers_more, same_numbers, length-numbers, get_or-numbers, pixel-with_run_outside, pixel-with_run_inside, otherRow, after, length-overlay}
use Rattle.vp_base.proofs.ImageLemmas.{plane_of-with_plane, with_plane-plane_of, with_plane-with_plane}
use Rattle.vp_y4m.specs.declared.fault.SourceFault.{SourceFault}
use Rattle.vp_y4m.specs.Pictures.{StopsShort}
use Rattle.vp_y4m.specs.Pixels.{ReadsRows, IsBeyond}
use borrow.Rule.Slice.PartMut.{put_mid, post_of}

pub filled_more : (xs ys : List ℕ) (a k n : ℕ) (b c d : Option (List ℕ)) → a ≤ length xs → n ≤ length ys
    → Consumes b c (take a xs) → Consumes c d (take n ys) → Consumes b d (take (a + n) (put_mid a k xs ys))
filled_more xs ys a k n b c d inside few p q =
    let l : length (take a xs) ≡ a = length-take a xs ∙ omega arith in
    let e : take (length (take a xs) + n) (take a xs ++ (ys ++ post_of a k xs)) ≡ take a xs ++ take n (ys ++ post_of a k xs) = take-append-add (take a xs) (ys ++ post_of a k xs) n in
    let f : take n (ys ++ post_of a k xs) ≡ take n ys = take-append-le n ys (post_of a k xs) few in
    let g : take (a + n) (put_mid a k xs ys) ≡ take a xs ++ take n ys = rw (l, f) at e in
    rw g (Consumes-trans b c d (take a xs) (take n ys) p q)

-- a row whose front was read, and which is then written back
pub row_read : {E : Type 0} (p : Image) (k w y : ℕ) (b c : Option (List ℕ)) (row old : List ℕ) (r : Result Unit E) → IsWhole (plane_of p k) → length row ≡ length old → length old ≡ (plane_of p k).width → w ≤ (plane_of p k).width → y < (plane_of p k).height
    → old ≡ row_of (plane_of p k) y → drop w row ≡ drop w old → OnOk r (Consumes b c (take w row))
    → OnOk r ((taken : List ℕ) × (length taken ≡ w) × Consumes b c taken × (with_plane p k (with_row (plane_of p k) y row) ≡ with_plane p k (with_run (plane_of p k) 0 y taken)))
row_read p k w y b c row old (Ok u) whole len wide fits yin here behind h =
    let l : length (take w row) ≡ w = length-take w row ∙ omega arith in
    let e : 0 + length (take w row) - 0 ≡ w = omega arith in
    let f : with_row (plane_of p k) y (take w row ++ drop w old) ≡ with_run (plane_of p k) 0 y (take w row) = rw e at (run_in_row (plane_of p k) 0 y (take w row) old whole (omega arith) yin here) in
    let g : take w row ++ drop w old ≡ row = rw (← behind) (take-append-drop w row) in
    (take w row, l, h, ap (with_plane p k) (rw g at f))
row_read p k w y b c row old (Err f) whole len wide fits yin here behind h = tt

-- fewer bytes behind those of before are too few for both
pub short_more : (n m : ℕ) (f : SourceFault) (a b c : Option (List ℕ)) (xs : List ℕ) → Consumes a b xs → length xs + n ≤ m → StopsShort n f b c → StopsShort m f a c
short_more n m f a b c xs h room s = record {
  taken = xs ++ s.taken;
  consumed = Consumes-trans a b c xs s.taken h s.consumed;
  few = simp length-append (let few = s.few in omega arith);
  named = s.named;
  at_end = s.at_end;
}

-- no row yet
pub no_rows : (p : Image) (w k : ℕ) (a : Option (List ℕ)) → IsWhole (plane_of p k) → ReadsRows w 0 k p p a a
no_rows p w k a whole = record {
  consumed = rw (numbers_none w (pixel (plane_of p k))) (Consumes-nil a);
  width = refl;
  height = refl;
  whole = whole;
  beyond = λ x y xin yin out. refl;
  kept = sym (with_plane-plane_of p k);
}

-- the rows before keep their numbers
rows_kept : (p : Raster) (w y : ℕ) (run : List ℕ) → IsWhole p → length run ≡ w → w ≤ p.width → y < p.height → numbers w y (pixel (with_run p 0 y run)) ≡ numbers w y (pixel p)
rows_kept p w y run whole len fits yin =
    same_numbers w y (numbers w y (pixel (with_run p 0 y run))) (numbers w y (pixel p)) (length-numbers w y (pixel (with_run p 0 y run))) (length-numbers w y (pixel p))
    (λ u v uin vin. get_or-numbers w y (pixel (with_run p 0 y run)) u v uin vin
    ∙ pixel-with_run_outside p 0 y run u v whole (omega arith) yin (omega arith) (omega arith) (otherRow (λ e. omega arith))
    ∙ sym (get_or-numbers w y (pixel p) u v uin vin))

row_added : (p : Raster) (w y : ℕ) (run : List ℕ) → IsWhole p → length run ≡ w → w ≤ p.width → y < p.height → numbers w y (pixel p) ++ run ≡ numbers w (y + 1) (pixel (with_run p 0 y run))
row_added p w y run whole len fits yin =
    rw (← rows_kept p w y run whole len fits yin)
    (numbers_more w y (pixel (with_run p 0 y run)) run len
    (λ c cin. let z : c - 0 ≡ c = omega arith in sym (rw z at (pixel-with_run_inside p 0 y run c whole (omega arith) yin (omega arith) (omega arith)))))

run_is_whole : (p : Raster) (w y : ℕ) (run : List ℕ) → IsWhole p → length run ≡ w → w ≤ p.width → y < p.height → IsWhole (with_run p 0 y run)
run_is_whole p w y run whole len fits yin =
    let room : y * p.width + p.width ≤ p.height * p.width = row_fits y p.width p.height p.width yin (omega arith) in
    length-overlay p.pixels (y * p.width + 0) run (omega arith) ∙ whole

run_misses : (p : Raster) (w y : ℕ) (run : List ℕ) (u v : ℕ) → IsWhole p → length run ≡ w → w ≤ p.width → y < p.height → u < p.width → v < p.height → IsBeyond w (y + 1) u v
    → (pixel (with_run p 0 y run) u v ≡ pixel p u v) × IsBeyond w y u v
run_misses p w y run u v whole len fits yin uin vin (inl right) = (pixel-with_run_outside p 0 y run u v whole (omega arith) yin uin vin (after (omega arith)), inl right)
run_misses p w y run u v whole len fits yin uin vin (inr below) = (pixel-with_run_outside p 0 y run u v whole (omega arith) yin uin vin (otherRow (λ e. omega arith)), inr (omega arith))

-- one more row
pub rows_more : (w y k : ℕ) (old new next : Image) (a b c : Option (List ℕ)) (run : List ℕ) → ReadsRows w y k old new a b → length run ≡ w → w ≤ (plane_of old k).width → y < (plane_of old k).height
    → Consumes b c run → next ≡ with_plane new k (with_run (plane_of new k) 0 y run) → ReadsRows w (y + 1) k old next a c
rows_more w y k old new next a b c run h len fits yin got e =
    let q : plane_of next k ≡ with_run (plane_of new k) 0 y run = ap (λ (i : Image). plane_of i k) e ∙ plane_of-with_plane new k (with_run (plane_of new k) 0 y run) in
    let wide : w ≤ (plane_of new k).width = let i = h.width in omega arith in
    let tall : y < (plane_of new k).height = let i = h.height in omega arith in
    record {
      consumed = rw (q, ← row_added (plane_of new k) w y run h.whole len wide tall) (Consumes-trans a b c (numbers w y (pixel (plane_of new k))) run h.consumed got);
      width = rw q h.width;
      height = rw q h.height;
      whole = rw q (run_is_whole (plane_of new k) w y run h.whole len wide tall);
      beyond = λ u v uin vin out.
          let m = run_misses (plane_of new k) w y run u v h.whole len wide tall (let i = h.width in omega arith) (let i = h.height in omega arith) out in
          rw q (m.0 ∙ h.beyond u v uin vin m.1);
      kept = e ∙ ap (λ (i : Image). with_plane i k (with_run (plane_of new k) 0 y run)) h.kept
          ∙ with_plane-with_plane old k (plane_of new k) (with_run (plane_of new k) 0 y run) ∙ ap (with_plane old k) (sym q);
    }

-- a row that stopped short stops the plane short
pub plane_short : (w h y k : ℕ) (f : SourceFault) (old new : Image) (a b c : Option (List ℕ)) → ReadsRows w y k old new a b → y < h → StopsShort w f b c → StopsShort (h * w) f a c
plane_short w h y k f old new a b c r yin s =
    let l : length (numbers w y (pixel (plane_of new k))) ≡ y * w = length-numbers w y (pixel (plane_of new k)) in
    let room : y * w + w ≤ h * w = row_fits y w h w yin (omega arith) in
    short_more w (h * w) f a b c (numbers w y (pixel (plane_of new k))) r.consumed (omega arith) s
