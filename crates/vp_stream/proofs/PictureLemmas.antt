-- One picture is written.
use Rattle.std.proofs.Common.{◌≡◌, ◌≢◌, ℕ, ◌+◌, ◌*◌, ◌/◌, Bool, true, false, List, [], ◌++◌, ◌<◌, ◌≤◌, length, take, get_or, Option, Some, None, refl, sym, ap, subst, ◌∙◌, arith}
use Rattle.std.specs.Io.KnownBytes.{Appends}
use Rattle.std.proofs.lemmas.List.{length-append, length-take-le, get_or-take}
use Rattle.std.proofs.lemmas.Nat.{rows}
use Rattle.vp_base.specs.Image.{Image, i420}
use Rattle.vp_base.specs.Raster.{Raster, pixel}
use Rattle.vp_base.specs.Block.{numbers, IsWhole}
use Rattle.vp_base.specs.Counted.{AppendsPrefix}
use Rattle.vp_base.proofs.BlockLemmas.{length-numbers, get_or-numbers, same_numbers}
use Rattle.vp_base.proofs.Writes.{appends_none, front_second}
use Rattle.vp_y4m.specs.Text.{i420_length}
use Rattle.vp_y4m.specs.declared.writing.PictureFault.{PictureFault}
use Rattle.vp_y4m.specs.declared.writing.PictureFault.TheVariants as written
use Rattle.vp_stream.specs.declared.form.Form.TheVariants.{Y4m}
use Rattle.vp_stream.specs.Transcode.{text_if, first_size, has_size}

mul_swap : (a b : ℕ) → a * b ≡ b * a
mul_swap a b = omega arith

added : (a b c d e : ℕ) → a ≡ d → b ≡ e → c ≡ e → (a + b) + c ≡ d + 2 * e
added a b c d e p q r = omega arith

three : (xs ys zs : List ℕ) (d e : ℕ) → length xs ≡ d → length ys ≡ e → length zs ≡ e → length (xs ++ ys ++ zs) ≡ d + 2 * e
three xs ys zs d e p q r =
    let both = length-append (xs ++ ys) zs in
    let first = length-append xs ys in
    let all = added (length xs) (length ys) (length zs) d e p q r in
    both ∙ (ap (λ n. n + length zs) first ∙ all)

counted : (w h : ℕ) (g : ℕ → ℕ → ℕ) → length (numbers w h g) ≡ w * h
counted w h g = length-numbers w h g ∙ mul_swap h w

pub length-i420 : (p : Image) → length (i420 p) ≡ i420_length p.width p.height
unfolding i420
length-i420 p = three (numbers p.width p.height (pixel p.luma)) (numbers ((p.width + 1) / 2) ((p.height + 1) / 2) (pixel p.u)) (numbers ((p.width + 1) / 2) ((p.height + 1) / 2) (pixel p.v))
    (p.width * p.height) ((p.width + 1) / 2 * ((p.height + 1) / 2))
    (counted p.width p.height (pixel p.luma)) (counted ((p.width + 1) / 2) ((p.height + 1) / 2) (pixel p.u)) (counted ((p.width + 1) / 2) ((p.height + 1) / 2) (pixel p.v))

-- the first rows of a plane, all of whose columns are shown, lie side by side
pub whole_rows : (p : Raster) (w h : ℕ) → IsWhole p → p.width ≡ w → h ≤ p.height → take (h * w) p.pixels ≡ numbers w h (pixel p)
whole_rows p w h whole wide high =
    let fits : h * w ≤ length p.pixels = rw (whole, wide) (grind (arith, rows)) in
    same_numbers w h (take (h * w) p.pixels) (numbers w h (pixel p)) (length-take-le (h * w) p.pixels fits) (length-numbers w h (pixel p))
    (λ x y xin yin.
    let inside : y * w + x < h * w = grind (arith, rows) in
    get_or-take (h * w) p.pixels (y * w + x) 0 inside ∙ ap (λ (k : ℕ). get_or p.pixels (y * k + x) 0) (sym wide) ∙ sym (get_or-numbers w h (pixel p) x y xin yin))

-- nothing is a front of all
pub nothing_written : (old new : Option (List ℕ)) (xs : List ℕ) → new ≡ old → AppendsPrefix old new xs
nothing_written old new xs e =
    let P : Option (List ℕ) → Type 0 = λ b. AppendsPrefix old b xs in
    subst P (sym e) ([], xs, refl, appends_none old)

-- where there is room for a picture a front of its text is written, else nothing
pub front_by : (room : Bool) (old new : Option (List ℕ)) (xs : List ℕ) → (room ≡ false → new ≡ old) → AppendsPrefix old new xs → AppendsPrefix old new (text_if room xs)
front_by true old new xs none w = w
front_by false old new xs none w = nothing_written old new [] (none refl)

-- after the line a front of a picture's text
pub second_by : (old mid new : Option (List ℕ)) (line xs : List ℕ) (room : Bool) → Appends old mid line → (room ≡ false → new ≡ mid) → AppendsPrefix mid new xs
    → AppendsPrefix old new (line ++ text_if room xs)
second_by old mid new line xs room w none f = front_second old mid new line (text_if room xs) w (front_by room mid new xs none f)

abbrev size_in : ℕ × ℕ → Option (ℕ × ℕ) → ℕ × ℕ
size_in other None = other
size_in other (Some s) = s

-- a picture whose size is the file's has its place
pub same_place : (size : Option (ℕ × ℕ)) (fw fh w h : ℕ) → Some (fw, fh) ≡ first_size Y4m size w h → fw ≡ w → fh ≡ h → has_size size w h ≡ true
same_place None fw fh w h e a b = refl
same_place (Some s) fw fh w h e a b =
    let pair : (fw, fh) ≡ s = ap (size_in s) e in
    let first : s.0 ≡ w = sym (ap (λ (x : ℕ × ℕ). x.0) pair) ∙ a in
    let second : s.1 ≡ h = sym (ap (λ (x : ℕ × ℕ). x.1) pair) ∙ b in
    rw (first, second) (grind arith)

true_false : (b : Bool) → b ≡ true → b ≡ false → ⊥
true_false b e f = cc

-- where there is no place the picture was refused, and nothing is written
pub refused_only : (fault : PictureFault) (room : Bool) (old new : Option (List ℕ)) → (fault ≢ written.SizeChange → room ≡ true) → (fault ≡ written.SizeChange → new ≡ old) → room ≡ false → new ≡ old
refused_only written.SizeChange room old new other same none = same refl
refused_only written.Device room old new other same none = absurd (true_false room (other (λ e. cc)) none)
