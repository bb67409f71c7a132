-- What is written is read back.
use Rattle.std.proofs.Common.{◌≡◌, ◌∙◌, ℕ, ◌<◌, ◌≤◌, ◌*◌, ◌^◌, List, [], ◌∷◌, ◌++◌, length, Bool, true, false, Some, Ok, refl, sym, ap, append_assoc, length-append, arith, add-zero}
use Rattle.std.specs.Prelude.{codes}
use Rattle.std.specs.Char.{is_ascii_digit}
use Rattle.std.specs.List.{position_or_len, before_first, after_first, slice_split, list_all}
use Rattle.std.specs.Fmt.{decimal}
use Rattle.std.proofs.lemmas.Bool.{lt-ltb, le-leb, and_parts}
use Rattle.std.proofs.lemmas.Bool.Decides.{nat_tests}
use Rattle.std.proofs.lemmas.Fmt.{digits_decimal, digits_value-decimal, decimal_nonempty}
use Rattle.std.proofs.lemmas.List.Splits.{slice_split_first}
use Rattle.std.proofs.Math.Seq.{take-append_seam, drop-append-add}
use Rattle.vp_base.specs.Limits.{IsSide}
use Rattle.vp_y4m.specs.Text.{header_text, picture_text, i420_length}
use Rattle.vp_y4m.specs.Lines.{is_line_feed, first_line}
use Rattle.vp_y4m.specs.Header.{is_space, is_colon, begins_with, last_among, last_token, number_in, option_pair, rate_in, size_within, is_taken_colour, is_progressive, judged, head_in}
use Rattle.vp_y4m.specs.Pictures.{frame_line, next_of, head_line, file_head}
use Rattle.vp_y4m.specs.Laws.{IsHeadReadBack, IsPictureReadBack}
use Rattle.vp_y4m.proofs.DecimalLemmas.{decimal_is_short}
use Rattle.vp_y4m.proofs.FrameLemmas.{split_whole}
use Rattle.vp_y4m.proofs.LineLemmas.{NonePasses, position-append, line_is}
use Rattle.vp_y4m.proofs.NumberLemmas.{own}

pub picture_read_back : IsPictureReadBack
unfolding next_of picture_text
picture_read_back w h bytes rest e =
    rw (append_assoc (codes "FRAME\n") bytes rest) (ap (frame_line (i420_length w h)) (line_is (codes "FRAME") (bytes ++ rest) (omega arith) refl) ∙ split_whole (i420_length w h) bytes rest e)

-- bytes of which none passes a test, put together
none_both : (p : ℕ → Bool) (xs ys : List ℕ) → NonePasses p xs → NonePasses p ys → NonePasses p (xs ++ ys)
none_both p xs ys f g = position-append p xs ys f ∙ rw g (sym (length-append xs ys))

none_more : (p : ℕ → Bool) (x : ℕ) (xs : List ℕ) → p x ≡ false → NonePasses p xs → NonePasses p (x ∷ xs)
none_more p x xs other f = rw (other, f) (omega arith)

none_joined : (p : ℕ → Bool) (xs : List ℕ) (y : ℕ) (ys : List ℕ) → NonePasses p xs → p y ≡ false → NonePasses p ys → NonePasses p (xs ++ y ∷ ys)
none_joined p xs y ys f other g = none_both p xs (y ∷ ys) f (none_more p y ys other g)

-- the first byte that passes, behind bytes of which none does
first_at : (p : ℕ → Bool) (xs : List ℕ) (y : ℕ) (ys : List ℕ) → NonePasses p xs → p y ≡ true → position_or_len p (xs ++ y ∷ ys) ≡ length xs
first_at p xs y ys none here = position-append p xs (y ∷ ys) none ∙ rw here (add-zero (length xs))

before_at : (p : ℕ → Bool) (xs : List ℕ) (y : ℕ) (ys : List ℕ) → NonePasses p xs → p y ≡ true → before_first p (xs ++ y ∷ ys) ≡ xs
before_at p xs y ys none here = rw (first_at p xs y ys none here) (take-append_seam xs (y ∷ ys))

after_at : (p : ℕ → Bool) (xs : List ℕ) (y : ℕ) (ys : List ℕ) → NonePasses p xs → p y ≡ true → after_first p (xs ++ y ∷ ys) ≡ ys
after_at p xs y ys none here = rw (first_at p xs y ys none here) (drop-append-add xs (y ∷ ys) 1)

-- one part more
split_more : (p : ℕ → Bool) (xs : List ℕ) (y : ℕ) (ys : List ℕ) (parts : List (List ℕ)) → NonePasses p xs → p y ≡ true → slice_split p ys ≡ parts → slice_split p (xs ++ y ∷ ys) ≡ xs ∷ parts
split_more p xs y ys parts none here e =
    let first = first_at p xs y ys none here in
    let l = length-append xs (y ∷ ys) in
    slice_split_first p (xs ++ y ∷ ys) 0 (omega arith) ∙ rw (before_at p xs y ys none here, after_at p xs y ys none here, e) refl

-- a test that no digit passes
abbrev FailsAtDigits : (ℕ → Bool) → Type 0
FailsAtDigits p = (c : ℕ) → is_ascii_digit c ≡ true → p c ≡ false

digits_pass_none : (p : ℕ → Bool) → FailsAtDigits p → (ds : List ℕ) → list_all is_ascii_digit ds ≡ true → NonePasses p ds
digits_pass_none p fails [] h = refl
digits_pass_none p fails (c ∷ ds) h =
    let t = and_parts _ _ h in
    none_more p c ds (fails c t.0) (digits_pass_none p fails ds t.1)

feed_is_no_digit : FailsAtDigits is_line_feed
feed_is_no_digit c h = grind (arith, nat_tests)

space_is_no_digit : FailsAtDigits is_space
space_is_no_digit c h = grind (arith, nat_tests)

colon_is_no_digit : FailsAtDigits is_colon
colon_is_no_digit c h = grind (arith, nat_tests)

decimal_is_digits : (n : ℕ) → n < 2 ^ 32 → list_all is_ascii_digit (decimal n) ≡ true
decimal_is_digits n small = digits_decimal own n (omega arith)

decimal_passes_none : (p : ℕ → Bool) (n : ℕ) → FailsAtDigits p → n < 2 ^ 32 → NonePasses p (decimal n)
decimal_passes_none p n fails small = digits_pass_none p fails (decimal n) (decimal_is_digits n small)

-- a number's text is read as that number
number_of_decimal : (n : ℕ) → n < 2 ^ 32 → number_in (decimal n) ≡ Some n
number_of_decimal n small =
    rw (decimal_is_digits n small, digits_value-decimal own n (omega arith), lt-ltb 0 (length (decimal n)) (decimal_nonempty n (omega arith)), lt-ltb n 4294967296 (omega arith)) refl

-- a number behind the byte of its kind
tagged_passes_none : (p : ℕ → Bool) (kind n : ℕ) → FailsAtDigits p → p kind ≡ false → n < 2 ^ 32 → NonePasses p (kind ∷ decimal n)
tagged_passes_none p kind n fails other small = none_more p kind (decimal n) other (decimal_passes_none p n fails small)

-- a rate and a scale
rate_text : ℕ → ℕ → List ℕ
rate_text rate scale = decimal rate ++ 58 ∷ decimal scale

rate_passes_none : (p : ℕ → Bool) (rate scale : ℕ) → FailsAtDigits p → p 70 ≡ false → p 58 ≡ false → rate < 2 ^ 32 → scale < 2 ^ 32 → NonePasses p (70 ∷ rate_text rate scale)
unfolding rate_text
rate_passes_none p rate scale fails kind colon r s =
    none_joined p (70 ∷ decimal rate) 58 (decimal scale) (tagged_passes_none p 70 rate fails kind r) colon (decimal_passes_none p scale fails s)

rate_read : (rate scale : ℕ) → rate < 2 ^ 32 → scale < 2 ^ 32 → rate_in (Some (rate_text rate scale)) ≡ Some (rate, scale)
unfolding rate_text
rate_read rate scale r s =
    let none = decimal_passes_none is_colon rate colon_is_no_digit r in
    rw (before_at is_colon (decimal rate) 58 (decimal scale) none refl, after_at is_colon (decimal rate) 58 (decimal scale) none refl, number_of_decimal rate r, number_of_decimal scale s) refl

size_read : (pixels w h : ℕ) → IsSide w → IsSide h → w * h ≤ pixels → size_within pixels (Some (w, h)) ≡ Some (w, h)
size_read pixels w h fw fh few =
    rw (lt-ltb 0 w fw.0, le-leb w 16383 fw.1, lt-ltb 0 h fh.0, le-leb h 16383 fh.1, le-leb (w * h) pixels few) refl

-- the line without its line feed, from its last tokens to its first
abbrev from_rate : ℕ → ℕ → List ℕ
from_rate rate scale = (70 ∷ rate_text rate scale) ++ 32 ∷ codes "Ip A0:0 C420jpeg"

abbrev from_height : ℕ → ℕ → ℕ → List ℕ
from_height h rate scale = (72 ∷ decimal h) ++ 32 ∷ from_rate rate scale

abbrev from_width : ℕ → ℕ → ℕ → ℕ → List ℕ
from_width w h rate scale = (87 ∷ decimal w) ++ 32 ∷ from_height h rate scale

abbrev line_text : ℕ → ℕ → ℕ → ℕ → List ℕ
line_text w h rate scale = codes "YUV4MPEG2" ++ 32 ∷ from_width w h rate scale

-- the tokens behind, and what follows the line
tag_joined : (kind : ℕ) (xs ys rest zs : List ℕ) → ys ++ rest ≡ zs → ((kind ∷ xs) ++ 32 ∷ ys) ++ rest ≡ kind ∷ (xs ++ 32 ∷ zs)
tag_joined kind xs ys rest zs e = ap (λ (t : List ℕ). kind ∷ t) (append_assoc xs (32 ∷ ys) rest ∙ ap (λ (t : List ℕ). xs ++ 32 ∷ t) e)

header_is_line : (w h rate scale : ℕ) (rest : List ℕ) → header_text w h rate scale ++ rest ≡ line_text w h rate scale ++ 10 ∷ rest
unfolding header_text rate_text
header_is_line w h rate scale rest =
    let end : List ℕ = codes "Ip A0:0 C420jpeg\n" ++ rest in
    let said : List ℕ = codes "YUV4MPEG2 W" ++ (decimal w ++ (codes " H" ++ (decimal h ++ (codes " F" ++ (decimal rate ++ (codes ":" ++ (decimal scale ++ 32 ∷ end))))))) in
    let header : header_text w h rate scale ++ rest ≡ said = simp append_assoc refl in
    let line : line_text w h rate scale ++ 10 ∷ rest ≡ said =
    ap (λ (t : List ℕ). codes "YUV4MPEG2 " ++ t)
    (tag_joined 87 (decimal w) (from_height h rate scale) (10 ∷ rest) _
    (tag_joined 72 (decimal h) (from_rate rate scale) (10 ∷ rest) _
    (tag_joined 70 (rate_text rate scale) (codes "Ip A0:0 C420jpeg") (10 ∷ rest) end refl
    ∙ ap (λ (t : List ℕ). 70 ∷ t) (append_assoc (decimal rate) (58 ∷ decimal scale) (32 ∷ end))))) in
    header ∙ sym line

line_is_short : (w h rate scale : ℕ) → w < 2 ^ 32 → h < 2 ^ 32 → rate < 2 ^ 32 → scale < 2 ^ 32 → length (line_text w h rate scale) ≤ 1024
unfolding rate_text
line_is_short w h rate scale sw sh sr ss =
    let lw = decimal_is_short w sw in
    let lh = decimal_is_short h sh in
    let lr = decimal_is_short rate sr in
    let ls = decimal_is_short scale ss in
    simp length-append (omega arith)

line_has_no_feed : (w h rate scale : ℕ) → w < 2 ^ 32 → h < 2 ^ 32 → rate < 2 ^ 32 → scale < 2 ^ 32 → NonePasses is_line_feed (line_text w h rate scale)
line_has_no_feed w h rate scale sw sh sr ss =
    none_joined is_line_feed (codes "YUV4MPEG2") 32 (from_width w h rate scale) refl refl
    (none_joined is_line_feed (87 ∷ decimal w) 32 (from_height h rate scale) (tagged_passes_none is_line_feed 87 w feed_is_no_digit refl sw) refl
    (none_joined is_line_feed (72 ∷ decimal h) 32 (from_rate rate scale) (tagged_passes_none is_line_feed 72 h feed_is_no_digit refl sh) refl
    (none_joined is_line_feed (70 ∷ rate_text rate scale) 32 (codes "Ip A0:0 C420jpeg") (rate_passes_none is_line_feed rate scale feed_is_no_digit refl refl sr ss) refl refl)))

-- its tokens
abbrev tokens_of : ℕ → ℕ → ℕ → ℕ → List (List ℕ)
tokens_of w h rate scale = codes "YUV4MPEG2" ∷ (87 ∷ decimal w) ∷ (72 ∷ decimal h) ∷ (70 ∷ rate_text rate scale) ∷ codes "Ip" ∷ codes "A0:0" ∷ codes "C420jpeg" ∷ []

line_splits : (w h rate scale : ℕ) → w < 2 ^ 32 → h < 2 ^ 32 → rate < 2 ^ 32 → scale < 2 ^ 32 → slice_split is_space (line_text w h rate scale) ≡ tokens_of w h rate scale
line_splits w h rate scale sw sh sr ss =
    split_more is_space (codes "YUV4MPEG2") 32 (from_width w h rate scale) _ refl refl
    (split_more is_space (87 ∷ decimal w) 32 (from_height h rate scale) _ (tagged_passes_none is_space 87 w space_is_no_digit refl sw) refl
    (split_more is_space (72 ∷ decimal h) 32 (from_rate rate scale) _ (tagged_passes_none is_space 72 h space_is_no_digit refl sh) refl
    (split_more is_space (70 ∷ rate_text rate scale) 32 (codes "Ip A0:0 C420jpeg") _ (rate_passes_none is_space rate scale space_is_no_digit refl refl sr ss) refl refl)))

last_of_line : (kind w h rate scale : ℕ) → w < 2 ^ 32 → h < 2 ^ 32 → rate < 2 ^ 32 → scale < 2 ^ 32 → last_token kind (line_text w h rate scale) ≡ last_among kind (tokens_of w h rate scale)
unfolding last_token
last_of_line kind w h rate scale sw sh sr ss = ap (last_among kind) (line_splits w h rate scale sw sh sr ss)

-- what such tokens say
said : (pixels : ℕ) (line f w h c i : List ℕ) → begins_with (codes "YUV4MPEG2") line ≡ true → last_token 70 line ≡ Some f → last_token 87 line ≡ Some w → last_token 72 line ≡ Some h → last_token 67 line ≡ Some c → last_token 73 line ≡ Some i
    → head_in pixels line ≡ judged (rate_in (Some f)) (size_within pixels (option_pair (number_in w) (number_in h))) (is_taken_colour (Some c)) (is_progressive (Some i))
unfolding head_in
said pixels line f w h c i eb ef ew eh ec ei = rw (eb, ef, ew, eh, ec, ei) refl

head_of_line : (pixels w h rate scale : ℕ) → IsSide w → IsSide h → w * h ≤ pixels → rate < 2 ^ 32 → scale < 2 ^ 32
    → head_in pixels (line_text w h rate scale) ≡ Ok (record { w = w; h = h; rate = rate; scale = scale })
head_of_line pixels w h rate scale fw fh few sr ss =
    let sw : w < 2 ^ 32 = omega (arith, fw.1) in
    let sh : h < 2 ^ 32 = omega (arith, fh.1) in
    let last = λ (kind : ℕ). last_of_line kind w h rate scale sw sh sr ss in
    said pixels (line_text w h rate scale) (rate_text rate scale) (decimal w) (decimal h) (codes "420jpeg") (codes "p") refl (last 70) (last 87) (last 72) (last 67) (last 73)
    ∙ rw (rate_read rate scale sr ss, number_of_decimal w sw, number_of_decimal h sh, size_read pixels w h fw fh few) refl

pub head_read_back : IsHeadReadBack
unfolding file_head
head_read_back pixels w h rate scale rest fw fh few sr ss =
    let sw : w < 2 ^ 32 = omega (arith, fw.1) in
    let sh : h < 2 ^ 32 = omega (arith, fh.1) in
    let line = line_is (line_text w h rate scale) rest (line_is_short w h rate scale sw sh sr ss) (line_has_no_feed w h rate scale sw sh sr ss) in
    ap (λ (bytes : List ℕ). head_line pixels (first_line bytes)) (header_is_line w h rate scale rest)
    ∙ (ap (head_line pixels) line ∙ rw (head_of_line pixels w h rate scale fw fh few sr ss) refl)
