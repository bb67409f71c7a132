-- What is written is read back.
use Rattle.std.proofs.Common.{◌≡◌, ℕ, zero, suc, ◌-◌, ◌+◌, ◌^◌, ◌%◌, ◌≤◌, ◌<◌, Bool, true, false, not, cond, nat_lt, List, [], ◌∷◌, ◌++◌, length, take, drop, ◌==◌, Some, None, Ok, Err, codes, refl, ap, ◌∙◌, arith}
use Rattle.std.proofs.lemmas.List.{length-append, length-take, drop_at, take_at}
use Rattle.std.proofs.lemmas.Bool.{le-ltb, lt-ltb, ltb-false}
use Rattle.std.proofs.lemmas.Bool.Decides.{nat_tests}
use Rattle.byteorder.specs.Endian.{little_bytes}
use Rattle.byteorder.specs.Numbers.{little_number-reads_back}
use Rattle.vp_webp.specs.declared.fault.WebPFault.TheVariants.{Torn, NotKey as NoKey, Hidden as NotShown}
use Rattle.vp_webp.specs.declared.fault.WebPWriteFault.TheVariants.{NotKey, Hidden, TooLong}
use Rattle.vp_webp.specs.declared.chunk.ChunkKind.TheVariants.{Vp8}
use Rattle.vp_webp.specs.Bytes.{take_bytes, little_u32, letters, without_rest}
use Rattle.vp_webp.specs.Chunks.{chunk, next_chunk, riff_body}
use Rattle.vp_webp.specs.WebP.{StillImage, is_key_packet, is_shown_packet, image_of, nothing_seen, image_in, still_image}
use Rattle.vp_webp.specs.Text.{riff_size, webp_head_text, padding, webp_text, webp_refusal}
use Rattle.vp_webp.specs.Laws.{IsWebPReadBack, IsTornIfCut}
use Rattle.vp_webp.proofs.Images.{next-is, known-image}

pub take_bytes-here : (n : ℕ) (xs ys : List ℕ) → length xs ≡ n → take_bytes n (xs ++ ys) ≡ Ok (xs, ys)
take_bytes-here n xs ys is =
    let long : nat_lt (length (xs ++ ys)) n ≡ false = le-ltb (length (xs ++ ys)) n (omega (arith, length-append xs ys)) in
    rw (long, take_at xs ys n is, drop_at xs ys n is) refl

pub take_bytes-short : (n : ℕ) (xs : List ℕ) → length xs < n → take_bytes n xs ≡ Err Torn
take_bytes-short n xs lt = let short : nat_lt (length xs) n ≡ true = lt-ltb (length xs) n lt in rw short refl

pub little_u32-here : (x : ℕ) (ys : List ℕ) → x < 2 ^ 32 → little_u32 (little_bytes 4 x ++ ys) ≡ Ok (x, ys)
little_u32-here x ys fits =
    rw (take_bytes-here 4 (little_bytes 4 x) ys refl)
    (ap (λ n. Ok (n, ys)) (little_number-reads_back 4 x [] fits))

pub riff-here : (ys : List ℕ) → letters (codes "RIFF") (codes "RIFF" ++ ys) ≡ Ok (codes "RIFF", ys)
riff-here ys = take_bytes-here 4 (codes "RIFF") ys refl

pub webp-here : (ys : List ℕ) → letters (codes "WEBP") (codes "WEBP" ++ ys) ≡ Ok (codes "WEBP", ys)
webp-here ys = take_bytes-here 4 (codes "WEBP") ys refl

-- a file whose header counts size bytes, and these bytes after its header
abbrev pub riff_text : ℕ → List ℕ → List ℕ
riff_text size rest = codes "RIFF" ++ (little_bytes 4 size ++ (codes "WEBP" ++ rest))

-- the chunks are what the size says
riff-rest : (size : ℕ) (rest : List ℕ) → 4 ≤ size → size < 2 ^ 32 → riff_body (riff_text size rest) ≡ take_bytes (size - 4) rest
unfolding riff_body
riff-rest size rest some fits =
    let enough : nat_lt size 4 ≡ false = le-ltb size 4 some in
    rw (riff-here (little_bytes 4 size ++ (codes "WEBP" ++ rest)), little_u32-here size (codes "WEBP" ++ rest) fits, webp-here rest, enough) refl

-- the chunk of a packet
abbrev pub chunk_text : List ℕ → List ℕ
chunk_text packet = codes "VP8 " ++ (little_bytes 4 (length packet) ++ (packet ++ padding (length packet)))

text-is : (packet more : List ℕ) → webp_text packet ++ more ≡ riff_text (riff_size (length packet)) (chunk_text packet ++ more)
unfolding webp_head_text
text-is packet more = refl

passed : (r : ℕ) → r < 2 → drop {A = ℕ} r (cond (r == 1) (0 ∷ []) []) ≡ []
passed zero lt = refl
passed (suc zero) lt = refl
passed (suc (suc r)) lt = absurd (omega arith)

pass-padding : (n : ℕ) → drop (n % 2) (padding n) ≡ []
pass-padding n = passed (n % 2) (omega arith)

measured : (r : ℕ) → r < 2 → length {A = ℕ} (cond (r == 1) (0 ∷ []) []) ≡ r
measured zero lt = refl
measured (suc zero) lt = refl
measured (suc (suc r)) lt = absurd (omega arith)

pub length-padding : (n : ℕ) → length (padding n) ≡ n % 2
length-padding n = measured (n % 2) (omega arith)

length-chunk : (packet : List ℕ) → length (chunk_text packet) ≡ 8 + length packet + length packet % 2
length-chunk packet = omega (arith, length-append packet (padding (length packet)), length-padding (length packet))

chunk-here : (packet : List ℕ) → length packet < 2 ^ 32
    → next_chunk (chunk_text packet) ≡ Ok (record { kind = Vp8; payload = packet }, [])
unfolding next_chunk chunk
chunk-here packet fits =
    let n = length packet in
    let some : (length (chunk_text packet) == 0) ≡ false = grind (arith, nat_tests, length-chunk packet) in
    rw (
      some,
      take_bytes-here 4 (codes "VP8 ") (little_bytes 4 n ++ (packet ++ padding n)) refl,
      little_u32-here n (packet ++ padding n) fits,
      take_bytes-here n packet (padding n) refl,
      pass-padding n,
    ) refl

image-by : (key shown long : Bool) (image : StillImage)
    → cond (not key) (Some NotKey) (cond (not shown) (Some Hidden) (cond long (Some TooLong) None)) ≡ None
    → cond (not key) (Err NoKey) (cond (not shown) (Err NotShown) (Ok image)) ≡ Ok image
image-by true true true image e = cc
image-by true true false image e = refl
image-by true false long image e = cc
image-by false shown long image e = cc

short-by : (key shown long : Bool)
    → cond (not key) (Some NotKey) (cond (not shown) (Some Hidden) (cond long (Some TooLong) None)) ≡ None
    → long ≡ false
short-by true true true e = cc
short-by true true false e = refl
short-by true false long e = cc
short-by false shown long e = cc

-- a packet that is not refused is an image
image-written : (packet : List ℕ) → webp_refusal packet ≡ None
    → image_of nothing_seen packet ≡ Ok (record { packet = packet; has_alpha = false; canvas = None })
image-written packet e = image-by _ _ _ _ e

fits-written : (packet : List ℕ) → webp_refusal packet ≡ None → riff_size (length packet) ≤ 2 ^ 32 - 10
fits-written packet e =
    ltb-false (2 ^ 32 - 10) (riff_size (length packet)) (short-by (is_key_packet packet) (is_shown_packet packet) _ e)

image_in-here : (packet : List ℕ) → webp_refusal packet ≡ None
    → image_in (chunk_text packet) ≡ Ok (record { packet = packet; has_alpha = false; canvas = None })
image_in-here packet e =
    let fits = fits-written packet e in
    let next = next-is (length (chunk_text packet)) nothing_seen (chunk_text packet) (record { kind = Vp8; payload = packet }, [])
    (omega arith) (omega (arith, length-chunk packet)) (chunk-here packet (omega (arith, fits))) in
    ap without_rest next.2 ∙ known-image (image_of nothing_seen packet) [] ∙ image-written packet e

pub read_back : IsWebPReadBack
unfolding still_image
read_back packet more e =
    let n = length packet in
    let fits = fits-written packet e in
    let size : length (chunk_text packet) ≡ riff_size n - 4 = omega (arith, length-chunk packet) in
    let body = riff-rest (riff_size n) (chunk_text packet ++ more) (omega arith) (omega (arith, fits))
    ∙ take_bytes-here (riff_size n - 4) (chunk_text packet) more size in
    rw (text-is packet more, body) (image_in-here packet e)

-- a file that ends before its size says
torn : (size n : ℕ) (rest : List ℕ) → 4 ≤ size → size < 2 ^ 32 → n < 8 + size
    → riff_body (take n (riff_text size rest)) ≡ Err Torn
unfolding riff_body
torn size zero rest some fits lt = refl
torn size (suc zero) rest some fits lt = refl
torn size (suc (suc zero)) rest some fits lt = refl
torn size (suc (suc (suc zero))) rest some fits lt = refl
torn size (suc (suc (suc (suc zero)))) rest some fits lt = refl
torn size (suc (suc (suc (suc (suc zero))))) rest some fits lt = refl
torn size (suc (suc (suc (suc (suc (suc zero)))))) rest some fits lt = refl
torn size (suc (suc (suc (suc (suc (suc (suc zero))))))) rest some fits lt = refl
torn size (suc (suc (suc (suc (suc (suc (suc (suc zero)))))))) rest some fits lt = refl
torn size (suc (suc (suc (suc (suc (suc (suc (suc (suc zero))))))))) rest some fits lt = refl
torn size (suc (suc (suc (suc (suc (suc (suc (suc (suc (suc zero)))))))))) rest some fits lt = refl
torn size (suc (suc (suc (suc (suc (suc (suc (suc (suc (suc (suc zero))))))))))) rest some fits lt = refl
torn size (suc (suc (suc (suc (suc (suc (suc (suc (suc (suc (suc (suc n)))))))))))) rest some fits lt =
    riff-rest size (take n rest) some fits
    ∙ take_bytes-short (size - 4) (take n rest) (omega (arith, length-take n rest))

pub length-file : (packet : List ℕ) → length (webp_text packet) ≡ 8 + riff_size (length packet)
unfolding webp_head_text
length-file packet = omega (arith, length-chunk packet)

pub torn_if_cut : IsTornIfCut
unfolding still_image webp_head_text
torn_if_cut packet n e lt =
    let size = riff_size (length packet) in
    let fits = fits-written packet e in
    let is : riff_body (take n (webp_text packet)) ≡ Err Torn
    = torn size n (chunk_text packet) (omega arith) (omega (arith, fits)) (omega (arith, length-file packet)) in
    rw is refl
