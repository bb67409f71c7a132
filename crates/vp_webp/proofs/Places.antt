-- Where the packet of a file lies.
use Rattle.std.proofs.Common.{◌≡◌, ℕ, ◌+◌, ◌%◌, ◌≤◌, List, ◌++◌, length, take, drop, Result, Ok, Err, refl, sym, ap, ◌∙◌, append_assoc, codes, arith}
use Rattle.std.proofs.lemmas.List.{length-append, length-drop, take_at, drop_at, drop-drop, drop-append-le, take-append-le}
use Rattle.vp_webp.specs.declared.fault.WebPFault.{WebPFault}
use Rattle.vp_webp.specs.declared.chunk.ChunkKind.{ChunkKind}
use Rattle.vp_webp.specs.declared.reading.Seen.{Seen}
use Rattle.vp_webp.specs.Chunks.{Chunk, next_chunk, riff_body}
use Rattle.vp_webp.specs.WebP.{StillImage, image_of, image_in, of_body, still_image}
use Rattle.vp_webp.specs.Place.{image_with}
use Rattle.vp_webp.specs.Laws.{HasChunks}
use Rattle.vp_webp.proofs.Faithful.{ChunkIs, chunk-is}

-- where the parts of a chunk lie among these bytes
pub record ChunkLies (bytes payload rest : List ℕ) : Type 0 where
  pub until : ℕ
  pub later : rest ≡ drop until bytes
  pub here : payload ≡ take (length payload) (drop 8 bytes)
  pub within : 8 + length payload ≤ length bytes

front-is : (a b : List ℕ) → length a ≡ 4 → length b ≡ 4 → length (a ++ b) ≡ 8
front-is a b x y = omega (arith, length-append a b)

after-front : (bytes a b payload rest : List ℕ) → bytes ≡ a ++ (b ++ (payload ++ rest)) → length (a ++ b) ≡ 8
    → drop 8 bytes ≡ payload ++ rest
after-front bytes a b payload rest whole eight =
    ap (λ xs. drop 8 xs) (whole ∙ sym (append_assoc a b (payload ++ rest)))
    ∙ drop_at (a ++ b) (payload ++ rest) 8 eight

lies : (bytes : List ℕ) (c : Chunk × List ℕ) → ChunkIs bytes c → ChunkLies bytes c.0.payload c.1
lies bytes c is =
    let payload = c.0.payload in
    let n = length payload in
    let eight = front-is is.name is.size is.named is.sized in
    let front : drop 8 bytes ≡ payload ++ is.rest = after-front bytes is.name is.size payload is.rest is.whole eight in
    let past : drop (8 + n) bytes ≡ is.rest =
    sym (drop-drop n 8 bytes) ∙ ap (λ xs. drop n xs) front ∙ drop_at payload is.rest n refl in
    record {
      until = 8 + n + n % 2;
      later = sym is.left ∙ ap (λ xs. drop (n % 2) xs) (sym past) ∙ drop-drop (n % 2) (8 + n) bytes;
      here = sym (take_at payload is.rest n refl) ∙ ap (λ xs. take n xs) (sym front);
      within = omega (
        arith,
        ap length is.whole,
        length-append is.name (is.size ++ (payload ++ is.rest)),
        length-append is.size (payload ++ is.rest),
        length-append payload is.rest,
        is.named,
        is.sized,
      );
    }

-- of the chunk that was read
pub chunk-lies : (bytes payload rest : List ℕ) (kind : ChunkKind) (x : Chunk × List ℕ)
    → (record { kind = kind; payload = payload }, rest) ≡ x → Ok x ≡ next_chunk bytes → ChunkLies bytes payload rest
chunk-lies bytes payload rest kind x view e =
    let c : Chunk × List ℕ = (record { kind = kind; payload = payload }, rest) in
    lies bytes c (chunk-is bytes c (sym e ∙ ap Ok (sym view)))

-- further on
pub lies-later : (body bytes rest : List ℕ) (k n : ℕ) → bytes ≡ drop k body → rest ≡ drop n bytes → rest ≡ drop (k + n) body
lies-later body bytes rest k n e later = later ∙ ap (λ xs. drop n xs) e ∙ drop-drop n k body

-- the payload among all chunks
pub payload-at : (body bytes payload : List ℕ) (k start : ℕ) → bytes ≡ drop k body → payload ≡ take (length payload) (drop 8 bytes)
    → start ≡ k + 8 → payload ≡ take (length payload) (drop start body)
payload-at body bytes payload k start e here at =
    here ∙ ap (λ xs. take (length payload) (drop 8 xs)) e ∙ ap (λ xs. take (length payload) xs) (drop-drop 8 k body)
    ∙ ap (λ n. take (length payload) (drop n body)) (sym at)

-- the bytes at the place of an image's packet
pub packet-lies : (seen : Seen) (packet payload body : List ℕ) (start : ℕ) (image : StillImage)
    → payload ≡ take (length payload) (drop start body) → packet ≡ image.packet → image ≡ image_with seen payload
    → take (length packet) (drop start body) ≡ payload
packet-lies seen packet payload body start image at inside is =
    ap (λ (p : List ℕ). take (length p) (drop start body)) (inside ∙ ap (λ (i : StillImage). i.packet) is) ∙ sym at

-- the image with these bytes
pub image-lies : (seen : Seen) (bytes payload : List ℕ) (image : StillImage) (all : Result StillImage WebPFault)
    → bytes ≡ payload → Ok image ≡ image_of seen payload → image ≡ image_with seen payload
    → image_of seen payload ≡ all → Ok (image_with seen bytes) ≡ all
image-lies seen bytes payload image all same value is e =
    ap (λ (p : List ℕ). Ok (image_with seen p)) same ∙ ap Ok (sym is) ∙ value ∙ e

-- ---- the place in the file

-- a place among the chunks, in a file that has 12 bytes before them
pub place-in : (file chunks more : List ℕ) (start len : ℕ) → drop 12 file ≡ chunks ++ more → start + len ≤ length chunks
    → take len (drop (start + 12) file) ≡ take len (drop start chunks)
place-in file chunks more start len is within =
    let order : start + 12 ≡ 12 + start = omega arith in
    let enough : len ≤ length (drop start chunks) = omega (arith, length-drop start chunks) in
    ap (λ n. take len (drop n file)) order
    ∙ ap (λ xs. take len xs) (sym (drop-drop start 12 file) ∙ ap (λ xs. drop start xs) is
    ∙ drop-append-le start chunks more (omega arith))
    ∙ take-append-le len (drop start chunks) more enough

regrouped : (size rest : List ℕ)
    → codes "RIFF" ++ (size ++ (codes "WEBP" ++ rest)) ≡ (codes "RIFF" ++ (size ++ codes "WEBP")) ++ rest
regrouped size rest = ap (λ xs. codes "RIFF" ++ xs) (sym (append_assoc size (codes "WEBP") rest))

-- the 12 bytes before the chunks
pub after-header : (file chunks : List ℕ) (has : HasChunks file chunks) → drop 12 file ≡ chunks ++ has.more
after-header file chunks has =
    let front = codes "RIFF" ++ (has.size ++ codes "WEBP") in
    let long : length front ≡ 12 = omega (arith, length-append has.size (codes "WEBP"), has.sized) in
    let whole : file ≡ front ++ (chunks ++ has.more) = has.whole ∙ regrouped has.size (chunks ++ has.more) in
    ap (λ xs. drop 12 xs) whole ∙ drop_at front (chunks ++ has.more) 12 long

-- the file is read as its chunks are
pub still-of-chunks : (file : List ℕ) (x : List ℕ × List ℕ) → Ok x ≡ riff_body file → still_image file ≡ image_in x.0
unfolding still_image
still-of-chunks file x e = ap of_body (sym e)

-- a fault of the header is that of the file
pub still-fault : (file : List ℕ) (fault : WebPFault) → Err fault ≡ riff_body file → still_image file ≡ Err fault
unfolding still_image
still-fault file fault e = ap of_body (sym e)

-- the chunks end within the file
pub chunks-within : (file chunks : List ℕ) → HasChunks file chunks → 12 + length chunks ≤ length file
chunks-within file chunks has =
    omega (
      arith,
      ap length has.whole,
      length-append has.size (codes "WEBP" ++ (chunks ++ has.more)),
      length-append chunks has.more,
      has.sized,
    )
