-- A file that has a picture is read.
use Rattle.std.proofs.Common.{◌≡◌, ℕ, ◌-◌, ◌+◌, ◌%◌, ◌≤◌, false, nat_lt, List, [], ◌∷◌, ◌++◌, length, drop, ◌==◌, Result, Ok, Err, codes, refl, sym, ap, ◌∙◌, append_assoc, arith}
use Rattle.std.proofs.lemmas.List.{length-append, length-drop, drop_at}
use Rattle.std.proofs.lemmas.Bool.{le-ltb}
use Rattle.std.proofs.lemmas.Bool.Decides.{nat_tests}
use Rattle.byteorder.specs.Endian.{little_number}
use Rattle.vp_webp.specs.declared.fault.WebPFault.{WebPFault}
use Rattle.vp_webp.specs.declared.chunk.ChunkKind.TheVariants.{Vp8}
use Rattle.vp_webp.specs.declared.reading.Seen.{Seen}
use Rattle.vp_webp.specs.Bytes.{◌>>=◌, known, little_u32, without_rest}
use Rattle.vp_webp.specs.Chunks.{chunk_kind, chunk, next_chunk, riff_body}
use Rattle.vp_webp.specs.WebP.{StillImage, image_of, seen_after, first_image, nothing_seen, still_image}
use Rattle.vp_webp.specs.Laws.{HasChunks, RawChunk, ArePassedOver, if_seen, image_after, IsReadByItsChunks}
use Rattle.vp_webp.proofs.Images.{next-is, known-image, other-next}
use Rattle.vp_webp.proofs.Written.{take_bytes-here, riff-here, webp-here}

number-there : (size ys : List ℕ) → length size ≡ 4 → little_u32 (size ++ ys) ≡ Ok (little_number 4 size, ys)
number-there size ys four = rw (take_bytes-here 4 size ys four) refl

-- a chunk that is there is read
chunk-there : (name size payload after : List ℕ) → length name ≡ 4 → length size ≡ 4
    → little_number 4 size ≡ length payload
    → next_chunk (name ++ (size ++ (payload ++ after)))
    ≡ Ok (record { kind = chunk_kind name; payload = payload }, drop (length payload % 2) after)
unfolding next_chunk chunk
chunk-there name size payload after named sized counted =
    let some : (length (name ++ (size ++ (payload ++ after))) == 0) ≡ false
    = grind (arith, nat_tests, length-append name (size ++ (payload ++ after))) in
    rw (
      some,
      take_bytes-here 4 name (size ++ (payload ++ after)) named,
      number-there size (payload ++ after) sized,
      take_bytes-here (little_number 4 size) payload after (sym counted),
      counted,
    ) refl

step-by : (r : Result Seen WebPFault) (m : ℕ) (b : List ℕ) (f : Seen → Result StillImage WebPFault)
    → ((s : Seen) → without_rest (first_image m s b) ≡ f s)
    → without_rest ((known r >>= first_image m) b) ≡ if_seen r f
step-by (Err fault) m b f h = refl
step-by (Ok s) m b f h = h s

-- the chunks that are left
abbrev tail_of : List ℕ → List ℕ → List ℕ → List ℕ
tail_of size packet after = codes "VP8 " ++ (size ++ (packet ++ after))

picture-there : (n : ℕ) (seen : Seen) (size packet after : List ℕ) → length size ≡ 4
    → little_number 4 size ≡ length packet → length (tail_of size packet after) ≤ n
    → without_rest (first_image n seen (tail_of size packet after)) ≡ image_of seen packet
picture-there n seen size packet after sized counted few =
    let shorter : 8 + length (drop (length packet % 2) after) ≤ length (tail_of size packet after)
    = omega (arith, length-append size (packet ++ after), length-append packet after, length-drop (length packet % 2) after) in
    let next = next-is n seen (tail_of size packet after) (record { kind = Vp8; payload = packet }, drop (length packet % 2) after)
    few shorter (chunk-there (codes "VP8 ") size packet after refl sized counted) in
    ap without_rest next.2 ∙ known-image (image_of seen packet) (drop (length packet % 2) after)

regrouped : (name size payload padding rest tail : List ℕ)
    → ((name ++ (size ++ (payload ++ padding))) ++ rest) ++ tail ≡ name ++ (size ++ (payload ++ (padding ++ (rest ++ tail))))
regrouped name size payload padding rest tail = simp append_assoc

-- the first of the chunks, and then the others
first-of : (before : List RawChunk) (n : ℕ) (seen : Seen) (front size packet after : List ℕ) → ArePassedOver before front
    → length size ≡ 4 → little_number 4 size ≡ length packet → length (front ++ tail_of size packet after) ≤ n
    → without_rest (first_image n seen (front ++ tail_of size packet after)) ≡ image_after before packet seen
first-of [] n seen front size packet after passed sized counted few =
    let few' : length (tail_of size packet after) ≤ n = rw passed at few in
    rw passed (picture-there n seen size packet after sized counted few')
first-of (c ∷ cs) n seen front size packet after passed sized counted few =
    let tail = tail_of size packet after in
    let later = passed.0 ++ tail in
    let is = passed.1 in
    let bytes : front ++ tail ≡ c.name ++ (c.size ++ (c.payload ++ (c.padding ++ later)))
    = ap (λ xs. xs ++ tail) passed.2 ∙ regrouped c.name c.size c.payload c.padding passed.0 tail in
    let rest : drop (length c.payload % 2) (c.padding ++ later) ≡ later = drop_at c.padding later (length c.payload % 2) is.padded in
    let there : next_chunk (front ++ tail) ≡ Ok (record { kind = chunk_kind c.name; payload = c.payload }, later)
    = rw (bytes, chunk-there c.name c.size c.payload (c.padding ++ later) is.named is.sized is.counted, rest) refl in
    let shorter : 8 + length later ≤ length (front ++ tail)
    = rw bytes (omega (
      arith,
      is.named,
      is.sized,
      length-append c.name (c.size ++ (c.payload ++ (c.padding ++ later))),
      length-append c.size (c.payload ++ (c.padding ++ later)),
      length-append c.payload (c.padding ++ later),
      length-append c.padding later,
    )) in
    let next = next-is n seen (front ++ tail) (record { kind = chunk_kind c.name; payload = c.payload }, later) few shorter there in
    ap without_rest next.2
    ∙ ap (λ m. without_rest (m later)) (other-next (chunk_kind c.name) c.payload seen (first_image next.0) is.other)
    ∙ step-by (seen_after (chunk_kind c.name) c.payload seen) next.0 later (image_after cs packet)
    (λ s. first-of cs next.0 s passed.0 size packet after passed.3 sized counted next.1)

-- the header of a file
riff-there : (file chunks : List ℕ) (h : HasChunks file chunks) → riff_body file ≡ Ok (chunks, h.more)
unfolding riff_body
riff-there file chunks h =
    let rest = codes "WEBP" ++ (chunks ++ h.more) in
    let enough : nat_lt (little_number 4 h.size) 4 ≡ false = le-ltb (little_number 4 h.size) 4 (omega (arith, h.counted)) in
    let body : length chunks ≡ little_number 4 h.size - 4 = omega (arith, h.counted) in
    rw (
      h.whole,
      riff-here (h.size ++ rest),
      number-there h.size rest h.sized,
      webp-here (chunks ++ h.more),
      enough,
      take_bytes-here (little_number 4 h.size - 4) chunks h.more body,
    ) refl

pub is_read_by_its_chunks : IsReadByItsChunks
unfolding still_image
is_read_by_its_chunks file chunks packet p h =
    let tail = tail_of p.size packet p.after in
    let few : length (p.front ++ tail) ≤ length chunks = rw p.whole (omega arith) in
    let first = first-of p.before (length chunks) nothing_seen p.front p.size packet p.after p.passed p.sized p.counted few in
    rw (riff-there file chunks h) (ap (λ xs. without_rest (first_image (length chunks) nothing_seen xs)) p.whole ∙ first)
