-- The first image of the chunks, a chunk at a time.
use Rattle.std.proofs.Common.{◌≡◌, ℕ, zero, suc, ◌+◌, ◌≤◌, List, [], ◌∷◌, length, Result, Ok, Err, refl, sym, ap, ◌∙◌, arith}
use Rattle.vp_webp.specs.declared.fault.WebPFault.{WebPFault}
use Rattle.vp_webp.specs.declared.chunk.ChunkKind.{ChunkKind}
use Rattle.vp_webp.specs.declared.chunk.ChunkKind.TheVariants.{Vp8, Vp8L, Vp8X, Alph, Anmf, Other}
use Rattle.vp_webp.specs.declared.reading.Seen.{Seen}
use Rattle.vp_webp.specs.Bytes.{ByteReader, ◌>>=◌, known, without_rest}
use Rattle.vp_webp.specs.Chunks.{Chunk, next_chunk}
use Rattle.vp_webp.specs.WebP.{StillImage, image_of, seen_after, image_from, first_image}

-- a fault of the next chunk is that of the image
pub image-fault : (n : ℕ) (seen : Seen) (bytes : List ℕ) (fault : WebPFault) → length bytes ≤ n
    → next_chunk bytes ≡ Err fault → without_rest (first_image n seen bytes) ≡ Err fault
unfolding first_image next_chunk
image-fault zero seen [] fault few e = cc
image-fault zero seen (x ∷ xs) fault few e = absurd (omega arith)
image-fault (suc n) seen bytes fault few e = rw e refl

pub next-is : (n : ℕ) (seen : Seen) (bytes : List ℕ) (x : Chunk × List ℕ) → length bytes ≤ n
    → 8 + length x.1 ≤ length bytes → next_chunk bytes ≡ Ok x
    → (m : ℕ) × (length x.1 ≤ m)
    × (first_image n seen bytes ≡ image_from x.0.kind x.0.payload seen (first_image m) x.1)
unfolding first_image
next-is zero seen bytes x few shorter e = absurd (omega arith)
next-is (suc n) seen bytes x few shorter e = (n, omega arith, rw e refl)

-- a chunk that is there decides first
pub image-next : (n : ℕ) (seen : Seen) (bytes payload rest : List ℕ) (kind : ChunkKind) (x : Chunk × List ℕ)
    (image : Result StillImage WebPFault) → length bytes ≤ n → without_rest (first_image n seen bytes) ≡ image
    → (record { kind = kind; payload = payload }, rest) ≡ x → Ok x ≡ next_chunk bytes → 8 + length x.1 ≤ length bytes
    → (m : ℕ) × (length rest ≤ m) × (without_rest (image_from kind payload seen (first_image m) rest) ≡ image)
image-next n seen bytes payload rest kind x image few so_far view e shorter =
    let c : Chunk × List ℕ = (record { kind = kind; payload = payload }, rest) in
    let is : next_chunk bytes ≡ Ok c = sym e ∙ ap Ok (sym view) in
    let next = next-is n seen bytes c few (rw (← view) at shorter) is in
    (next.0, next.1, ap without_rest (sym next.2) ∙ so_far)

pub known-image : (image : Result StillImage WebPFault) (rest : List ℕ) → without_rest (known image rest) ≡ image
known-image (Ok image) rest = refl
known-image (Err fault) rest = refl

-- a picture is the image
pub image-here : (kind : ChunkKind) (payload rest : List ℕ) (seen : Seen) (later : Seen → ByteReader StillImage)
    (image : Result StillImage WebPFault) → kind ≡ Vp8
    → without_rest (image_from kind payload seen later rest) ≡ image → image_of seen payload ≡ image
image-here kind payload rest seen later image is e = sym (known-image (image_of seen payload) rest) ∙ (rw is at e)

-- another chunk is not the image
pub other-next : (kind : ChunkKind) (payload : List ℕ) (seen : Seen) (later : Seen → ByteReader StillImage) → (kind ≡ Vp8 → ⊥)
    → image_from kind payload seen later ≡ known (seen_after kind payload seen) >>= later
other-next Vp8 payload seen later ne = absurd (ne refl)
other-next Vp8L payload seen later ne = refl
other-next Vp8X payload seen later ne = refl
other-next Alph payload seen later ne = refl
other-next Anmf payload seen later ne = refl
other-next Other payload seen later ne = refl

known-err : (r : Result Seen WebPFault) (rest : List ℕ) (later : Seen → ByteReader StillImage) (fault : WebPFault)
    → r ≡ Err fault → without_rest ((known r >>= later) rest) ≡ Err fault
known-err r rest later fault e = rw e refl

known-ok : (r : Result Seen WebPFault) (rest : List ℕ) (later : Seen → ByteReader StillImage) (after : Seen)
    → r ≡ Ok after → without_rest ((known r >>= later) rest) ≡ without_rest (later after rest)
known-ok r rest later after e = rw e refl

-- another chunk's fault is that of the image
pub other-fault : (kind : ChunkKind) (payload rest : List ℕ) (seen : Seen) (later : Seen → ByteReader StillImage)
    (fault : WebPFault) → (kind ≡ Vp8 → ⊥) → seen_after kind payload seen ≡ Err fault
    → without_rest (image_from kind payload seen later rest) ≡ Err fault
other-fault kind payload rest seen later fault ne e =
    ap (λ m. without_rest (m rest)) (other-next kind payload seen later ne)
    ∙ known-err (seen_after kind payload seen) rest later fault e

-- after another chunk the image is in the later ones
pub other-later : (kind : ChunkKind) (payload rest : List ℕ) (seen after : Seen) (later : Seen → ByteReader StillImage)
    → (kind ≡ Vp8 → ⊥) → seen_after kind payload seen ≡ Ok after
    → without_rest (image_from kind payload seen later rest) ≡ without_rest (later after rest)
other-later kind payload rest seen after later ne e =
    ap (λ m. without_rest (m rest)) (other-next kind payload seen later ne)
    ∙ known-ok (seen_after kind payload seen) rest later after e
