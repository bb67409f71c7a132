-- What is read is in the file.
use Rattle.std.proofs.Common.{◌≡◌, ℕ, zero, suc, ◌-◌, ◌%◌, ◌≤◌, Bool, true, false, not, cond, nat_lt, nat_eq, if◌then◌else◌, List, [], ◌∷◌, ◌++◌, length, take, drop, ◌==◌, Result, Ok, Err, codes, refl, sym, ap, ◌∙◌, append_assoc, arith}
use Rattle.std.specs.List.{starts_with}
use Rattle.std.proofs.lemmas.List.{append-nil, length-append, length-take, take-append-drop, length-drop, take_at}
use Rattle.std.proofs.lemmas.Bool.{ltb-false}
use Rattle.std.proofs.lemmas.Bool.Decides.{Decides-eqb}
use Rattle.std.proofs.lemmas.Slice.Eq.{starts_is}
use Rattle.byteorder.specs.Endian.{little_number}
use Rattle.vp_webp.specs.declared.fault.WebPFault.{WebPFault}
use Rattle.vp_webp.specs.declared.fault.WebPFault.TheVariants.{Signature, Torn, NoPicture, NotKey, Hidden}
use Rattle.vp_webp.specs.declared.chunk.ChunkKind.{ChunkKind}
use Rattle.vp_webp.specs.declared.chunk.ChunkKind.TheVariants.{Vp8, Vp8L, Vp8X, Alph, Anmf, Other}
use Rattle.vp_webp.specs.declared.reading.Seen.{Seen}
use Rattle.vp_webp.specs.Bytes.{ByteReader, then_read, ◌>>=◌, give_value, fail, pass, known, take_bytes, little_u32, letters, without_rest}
use Rattle.vp_webp.specs.Chunks.{Chunk, chunk_kind, chunk, next_chunk, riff_body}
use Rattle.vp_webp.specs.WebP.{StillImage, nothing_seen, is_key_packet, is_shown_packet, image_of, seen_after, image_from, first_image, image_in, of_body, still_image}
use Rattle.vp_webp.specs.Laws.{HasChunks, RawChunk, raw_bytes, HasPicture, IsFaithfulToFile}

taken-by : (n : ℕ) (b : List ℕ) (x : List ℕ × List ℕ) (short : Bool) → nat_lt (length b) n ≡ short
    → cond short (Err Torn) (Ok (take n b, drop n b)) ≡ Ok x → (b ≡ x.0 ++ x.1) × (length x.0 ≡ n)
taken-by n b x true is e = absurd (cc)
taken-by n b x false is e =
    let same : (take n b, drop n b) ≡ x = cc in
    let enough = ltb-false (length b) n is in
    rw (← same) (sym (take-append-drop n b), omega (arith, length-take n b))

-- the bytes that were taken are the first ones
pub take_bytes-is : (n : ℕ) (b : List ℕ) (x : List ℕ × List ℕ) → take_bytes n b ≡ Ok x
    → (b ≡ x.0 ++ x.1) × (length x.0 ≡ n)
take_bytes-is n b x e = taken-by n b x (nat_lt (length b) n) refl e

empty : (xs : List ℕ) → length xs ≡ 0 → xs ≡ []
empty [] e = refl
empty (x ∷ xs) e = absurd (omega arith)

-- a start that is as long as the whole is the whole
starts-whole : (xs word : List ℕ) → starts_with nat_eq xs word ≡ true → length xs ≡ length word → xs ≡ word
starts-whole xs word is same =
    let parts : xs ≡ word ++ drop (length word) xs = (starts_is Decides-eqb xs word (starts_with nat_eq xs word) refl).0 is in
    let none : drop (length word) xs ≡ [] = empty (drop (length word) xs) (omega (arith, length-drop (length word) xs)) in
    parts ∙ (rw none (append-nil word))

named-by : (word b : List ℕ) (x : List ℕ × List ℕ) (agrees : Bool) → starts_with nat_eq word (take 4 b) ≡ agrees
    → length word ≡ 4 → cond agrees (take_bytes 4 b) (Err Signature) ≡ Ok x → b ≡ word ++ x.1
named-by word b x false is four e = absurd (cc)
named-by word b x true is four e =
    let taken = take_bytes-is 4 b x e in
    let first : take 4 b ≡ x.0 = rw taken.0 (take_at x.0 x.1 4 taken.1) in
    let word_is : word ≡ take 4 b = starts-whole word (take 4 b) is (rw first (four ∙ sym taken.1)) in
    taken.0 ∙ ap (λ xs. xs ++ x.1) (sym (word_is ∙ first))

-- the letters are those of the word
letters-are : (word b : List ℕ) (x : List ℕ × List ℕ) → length word ≡ 4 → letters word b ≡ Ok x → b ≡ word ++ x.1
letters-are word b x four e = named-by word b x (starts_with nat_eq word (take 4 b)) refl four e

-- what was read before the end
then-ok : {A B : Type 0} (r : Result (A × List ℕ) WebPFault) (f : A → ByteReader B) (y : B × List ℕ)
    → then_read r f ≡ Ok y → (x : A × List ℕ) × (r ≡ Ok x) × (f x.0 x.1 ≡ Ok y)
then-ok (Err fault) f y e = absurd (cc)
then-ok (Ok x) f y e = (x, refl, e)

joined : (b one rest two more three last : List ℕ) → b ≡ one ++ rest → rest ≡ two ++ more → more ≡ three ++ last
    → b ≡ one ++ (two ++ (three ++ last))
joined b one rest two more three last e f g = rw (e, f, g) refl

record NumberIs (b : List ℕ) (x : ℕ × List ℕ) : Type 0 where
  digits : List ℕ
  whole : b ≡ digits ++ x.1
  four : length digits ≡ 4
  value : little_number 4 digits ≡ x.0

number-is : (b : List ℕ) (x : ℕ × List ℕ) → little_u32 b ≡ Ok x → NumberIs b x
number-is b x e =
    let t = then-ok (take_bytes 4 b) (λ digits. give_value (little_number 4 digits)) x e in
    let taken = take_bytes-is 4 b t.0 t.1 in
    let is : (little_number 4 t.0.0, t.0.1) ≡ x = cc in
    record { digits = t.0.0; whole = taken.0 ∙ ap (λ ys. t.0.0 ++ ys) (ap (λ (y : ℕ × List ℕ). y.1) is); four = taken.1; value = ap (λ (y : ℕ × List ℕ). y.0) is }

-- ---- the header

abbrev sized : ℕ → List ℕ → ByteReader (List ℕ)
sized size form = if nat_lt size 4 then fail Torn else take_bytes (size - 4)

abbrev formed : ℕ → ByteReader (List ℕ)
formed size = do
  form ← letters (codes "WEBP")
  sized size form

abbrev counted : List ℕ → ByteReader (List ℕ)
counted riff = do
  size ← little_u32
  formed size

enough-by : (size : ℕ) (b : List ℕ) (x : List ℕ × List ℕ) (small : Bool) → nat_lt size 4 ≡ small
    → (cond small (fail Torn) (take_bytes (size - 4))) b ≡ Ok x → (4 ≤ size) × (take_bytes (size - 4) b ≡ Ok x)
enough-by size b x true is e = absurd (cc)
enough-by size b x false is e = (ltb-false size 4 is, e)

pub riff_body-is : (file : List ℕ) (x : List ℕ × List ℕ) → riff_body file ≡ Ok x → HasChunks file x.0
unfolding riff_body
riff_body-is file x e =
    let a = then-ok (letters (codes "RIFF") file) counted x e in
    let b = then-ok (little_u32 a.0.1) formed x a.2 in
    let c = then-ok (letters (codes "WEBP") b.0.1) (sized b.0.0) x b.2 in
    let d = enough-by b.0.0 c.0.1 x (nat_lt b.0.0 4) refl c.2 in
    let taken = take_bytes-is (b.0.0 - 4) c.0.1 x d.1 in
    let size = number-is a.0.1 b.0 b.1 in
    let riff : file ≡ codes "RIFF" ++ a.0.1 = letters-are (codes "RIFF") file a.0 refl a.1 in
    let webp : b.0.1 ≡ codes "WEBP" ++ c.0.1 = letters-are (codes "WEBP") b.0.1 c.0 refl c.1 in
    let form : b.0.1 ≡ codes "WEBP" ++ (x.0 ++ x.1) = webp ∙ ap (λ xs. codes "WEBP" ++ xs) taken.0 in
    record {
      size = size.digits;
      more = x.1;
      whole = joined file (codes "RIFF") a.0.1 size.digits b.0.1 (codes "WEBP") (x.0 ++ x.1) riff size.whole form;
      sized = size.four;
      counted = omega (arith, size.value, taken.1, d.0);
    }

-- ---- a chunk

pub record ChunkIs (b : List ℕ) (c : Chunk × List ℕ) : Type 0 where
  pub name : List ℕ
  pub size : List ℕ
  pub rest : List ℕ
  pub whole : b ≡ name ++ (size ++ (c.0.payload ++ rest))
  pub named : length name ≡ 4
  pub sized : length size ≡ 4
  pub counted : little_number 4 size ≡ length c.0.payload
  pub kind : chunk_kind name ≡ c.0.kind
  pub left : drop (length c.0.payload % 2) rest ≡ c.1

abbrev ended : List ℕ → ℕ → List ℕ → ByteReader Chunk
ended name size payload = do
  padding ← pass (size % 2)
  give_value (record { kind = chunk_kind name; payload = payload })

abbrev filled : List ℕ → ℕ → ByteReader Chunk
filled name size = do
  payload ← take_bytes size
  ended name size payload

abbrev named : List ℕ → ByteReader Chunk
named name = do
  size ← little_u32
  filled name size

not-ended : (none : Bool) (fault : WebPFault) (r : Result (Chunk × List ℕ) WebPFault) (c : Chunk × List ℕ)
    → cond none (Err fault) r ≡ Ok c → r ≡ Ok c
not-ended true fault r c e = absurd (cc)
not-ended false fault r c e = e

pub chunk-is : (b : List ℕ) (c : Chunk × List ℕ) → next_chunk b ≡ Ok c → ChunkIs b c
unfolding next_chunk chunk
chunk-is b c e =
    let one = then-ok (take_bytes 4 b) named c (not-ended (length b == 0) NoPicture (chunk b) c e) in
    let two = then-ok (little_u32 one.0.1) (filled one.0.0) c one.2 in
    let three = then-ok (take_bytes two.0.0 two.0.1) (ended one.0.0 two.0.0) c two.2 in
    let name = take_bytes-is 4 b one.0 one.1 in
    let size = number-is one.0.1 two.0 two.1 in
    let payload = take_bytes-is two.0.0 two.0.1 three.0 three.1 in
    let is : (record { kind = chunk_kind one.0.0; payload = three.0.0 }, drop (two.0.0 % 2) three.0.1) ≡ c = cc in
    rw (← is)
    (record {
      name = one.0.0;
      size = size.digits;
      rest = three.0.1;
      whole = joined b one.0.0 one.0.1 size.digits two.0.1 three.0.0 three.0.1 name.0 size.whole payload.0;
      named = name.1;
      sized = size.four;
      counted = size.value ∙ sym payload.1;
      kind = refl;
      left = rw payload.1 refl;
    })

-- ---- the picture

vp8-by : (a b c d e : Bool)
    → cond a Vp8 (cond b Vp8L (cond c Vp8X (cond d Alph (cond e Anmf Other)))) ≡ Vp8 → a ≡ true
vp8-by true b c d e is = refl
vp8-by false true c d e is = cc
vp8-by false false true d e is = cc
vp8-by false false false true e is = cc
vp8-by false false false false true is = cc
vp8-by false false false false false is = cc

vp8-name : (name : List ℕ) → length name ≡ 4 → chunk_kind name ≡ Vp8 → name ≡ codes "VP8 "
vp8-name name four is = starts-whole name (codes "VP8 ") (vp8-by _ _ _ _ _ is) four

packet-by : (key shown : Bool) (seen : Seen) (packet : List ℕ) (image : StillImage)
    → cond (not key) (Err NotKey) (cond (not shown) (Err Hidden) (Ok (record { packet = packet; has_alpha = seen.has_alpha; canvas = seen.canvas }))) ≡ Ok image
    → packet ≡ image.packet
packet-by false shown seen packet image e = absurd (cc)
packet-by true false seen packet image e = absurd (cc)
packet-by true true seen packet image e =
    let is : record { packet = packet; has_alpha = seen.has_alpha; canvas = seen.canvas } ≡ image = cc in
    ap (λ (x : StillImage). x.packet) is

known-is : (r : Result StillImage WebPFault) (rest : List ℕ) (x : StillImage × List ℕ) → known r rest ≡ Ok x → r ≡ Ok x.0
known-is (Err fault) rest x e = absurd (cc)
known-is (Ok image) rest x e = let is : (image, rest) ≡ x = cc in ap Ok (ap (λ (y : StillImage × List ℕ). y.0) is)

-- a chunk that is a picture
picture-here : (b : List ℕ) (c : Chunk × List ℕ) (seen : Seen) (x : StillImage × List ℕ) → ChunkIs b c → c.0.kind ≡ Vp8
    → known (image_of seen c.0.payload) c.1 ≡ Ok x → HasPicture b x.0.packet
picture-here b c seen x is kind e =
    let image = known-is (image_of seen c.0.payload) c.1 x e in
    let packet = packet-by (is_key_packet c.0.payload) (is_shown_packet c.0.payload) seen c.0.payload x.0 image in
    let name = vp8-name is.name is.named (is.kind ∙ kind) in
    rw (← packet)
    (record {
      before = [];
      front = [];
      size = is.size;
      after = is.rest;
      whole = is.whole ∙ ap (λ xs. xs ++ (is.size ++ (c.0.payload ++ is.rest))) name;
      passed = refl;
      sized = is.sized;
      counted = is.counted;
    })

regrouped : (name size payload padding front tail b rest : List ℕ) → b ≡ name ++ (size ++ (payload ++ rest))
    → rest ≡ padding ++ (front ++ tail) → b ≡ ((name ++ (size ++ (payload ++ padding))) ++ front) ++ tail
regrouped name size payload padding front tail b rest whole e = rw (whole, e) (simp append_assoc)

-- a chunk before the picture
picture-later : (b : List ℕ) (c : Chunk × List ℕ) (packet : List ℕ) → ChunkIs b c → (c.0.kind ≡ Vp8 → ⊥)
    → HasPicture c.1 packet → HasPicture b packet
picture-later b c packet is other later =
    let bit = length c.0.payload % 2 in
    let padding = take bit is.rest in
    let tail = codes "VP8 " ++ (later.size ++ (packet ++ later.after)) in
    let there : 1 ≤ length is.rest = omega (arith, ap length is.left, ap length later.whole, length-drop bit is.rest, length-append later.front tail) in
    let raw : RawChunk = record { name = is.name; size = is.size; payload = c.0.payload; padding = padding } in
    record {
      before = raw ∷ later.before;
      front = raw_bytes raw ++ later.front;
      size = later.size;
      after = later.after;
      whole = regrouped is.name is.size c.0.payload padding later.front tail b is.rest is.whole
          (sym (take-append-drop bit is.rest) ∙ ap (λ xs. padding ++ xs) (is.left ∙ later.whole));
      passed = (
        later.front,
        record {
          named = is.named;
          sized = is.sized;
          counted = is.counted;
          padded = omega (arith, length-take bit is.rest);
          other = λ e. other (sym is.kind ∙ e);
        },
        refl,
        later.passed,
      );
      sized = later.sized;
      counted = later.counted;
    }

-- the pictures of the later chunks
abbrev LaterPictures : (Seen → ByteReader StillImage) → List ℕ → Type 0
LaterPictures later b = (s : Seen) (y : StillImage × List ℕ) → later s b ≡ Ok y → HasPicture b y.0.packet

seen-ok : (r : Result Seen WebPFault) (later : Seen → ByteReader StillImage) (b : List ℕ) (x : StillImage × List ℕ)
    → (known r >>= later) b ≡ Ok x → (s : Seen) × (later s b ≡ Ok x)
seen-ok (Err fault) later b x e = absurd (cc)
seen-ok (Ok s) later b x e = (s, e)

picture-other : (b : List ℕ) (c : Chunk × List ℕ) (seen : Seen) (later : Seen → ByteReader StillImage)
    (x : StillImage × List ℕ) (kind : ChunkKind) → c.0.kind ≡ kind → (kind ≡ Vp8 → ⊥) → ChunkIs b c
    → (known (seen_after kind c.0.payload seen) >>= later) c.1 ≡ Ok x → LaterPictures later c.1 → HasPicture b x.0.packet
picture-other b c seen later x kind same other is e pictures =
    let s = seen-ok (seen_after kind c.0.payload seen) later c.1 x e in
    picture-later b c x.0.packet is (λ v. other (sym same ∙ v)) (pictures s.0 x s.1)

picture-by : (b : List ℕ) (c : Chunk × List ℕ) (seen : Seen) (later : Seen → ByteReader StillImage)
    (x : StillImage × List ℕ) (kind : ChunkKind) → c.0.kind ≡ kind → ChunkIs b c
    → image_from kind c.0.payload seen later c.1 ≡ Ok x → LaterPictures later c.1 → HasPicture b x.0.packet
picture-by b c seen later x Vp8 same is e pictures = picture-here b c seen x is same e
picture-by b c seen later x Vp8L same is e pictures = picture-other b c seen later x Vp8L same (λ v. cc) is e pictures
picture-by b c seen later x Vp8X same is e pictures = picture-other b c seen later x Vp8X same (λ v. cc) is e pictures
picture-by b c seen later x Alph same is e pictures = picture-other b c seen later x Alph same (λ v. cc) is e pictures
picture-by b c seen later x Anmf same is e pictures = picture-other b c seen later x Anmf same (λ v. cc) is e pictures
picture-by b c seen later x Other same is e pictures = picture-other b c seen later x Other same (λ v. cc) is e pictures

picture-in : (n : ℕ) (seen : Seen) (b : List ℕ) (x : StillImage × List ℕ) → first_image n seen b ≡ Ok x
    → HasPicture b x.0.packet
unfolding first_image
picture-in zero seen b x e = absurd (cc)
picture-in (suc n) seen b x e =
    let t = then-ok (next_chunk b) (λ c. image_from c.kind c.payload seen (first_image n)) x e in
    picture-by b t.0 seen (first_image n) x t.0.0.kind refl (chunk-is b t.0 t.1) t.2
    (λ s y later. picture-in n s t.0.1 y later)

body-ok : (r : Result (List ℕ × List ℕ) WebPFault) (image : StillImage) → of_body r ≡ Ok image
    → (x : List ℕ × List ℕ) × (r ≡ Ok x) × (image_in x.0 ≡ Ok image)
body-ok (Err fault) image e = absurd (cc)
body-ok (Ok x) image e = (x, refl, e)

rest-ok : (r : Result (StillImage × List ℕ) WebPFault) (image : StillImage) → without_rest r ≡ Ok image
    → (y : StillImage × List ℕ) × (r ≡ Ok y) × (y.0 ≡ image)
rest-ok (Err fault) image e = absurd (cc)
rest-ok (Ok y) image e = (y, refl, cc)

pub is_faithful_to_file : IsFaithfulToFile
unfolding still_image
is_faithful_to_file file image e =
    let body = body-ok (riff_body file) image e in
    let chunks = body.0.0 in
    let found = rest-ok (first_image (length chunks) nothing_seen chunks) image body.2 in
    let picture = picture-in (length chunks) nothing_seen chunks found.0 found.1 in
    (chunks, riff_body-is file body.0 body.1, rw found.2 at picture)
