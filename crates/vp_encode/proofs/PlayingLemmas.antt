-- What an encoded file shows where it is decoded.
use Rattle.std.proofs.Common.{◌≡◌, ℕ, ◌+◌, ◌*◌, ◌^◌, ◌<◌, ◌≤◌, Bool, true, false, nat_lt, nat_le, codes, ◌&&◌, if◌then◌else◌, List, [], ◌∷◌, length, map, Option, Some, None, Result, Ok, Err, refl, sym, ap, subst, ◌∙◌, leb-true, arith, ◌⊎◌, ◌++◌, inl, inr, ap₂}
use Rattle.std.specs.List.{All, enumerate_from, list_all, before_first, after_first}
use Rattle.std.specs.Char.{is_ascii_digit}
use Rattle.std.specs.Str.Parse.{digits_value}
use Rattle.std.proofs.lemmas.List.{length-map}
use Rattle.std.proofs.lemmas.List.FromFn.{length-enumerate_from}
use Rattle.std.proofs.lemmas.List.Elements.{All-head, All-tail}
use Rattle.std.proofs.lemmas.Bool.{ltb-true}
use Rattle.vp_base.specs.declared.limits.Dim.{Dim}
use Rattle.vp_base.specs.declared.limits.Limits.{Limits}
use Rattle.vp_ivf.specs.declared.packet.IvfHead.{IvfHead}
use Rattle.vp_ivf.specs.Ivf.{Contents}
use Rattle.vp_ivf.specs.Laws.{AllPacketsFit, IsHead}
use Rattle.vp_ivf.proofs.Written.{read_back, ends_well}
use Rattle.vp_y4m.specs.declared.fault.SourceFault.{SourceFault}
use Rattle.vp_y4m.specs.declared.fault.SourceFault.TheVariants.{Magic}
use Rattle.vp_y4m.specs.Header.{Head, option_pair, number_in, rate_in, judged, head_in, size_within, side_in, last_token, is_taken_colour, is_progressive, begins_with, is_side, is_colon}
use Rattle.vp_y4m.specs.Lines.{first_line}
use Rattle.vp_y4m.specs.Pictures.{file_head, head_line, with_rest}
use Rattle.vp_encode.specs.Encoder.{EncoderState}
use Rattle.vp_encode.specs.Encoded.{EncodedFrame, AreEncoded, initial_encoder, error_of, errors_of}
use Rattle.vp_encode.specs.File.{timed, packet_of}
use Rattle.vp_encode.specs.Playing.{answers_from_state, bytes_of, EncodedFilesPlayBack, EncodedFilesFit, shown}
use Rattle.std.proofs.lemmas.List.Sums.{sum_by-cons}
use Rattle.vp_base.specs.Image.{Image}
use Rattle.vp_head.specs.declared.fields.Tag.{Tag}
use Rattle.vp_head.specs.declared.fields.KeyTag.{KeyTag}
use Rattle.vp_head.specs.declared.fault.PacketFault.{PacketFault}
use Rattle.vp_head.specs.declared.fault.PacketFault.TheVariants.{NoReference}
use Rattle.vp_head.specs.Tag.{tag_of}
use Rattle.vp_decode.specs.Step.{DecoderState, FrameContext, ParsedPacket, Answer, Shown, Fault, ◌>>=◌, context_of, parsed_in_context, parsed, decoded, step}
use Rattle.vp_encode.specs.declared.encoder.Encoded.{Encoded}
use Rattle.vp_encode.specs.declared.fault.EncodeFault.{EncodeFault}
use Rattle.vp_encode.specs.declared.fault.EncodeFault.TheVariants.{SourceSize, TooLong, Memory}
use Rattle.vp_encode.specs.declared.fault.PacketError.{PacketError}
use Rattle.vp_encode.specs.declared.fault.PacketError.TheVariants as packet_error
use Rattle.vp_encode.specs.declared.settings.Settings.{Settings}
use Rattle.vp_encode.specs.Faults.{fault_of}
use Rattle.vp_encode.specs.Calls.{Call, IsForgotten, frame_with, Leaves, AreCalls, IsEncoderAfter, frames_of, error_by, errors_reported, CallsArePlayedBack}

-- ---- a head's numbers are small, and its size is within the limits

-- a value that is there where three tests hold
some_if : {A : Type 0} (a b t : Bool) (v n : A) → (if a && (b && t) then Some v else None) ≡ Some n → (t ≡ true) × (v ≡ n)
some_if true true true v n e = (refl, cc)
some_if a b t v n e = absurd cc

both_some : (x y : Option ℕ) (r s : ℕ) → option_pair x y ≡ Some (r, s) → (x ≡ Some r) × (y ≡ Some s)
both_some (Some x) (Some y) r s e =
    let p : Option (ℕ × ℕ) → Option ℕ = λ o. elim o [ Some q ↦ Some q.0 | None ↦ None ] in
    let q : Option (ℕ × ℕ) → Option ℕ = λ o. elim o [ Some t ↦ Some t.1 | None ↦ None ] in
    (ap p e, ap q e)
both_some (Some x) None r s e = cc
both_some None y r s e = cc

number_small : (text : List ℕ) (n : ℕ) → number_in text ≡ Some n → n < 2 ^ 32
number_small text n e =
    let v = digits_value 10 text in
    let k = some_if (list_all is_ascii_digit text) (nat_lt 0 (length text)) (nat_lt v 4294967296) v n e in
    let small : v < 4294967296 = ltb-true v 4294967296 k.0 in
    let same : v ≡ n = k.1 in
    omega arith

rate_small : (text : Option (List ℕ)) (r s : ℕ) → rate_in text ≡ Some (r, s) → (r < 2 ^ 32) × (s < 2 ^ 32)
rate_small None r s e =
    let usual : ℕ × ℕ = (25, 1) in
    let said : ℕ × ℕ = (r, s) in
    let same : usual ≡ said = cc in
    subst (λ (p : ℕ × ℕ). (p.0 < 2 ^ 32) × (p.1 < 2 ^ 32)) same (omega arith, omega arith)
rate_small (Some text) r s e =
    let before = before_first is_colon text in
    let after = after_first is_colon text in
    let parts = both_some (number_in before) (number_in after) r s e in
    (number_small before r parts.0, number_small after s parts.1)

judged_is : (rate size : Option (ℕ × ℕ)) (colour progressive : Bool) (h : Head) → judged rate size colour progressive ≡ Ok h
    → (rate ≡ Some (h.rate, h.scale)) × (size ≡ Some (h.w, h.h))
judged_is (Some (r, s)) (Some (x, y)) true true h e =
    let made : Head = record { w = x; h = y; rate = r; scale = s } in
    let is : made ≡ h = cc in
    (ap (λ (k : Head). Some (k.rate, k.scale)) is, ap (λ (k : Head). Some (k.w, k.h)) is)
judged_is rate size colour progressive h e = absurd cc

-- what a head's line says
pub record IsSmall (pixels : ℕ) (h : Head) : Type 0 where
  pub rate : h.rate < 2 ^ 32
  pub scale : h.scale < 2 ^ 32
  pub size : h.w * h.h ≤ pixels

size_small : (pixels : ℕ) (o : Option (ℕ × ℕ)) (w h : ℕ) → size_within pixels o ≡ Some (w, h) → w * h ≤ pixels
size_small pixels None w h e = cc
size_small pixels (Some (x, y)) w h e =
    let k = some_if (is_side x) (is_side y) (nat_le (x * y) pixels) (x, y) (w, h) e in
    subst (λ (s : ℕ × ℕ). s.0 * s.1 ≤ pixels) k.1 (leb-true (x * y) pixels k.0)

line_small : (t : Bool) (pixels : ℕ) (rate size : Option (List ℕ)) (s : Option (ℕ × ℕ)) (colour progressive : Bool) (h : Head)
    → (if t then judged (rate_in rate) (size_within pixels s) colour progressive else Err Magic) ≡ Ok h → IsSmall pixels h
line_small false pixels rate size s colour progressive h e = cc
line_small true pixels rate size s colour progressive h e =
    let told = judged_is (rate_in rate) (size_within pixels s) colour progressive h e in
    let small = rate_small rate h.rate h.scale told.0 in
    record { rate = small.0; scale = small.1; size = size_small pixels s h.w h.h told.1 }

head_small : (pixels : ℕ) (line : List ℕ) (h : Head) → head_in pixels line ≡ Ok h → IsSmall pixels h
unfolding head_in
head_small pixels line h e = line_small (begins_with (codes "YUV4MPEG2") line) pixels (last_token 70 line) None
    (option_pair (side_in (last_token 87 line)) (side_in (last_token 72 line))) (is_taken_colour (last_token 67 line)) (is_progressive (last_token 73 line)) h e

rest_small : (pixels : ℕ) (r : Result Head SourceFault) (line : List ℕ) (h : Head) (body rest : List ℕ) → head_in pixels line ≡ r → with_rest r rest ≡ Ok (h, body) → IsSmall pixels h
rest_small pixels (Err f) line h body rest is e = cc
rest_small pixels (Ok k) line h body rest is e =
    let read : Head × List ℕ = (k, rest) in
    let said : Head × List ℕ = (h, body) in
    let same : read ≡ said = cc in
    let P : Head → Type 0 = λ x. IsSmall pixels x in subst P (ap (λ (p : Head × List ℕ). p.0) same) (head_small pixels line k is)

first_small : (pixels : ℕ) (r : Result (Option (List ℕ × List ℕ)) SourceFault) (h : Head) (body : List ℕ) → head_line pixels r ≡ Ok (h, body) → IsSmall pixels h
first_small pixels (Err f) h body e = cc
first_small pixels (Ok None) h body e = cc
first_small pixels (Ok (Some (line, rest))) h body e = rest_small pixels (head_in pixels line) line h body rest refl e

file_small : (pixels : ℕ) (file : List ℕ) (h : Head) (body : List ℕ) → file_head pixels file ≡ Ok (h, body) → IsSmall pixels h
unfolding file_head
file_small pixels file h body e = first_small pixels (first_line file) h body e

-- ---- decoding shows the reconstructions

answers_are : (limits : Limits) (n : ℕ) (e : EncoderState) (fs : List EncodedFrame) (last : EncoderState) → AreEncoded e fs last → e.dim.w * e.dim.h ≤ limits.pixels
    → answers_from_state limits e.state (map bytes_of (map timed (enumerate_from n (map packet_of fs)))) ≡ map shown fs
answers_are limits n e [] last h fit = refl
answers_are limits n e (f ∷ fs) last h fit =
    let one = h.1.decoded limits fit in
    let Q : Dim → Type 0 = λ d. d.w * d.h ≤ limits.pixels in
    rw one (ap (λ xs. shown f ∷ xs) (answers_are limits (n + 1) h.0 fs last h.2 (subst Q (sym h.1.dim) fit)))

all_fit : (max n : ℕ) (fs : List EncodedFrame) → max ≤ 268435456 → n + length fs ≤ 16777216 → All (λ f. length f.packet ≤ max) fs
    → AllPacketsFit max (map timed (enumerate_from n (map packet_of fs)))
all_fit max n [] most few small = tt
all_fit max n (f ∷ fs) most few small =
    let P : EncodedFrame → Type 0 = λ x. length x.packet ≤ max in
    let first = All-head P f fs small in
    (record { time = omega arith; size = omega arith; allowed = first }, all_fit max (n + 1) fs most (omega arith) (All-tail P f fs small))

pub fits : EncodedFilesFit
fits limits settings file w d =
    let h = file_small limits.pixels file w.head d.body d.headed in
    record { pixels = h.size; packets = d.few; packet_bytes = d.small }

pub plays : EncodedFilesPlayBack
plays limits others settings file w d fit =
    let h = file_small limits.pixels file w.head d.body d.headed in
    let head : IvfHead = record { w = w.head.w; h = w.head.h; rate = w.head.rate; scale = w.head.scale } in
    let packets = map timed (enumerate_from 0 (map packet_of w.frames)) in
    let is_head : IsHead head = (omega arith, omega arith, h.rate, h.scale) in
    let allowed : AllPacketsFit others.packet_bytes packets = all_fit others.packet_bytes 0 w.frames (omega arith) (omega arith) fit.packet_bytes in
    let long : length packets ≤ others.packets = omega (arith, length-map (enumerate_from 0 (map packet_of w.frames)) timed, length-enumerate_from 0 (map packet_of w.frames), length-map w.frames packet_of) in
    let Q : ℕ → ℕ → Type 0 = λ x y. x * y ≤ others.pixels in
    let fit_dim : d.dim.w * d.dim.h ≤ others.pixels = subst (λ (x : ℕ). Q x d.dim.h) (sym d.width) (subst (λ (y : ℕ). Q w.head.w y) (sym d.height) fit.pixels) in
    record {
      ends = ends_well others.packet_bytes others.packets head (length (map packet_of w.frames)) packets is_head allowed long;
      pictures = ap (λ (c : Contents). answers_from_state others None (map bytes_of c.packets)) (read_back others.packet_bytes others.packets head (length (map packet_of w.frames)) packets is_head allowed long)
          ∙ answers_are others 0 (initial_encoder d.dim settings) w.frames w.encoder d.encoded fit_dim;
    }

-- ---- what the packets of an encoder show, whatever calls are refused between them

-- ---- A packet that shows a picture over no state shows it over every state: it is a key packet.

-- a fault shows nothing
shows_nothing : {A : Type 0} (f : PacketFault) (p : Image) → Fault f ≡ Shown p → A
shows_nothing f p e = absurd cc

abbrev answer_in : Option DecoderState × Answer → Answer
answer_in x = x.1

shown_by_key : (key : Option KeyTag) (rest : FrameContext → Result ParsedPacket PacketFault) (state new : Option DecoderState) (p : Image)
    → decoded (context_of key None >>= rest) ≡ (new, Shown p) → decoded (context_of key state >>= rest) ≡ (new, Shown p)
shown_by_key None rest state new p e = shows_nothing NoReference p (ap answer_in e)
shown_by_key (Some key) rest state new p e = e

abbrev opened_by : Result Tag PacketFault → Option DecoderState → List ℕ → Result ParsedPacket PacketFault
opened_by tag state packet = tag >>= λ (t : Tag). context_of t.key state >>= λ (b : FrameContext). parsed_in_context t b packet

shown_by_tag : (tag : Result Tag PacketFault) (packet : List ℕ) (state new : Option DecoderState) (p : Image)
    → decoded (opened_by tag None packet) ≡ (new, Shown p) → decoded (opened_by tag state packet) ≡ (new, Shown p)
shown_by_tag (Err f) packet state new p e = shows_nothing f p (ap answer_in e)
shown_by_tag (Ok t) packet state new p e = shown_by_key t.key (λ b. parsed_in_context t b packet) state new p e

shown_over : (limits : Limits) (packet : List ℕ) (state new : Option DecoderState) (p : Image) → step limits None packet ≡ (new, Shown p)
    → step limits state packet ≡ (new, Shown p)
unfolding step parsed
shown_over limits [] state new p e = shows_nothing NoReference p (ap answer_in e)
shown_over limits (b ∷ bs) state new p e = shown_by_tag (tag_of limits (b ∷ bs)) (b ∷ bs) state new p e

-- ---- the decoder has the encoder's state, unless the encoder has none

abbrev Follows : EncoderState → Option DecoderState → Type 0
Follows e state = (e.state ≡ None) ⊎ (e.state ≡ state)

shown_after : (limits : Limits) (e : EncoderState) (packet : List ℕ) (state new : Option DecoderState) (p : Image) → Follows e state
    → step limits e.state packet ≡ (new, Shown p) → step limits state packet ≡ (new, Shown p)
shown_after limits e packet state new p follows is = elim follows [
  | inl none ↦ shown_over limits packet state new p (ap (λ (s : Option DecoderState). step limits s packet) (sym none) ∙ is)
  | inr same ↦ ap (λ (s : Option DecoderState). step limits s packet) (sym same) ∙ is
]

-- what is shown of the packets of these calls
abbrev ArePlayed : Limits → Option DecoderState → List Call → Type 0
ArePlayed limits state calls = answers_from_state limits state (map packet_of (frames_of calls)) ≡ map shown (frames_of calls)

fits_next : (limits : Limits) (e next : EncoderState) → next.dim ≡ e.dim → e.dim.w * e.dim.h ≤ limits.pixels → next.dim.w * next.dim.h ≤ limits.pixels
fits_next limits e next same fit = subst (λ (d : Dim). d.w * d.h ≤ limits.pixels) (sym same) fit

call_plays : (limits : Limits) (e : EncoderState) (source : Image) (result : Result Encoded EncodeFault) (next : EncoderState) (cs : List Call) (state : Option DecoderState)
    → Leaves e source result next → Follows e state → e.dim.w * e.dim.h ≤ limits.pixels
    → ((s : Option DecoderState) → Follows next s → next.dim.w * next.dim.h ≤ limits.pixels → ArePlayed limits s cs)
    → ArePlayed limits state (record { source = source; result = result } ∷ cs)
call_plays limits e source (Ok encoded) next cs state left follows fit others =
    let one = shown_after limits e encoded.packet state next.state encoded.recon.value follows (left.frame.decoded limits fit) in
    rw one (ap (λ xs. shown (frame_with source encoded) ∷ xs) (others next.state (inr refl) (fits_next limits e next left.frame.dim fit)))
call_plays limits e source (Err SourceSize) next cs state left follows fit others =
    others state (subst (λ (x : EncoderState). Follows x state) (sym left) follows) (fits_next limits e next (ap (λ (x : EncoderState). x.dim) left) fit)
call_plays limits e source (Err TooLong) next cs state left follows fit others = others state (inl left.state) (fits_next limits e next left.dim fit)
call_plays limits e source (Err Memory) next cs state left follows fit others = others state (inl left.state) (fits_next limits e next left.dim fit)

calls_play : (limits : Limits) (state : Option DecoderState) (e : EncoderState) (calls : List Call) (last : EncoderState) → AreCalls e calls last → Follows e state
    → e.dim.w * e.dim.h ≤ limits.pixels → ArePlayed limits state calls
calls_play limits state e [] last are follows fit = refl
calls_play limits state e (c ∷ cs) last are follows fit =
    call_plays limits e c.source c.result are.0 cs state are.1 follows fit (λ s after fits. calls_play limits s are.0 cs last are.2 after fits)

-- ---- the errors that are told

error_adds : (e : EncoderState) (source : Image) (result : Result Encoded EncodeFault) (next : EncoderState) (cs : List Call) → Leaves e source result next
    → errors_reported cs ≡ errors_of (frames_of cs)
    → errors_reported (record { source = source; result = result } ∷ cs) ≡ errors_of (frames_of (record { source = source; result = result } ∷ cs))
error_adds e source (Ok encoded) next cs left others =
    sum_by-cons (λ (c : Call). error_by c.result) (record { source = source; result = Ok encoded }) cs
    ∙ ap₂ (λ n m. n + m) left.error others
    ∙ sym (sum_by-cons error_of (frame_with source encoded) (frames_of cs))
error_adds e source (Err fault) next cs left others =
    let first = sum_by-cons (λ (c : Call). error_by c.result) (record { source = source; result = Err fault }) cs in
    omega (arith, first, others)

errors_add : (e : EncoderState) (calls : List Call) (last : EncoderState) → AreCalls e calls last → errors_reported calls ≡ errors_of (frames_of calls)
errors_add e [] last are = refl
errors_add e (c ∷ cs) last are = error_adds e c.source c.result are.0 cs are.1 (errors_add are.0 cs last are.2)

pub calls_are_played_back : CallsArePlayedBack
calls_are_played_back limits e calls stands fit = record {
  pictures = calls_play limits None (initial_encoder e.dim e.settings) calls e stands (inl refl) fit;
  errors = errors_add (initial_encoder e.dim e.settings) calls e stands;
}

-- ---- one call more

same_encoder : (e : EncoderState) (source : Image) (result : Result Encoded EncodeFault) (next : EncoderState) → Leaves e source result next → (next.dim ≡ e.dim) × (next.settings ≡ e.settings)
same_encoder e source (Ok encoded) next left = (left.frame.dim, left.frame.settings)
same_encoder e source (Err SourceSize) next left = (ap (λ (x : EncoderState). x.dim) left, ap (λ (x : EncoderState). x.settings) left)
same_encoder e source (Err TooLong) next left = (left.dim, left.settings)
same_encoder e source (Err Memory) next left = (left.dim, left.settings)

one_more : (first : EncoderState) (calls : List Call) (e : EncoderState) (c : Call) (next : EncoderState) → AreCalls first calls e → Leaves e c.source c.result next
    → AreCalls first (calls ++ c ∷ []) next
one_more first [] e c next are left = (next, subst (λ (x : EncoderState). Leaves x c.source c.result next) are left, refl)
one_more first (d ∷ ds) e c next are left = (are.0, are.1, one_more are.0 ds e c next are.2 left)

pub stands_after : (e : EncoderState) (calls : List Call) (source : Image) (result : Result Encoded EncodeFault) (next : EncoderState) → IsEncoderAfter e calls
    → Leaves e source result next → IsEncoderAfter next (calls ++ record { source = source; result = result } ∷ [])
stands_after e calls source result next stands left =
    let first : Dim → Settings → Type 0 = λ dim settings. AreCalls (initial_encoder dim settings) (calls ++ record { source = source; result = result } ∷ []) next in
    let same = same_encoder e source result next left in
    subst (λ (d : Dim). first d next.settings) (sym same.0) (subst (λ (s : Settings). first e.dim s) (sym same.1) (one_more (initial_encoder e.dim e.settings) calls e (record { source = source; result = result }) next stands left))

pub stands_refused : (e : EncoderState) (calls : List Call) (source : Image) (error : PacketError) (fault : EncodeFault) (next : EncoderState) → IsEncoderAfter e calls
    → fault ≡ fault_of error → IsForgotten e next → IsEncoderAfter next (calls ++ record { source = source; result = Err fault } ∷ [])
stands_refused e calls source error fault next stands is left =
    let after : (x : PacketError) → Leaves e source (Err (fault_of x)) next = elim [ packet_error.TooLong ↦ left | packet_error.Memory ↦ left ] in
    stands_after e calls source (Err fault) next stands (subst (λ (f : EncodeFault). Leaves e source (Err f) next) (sym is) (after error))
