-- The packets of a live file, one after another.
use Rattle.std.proofs.Common.{◌≡◌, ℕ, suc, ◌+◌, List, [], ◌∷◌, ◌++◌, length, map, Option, refl, sym, ap, subst, ◌∙◌, append_assoc, add-zero, arith}
use Rattle.std.specs.List.{enumerate_from}
use Rattle.std.specs.Io.KnownBytes.{Appends}
use Rattle.std.proofs.lemmas.List.{append-nil, map-append, length-map}
use Rattle.vp_base.specs.Counted.{AppendsPrefix}
use Rattle.vp_base.proofs.Writes.{appends_both}
use Rattle.vp_ivf.specs.declared.packet.Packet.{Packet}
use Rattle.vp_ivf.specs.Text.{head_text, packet_text, packets_text}
use Rattle.vp_y4m.specs.Header.{Head}
use Rattle.vp_encode.specs.Encoded.{EncodedFrame}
use Rattle.vp_encode.specs.File.{packet_of, timed}
use Rattle.vp_live.specs.Live.{live_text}
use Rattle.vp_live.specs.Progress.{frames_text}

-- packets with times from a first one on
abbrev timed_from : ℕ → List (List ℕ) → List Packet
timed_from n packets = map timed (enumerate_from n packets)

timed_from-append : (n : ℕ) (xs ys : List (List ℕ)) → timed_from n (xs ++ ys) ≡ timed_from n xs ++ timed_from (n + length xs) ys
timed_from-append n [] ys = ap (λ k. timed_from k ys) (sym (add-zero n))
timed_from-append n (x ∷ xs) ys =
    let same : n + 1 + length xs ≡ n + suc (length xs) = omega arith in
    ap (λ ps. timed (n, x) ∷ ps) (timed_from-append (n + 1) xs ys ∙ ap (λ k. timed_from (n + 1) xs ++ timed_from k ys) same)

packets_text-append : (ps qs : List Packet) → packets_text (ps ++ qs) ≡ packets_text ps ++ packets_text qs
packets_text-append [] qs = refl
packets_text-append (p ∷ ps) qs =
    ap (λ xs. packet_text p.time p.bytes ++ xs) (packets_text-append ps qs) ∙ sym (append_assoc (packet_text p.time p.bytes) (packets_text ps) (packets_text qs))

-- one more
pub text_more : (frames : List EncodedFrame) (f : EncodedFrame) → frames_text (frames ++ f ∷ []) ≡ frames_text frames ++ packet_text (length frames) f.packet
text_more frames f =
    let ps = map packet_of frames in
    let long : 0 + length ps ≡ length frames = omega (arith, length-map frames packet_of) in
    let all : timed_from 0 (map packet_of (frames ++ f ∷ [])) ≡ timed_from 0 ps ++ timed (length frames, f.packet) ∷ [] =
    ap (timed_from 0) (map-append packet_of frames (f ∷ [])) ∙ (timed_from-append 0 ps (f.packet ∷ []) ∙ ap (λ k. timed_from 0 ps ++ timed_from k (f.packet ∷ [])) long) in
    ap packets_text all ∙ (packets_text-append (timed_from 0 ps) (timed (length frames, f.packet) ∷ [])
    ∙ ap (λ t. frames_text frames ++ t) (append-nil (packet_text (length frames) f.packet)))

-- and it is written
pub written_more : (a b c : Option (List ℕ)) (frames : List EncodedFrame) (f : EncodedFrame) (n : ℕ) → n ≡ length frames
    → Appends a b (frames_text frames) → Appends b c (packet_text n f.packet) → Appends a c (frames_text (frames ++ f ∷ []))
written_more a b c frames f n is front next =
    let T : List ℕ → Type 0 = λ t. Appends a c t in
    let N : ℕ → Type 0 = λ k. Appends b c (packet_text k f.packet) in
    subst T (sym (text_more frames f)) (appends_both a b c (frames_text frames) (packet_text (length frames) f.packet) front (subst N is next))

-- the head, and then the packets
pub written_file : (a b c : Option (List ℕ)) (head : Head) (frames : List EncodedFrame) → Appends a b (live_text head []) → Appends b c (frames_text frames)
    → Appends a c (live_text head (map packet_of frames))
written_file a b c head frames first rest =
    let T : List ℕ → Type 0 = λ t. Appends a c t in
    subst T (ap (λ t. t ++ frames_text frames) (append-nil (head_text head.w head.h head.rate head.scale 0)))
    (appends_both a b c (live_text head []) (frames_text frames) first rest)

-- a front of the packet, by what it was written as
pub front_is : (a b : Option (List ℕ)) (n m : ℕ) (p q : List ℕ) → n ≡ m → p ≡ q → AppendsPrefix a b (packet_text n p) → AppendsPrefix a b (packet_text m q)
front_is a b n m p q number same front =
    let N : ℕ → Type 0 = λ k. AppendsPrefix a b (packet_text k q) in
    let P : List ℕ → Type 0 = λ x. AppendsPrefix a b (packet_text n x) in
    subst N number (subst P same front)
