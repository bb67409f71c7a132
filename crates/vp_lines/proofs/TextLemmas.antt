-- The texts of packets and names, printed one after another.
use Rattle.std.proofs.Common.{◌≡◌, ℕ, ◌+◌, ◌<◌, List, [], ◌∷◌, ◌++◌, length, take, get_or, Option, sym, ap, ◌∙◌, append_assoc, arith}
use Rattle.std.specs.Io.KnownBytes.{Appends}
use Rattle.std.proofs.lemmas.List.{append-nil, length-take, take_more}
use Rattle.vp_base.proofs.Writes.{appends_both}
use Rattle.vp_check.specs.declared.checked.CheckedPacket.{CheckedPacket}
use Rattle.vp_lines.specs.CheckLines.{json_byte, json_text, packet_text, packet_texts, PacketForm}

-- ---- damaged packets

one_text : (form : PacketForm) (n : ℕ) (cs : List CheckedPacket) (c : CheckedPacket)
    → packet_texts form n (cs ++ c ∷ []) ≡ packet_texts form n cs ++ packet_text form (n + length cs) c
one_text form n [] c = append-nil (packet_text form n c) ∙ ap (λ k. packet_text form k c) (let e : n ≡ n + 0 = omega arith in e)
one_text form n (x ∷ cs) c =
    let first = packet_text form n x in
    ap (λ ns. first ++ ns) (one_text form (n + 1) cs c)
    ∙ (sym (append_assoc first (packet_texts form (n + 1) cs) (packet_text form (n + 1 + length cs) c))
    ∙ ap (λ k. packet_texts form n (x ∷ cs) ++ packet_text form k c) (let e : n + 1 + length cs ≡ n + length (x ∷ cs) = omega arith in e))

pub next_text : (form : PacketForm) (packets : List CheckedPacket) (i : ℕ) (d : CheckedPacket) (a b c : Option (List ℕ)) → i < length packets
    → Appends a b (packet_texts form 0 (take i packets)) → Appends b c (packet_text form i (get_or packets i d)) → Appends a c (packet_texts form 0 (take (i + 1) packets))
next_text form packets i d a b c lt before line =
    let long : 0 + length (take i packets) ≡ i = omega (arith, length-take i packets) in
    let whole : packet_texts form 0 (take (i + 1) packets) ≡ packet_texts form 0 (take i packets) ++ packet_text form i (get_or packets i d) =
    ap (packet_texts form 0) (take_more packets i d lt)
    ∙ (one_text form 0 (take i packets) (get_or packets i d)
    ∙ ap (λ k. packet_texts form 0 (take i packets) ++ packet_text form k (get_or packets i d)) long) in
    rw whole (appends_both a b c _ _ before line)

-- one more byte of a text in JSON
json_more : (bs : List ℕ) (b : ℕ) → json_text (bs ++ b ∷ []) ≡ json_text bs ++ json_byte b
json_more [] b = append-nil (json_byte b)
json_more (x ∷ bs) b = ap (λ ns. json_byte x ++ ns) (json_more bs b) ∙ sym (append_assoc (json_byte x) (json_text bs) (json_byte b))

pub next_byte : (text : List ℕ) (i d : ℕ) (a b c : Option (List ℕ)) → i < length text → Appends a b (json_text (take i text))
    → Appends b c (json_byte (get_or text i d)) → Appends a c (json_text (take (i + 1) text))
next_byte text i d a b c lt before byte =
    rw (take_more text i d lt, json_more (take i text) (get_or text i d)) (appends_both a b c _ _ before byte)
