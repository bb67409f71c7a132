-- What a writer stands for after a packet.
use Rattle.std.proofs.Common.{◌≡◌, ℕ, zero, suc, ◌-◌, ◌≤◌, Bool, true, false, List, [], ◌∷◌, ◌++◌, Option, None, refl, sym, ap, ◌∙◌, append_assoc, arith}
use Rattle.std.proofs.lemmas.List.{append-nil, length-append}
use Rattle.std.specs.Io.KnownBytes.{Appends}
use Rattle.vp_base.proofs.Writes.{appends_both, front_second}
use Rattle.vp_ivf.specs.declared.packet.Packet.{Packet}
use Rattle.vp_ivf.specs.declared.writer.Writer.{Writer}
use Rattle.vp_ivf.specs.Text.{head_text, packet_text, packets_text}
use Rattle.vp_ivf.specs.Writer.{Written, IsWriterAfter, with_packet, written_bytes, IsWrittenAt, IsCountedAt, device_contents, device_failures, packets_left, has_failed, packet_refusal, write_refusal}

packets_text-append : (ps : List Packet) (p : Packet) → packets_text (ps ++ p ∷ []) ≡ packets_text ps ++ packet_text p.time p.bytes
packets_text-append [] p = append-nil (packet_text p.time p.bytes)
packets_text-append (q ∷ ps) p =
    ap (λ xs. packet_text q.time q.bytes ++ xs) (packets_text-append ps p)
    ∙ sym (append_assoc (packet_text q.time q.bytes) (packets_text ps) (packet_text p.time p.bytes))

text_of-packet : (h : Written) (p : Packet) (failed : Bool) → written_bytes h ++ packet_text p.time p.bytes ≡ written_bytes (with_packet h p failed)
text_of-packet h p failed =
    let head = head_text h.head.w h.head.h h.head.rate h.head.scale h.count in
    append_assoc head (packets_text h.packets) (packet_text p.time p.bytes) ∙ ap (λ xs. head ++ xs) (sym (packets_text-append h.packets p))

-- a packet is taken only where nothing failed, and packets may come
not_failed : (failed : Bool) (left : ℕ) → write_refusal failed left ≡ None → failed ≡ false
not_failed true left e = cc
not_failed false left e = refl

may_come : (failed : Bool) (left : ℕ) → write_refusal failed left ≡ None → 1 ≤ left
may_come true left e = cc
may_come false zero e = cc
may_come false (suc n) e = omega arith

written_on : (failed : Bool) (a b c : Option (List ℕ)) (xs ys : List ℕ) → Appends a b xs → IsWrittenAt failed b c ys → IsWrittenAt failed a c (xs ++ ys)
written_on false a b c xs ys p q = appends_both a b c xs ys p q
written_on true a b c xs ys p q = front_second a b c xs ys p q

pub stands_packet : {W : Type 0} (contents : W → Option (List ℕ)) (old new : Writer W) (h : Written) (p : Packet) (failed : Bool)
    → packet_refusal old ≡ None
    → packets_left new ≡ packets_left old - 1
    → has_failed new ≡ failed
    → IsWrittenAt failed (device_contents contents old) (device_contents contents new) (packet_text p.time p.bytes)
    → IsCountedAt failed (device_failures old) (device_failures new)
    → IsWriterAfter contents old h → IsWriterAfter contents new (with_packet h p failed)
stands_packet contents old new h p failed calm left is written counted s =
    let none : h.failed ≡ false = sym s.failed ∙ not_failed old.failed old.left calm in
    let some = may_come old.failed old.left calm in
    let longer = length-append h.packets (p ∷ []) in
    let before = rw none at s.bytes in
    let same = rw none at s.failures in
    record {
      fits = omega (arith, longer, some, s.left, s.fits);
      left = omega (arith, longer, some, s.left, s.fits, left);
      failed = is;
      bytes = rw (← text_of-packet h p failed) (written_on failed h.before (device_contents contents old) (device_contents contents new) (written_bytes h) (packet_text p.time p.bytes) before written);
      failures = rw (← same) counted;
    }
