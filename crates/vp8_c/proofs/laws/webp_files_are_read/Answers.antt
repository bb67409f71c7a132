use Rattle.std.proofs.Common.{◌≡◌, ◌∙◌, ◌≤◌, ◌<◌, ℕ, ◌+◌, List, ◌++◌, length, take, drop, Option, Some, None, Ok, refl, sym, ap, subst, arith, length-drop, length-take-le}
use Rattle.vp_webp.specs.declared.fault.WebPWriteFault.{WebPWriteFault}
use Rattle.vp_webp.specs.Text.{file_unless, webp_refusal, webp_text}
use Rattle.vp8_c.specs.WebP.{file_of_packet, file_or_number, packet_of_file, packet_or_number}
use Rattle.vp8_c.proofs.laws.webp_files_are_read.Goals as goal

by_refusal : (o : Option WebPWriteFault) (text file : List ℕ) → file_or_number (file_unless o text) ≡ Ok file → (o ≡ None) × (text ≡ file)
by_refusal None text file e = (refl, cc)
by_refusal (Some fault) text file e = absurd cc

-- the text of a packet that has a file
text_is : (packet file : List ℕ) → file_of_packet packet ≡ Ok file → (webp_refusal packet ≡ None) × (webp_text packet ≡ file)
text_is packet file e = by_refusal (webp_refusal packet) (webp_text packet) file e

pub returns-clause-back : goal.returns-clause-back
returns-clause-back c packet file more e =
    let h = text_is packet file e in
    ap (λ (bytes : List ℕ). packet_of_file (bytes ++ more)) (sym h.1) ∙ ap packet_or_number (c.written_is_read.ensures.back packet more h.0)

pub returns-clause-cut : goal.returns-clause-cut
returns-clause-cut c packet file n e short =
    let h = text_is packet file e in
    let lacks : n < length (webp_text packet) = subst (λ (bytes : List ℕ). n < length bytes) (sym h.1) short in
    ap (λ (bytes : List ℕ). packet_of_file (take n bytes)) (sym h.1) ∙ ap packet_or_number (c.written_is_read.ensures.cut packet n h.0 lacks)

pub returns-clause-len : goal.returns-clause-len
returns-clause-len c file packet status before after places =
    let fits : after.start + after.len ≤ length file = places.within in
    sym (length-take-le after.len (drop after.start file) (omega (arith, length-drop after.start file))) ∙ ap length places.is
