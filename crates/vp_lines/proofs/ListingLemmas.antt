-- Lines that are printed one after another.
use Rattle.std.proofs.Common.{◌≡◌, ℕ, ◌+◌, List, ◌++◌, length, codes, decimal, add-one, add-suc, sym, subst, ap, ◌∙◌, append_assoc, arith, zero, suc, [], ◌∷◌, map, Bool, true, false, refl, ◌<◌, take, get_or}
use Rattle.std.proofs.lemmas.List.{append-nil, map-append, take_more}
use Rattle.std.specs.Prelude.{Option, slice_index_or, ◌&&◌, Result, Ok, Err, OnOk, is_ok}
use Rattle.std.specs.Io.KnownBytes.{Appends}
use Rattle.vp_base.proofs.Writes.{appends_none, appends_both}
use Rattle.vp_decode.specs.declared.decoder.Outcome.{Outcome}
use Rattle.vp_decode.specs.declared.decoder.Outcome.TheVariants.{Shown}
use Rattle.vp_stream.specs.declared.outcomes.Survey.{Survey}
use Rattle.vp_stream.specs.Texts.{head_lines}
use Rattle.std.specs.List.{concat}
use Rattle.std.proofs.lemmas.List.Folds.{concat-append}
use Rattle.vp_head.specs.declared.fault.PacketFault.{PacketFault}
use Rattle.vp_lines.specs.FaultLines.{fault_line, fault_lines}
use Rattle.vp_lines.specs.Listing.{packet_line, packet_lines, lines_from, head_text, survey_text}

pub no_lines : (packets : List (ℕ × Outcome)) (a : Option (List ℕ)) → Appends a a (packet_lines packets 0)
unfolding packet_lines
no_lines packets a = appends_none a

pub none_from : (packets : List (ℕ × Outcome)) (first : ℕ) (a : Option (List ℕ)) → Appends a a (lines_from packets first 0)
unfolding lines_from
none_from packets first a = appends_none a

pub one_more : (packets : List (ℕ × Outcome)) (first n : ℕ) (packet : ℕ × Outcome) (a b c : Option (List ℕ)) → packet ≡ slice_index_or packets (first + n) (0, Shown)
    → Appends a b (lines_from packets first n) → Appends b c (packet_line (first + n) packet.0 packet.1) → Appends a c (lines_from packets first (n + 1))
unfolding lines_from
one_more packets first n packet a b c is before line =
    rw add-one (appends_both a b c _ _ before (subst (λ (p : ℕ × Outcome). Appends b c (packet_line (first + n) p.0 p.1)) is line))

-- the lines of some packets follow those of the packets before them
pub lines_follow : (packets : List (ℕ × Outcome)) (first n : ℕ) → packet_lines packets (first + n) ≡ packet_lines packets first ++ lines_from packets first n
unfolding packet_lines lines_from
lines_follow packets first zero = ap (packet_lines packets) (let e : first + 0 ≡ first = omega arith in e) ∙ sym (append-nil (packet_lines packets first))
lines_follow packets first (suc n) =
    let packet = slice_index_or packets (first + n) (0, Shown) in
    let line = packet_line (first + n) packet.0 packet.1 in
    rw add-suc (ap (λ (ns : List ℕ). ns ++ line) (lines_follow packets first n) ∙ append_assoc (packet_lines packets first) (lines_from packets first n) line)

pub some_more : (packets : List (ℕ × Outcome)) (first n : ℕ) (a b c : Option (List ℕ))
    → Appends a b (packet_lines packets first) → Appends b c (lines_from packets first n) → Appends a c (packet_lines packets (first + n))
some_more packets first n a b c before lines = rw (lines_follow packets first n) (appends_both a b c _ _ before lines)

-- the head's lines, and then the packets'
pub whole_text : (s : Survey) (a b c : Option (List ℕ)) → Appends a b (head_text s)
    → Appends b c (packet_lines s.packets (length s.packets)) → Appends a c (survey_text s)
whole_text s a b c head lines =
    let rest = packet_lines s.packets (length s.packets) in
    let text : head_text s ++ rest ≡ survey_text s =
    append_assoc (head_lines s.head) (codes "packets " ++ (decimal (length s.packets) ++ codes "\n")) rest
    ∙ ap (λ (ns : List ℕ). head_lines s.head ++ ns) (append_assoc (codes "packets ") (decimal (length s.packets) ++ codes "\n") rest
    ∙ ap (λ (ns : List ℕ). codes "packets " ++ ns) (append_assoc (decimal (length s.packets)) (codes "\n") rest))
    in subst (λ (ns : List ℕ). Appends a c ns) text (appends_both a b c _ _ head lines)

-- ---- faulty packets

pub both_true : (a b : Bool) → (a && b) ≡ true → (a ≡ true) × (b ≡ true)
both_true true true e = (refl, refl)
both_true true false e = cc
both_true false b e = cc

lines_of_both : (front some : List (ℕ × PacketFault)) → fault_lines (front ++ some) ≡ fault_lines front ++ fault_lines some
lines_of_both front some = ap concat (map-append fault_line front some) ∙ concat-append (map fault_line front) (map fault_line some)

-- the lines of some faulty packets follow those of the ones before them
pub more_faults : (a b c : Option (List ℕ)) (front some : List (ℕ × PacketFault))
    → Appends a b (fault_lines front) → Appends b c (fault_lines some) → Appends a c (fault_lines (front ++ some))
more_faults a b c front some before lines = rw (lines_of_both front some) (appends_both a b c _ _ before lines)

-- one more line, if it was written
pub next_fault : {E : Type 0} (r : Result (Unit {0}) E) (a b c : Option (List ℕ)) (faults : List (ℕ × PacketFault)) (i : ℕ) (d : ℕ × PacketFault)
    (well ok : Bool) → i < length faults → ok ≡ is_ok r → (well ≡ true → Appends a b (fault_lines (take i faults)))
    → OnOk r (Appends b c (fault_line (get_or faults i d))) → (well && ok) ≡ true → Appends a c (fault_lines (take (i + 1) faults))
next_fault (Ok x) a b c faults i d well ok lt is before line e =
    let fault = get_or faults i d in
    let one : Appends b c (fault_lines (fault ∷ [])) = subst (λ (ns : List ℕ). Appends b c ns) (sym (append-nil (fault_line fault))) line in
    rw (take_more faults i d lt) (more_faults a b c (take i faults) (fault ∷ []) (before (both_true well ok e).0) one)
next_fault (Err f) a b c faults i d well ok lt is before line e = absurd (not_both ok is (both_true well ok e).1)
  where
    not_both : (b : Bool) → b ≡ false → b ≡ true → ⊥
    not_both true p q = cc
    not_both false p q = cc
