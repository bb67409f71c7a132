-- A file's packets are written, one after another.
use Rattle.std.proofs.Common.{◌≡◌, ℕ, zero, suc, ◌+◌, ◌<◌, ◌≤◌, Bool, true, false, not, List, [], ◌∷◌, ◌++◌, length, map, take, drop, get_or, Option, Some, None, Result, Ok, Err, ◌⊎◌, inl, inr, refl, sym, ap, subst, ◌∙◌, append_assoc, add-zero, arith}
use Rattle.std.specs.List.{enumerate_from}
use Rattle.std.specs.Result.{is_ok, is_err}
use Rattle.std.proofs.lemmas.List.{length-take, length-map, take-append-drop, take_more}
use Rattle.std.proofs.lemmas.List.FromFn.{length-enumerate_from}
use Rattle.vp_base.specs.Counted.{AppendsPrefix, HasFailed}
use Rattle.vp_base.proofs.Writes.{front_first}
use Rattle.vp_ivf.specs.declared.packet.Packet.{Packet}
use Rattle.vp_ivf.specs.declared.packet.IvfHead.{IvfHead}
use Rattle.vp_ivf.specs.declared.writer.Writer.{Writer}
use Rattle.vp_ivf.specs.declared.writer.WriteFault.{WriteFault}
use Rattle.vp_ivf.specs.declared.writer.WriteFault.TheVariants.{Device}
use Rattle.vp_ivf.specs.Text.{head_text, packet_text, packets_text, file_text}
use Rattle.vp_ivf.specs.Writer.{Written, IsWriterAfter, with_packet, IsWrittenAt, IsCountedAt, packet_refusal, write_refusal, finish_at, packets_left, has_failed, device_contents, device_failures}
use Rattle.vp_encode.specs.File.{timed}

-- packets with times from a first one on
abbrev pub timed_from : ℕ → List (List ℕ) → List Packet
timed_from n packets = map timed (enumerate_from n packets)

timed_from-append : (n : ℕ) (xs ys : List (List ℕ)) → timed_from n (xs ++ ys) ≡ timed_from n xs ++ timed_from (n + length xs) ys
timed_from-append n [] ys = ap (λ k. timed_from k ys) (sym (add-zero n))
timed_from-append n (x ∷ xs) ys =
    let same : n + 1 + length xs ≡ n + suc (length xs) = omega arith in
    ap (λ ps. timed (n, x) ∷ ps) (timed_from-append (n + 1) xs ys ∙ ap (λ k. timed_from (n + 1) xs ++ timed_from k ys) same)

-- one more
timed_more : (xs : List (List ℕ)) (i : ℕ) (x : List ℕ) → i < length xs → x ≡ get_or xs i []
    → timed_from 0 (take (i + 1) xs) ≡ timed_from 0 (take i xs) ++ timed (i, x) ∷ []
timed_more xs i x within is =
    let more : take (i + 1) xs ≡ take i xs ++ x ∷ [] = take_more xs i [] within ∙ ap (λ y. take i xs ++ y ∷ []) (sym is) in
    let long : 0 + length (take i xs) ≡ i = omega (arith, length-take i xs) in
    ap (timed_from 0) more ∙ (timed_from-append 0 (take i xs) (x ∷ []) ∙ ap (λ k. timed_from 0 (take i xs) ++ timed_from k (x ∷ [])) long)

packets_text-append : (ps qs : List Packet) → packets_text (ps ++ qs) ≡ packets_text ps ++ packets_text qs
packets_text-append [] qs = refl
packets_text-append (p ∷ ps) qs =
    ap (λ xs. packet_text p.time p.bytes ++ xs) (packets_text-append ps qs) ∙ sym (append_assoc (packet_text p.time p.bytes) (packets_text ps) (packets_text qs))

-- the first packets' text is a front of the file's
front_text : (h : IvfHead) (count : ℕ) (xs : List (List ℕ)) (i : ℕ)
    → (back : List ℕ) × (file_text h count (timed_from 0 xs) ≡ file_text h count (timed_from 0 (take i xs)) ++ back)
front_text h count xs i =
    let head = head_text h.w h.h h.rate h.scale count in
    let first = timed_from 0 (take i xs) in
    let others = timed_from (0 + length (take i xs)) (drop i xs) in
    let all : timed_from 0 xs ≡ first ++ others = ap (timed_from 0) (sym (take-append-drop i xs)) ∙ timed_from-append 0 (take i xs) (drop i xs) in
    (packets_text others, ap (λ ps. head ++ packets_text ps) all ∙ (ap (λ t. head ++ t) (packets_text-append first others) ∙ sym (append_assoc head (packets_text first) (packets_text others))))

-- a writer for this file, after some packets
abbrev pub history : Option (List ℕ) → ℕ → IvfHead → ℕ → List Packet → Bool → Written
history before failures head count packets failed =
    record { before = before; failures = failures; head = head; count = count; packets = packets; failed = failed }

written_front : (failed : Bool) (before now : Option (List ℕ)) (h : IvfHead) (count : ℕ) (xs : List (List ℕ)) (i : ℕ)
    → IsWrittenAt failed before now (file_text h count (timed_from 0 (take i xs))) → AppendsPrefix before now (file_text h count (timed_from 0 xs))
written_front false before now h count xs i w =
    let f = front_text h count xs i in (file_text h count (timed_from 0 (take i xs)), f.0, f.1, w)
written_front true before now h count xs i w =
    let f = front_text h count xs i in
    let P : List ℕ → Type 0 = λ t. AppendsPrefix before now t in
    subst P (sym f.1) (front_first before now (file_text h count (timed_from 0 (take i xs))) f.0 w)

-- ---- one packet

refusal_cases : (failed : Bool) (left : ℕ) → 0 < left
    → ((failed ≡ true) × (write_refusal failed left ≡ Some Device)) ⊎ ((failed ≡ false) × (write_refusal failed left ≡ None))
refusal_cases true left some = inl (refl, refl)
refusal_cases false zero some = absurd (omega arith)
refusal_cases false (suc left) some = inr (refl, refl)

not_ok : (r : Result (Unit {0}) WriteFault) → not (is_ok r) ≡ is_err r
not_ok (Ok x) = refl
not_ok (Err f) = refl

counted_true : (failed : Bool) (before now : ℕ) → failed ≡ true → IsCountedAt failed before now → HasFailed before now
counted_true true before now e c = c
counted_true false before now e c = cc

finish_failed : (failed : Bool) (left : ℕ) (f : WriteFault) → left ≡ 0 → finish_at failed left ≡ Err f → failed ≡ true
finish_failed true left f none e = refl
finish_failed false zero f none e = cc
finish_failed false (suc left) f none e = absurd (omega arith)

module _ {W : Type 0} (contents : W → Option (List ℕ)) (before : Option (List ℕ)) (failures : ℕ) (head : IvfHead) (xs : List (List ℕ)) where
  -- the first i packets were handed over
  abbrev pub so_far : ℕ → Bool → Written
  so_far i failed = history before failures head (length xs) (timed_from 0 (take i xs)) failed

  module _ (old new : Writer W) (i : ℕ) (failed : Bool) (time : ℕ) (bytes : List ℕ) (result : Result (Unit {0}) WriteFault)
      (within : i < length xs) (at : time ≡ i) (is : bytes ≡ get_or xs i [])
      (refused : (fault : WriteFault) → packet_refusal old ≡ Some fault → (result ≡ Err fault) × (new ≡ old))
      (stands : packet_refusal old ≡ None → (h : Written) → IsWriterAfter contents old h → IsWriterAfter contents new (with_packet h (timed (time, bytes)) (not (is_ok result))))
      (s : IsWriterAfter contents old (so_far i failed)) where
    some_left : 0 < packets_left old
    some_left = omega (arith, length-take i xs, length-map (enumerate_from 0 (take i xs)) timed, length-enumerate_from 0 (take i xs))

    next : (b : Bool) → IsWriterAfter contents new (with_packet (so_far i failed) (timed (time, bytes)) b) → IsWriterAfter contents new (so_far (i + 1) b)
    next b h =
        let P : List Packet → Type 0 = λ ps. IsWriterAfter contents new (history before failures head (length xs) ps b) in
        let Q : ℕ → Type 0 = λ t. IsWriterAfter contents new (history before failures head (length xs) (timed_from 0 (take i xs) ++ timed (t, bytes) ∷ []) b) in
        subst P (sym (timed_more xs i bytes within is)) (subst Q at h)

    pub packet_done : is_err result ≡ false → IsWriterAfter contents new (so_far (i + 1) false)
    packet_done good = elim (refusal_cases old.failed old.left some_left) as (λ _. IsWriterAfter contents new (so_far (i + 1) false)) [
      | inl e ↦ absurd (let never : true ≡ false = ap is_err (sym (refused Device e.1).0) ∙ good in cc)
      | inr e ↦
          let P : Bool → Type 0 = λ b. IsWriterAfter contents new (with_packet (so_far i failed) (timed (time, bytes)) b) in
          next false (subst P (not_ok result ∙ good) (stands e.1 (so_far i failed) s))
    ]

    -- the writer failed before, or fails now
    stopped : is_err result ≡ true → (j : ℕ) × IsWriterAfter contents new (so_far j true)
    stopped bad = elim (refusal_cases old.failed old.left some_left) as (λ _. (j : ℕ) × IsWriterAfter contents new (so_far j true)) [
      | inl e ↦
          let P : Bool → Type 0 = λ b. IsWriterAfter contents old (so_far i b) in
          let Q : Writer W → Type 0 = λ w. IsWriterAfter contents w (so_far i true) in
          (i, subst Q (sym (refused Device e.1).1) (subst P (sym s.failed ∙ e.0) s))
      | inr e ↦
          let P : Bool → Type 0 = λ b. IsWriterAfter contents new (with_packet (so_far i failed) (timed (time, bytes)) b) in
          (i + 1, next true (subst P (not_ok result ∙ bad) (stands e.1 (so_far i failed) s)))
    ]

    pub packet_front : is_err result ≡ true → AppendsPrefix before (device_contents contents new) (file_text head (length xs) (timed_from 0 xs))
    packet_front bad = let h = stopped bad in written_front true before (device_contents contents new) head (length xs) xs h.0 h.1.bytes

    pub packet_failed : is_err result ≡ true → HasFailed failures (device_failures new)
    packet_failed bad = (stopped bad).1.failures

  module _ (file : Writer W) (i : ℕ) (failed : Bool) (fault : WriteFault) (all : length xs ≤ i) (finish : finish_at (has_failed file) (packets_left file) ≡ Err fault)
      (s : IsWriterAfter contents file (so_far i failed)) where
    fails : failed ≡ true
    fails =
        let none : packets_left file ≡ 0 = omega (arith, length-take i xs, length-map (enumerate_from 0 (take i xs)) timed, length-enumerate_from 0 (take i xs)) in
        sym s.failed ∙ finish_failed (has_failed file) (packets_left file) fault none finish

    pub file_front : AppendsPrefix before (device_contents contents file) (file_text head (length xs) (timed_from 0 xs))
    file_front = written_front failed before (device_contents contents file) head (length xs) xs i s.bytes

    pub file_failed : HasFailed failures (device_failures file)
    file_failed = counted_true failed failures (device_failures file) fails s.failures
