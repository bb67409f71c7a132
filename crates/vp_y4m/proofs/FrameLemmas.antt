-- A line, and what is read behind it.
use Rattle.std.proofs.Common.{◌≡◌, ◌≢◌, ◌∙◌, ℕ, ◌<◌, ◌+◌, List, ◌++◌, length, take, drop, false, Option, Some, None, Result, Ok, Err, ◌⊎◌, inl, inr, refl, sym, ap, append_assoc, length-append, arith}
use Rattle.std.specs.Prelude.{codes}
use Rattle.std.proofs.KnownBytes.{Consumes-trans}
use Rattle.std.proofs.lemmas.Bool.Decides.{nat_tests}
use Rattle.std.proofs.Math.Seq.{take-append_seam, drop-append_seam}
use Rattle.vp_base.specs.Image.{Image, i420}
use Rattle.vp_y4m.specs.declared.fault.SourceFault.{SourceFault}
use Rattle.vp_y4m.specs.declared.fault.SourceFault.TheVariants.{Magic, Size, Colour, Interlaced, Torn, Device, Memory}
use Rattle.vp_y4m.specs.Text.{i420_length}
use Rattle.vp_y4m.specs.Reads.{Shows, ShowsFault, ShowsAtEnd, Fails}
use Rattle.vp_y4m.specs.Lines.{first_line, LineFails}
use Rattle.vp_y4m.specs.Header.{Head, begins_with, head_in}
use Rattle.vp_y4m.specs.Pictures.{StopsShort, split_off, frame_line, next_of, with_rest, head_line, file_head}
use Rattle.vp_y4m.specs.Pixels.{ReadsPicture}
use Rattle.vp_y4m.specs.Frames.{ReadsFrameLine, GivesPicture}
use Rattle.vp_y4m.proofs.LineLemmas.{IsUnfinished, too_long, unfinished_line, unfinished_long}
use Rattle.vp_y4m.proofs.PictureLemmas.{length-i420}

-- bytes that don't reach a line's end show no picture's fault
next_unfinished : (w h : ℕ) (bytes : List ℕ) → IsUnfinished bytes → next_of w h bytes ≢ Err Magic
unfolding next_of
next_unfinished w h bytes u is = elim u [
  | inl none ↦ (let clash = sym (ap (frame_line (i420_length w h)) none) ∙ is in cc)
  | inr torn ↦ (let clash = sym (ap (frame_line (i420_length w h)) torn) ∙ is in cc)
]

-- and no head's
head_unfinished : (pixels : ℕ) (bytes : List ℕ) → IsUnfinished bytes → file_head pixels bytes ≡ Err Torn
unfolding file_head
head_unfinished pixels bytes u = elim u [
  | inl none ↦ ap (head_line pixels) none
  | inr torn ↦ ap (head_line pixels) torn
]

-- a line of another word
pub other_line : (line : List ℕ) (a b : Option (List ℕ)) → Shows first_line (λ rest. Ok (Some (line, rest))) a b → begins_with (codes "FRAME") line ≡ false
    → (w h : ℕ) → ShowsFault (next_of w h) Magic a b
unfolding next_of
other_line line a b s other w h = record {
  taken = s.taken;
  consumed = s.consumed;
  shown = λ rest. ap (frame_line (i420_length w h)) (s.shown rest) ∙ rw other refl;
  tight = λ n less. next_unfinished w h (take n s.taken) (unfinished_line s.taken line s.shown n less);
}

pub end_before_line : (a b : Option (List ℕ)) → ShowsAtEnd first_line (Ok None) a b → (w h : ℕ) → ShowsAtEnd (next_of w h) (Ok None) a b
unfolding next_of
end_before_line a b s w h = record {
  taken = s.taken;
  consumed = s.consumed;
  at_end = s.at_end;
  shown = ap (frame_line (i420_length w h)) s.shown;
}

-- a line's fault is the picture's
pub line_fault : (f : SourceFault) (a b : Option (List ℕ)) → LineFails f a b → (w h : ℕ) → Fails (next_of w h) f a b
unfolding next_of
line_fault Magic a b s w h = record {
  taken = s.taken;
  consumed = s.consumed;
  shown = λ rest. ap (frame_line (i420_length w h)) (too_long s.taken (let long = s.long in omega arith) s.no_feed rest);
  tight = λ n less. next_unfinished w h (take n s.taken) (unfinished_long s.taken s.long s.no_feed n less);
}
line_fault Torn a b s w h = record { taken = s.taken; consumed = s.consumed; at_end = s.at_end; shown = ap (frame_line (i420_length w h)) s.shown }
line_fault Device a b s w h = s
line_fault Size a b s w h = absurd s
line_fault Colour a b s w h = absurd s
line_fault Interlaced a b s w h = absurd s
line_fault Memory a b s w h = absurd s

pub split_whole : (n : ℕ) (xs rest : List ℕ) → length xs ≡ n → split_off n (xs ++ rest) ≡ Ok (Some (xs, rest))
split_whole n xs rest e =
    let l : length (xs ++ rest) ≡ length xs + length rest = length-append xs rest in
    let t : take n (xs ++ rest) ≡ xs = rw e at (take-append_seam xs rest) in
    let d : drop n (xs ++ rest) ≡ rest = rw e at (drop-append_seam xs rest) in
    let whole : split_off n (xs ++ rest) ≡ Ok (Some (take n (xs ++ rest), drop n (xs ++ rest))) = grind (arith, nat_tests) in
    whole ∙ cc

split_short : (n : ℕ) (xs : List ℕ) → length xs < n → split_off n xs ≡ Err Torn
split_short n xs few = grind (arith, nat_tests)

-- the line and the pixels behind it
pub frame_read : (w h : ℕ) (old new : Image) (a b c : Option (List ℕ)) → old.width ≡ w → old.height ≡ h → ReadsFrameLine a b → ReadsPicture old new b c → GivesPicture w h new a c
unfolding next_of
frame_read w h old new a b c ew eh s p =
    let wide : new.width ≡ w = p.width ∙ ew in
    let tall : new.height ≡ h = p.height ∙ eh in
    let l : length (i420 new) ≡ i420_length w h = length-i420 new ∙ (let e : i420_length new.width new.height ≡ i420_length w h = rw (wide, tall) refl in e) in
    record {
      width = wide;
      height = tall;
      shown = record {
        taken = s.shown.taken ++ i420 new;
        consumed = Consumes-trans a b c s.shown.taken (i420 new) s.shown.consumed p.consumed;
        shown = λ rest. rw (append_assoc s.shown.taken (i420 new) rest)
            (ap (frame_line (i420_length w h)) (s.shown.shown (i420 new ++ rest)) ∙ rw s.named (split_whole (i420_length w h) (i420 new) rest l));
      };
      outside = p.outside;
    }

-- the line and too few pixels behind it
pub frame_short : (w h : ℕ) (f : SourceFault) (a b c : Option (List ℕ)) → ReadsFrameLine a b → StopsShort (i420_length w h) f b c → Fails (next_of w h) f a c
unfolding next_of
frame_short w h f a b c s p = elim p.named [
  | inl torn ↦ rw torn (record {
    taken = s.shown.taken ++ p.taken;
    consumed = Consumes-trans a b c s.shown.taken p.taken s.shown.consumed p.consumed;
    at_end = p.at_end torn;
    shown = ap (frame_line (i420_length w h)) (s.shown.shown p.taken) ∙ rw s.named (split_short (i420_length w h) p.taken p.few);
  })
  | inr device ↦ rw device (s.shown.taken ++ p.taken, Consumes-trans a b c s.shown.taken p.taken s.shown.consumed p.consumed)
]

-- a line's fault is the head's
pub head_fault : (pixels : ℕ) (f : SourceFault) (a b : Option (List ℕ)) → LineFails f a b → Fails (file_head pixels) f a b
unfolding file_head
head_fault pixels Magic a b s = record {
  taken = s.taken;
  consumed = s.consumed;
  shown = λ rest. ap (head_line pixels) (too_long s.taken (let long = s.long in omega arith) s.no_feed rest);
  tight = λ n less is. let clash = sym (head_unfinished pixels (take n s.taken) (unfinished_long s.taken s.long s.no_feed n less)) ∙ is in cc;
}
head_fault pixels Torn a b s = record { taken = s.taken; consumed = s.consumed; at_end = s.at_end; shown = ap (head_line pixels) s.shown }
head_fault pixels Device a b s = s
head_fault pixels Size a b s = absurd s
head_fault pixels Colour a b s = absurd s
head_fault pixels Interlaced a b s = absurd s
head_fault pixels Memory a b s = absurd s

-- nothing stands where the head should
pub no_head : (pixels : ℕ) (a b : Option (List ℕ)) → ShowsAtEnd first_line (Ok None) a b → ShowsAtEnd (file_head pixels) (Err Torn) a b
unfolding file_head
no_head pixels a b s = record { taken = s.taken; consumed = s.consumed; at_end = s.at_end; shown = ap (head_line pixels) s.shown }

-- the first line was read, and judged
pub head_judged : (pixels : ℕ) (line : List ℕ) (r : Result Head SourceFault) (a b : Option (List ℕ)) → Shows first_line (λ rest. Ok (Some (line, rest))) a b → r ≡ head_in pixels line → Shows (file_head pixels) (λ rest. with_rest r rest) a b
unfolding file_head
head_judged pixels line r a b s e = record {
  taken = s.taken;
  consumed = s.consumed;
  shown = λ rest. ap (head_line pixels) (s.shown rest) ∙ ap (λ (j : Result Head SourceFault). with_rest j rest) (sym e);
}

-- the fault of a line that was read and judged
judged_line : (pixels : ℕ) (line : List ℕ) (f : SourceFault) (a b : Option (List ℕ)) → Shows first_line (λ rest. Ok (Some (line, rest))) a b → Err f ≡ head_in pixels line
    → (let r : Result (Head × List ℕ) SourceFault = Err f in r ≢ Err Torn) → ShowsFault (file_head pixels) f a b
unfolding file_head
judged_line pixels line f a b s e other = record {
  taken = s.taken;
  consumed = s.consumed;
  shown = λ rest. ap (head_line pixels) (s.shown rest) ∙ ap (λ (j : Result Head SourceFault). with_rest j rest) (sym e);
  tight = λ n less is. other (sym is ∙ head_unfinished pixels (take n s.taken) (unfinished_line s.taken line s.shown n less));
}

-- a line is judged by four faults only
pub judged_fault : (pixels : ℕ) (line : List ℕ) (f : SourceFault) (a b : Option (List ℕ)) → Shows first_line (λ rest. Ok (Some (line, rest))) a b → Err f ≡ head_in pixels line → (f ≡ Magic) ⊎ ((f ≡ Size) ⊎ ((f ≡ Colour) ⊎ (f ≡ Interlaced)))
    → Fails (file_head pixels) f a b
judged_fault pixels line Magic a b s e n = judged_line pixels line Magic a b s e (λ same. cc)
judged_fault pixels line Size a b s e n = judged_line pixels line Size a b s e (λ same. cc)
judged_fault pixels line Colour a b s e n = judged_line pixels line Colour a b s e (λ same. cc)
judged_fault pixels line Interlaced a b s e n = judged_line pixels line Interlaced a b s e (λ same. cc)
judged_fault pixels line Torn a b s e (inl n) = cc
judged_fault pixels line Torn a b s e (inr (inl n)) = cc
judged_fault pixels line Torn a b s e (inr (inr (inl n))) = cc
judged_fault pixels line Torn a b s e (inr (inr (inr n))) = cc
judged_fault pixels line Device a b s e (inl n) = cc
judged_fault pixels line Device a b s e (inr (inl n)) = cc
judged_fault pixels line Device a b s e (inr (inr (inl n))) = cc
judged_fault pixels line Device a b s e (inr (inr (inr n))) = cc
judged_fault pixels line Memory a b s e (inl n) = cc
judged_fault pixels line Memory a b s e (inr (inl n)) = cc
judged_fault pixels line Memory a b s e (inr (inr (inl n))) = cc
judged_fault pixels line Memory a b s e (inr (inr (inr n))) = cc
