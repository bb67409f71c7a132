-- A line that is read byte by byte.
use Rattle.std.proofs.Common.{◌≡◌, ◌∙◌, ℕ, zero, suc, Result, ◌<◌, ◌≤◌, ◌+◌, List, [], ◌∷◌, ◌++◌, length, take, drop, Bool, true, false, not, cond, Option, Some, None, Ok, Err, eqb, ◌⊎◌, inl, inr, refl, sym, ap, append_assoc, length-append, arith, add-zero}
use Rattle.std.specs.List.{position_or_len}
use Rattle.std.specs.Io.KnownBytes.{Consumes, IsAtEnd}
use Rattle.std.proofs.KnownBytes.{Consumes-nil, Consumes-trans}
use Rattle.std.proofs.lemmas.Bool.{cases_lt}
use Rattle.std.proofs.lemmas.List.{append-nil, length-take, length-drop}
use Rattle.std.proofs.Math.Seq.{take-append_seam, drop-append-add}
use Rattle.std.proofs.lemmas.List.Sums.{prefix_len-le-length}
use Rattle.std.proofs.lemmas.Bool.Decides.{nat_tests}
use Rattle.vp_y4m.specs.declared.fault.SourceFault.{SourceFault}
use Rattle.vp_y4m.specs.declared.fault.SourceFault.TheVariants.{Magic, Torn}
use Rattle.vp_y4m.specs.Reads.{Shows, ShowsAtEnd}
use Rattle.vp_y4m.specs.Lines.{is_line_feed, first_line, ReadsLine, IsLineTooLong}

-- no element passes
abbrev pub NonePasses : (ℕ → Bool) → List ℕ → Type 0
NonePasses p xs = position_or_len p xs ≡ length xs

-- so many elements before those that follow
pub position-append : (p : ℕ → Bool) (xs ys : List ℕ) → NonePasses p xs → position_or_len p (xs ++ ys) ≡ length xs + position_or_len p ys
position-append p [] ys h = let e : 0 + position_or_len p ys ≡ position_or_len p ys = omega arith in sym e
position-append p (x ∷ xs) ys h = go (p x) h (position-append p xs ys)
  where
    go : (b : Bool) → cond (not b) (1 + position_or_len p xs) 0 ≡ suc (length xs) → (NonePasses p xs → position_or_len p (xs ++ ys) ≡ length xs + position_or_len p ys)
        → cond (not b) (1 + position_or_len p (xs ++ ys)) 0 ≡ suc (length xs) + position_or_len p ys
    go true e more = absurd (omega arith)
    go false e more = let m = more (omega arith) in omega arith

-- the bytes so far are those taken, without a line feed
pub record IsLineSoFar (xs : List ℕ) (before now : Option (List ℕ)) : Type 0 where
  pub consumed : Consumes before now xs
  pub no_feed : NonePasses is_line_feed xs

none_yet : (a : Option (List ℕ)) → IsLineSoFar [] a a
none_yet a = record { consumed = Consumes-nil a; no_feed = refl }

-- a byte that is no line feed
pub one_more_byte : (xs : List ℕ) (b : ℕ) (before now after : Option (List ℕ)) → IsLineSoFar xs before now → Consumes now after (b ∷ []) → is_line_feed b ≡ false → IsLineSoFar (xs ++ b ∷ []) before after
one_more_byte xs b before now after h c other = record {
  consumed = Consumes-trans before now after xs (b ∷ []) h.consumed c;
  no_feed = position-append is_line_feed xs (b ∷ []) h.no_feed ∙ simp (other, length-append);
}

-- the tests of the definition
by_tests : (bytes : List ℕ) (n : ℕ) → position_or_len is_line_feed bytes ≡ n → 0 < length bytes → n ≤ 1024 → n < length bytes → first_line bytes ≡ Ok (Some (take n bytes, drop (n + 1) bytes))
unfolding first_line
by_tests bytes n e some short inside = grind (arith, nat_tests)

by_tests_long : (bytes : List ℕ) → 1024 < position_or_len is_line_feed bytes → first_line bytes ≡ Err Magic
unfolding first_line
by_tests_long bytes long =
    let le : position_or_len is_line_feed bytes ≤ length bytes = prefix_len-le-length _ bytes in
    grind (arith, nat_tests)

by_tests_torn : (bytes : List ℕ) → position_or_len is_line_feed bytes ≡ length bytes → 0 < length bytes → length bytes ≤ 1024 → first_line bytes ≡ Err Torn
unfolding first_line
by_tests_torn bytes e some short = grind (arith, nat_tests)

pub line_is : (xs ys : List ℕ) → length xs ≤ 1024 → NonePasses is_line_feed xs → first_line (xs ++ 10 ∷ ys) ≡ Ok (Some (xs, ys))
line_is xs ys short none =
    let e : position_or_len is_line_feed (xs ++ 10 ∷ ys) ≡ length xs = position-append is_line_feed xs (10 ∷ ys) none ∙ add-zero (length xs) in
    let n : length (xs ++ 10 ∷ ys) ≡ length xs + length (10 ∷ ys) = length-append xs (10 ∷ ys) in
    let t : take (length xs) (xs ++ 10 ∷ ys) ≡ xs = take-append_seam xs (10 ∷ ys) in
    let d : drop (length xs + 1) (xs ++ 10 ∷ ys) ≡ ys = drop-append-add xs (10 ∷ ys) 1 in
    let here : first_line (xs ++ 10 ∷ ys) ≡ Ok (Some (take (length xs) (xs ++ 10 ∷ ys), drop (length xs + 1) (xs ++ 10 ∷ ys))) = by_tests (xs ++ 10 ∷ ys) (length xs) e (omega arith) short (omega arith) in
    here ∙ cc

-- the line feed
pub whole_line : (xs : List ℕ) (before now after : Option (List ℕ)) → length xs ≤ 1024 → IsLineSoFar xs before now → Consumes now after (10 ∷ []) → Shows first_line (λ rest. Ok (Some (xs, rest))) before after
unfolding first_line
whole_line xs before now after short h c = record {
  taken = xs ++ 10 ∷ [];
  consumed = Consumes-trans before now after xs (10 ∷ []) h.consumed c;
  shown = λ rest. rw (append_assoc xs (10 ∷ []) rest) (line_is xs rest short h.no_feed);
}

-- one byte too many
pub too_long : (xs : List ℕ) → 1024 < length xs → NonePasses is_line_feed xs → (rest : List ℕ) → first_line (xs ++ rest) ≡ Err Magic
too_long xs long none rest = by_tests_long (xs ++ rest) (let e = position-append is_line_feed xs rest none in omega arith)

-- a byte behind the greatest line
pub longer_line : (xs : List ℕ) (b : ℕ) (before now after : Option (List ℕ)) → length xs ≡ 1024 → IsLineSoFar xs before now → Consumes now after (b ∷ []) → (b ≡ 10 → ⊥) → IsLineTooLong before after
longer_line xs b before now after long h c other =
    let all = one_more_byte xs b before now after h c (grind (arith, nat_tests)) in
    record { taken = xs ++ b ∷ []; consumed = all.consumed; long = simp length-append (omega arith); no_feed = all.no_feed }

-- ---- fewer bytes than a line

-- neither a line nor a fault but the end
abbrev pub IsUnfinished : List ℕ → Type 0
IsUnfinished bytes = (first_line bytes ≡ Ok None) ⊎ (first_line bytes ≡ Err Torn)

none_in_front : (p : ℕ → Bool) (xs : List ℕ) (n : ℕ) → n ≤ position_or_len p xs → NonePasses p (take n xs)
none_in_front p xs zero h = refl
none_in_front p [] (suc n) h = refl
none_in_front p (x ∷ xs) (suc n) h = go (p x) h (none_in_front p xs n)
  where
    go : (b : Bool) → suc n ≤ cond (not b) (1 + position_or_len p xs) 0 → (n ≤ position_or_len p xs → NonePasses p (take n xs))
        → cond (not b) (1 + position_or_len p (take n xs)) 0 ≡ suc (length (take n xs))
    go true h more = absurd (omega arith)
    go false h more = let m = more (omega arith) in omega arith

without_feed : (xs : List ℕ) → NonePasses is_line_feed xs → length xs ≤ 1024 → IsUnfinished xs
unfolding first_line
without_feed [] none short = inl refl
without_feed (x ∷ xs) none short = inr (by_tests_torn (x ∷ xs) none (omega arith) short)

fewer : (xs : List ℕ) (n : ℕ) → n ≤ position_or_len is_line_feed xs → n ≤ 1024 → IsUnfinished (take n xs)
fewer xs n before_it short = let l = length-take n xs in without_feed (take n xs) (none_in_front is_line_feed xs n before_it) (omega arith)

abbrev rest_in : Result (Option (List ℕ × List ℕ)) SourceFault → List ℕ
rest_in (Ok (Some x)) = x.1
rest_in (Ok None) = []
rest_in (Err fault) = []

line_end : (bytes line : List ℕ) → first_line bytes ≡ Ok (Some (line, [])) → (position_or_len is_line_feed bytes ≤ 1024) × (length bytes ≤ position_or_len is_line_feed bytes + 1)
line_end bytes line e =
    let n = position_or_len is_line_feed bytes in
    let le : n ≤ length bytes = prefix_len-le-length _ bytes in
    elim (cases_lt 0 (length bytes)) [
      | inr none ↦ (omega arith, omega arith)
      | inl some ↦ elim (cases_lt 1024 n) [
        | inl long ↦ (let clash = sym (by_tests_long bytes long) ∙ e in cc)
        | inr short ↦ elim (cases_lt n (length bytes)) [
          | inl inside ↦
              let nothing : drop (n + 1) bytes ≡ [] = ap rest_in (sym (by_tests bytes n refl some (omega arith) inside) ∙ e) in
              let none = ap length nothing in
              let l = length-drop (n + 1) bytes in
              (omega arith, omega arith)
          | inr all ↦ (omega arith, omega arith)
        ]
      ]
    ]

-- no fewer bytes than the line's and its line feed
pub unfinished_line : (taken line : List ℕ) → ((rest : List ℕ) → first_line (taken ++ rest) ≡ Ok (Some (line, rest))) → (n : ℕ) → n < length taken → IsUnfinished (take n taken)
unfinished_line taken line shown n less =
    let end = line_end taken line (ap first_line (sym (append-nil taken)) ∙ shown []) in
    let short = end.0 in
    let all = end.1 in
    fewer taken n (omega arith) (omega arith)

-- no fewer than the first 1,025 bytes
pub unfinished_long : (taken : List ℕ) → length taken ≡ 1025 → NonePasses is_line_feed taken → (n : ℕ) → n < length taken → IsUnfinished (take n taken)
unfinished_long taken long none n less = fewer taken n (omega arith) (omega arith)

-- the end behind some bytes
pub torn_line : (xs : List ℕ) (before now after : Option (List ℕ)) → 0 < length xs → length xs ≤ 1024 → IsLineSoFar xs before now → Consumes now after [] → IsAtEnd after → ShowsAtEnd first_line (Err Torn) before after
unfolding first_line
torn_line xs before now after some short h c end = record {
  taken = xs ++ [];
  consumed = Consumes-trans before now after xs [] h.consumed c;
  at_end = end;
  shown = rw (append-nil xs) (by_tests_torn xs h.no_feed some short);
}

-- the end before any byte
pub no_line : (before now after : Option (List ℕ)) → Consumes before now [] → Consumes now after [] → IsAtEnd after → ShowsAtEnd first_line (Ok None) before after
unfolding first_line
no_line before now after b c end = record {
  taken = [] ++ [];
  consumed = Consumes-trans before now after [] [] b c;
  at_end = end;
  shown = refl;
}

-- the end behind n bytes
pub end_of_line : (r : Result (Option ℕ) SourceFault) (n : ℕ) (line : List ℕ) (before now after : Option (List ℕ)) → r ≡ cond (eqb n 0) (Ok None) (Err Torn) → n ≤ 1024 → length line ≡ 1024
    → IsLineSoFar (take n line) before now → Consumes now after [] → IsAtEnd after → ReadsLine r line before after
end_of_line r zero line before now after e short len h c end = rw e (no_line before now after h.consumed c end)
end_of_line r (suc n) line before now after e short len h c end =
    let more : eqb (suc n) 0 ≡ false = grind (arith, nat_tests) in
    let l : length (take (suc n) line) ≡ suc n = length-take (suc n) line ∙ omega arith in
    rw (e, more) (torn_line (take (suc n) line) before now after (omega arith) (omega arith) h c end)
