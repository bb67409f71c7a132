-- Tests of fields by their spans, and the members of a value.
use Rattle.std.proofs.Common.{◌≡◌, ◌∙◌, ◌||◌, ◌<◌, ◌≤◌, ◌+◌, ℕ, suc, List, [], ◌∷◌, length, Bool, true, false, not, map, count_by, drop, get_or, None, cond, refl, sym, ap, arith}
use Rattle.std.specs.List.{list_any, position, position_or_len, before_first, after_first, slice_split, onto_first}
use Rattle.std.proofs.lemmas.List.Splits.{slice_split_first}
use Rattle.std.proofs.lemmas.List.Sums.{sum_by-cons, prefix_len-le-length}
use Rattle.std.proofs.lemmas.Bool.Decides.{nat_tests}
use Rattle.std.proofs.lemmas.List.{drop_more}
use Rattle.httparse.specs.declared.spans.HeaderSpan.{HeaderSpan}
use Rattle.httparse.specs.Spans.{header_bytes, span_bytes}
use Rattle.vp_heads.specs.Fields.{is_named, value_of, is_comma, is_close, has_close}

pub any-map : {X Y : Type 0} (f : X → Y) (p : Y → Bool) (xs : List X)
    → list_any p (map f xs) ≡ list_any (λ x. p (f x)) xs
any-map f p [] = refl
any-map f p (x ∷ xs) = ap (λ b. p (f x) || b) (any-map f p xs)

pub count-map : {X Y : Type 0} (f : X → Y) (p : Y → Bool) (xs : List X)
    → count_by p (map f xs) ≡ count_by (λ x. p (f x)) xs
count-map f p [] = refl
count-map f p (x ∷ xs) =
    sum_by-cons (λ y. cond (p y) 1 0) (f x) (map f xs)
    ∙ ap (λ n. cond (p (f x)) 1 0 + n) (count-map f p xs)
    ∙ sym (sum_by-cons (λ y. cond (p (f y)) 1 0) x xs)

-- no place is found only where there is none
pub position_none : (p : ℕ → Bool) (xs : List ℕ) → position p xs ≡ None → position_or_len p xs ≡ length xs
position_none p xs h =
    let le : position_or_len p xs ≤ length xs = prefix_len-le-length _ xs in
    grind (arith, nat_tests)

slice_split_one : (p : ℕ → Bool) (xs : List ℕ) → position_or_len p xs ≡ length xs → slice_split p xs ≡ xs ∷ []
slice_split_one p [] h = refl
slice_split_one p (x ∷ xs) h = go (p x) h (slice_split_one p xs)
  where
    go : (b : Bool) → cond (not b) (1 + position_or_len p xs) 0 ≡ suc (length xs) → (position_or_len p xs ≡ length xs → slice_split p xs ≡ xs ∷ [])
        → cond b ([] ∷ slice_split p xs) (onto_first x (slice_split p xs)) ≡ (x ∷ xs) ∷ []
    go true e more = absurd (omega arith)
    go false e more = rw (more (omega arith)) refl

or_false : (b : Bool) → (b || false) ≡ b
or_false true = refl
or_false false = refl

-- one more member
pub close_more : (value : List ℕ) → position_or_len is_comma value < length value
    → has_close value ≡ (is_close (before_first is_comma value) || has_close (after_first is_comma value))
unfolding has_close
close_more value h = ap (list_any is_close) (slice_split_first is_comma value 0 h)

-- the last member
pub close_last : (value : List ℕ) → position_or_len is_comma value ≡ length value → has_close value ≡ is_close value
unfolding has_close
close_last value h = ap (list_any is_close) (slice_split_one is_comma value h) ∙ or_false (is_close value)

module _ (buf name : List ℕ) (spans : List HeaderSpan) (i : ℕ) (at : i < length spans) (d : HeaderSpan) where
  here : map (header_bytes buf) (drop i spans) ≡ header_bytes buf (get_or spans i d) ∷ map (header_bytes buf) (drop (i + 1) spans)
  here = ap (map (header_bytes buf)) (drop_more spans i d at)

  -- the field there is the first of the name
  pub value_found : is_named name (header_bytes buf (get_or spans i d)) ≡ true → value_of name (map (header_bytes buf) (drop i spans)) ≡ span_bytes buf (get_or spans i d).value
  value_found h = ap (value_of name) here ∙ ap (λ b. cond b (span_bytes buf (get_or spans i d).value) (value_of name (map (header_bytes buf) (drop (i + 1) spans)))) h

  -- it isn't
  pub value_later : is_named name (header_bytes buf (get_or spans i d)) ≡ false → value_of name (map (header_bytes buf) (drop i spans)) ≡ value_of name (map (header_bytes buf) (drop (i + 1) spans))
  value_later h = ap (value_of name) here ∙ ap (λ b. cond b (span_bytes buf (get_or spans i d).value) (value_of name (map (header_bytes buf) (drop (i + 1) spans)))) h
