-- The tokens of a line.
use Rattle.std.proofs.Common.{◌≡◌, ◌∙◌, ℕ, suc, ◌<◌, ◌≤◌, ◌+◌, List, [], ◌∷◌, length, Bool, true, false, not, cond, Option, Some, None, refl, sym, ap, arith}
use Rattle.std.specs.List.{position, position_or_len, before_first, after_first, slice_split, onto_first}
use Rattle.std.specs.Option.{option_or}
use Rattle.std.specs.Borrow.{Bor}
use Rattle.std.proofs.lemmas.List.Splits.{slice_split_first}
use Rattle.std.proofs.lemmas.List.Sums.{prefix_len-le-length}
use Rattle.std.proofs.lemmas.Bool.Decides.{nat_tests}
use Rattle.vp_y4m.specs.Header.{is_space, text_after_kind, either, last_among, last_token}
use Rattle.vp_y4m.specs.Shown.{borrowed_text}

-- no place is found only where there is none
pub position_none : (p : ℕ → Bool) (xs : List ℕ) → position p xs ≡ None → position_or_len p xs ≡ length xs
position_none p xs h =
    let le : position_or_len p xs ≤ length xs = prefix_len-le-length _ xs in
    grind (arith, nat_tests)

pub slice_split_one : (p : ℕ → Bool) (xs : List ℕ) → position_or_len p xs ≡ length xs → slice_split p xs ≡ xs ∷ []
slice_split_one p [] h = refl
slice_split_one p (x ∷ xs) h = go (p x) h (slice_split_one p xs)
  where
    go : (b : Bool) → cond (not b) (1 + position_or_len p xs) 0 ≡ suc (length xs) → (position_or_len p xs ≡ length xs → slice_split p xs ≡ xs ∷ [])
        → cond b ([] ∷ slice_split p xs) (onto_first x (slice_split p xs)) ≡ (x ∷ xs) ∷ []
    go true e more = absurd (omega arith)
    go false e more = rw (more (omega arith)) refl

pub last_of_more : (kind : ℕ) (line : List ℕ) → position_or_len is_space line < length line → last_token kind line ≡ either (last_token kind (after_first is_space line)) (text_after_kind kind (before_first is_space line))
unfolding last_token
last_of_more kind line h = ap (last_among kind) (slice_split_first is_space line 0 h)

pub last_of_one : (kind : ℕ) (line : List ℕ) → position_or_len is_space line ≡ length line → last_token kind line ≡ text_after_kind kind line
unfolding last_token
last_of_one kind line h = ap (last_among kind) (slice_split_one is_space line h)

text_of_or : (a b : Option (Bor (List ℕ))) → borrowed_text (option_or a b) ≡ either (borrowed_text a) (borrowed_text b)
text_of_or None b = refl
text_of_or (Some x) b = refl

either_assoc : (a b c : Option (List ℕ)) → either (either a b) c ≡ either a (either b c)
either_assoc None b c = refl
either_assoc (Some x) b c = refl

-- one more token
pub token_more : (kind : ℕ) (line rest token after : List ℕ) (text last r : Option (Bor (List ℕ))) → position_or_len is_space rest < length rest → token ≡ before_first is_space rest → after ≡ after_first is_space rest
    → borrowed_text text ≡ text_after_kind kind token → r ≡ option_or text last → either (last_token kind rest) (borrowed_text last) ≡ last_token kind line → either (last_token kind after) (borrowed_text r) ≡ last_token kind line
token_more kind line rest token after text last r inside t a e o h =
    rw (a, o, text_of_or text last, e, t)
    (sym (either_assoc (last_token kind (after_first is_space rest)) (text_after_kind kind (before_first is_space rest)) (borrowed_text last))
    ∙ rw (← last_of_more kind rest inside) h)

-- the last token
pub token_last : (kind : ℕ) (line rest : List ℕ) (text last r : Option (Bor (List ℕ))) → position_or_len is_space rest ≡ length rest → borrowed_text text ≡ text_after_kind kind rest → r ≡ option_or text last
    → either (last_token kind rest) (borrowed_text last) ≡ last_token kind line → borrowed_text r ≡ last_token kind line
token_last kind line rest text last r one e o h = rw (o, text_of_or text last, e) (rw (last_of_one kind rest one) at h)
