-- What is kept of a file's first bytes.
use Rattle.std.proofs.Common.{◌≡◌, ◌∙◌, ℕ, ◌+◌, ◌++◌, List, length, take, min, sym, ap, true, false, arith}
use Rattle.std.proofs.Math.Seq.{take-append-add}
use Rattle.std.proofs.lemmas.List.{take_min, length-take}
use Rattle.std.specs.Prelude.{◌↔◌, ◌≤◌, Result, Ok, Err, IsOk, OnOk}

-- bytes that fill the room that is left are the first 128 of all
pub kept : (xs ys zs : List ℕ) (left room : ℕ) → left + length xs ≡ 128 → room ≡ min left (length ys)
    → zs ≡ xs ++ take room ys → zs ≡ take 128 (xs ++ ys)
kept xs ys zs left room whole is here =
    let sum : length xs + left ≡ 128 = omega arith in
    here ∙ ap (λ n. xs ++ take n ys) is ∙ ap (λ l. xs ++ l) (take_min left ys) ∙ sym (take-append-add xs ys left)
    ∙ ap (λ n. take n (xs ++ ys)) sum

-- bytes for which there is room are appended
pub extended : {T E : Type 0} (xs ys zs : List ℕ) (left room : ℕ) (result : Result T E) → left + length xs ≡ 128
    → room ≡ min left (length ys) → IsOk result ↔ (length xs + length (take room ys) ≤ 128)
    → OnOk result (zs ≡ xs ++ take room ys) → zs ≡ xs ++ take room ys
extended xs ys zs left room (Ok t) whole is fits done = done
extended xs ys zs left room (Err e) whole is fits done =
    let size : length (take room ys) ≡ min room (length ys) = length-take room ys in
    let bad : false ≡ true = fits.1 (omega arith) in cc
