-- A slice of two pieces, one behind the other.
use Rattle.std.proofs.Common.{◌≡◌, ◌∙◌, ◌<◌, ◌≤◌, ◌+◌, ◌-◌, ◌++◌, ℕ, Bool, true, false, List, [], append_assoc, append-nil, length, take, drop, sym, ap, arith}
use Rattle.std.specs.Prelude.{Result, Ok, Err, OnOk, if◌then◌else◌}
use Rattle.vp_heads.specs.Ranges.{slice_of}
use Rattle.std.proofs.Math.Seq.{take-append-add, drop-append-add}
use Rattle.std.proofs.lemmas.List.{take-append-le, drop-append-le, length-drop, length-take-le, take_all}

module _ (xs ys : List ℕ) (first last : ℕ) where
  pub in_front : first ≤ last → last ≤ length xs → take (last - first) (drop first (xs ++ ys)) ≡ take (last - first) (drop first xs)
  in_front order within =
      ap (take (last - first)) (drop-append-le first xs ys (omega (arith, order, within)))
      ∙ take-append-le (last - first) (drop first xs) ys (omega (arith, order, within, length-drop first xs))

  pub behind : length xs ≤ first → first ≤ last → take (last - first) (drop first (xs ++ ys)) ≡ take ((last - length xs) - (first - length xs)) (drop (first - length xs) ys)
  behind there order =
      let e : first ≡ length xs + (first - length xs) = omega (arith, there) in
      let n : last - first ≡ (last - length xs) - (first - length xs) = omega (arith, there, order) in
      ap (λ k. take (last - first) (drop k (xs ++ ys))) e
      ∙ ap (take (last - first)) (drop-append-add xs ys (first - length xs))
      ∙ ap (λ k. take k (drop (first - length xs) ys)) n

  pub across : first ≤ length xs → length xs ≤ last → take (last - first) (drop first (xs ++ ys)) ≡ take (length xs - first) (drop first xs) ++ take (last - length xs) ys
  across before after =
      let e : last - first ≡ length (drop first xs) + (last - length xs) = omega (arith, before, after, length-drop first xs) in
      ap (take (last - first)) (drop-append-le first xs ys before)
      ∙ ap (λ k. take k (drop first xs ++ ys)) e
      ∙ take-append-add (drop first xs) ys (last - length xs)
      ∙ ap (λ zs. zs ++ take (last - length xs) ys) (sym (take_all (length xs - first) (drop first xs) (omega (arith, before, length-drop first xs))))

module _ (out head body mid new : List ℕ) (head_only : Bool) (begun : mid ≡ out ++ head) where
  -- a body behind its head
  pub with_body : head_only ≡ false → new ≡ mid ++ body → new ≡ out ++ (head ++ (if head_only then [] else body))
  with_body h put = put ∙ ap (λ m. m ++ body) begun ∙ append_assoc out head body ∙ ap (λ b. out ++ (head ++ (if b then [] else body))) (sym h)

  -- a head alone
  pub without_body : head_only ≡ true → mid ≡ out ++ (head ++ (if head_only then [] else body))
  without_body h = begun ∙ ap (λ h. out ++ h) (sym (append-nil head)) ∙ ap (λ b. out ++ (head ++ (if b then [] else body))) (sym h)

pub on_ok : {X Y : Type 0} (r : Result X Y) (A B : Type 0) → (A → B) → OnOk r A → OnOk r B
on_ok (Ok x) A B f a = f a
on_ok (Err y) A B f a = a

pub length-slice_of : (first last : ℕ) (body : List ℕ) → first ≤ last → last < length body → last + 1 - first ≡ length (slice_of first last body)
length-slice_of first last body order within =
    sym (length-take-le (last + 1 - first) (drop first body) (omega (arith, order, within, length-drop first body)))
