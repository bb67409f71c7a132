-- A file that is copied to the beginning of a buffer.
use Rattle.std.proofs.Common.{◌≡◌, ℕ, ◌+◌, ◌-◌, ◌%◌, ◌≤◌, ◌<◌, ◌==◌, cond, List, [], ◌∷◌, ◌++◌, length, take, drop, set, get_or, refl, ap, sym, ◌∙◌, append_assoc, arith, add-one}
use Rattle.std.proofs.lemmas.List.{length-append, take_at, drop_at, set_at, drop-drop, append-nil}
use Rattle.std.proofs.Math.Seq.{drop-cons}
use borrow.Rule.Slice.PartMut.{put_mid}
use Rattle.vp_webp.specs.Text.{webp_head_text, padding, webp_text}
use Rattle.vp_webp.proofs.Written.{length-file}

pub length-head : (n : ℕ) → length (webp_head_text n) ≡ 20
unfolding webp_head_text
length-head n = refl

-- the header, and then the packet
pub both-put : (out head packet : List ℕ) → length head ≡ 20
    → put_mid 20 (20 + length packet - 20) (head ++ drop 20 out) packet ≡ (head ++ packet) ++ drop (20 + length packet) out
both-put out head packet long =
    let n = length packet in
    let count : 20 + n - 20 ≡ n = omega arith in
    let front : take 20 (head ++ drop 20 out) ≡ head = take_at head (drop 20 out) 20 long in
    let rest : drop (20 + n - 20) (drop 20 (head ++ drop 20 out)) ≡ drop (20 + n) out =
    ap (λ xs. drop (20 + n - 20) xs) (drop_at head (drop 20 out) 20 long) ∙ ap (λ k. drop k (drop 20 out)) count ∙ drop-drop n 20 out in
    rw (front, rest) (sym (append_assoc head packet (drop (20 + n) out)))

-- the byte after them
pub then-padded : (out front : List ℕ) (end : ℕ) → length front ≡ end → end < length out
    → set (front ++ drop end out) end 0 ≡ (front ++ 0 ∷ []) ++ drop (end + 1) out
then-padded out front end long room =
    let next : drop end out ≡ get_or out end 0 ∷ drop (end + 1) out = rw (add-one) (drop-cons out end 0 room) in
    ap (λ xs. set (front ++ xs) end 0) next
    ∙ set_at front (get_or out end 0) (drop (end + 1) out) 0 end long
    ∙ sym (append_assoc front (0 ∷ []) (drop (end + 1) out))

odd-padding : (r : ℕ) → r ≡ 1 → cond {A = List ℕ} (r == 1) (0 ∷ []) [] ≡ 0 ∷ []
odd-padding r e = rw e refl

even-padding : (r : ℕ) → r < 2 → (r ≡ 1 → ⊥) → cond {A = List ℕ} (r == 1) (0 ∷ []) [] ≡ []
even-padding r lt other = let none : r ≡ 0 = omega arith in rw none refl

-- the file of an odd packet
pub odd-file : (out packet : List ℕ) → length packet % 2 ≡ 1 → length (webp_text packet) ≤ length out
    → set ((webp_head_text (length packet) ++ packet) ++ drop (20 + length packet) out) (20 + length packet) 0
    ≡ webp_text packet ++ drop (length (webp_text packet)) out
odd-file out packet odd room =
    let n = length packet in
    let head = webp_head_text n in
    let long : length (head ++ packet) ≡ 20 + n = omega (arith, length-append head packet, length-head n) in
    let whole : 20 + n + 1 ≡ length (webp_text packet) = omega (arith, length-file packet) in
    then-padded out (head ++ packet) (20 + n) long (omega (arith, length-file packet))
    ∙ ap (λ xs. ((head ++ packet) ++ xs) ++ drop (20 + n + 1) out) (sym (odd-padding (n % 2) odd))
    ∙ ap (λ k. webp_text packet ++ drop k out) whole

-- the file of an even packet
pub even-file : (out packet : List ℕ) → (length packet % 2 ≡ 1 → ⊥)
    → (webp_head_text (length packet) ++ packet) ++ drop (20 + length packet) out
    ≡ webp_text packet ++ drop (length (webp_text packet)) out
even-file out packet even =
    let n = length packet in
    let head = webp_head_text n in
    let none : padding n ≡ [] = even-padding (n % 2) (omega arith) even in
    let whole : 20 + n ≡ length (webp_text packet) = omega (arith, length-file packet) in
    ap (λ xs. xs ++ drop (20 + n) out) (sym (append-nil (head ++ packet)) ∙ ap (λ xs. (head ++ packet) ++ xs) (sym none))
    ∙ ap (λ k. webp_text packet ++ drop k out) whole
