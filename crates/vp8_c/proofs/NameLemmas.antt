-- A name with a 0 behind it.
use Rattle.std.proofs.Common.{◌≡◌, ◌<◌, ◌∙◌, ℕ, ◌+◌, List, [], ◌∷◌, ◌++◌, length, drop, set, ap, ap₂, sym, arith, append_assoc, length-append}
use Rattle.std.proofs.lemmas.List.{drop-set}

pub put_ended : (name before put : List ℕ) (n : ℕ) → put ≡ name → n ≡ length name → n < length before
    → put ++ drop n (set before n 0) ≡ (name ++ 0 ∷ []) ++ drop (length (name ++ 0 ∷ [])) before
put_ended name before put n is n_is below =
    let long : n + 1 ≡ length (name ++ 0 ∷ []) = (let l = length-append name (0 ∷ []) in omega arith) in
    ap₂ (λ (a b : List ℕ). a ++ b) is (drop-set before n 0 below)
    ∙ sym (append_assoc name (0 ∷ []) (drop (n + 1) before))
    ∙ ap (λ (m : ℕ). (name ++ 0 ∷ []) ++ drop m before) long
