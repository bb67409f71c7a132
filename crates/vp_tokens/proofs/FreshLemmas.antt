-- Blocks that are not read yet may have any contents: those that are read are the same.
use Rattle.std.proofs.Common.{◌≡◌, ◌∙◌, ℕ, zero, suc, ◌+◌, ◌-◌, ◌<◌, ◌≤◌, List, [], ◌∷◌, ◌++◌, length, take, replicate, refl, sym, ap, arith, length-set}
use Rattle.std.specs.Prelude.{slice_set}
use Rattle.std.proofs.lemmas.List.{append-nil, append_assoc, length-take-le, set_at, take_all, take_more_set}
use Rattle.vp_bool.specs.Bools.{State}
use Rattle.vp_bool.specs.Reader.{bind, rows}
use Rattle.vp_tokens.specs.declared.block.BlockKind.{BlockKind}
use Rattle.vp_tokens.specs.Block.{Block, no_tokens}
use Rattle.vp_tokens.specs.Levels.{Probabilities, bands_of, first_of}
use Rattle.vp_tokens.specs.Placed.{Reading, placed, plane}

-- with no tokens from block k on
abbrev pub fresh : ℕ → Reading → Reading
fresh k r = record r { blocks = take k r.blocks ++ replicate (25 - k) no_tokens }

pub fresh-set : (k : ℕ) (xs : List Block) (b : Block) → k < 25 → length xs ≡ 25
    → slice_set (take k xs ++ replicate (25 - k) no_tokens) k b ≡ take (k + 1) (slice_set xs k b) ++ replicate (25 - (k + 1)) no_tokens
fresh-set k xs b lt whole =
    let m : 25 - k ≡ suc (25 - (k + 1)) = omega arith in
    let others = replicate (25 - (k + 1)) no_tokens in
    rw m
    (set_at (take k xs) no_tokens others b k (length-take-le k xs (omega arith))
    ∙ sym (append_assoc (take k xs) (b ∷ []) others)
    ∙ sym (ap (λ (ys : List Block). ys ++ others) (take_more_set xs k b (omega arith))))

-- all 25 are read
pub all_fresh : (r : Reading) → length r.blocks ≡ 25 → fresh 25 r ≡ r
all_fresh r whole = ap (λ (ys : List Block). record r { blocks = ys }) (append-nil (take 25 r.blocks) ∙ take_all 25 r.blocks (omega arith))

placed-fresh : (bands : List (List (List ℕ))) (first k : ℕ) (r : Reading) (s : State) → k < 25 → length r.blocks ≡ 25
    → placed bands first k (fresh k r) s ≡ (fresh (k + 1) (placed bands first k r s).0, (placed bands first k r s).1)
unfolding placed bind
placed-fresh bands first k r s lt whole = rw (fresh-set k r.blocks _ lt whole) refl

placed-whole : (bands : List (List (List ℕ))) (first k : ℕ) (r : Reading) (s : State) → length (placed bands first k r s).0.blocks ≡ length r.blocks
unfolding placed bind
placed-whole bands first k r s = length-set r.blocks k _

rows-whole : (bands : List (List (List ℕ))) (first k n : ℕ) (r : Reading) (s : State) → length (rows n (λ j. placed bands first (k + j)) r s).0.blocks ≡ length r.blocks
unfolding rows bind
rows-whole bands first k zero r s = refl
rows-whole bands first k (suc n) r s =
    let z = rows n (λ j. placed bands first (k + j)) r s in
    placed-whole bands first (k + n) z.0 z.1 ∙ rows-whole bands first k n r s

rows-fresh : (bands : List (List (List ℕ))) (first k n : ℕ) (r : Reading) (s : State) → k + n ≤ 25 → length r.blocks ≡ 25
    → rows n (λ j. placed bands first (k + j)) (fresh k r) s
    ≡ (let z = rows n (λ j. placed bands first (k + j)) r s in (fresh (k + n) z.0, z.1))
unfolding rows bind
rows-fresh bands first k zero r s le whole =
    let same : k ≡ k + 0 = omega arith in
    ap (λ (n : ℕ). (fresh n r, s)) same
rows-fresh bands first k (suc n) r s le whole =
    let z = rows n (λ j. placed bands first (k + j)) r s in
    let w = placed bands first (k + n) z.0 z.1 in
    let next : (k + n) + 1 ≡ k + suc n = omega arith in
    ap (λ (y : Reading × State). placed bands first (k + n) y.0 y.1) (rows-fresh bands first k n r s (omega arith) whole)
    ∙ placed-fresh bands first (k + n) z.0 z.1 (omega arith) (rows-whole bands first k n r s ∙ whole)
    ∙ ap (λ (n : ℕ). (fresh n w.0, w.1)) next

module _ (p : Probabilities) (kind : BlockKind) (k n : ℕ) (r : Reading) (s : State) where
  pub plane-whole : length (plane p kind k n r s).0.blocks ≡ length r.blocks
  unfolding plane
  plane-whole = rows-whole (bands_of p kind) (first_of kind) k n r s

  pub plane-fresh : k + n ≤ 25 → length r.blocks ≡ 25 → plane p kind k n (fresh k r) s ≡ (fresh (k + n) (plane p kind k n r s).0, (plane p kind k n r s).1)
  unfolding plane
  plane-fresh le whole = rows-fresh (bands_of p kind) (first_of kind) k n r s le whole
