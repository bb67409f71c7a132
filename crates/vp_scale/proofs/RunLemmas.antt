-- Runs of a row, and squares row after row.
use Rattle.std.proofs.Common.{◌≡◌, ◌∙◌, ℕ, ◌+◌, ◌-◌, ◌*◌, ◌<◌, ◌++◌, List, length, take, drop, get_or, replicate, min, sum, sym, ap, arith, length-append, length-drop, inl, inr}
use Rattle.std.proofs.lemmas.List.{length-take, length-replicate, get_or-take, get_or-replicate, get_or_append_left, get_or-append_right, get_or-drop, ext_get_or}
use Rattle.std.proofs.lemmas.List.Sums.{sum_by-append}
use Rattle.std.proofs.lemmas.List.Folds.{sum_by-replicate}
use Rattle.std.proofs.lemmas.List.FromFn.{length-map-range_with_len, get_or-map-range_with_len}
use Rattle.std.proofs.lemmas.Bool.{cases_lt}
use Rattle.vp_base.specs.Raster.{Raster, row_of}
use Rattle.vp_base.specs.Block.{numbers}
use Rattle.vp_base.proofs.BlockLemmas.{numbers_none, numbers_more, get_or-row_of}
use Rattle.vp_scale.specs.Means.{nearest}
use Rattle.vp_scale.specs.Runs.{run_from}

pub length-run_from : (k x : ℕ) (row : List ℕ) → length (run_from k x row) ≡ k
length-run_from k x row = length-map-range_with_len (λ c. get_or row (min (x + c) (length row - 1)) 0) 0 k

pub get_or-run_from : (k x : ℕ) (row : List ℕ) (c : ℕ) → c < k → get_or (run_from k x row) c 0 ≡ get_or row (min (x + c) (length row - 1)) 0
get_or-run_from k x row c below = get_or-map-range_with_len (λ c. get_or row (min (x + c) (length row - 1)) 0) 0 k c c 0 below (omega arith)

-- the pixels up to the end of the row, and then its last one
run_parts : (k x e : ℕ) (row : List ℕ) → x < length row → e ≡ min (length row) (x + k)
    → run_from k x row ≡ take (e - x) (drop x row) ++ replicate (x + k - e) (get_or row (length row - 1) 0)
run_parts k x e row inside is_end =
    let front : List ℕ = take (e - x) (drop x row) in
    let last : ℕ = get_or row (length row - 1) 0 in
    let d : length (drop x row) ≡ length row - x = length-drop x row in
    let a : length front ≡ e - x = length-take (e - x) (drop x row) ∙ omega arith in
    let b : length (replicate (x + k - e) last) ≡ x + k - e = length-replicate (x + k - e) last in
    let l : length (run_from k x row) ≡ k = length-run_from k x row in
    ext_get_or 0 (run_from k x row) (front ++ replicate (x + k - e) last)
    (l ∙ sym (length-append front (replicate (x + k - e) last) ∙ omega arith))
    (λ c below.
    get_or-run_from k x row c (omega arith)
    ∙ (elim (cases_lt c (e - x)) [
      | inl early ↦
          ap (λ (i : ℕ). get_or row i 0) (let t : min (x + c) (length row - 1) ≡ x + c = omega arith in t)
          ∙ sym (get_or_append_left front (replicate (x + k - e) last) 0 c (omega arith)
          ∙ get_or-take (e - x) (drop x row) c 0 early
          ∙ get_or-drop x row c 0)
      | inr late ↦
          ap (λ (i : ℕ). get_or row i 0) (let t : min (x + c) (length row - 1) ≡ length row - 1 = omega arith in t)
          ∙ sym (get_or-append_right front (replicate (x + k - e) last) (e - x) c 0 a (omega arith)
          ∙ get_or-replicate (x + k - e) (c - (e - x)) last 0 (omega arith))
    ]))

pub sum-run_from : (k x e : ℕ) (row part : List ℕ) → x < length row → e ≡ min (length row) (x + k) → part ≡ take (e - x) (drop x row)
    → sum part + (x + k - e) * get_or row (length row - 1) 0 ≡ sum (run_from k x row)
sum-run_from k x e row part inside is_end is_part =
    let last : ℕ = get_or row (length row - 1) 0 in
    sym (ap sum (run_parts k x e row inside is_end)
    ∙ sum_by-append (λ n. n) (take (e - x) (drop x row)) (replicate (x + k - e) last)
    ∙ (λ i. sum (sym is_part i) + sum_by-replicate (λ n. n) (x + k - e) last i))

-- ---- a square, row after row

sum-none : (k : ℕ) (g : ℕ → ℕ → ℕ) → 0 ≡ sum (numbers k 0 g)
sum-none k g = sym (ap sum (numbers_none k g))

pub square_none : (k : ℕ) (p : Raster) (x y : ℕ) → 0 ≡ sum (numbers k 0 (λ c r. nearest p (x + c) (y + r)))
square_none k p x y = sum-none k (λ c r. nearest p (x + c) (y + r))

-- one row more
pub square_more : (k : ℕ) (p : Raster) (x y r total more : ℕ) (row : List ℕ) → 0 < p.width → row ≡ row_of p (min (y + r) (p.height - 1)) → length row ≡ p.width
    → total ≡ sum (numbers k r (λ c r. nearest p (x + c) (y + r))) → more ≡ sum (run_from k x row)
    → total + more ≡ sum (numbers k (r + 1) (λ c r. nearest p (x + c) (y + r)))
square_more k p x y r total more row some is_row long before now =
    let g : ℕ → ℕ → ℕ = λ c r. nearest p (x + c) (y + r) in
    (λ i. before i + now i)
    ∙ sym (sum_by-append (λ n. n) (numbers k r g) (run_from k x row))
    ∙ ap sum (numbers_more k r g (run_from k x row) (length-run_from k x row) (λ c below.
    get_or-run_from k x row c below
    ∙ (λ i. get_or (is_row i) (min (x + c) (long i - 1)) 0)
    ∙ get_or-row_of p (min (x + c) (p.width - 1)) (min (y + r) (p.height - 1)) (omega arith)))
