-- Lemmas on chains of rows of eight pixels.
use Rattle.std.proofs.Common.{◌≡◌, ◌∙◌, ℕ, ℤ, ◌+◌, ◌*◌, ◌/◌, ◌%◌, ◌<◌, List, ap, get_or, refl, arith}
use Rattle.vp_inter.specs.Filter.{filter_six}
use Rattle.vp_inter.specs.declared.panel.Panel.{Panel}
use Rattle.vp_inter.specs.Panels.{HoldsRows, IsPaired, IsPanel, IsShortPanel}
use Rattle.vp_inter.specs.Turns.{one_of_three}
use Rattle.vp_inter.proofs.PassLemmas.{from_zero, row_more}
use Rattle.vp_inter.proofs.WideLemmas.{from_three}

-- a panel without rows
pub none : (panel : Panel) (pixel : ℕ → ℕ → ℕ) → IsPanel panel pixel 0
none panel pixel = ((λ e c ein cin. absurd (omega arith)), (λ e c ein cin. absurd (omega arith)), (λ e c ein cin. absurd (omega arith)))

-- one row more of a chain
pub chain_more : (from e : ℕ) (old new : List ℕ) (pixel : ℕ → ℕ → ℕ) → HoldsRows old pixel from e
    → ((c : ℕ) → c < 8 → get_or new (e * 8 + c) 0 ≡ pixel (3 * e + from) c)
    → ((i : ℕ) → i < e * 8 → get_or new i 0 ≡ get_or old i 0)
    → HoldsRows new pixel from (e + 1)
chain_more from e old new pixel done here before = row_more 8 e old new (λ k c. pixel (3 * k + from) c) done here before

-- two rows more, which are written as sixteen pixels
pub chain_two : (from e : ℕ) (old new pair : List ℕ) (pixel : ℕ → ℕ → ℕ) → HoldsRows old pixel from (2 * e)
    → ((k : ℕ) → k < 16 → get_or new (e * 16 + k) 0 ≡ get_or pair k 0)
    → ((i : ℕ) → i < e * 16 → get_or new i 0 ≡ get_or old i 0)
    → ((c : ℕ) → c < 8 → get_or pair c 0 ≡ pixel (3 * (2 * e) + from) c)
    → ((c : ℕ) → c < 8 → get_or pair (8 + c) 0 ≡ pixel (3 * (2 * e + 1) + from) c)
    → HoldsRows new pixel from (2 * (e + 1))
chain_two from e old new pair pixel done here before upper lower k c kin cin =
    chain_more from (2 * e + 1) new new pixel
    (chain_more from (2 * e) old new pixel done
    (λ j jin. ap (λ (i : ℕ). get_or new i 0) (let p : 2 * e * 8 + j ≡ e * 16 + j = omega arith in p) ∙ here j (omega arith) ∙ upper j jin)
    (λ i below. before i (omega arith)))
    (λ j jin. ap (λ (i : ℕ). get_or new i 0) (let p : (2 * e + 1) * 8 + j ≡ e * 16 + (8 + j) = omega arith in p) ∙ here (8 + j) (omega arith) ∙ lower j jin)
    (λ i below. refl) k c (omega arith) cin

-- a chain from column 0 on
pub first_column : (chain : List ℕ) (pixel : ℕ → ℕ → ℕ) (from count : ℕ) → HoldsRows chain (λ r c. pixel r (0 + c)) from count → HoldsRows chain pixel from count
first_column chain pixel from count rows e c ein cin = rows e c ein cin ∙ ap (pixel (3 * e + from)) (from_zero c)

pub first_columns : (panel : Panel) (pixel : ℕ → ℕ → ℕ) (count : ℕ) → IsPanel panel (λ r c. pixel r (0 + c)) count → IsPanel panel pixel count
first_columns panel pixel count rows = (first_column _ pixel 0 count rows.0, first_column _ pixel 1 count rows.1, first_column _ pixel 2 count rows.2)

pub first_columns_of_short : (panel : Panel) (pixel : ℕ → ℕ → ℕ) → IsShortPanel panel (λ r c. pixel r (0 + c)) → IsShortPanel panel pixel
first_columns_of_short panel pixel rows = (first_column _ pixel 0 5 rows.0, first_column _ pixel 1 4 rows.1, first_column _ pixel 2 4 rows.2)

-- eight pixels filtered from three consecutive pairs of rows
pub from_pairs : (weights : List ℤ) (a b c row : List ℕ) (pixel : ℕ → ℕ → ℕ) (r : ℕ)
    → ((j : ℕ) → j < 8 → get_or row j 0 ≡ filter_six weights (λ k. get_or (one_of_three a b c (k % 3)) (2 * j + k / 3) 0))
    → IsPaired a pixel r → IsPaired b pixel (r + 1) → IsPaired c pixel (r + 2)
    → (x : ℕ) → x < 8 → get_or row x 0 ≡ filter_six weights (λ k. pixel (r + k) x)
from_pairs weights a b c row pixel r filtered xa xb xc x h =
    filtered x h
    ∙ from_three weights a b c (2 * x) (λ k. pixel (r + k) x)
    (λ t tin. xa x t h tin)
    (λ t tin. xb x t h tin ∙ ap (λ (n : ℕ). pixel n x) (let e : r + 1 + 3 * t ≡ r + (3 * t + 1) = omega arith in e))
    (λ t tin. xc x t h tin ∙ ap (λ (n : ℕ). pixel n x) (let e : r + 2 + 3 * t ≡ r + (3 * t + 2) = omega arith in e))
