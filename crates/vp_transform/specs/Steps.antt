-- Private to the crate: the results of the steps of the inverse Walsh-Hadamard transform.
use Rattle.std.specs.Prelude.{ℕ, ℤ, ◌+ℤ◌, ◌-ℤ◌, List, [], ◌∷◌}
use Rattle.vp_transform.specs.Transform.{product, element_at, hadamard}

-- the sums in the order in which the code adds them
abbrev pub mixed : ℤ → ℤ → ℤ → ℤ → List ℤ
mixed i0 i1 i2 i3 =
    ((i0 +ℤ i3) +ℤ (i1 +ℤ i2)) ∷ ((i1 -ℤ i2) +ℤ (i0 -ℤ i3)) ∷ ((i0 +ℤ i3) -ℤ (i1 +ℤ i2)) ∷ ((i0 -ℤ i3) -ℤ (i1 -ℤ i2))
    ∷ []

-- the product of the matrix and a column of the block
abbrev pub column_product : List ℤ → ℕ → List ℤ
column_product block c =
    product (element_at hadamard) (element_at block) 0 c ∷ product (element_at hadamard) (element_at block) 1 c
    ∷ product (element_at hadamard) (element_at block) 2 c ∷ product (element_at hadamard) (element_at block) 3 c
    ∷ []

-- the product of a row of the block and the matrix
abbrev pub row_product : List ℤ → ℕ → List ℤ
row_product block r =
    product (element_at block) (element_at hadamard) r 0 ∷ product (element_at block) (element_at hadamard) r 1
    ∷ product (element_at block) (element_at hadamard) r 2 ∷ product (element_at block) (element_at hadamard) r 3
    ∷ []
