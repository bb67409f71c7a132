-- The flags round a macroblock, and the blocks that they tell of.
use Rattle.std.proofs.Common.{◌≡◌, ◌∙◌, ℕ, suc, ◌+◌, ◌-◌, ◌*◌, ◌<◌, ◌≤◌, Bool, true, false, cond, Some, None, List, refl, sym, ap, replicate, arith, inl, inr}
use Rattle.std.specs.Prelude.{Option, nat_lt}
use Rattle.std.proofs.lemmas.Nat.{div-mul-add, mod-mul-add}
use Rattle.std.proofs.lemmas.Bool.{cases_eq, eq-eqb, ne_eqb, ltb-true, and_left, and_right}
use Rattle.vp_base.specs.declared.place.Place.{Place}
use Rattle.vp_base.specs.declared.near.Near.TheVariants.{Here, There}
use Rattle.vp_base.specs.Place.{above, left}
use Rattle.vp_base.specs.Grid.{Grid, look}
use Rattle.vp_base.specs.Near.{is_same, seen_from}
use Rattle.vp_tokens.specs.Blocks.{Blocks, no_blocks_read, Plane, near_had, nearest_y2, token_above, token_left}
use Rattle.vp_tokens.specs.Contexts.{flag_at, above_flags, left_flags}
use Rattle.vp_tokens.specs.Flagged.{above_flag, left_flag}

-- a block by its column and row in the macroblock at p
abbrev within : ℕ → Place → ℕ → ℕ → Place
within side p c r = record { column = p.column * side + c; row = p.row * side + r }

seen-at : (side : ℕ) (here p : Place) (c r : ℕ) → c < side → r < side → seen_from side here (Some (within side p c r)) ≡ cond (is_same p here) (Here (r * side + c)) (There p (r * side + c))
unfolding seen_from
seen-at side here p c r cb rb = rw (div-mul-add p.column side c cb, mod-mul-add p.column side c cb, div-mul-add p.row side r rb, mod-mul-add p.row side r rb) refl

seen-home : (side : ℕ) (p : Place) (c r : ℕ) → c < side → r < side → seen_from side p (Some (within side p c r)) ≡ Here (r * side + c)
seen-home side p c r cb rb = seen-at side p p c r cb rb ∙ rw (eq-eqb p.column p.column refl, eq-eqb p.row p.row refl) refl

pub above-next : (b : Place) (r : ℕ) → b.row ≡ r + 1 → above b ≡ Some (record { column = b.column; row = r })
above-next b r e = rw (ne_eqb b.row 0 (λ z. absurd (omega arith))) (ap (λ (n : ℕ). Some (record { column = b.column; row = n })) (let d : b.row - 1 ≡ r = omega arith in d))

pub left-next : (b : Place) (c : ℕ) → b.column ≡ c + 1 → left b ≡ Some (record { column = c; row = b.row })
left-next b c e = rw (ne_eqb b.column 0 (λ z. absurd (omega arith))) (ap (λ (n : ℕ). Some (record { column = n; row = b.row })) (let d : b.column - 1 ≡ c = omega arith in d))

next_row : (y r side n : ℕ) → y ≡ r + 1 → side ≡ n + 1 → y * side + 0 ≡ r * side + n + 1
next_row y r side n up e = rw up (omega arith)

pub above-first : (b : Place) → b.row ≡ 0 → above b ≡ None
above-first b e = rw (eq-eqb b.row 0 e) refl

pub left-first : (b : Place) → b.column ≡ 0 → left b ≡ None
left-first b e = rw (eq-eqb b.column 0 e) refl

-- what holds of block 0, block 1, .. block 24
next : (P : ℕ → Type 0) (n : ℕ) → P n → ((k : ℕ) → suc n ≤ k → k < 25 → P k) → (k : ℕ) → n ≤ k → k < 25 → P k
next P n here above k low high = elim (cases_eq k n) [
  | inl e ↦ rw e here
  | inr apart ↦ above k (omega arith) high
]

pub each_block : (P : ℕ → Type 0) → P 0 → P 1 → P 2 → P 3 → P 4 → P 5 → P 6 → P 7 → P 8 → P 9 → P 10 → P 11 → P 12 → P 13 → P 14 → P 15 → P 16 → P 17 → P 18 → P 19 → P 20 → P 21 → P 22 → P 23 → P 24 → (k : ℕ) → k < 25 → P k
each_block P p0 p1 p2 p3 p4 p5 p6 p7 p8 p9 p10 p11 p12 p13 p14 p15 p16 p17 p18 p19 p20 p21 p22 p23 p24 k b =
    next P 0 p0 (next P 1 p1 (next P 2 p2 (next P 3 p3 (next P 4 p4 (
    next P 5 p5 (next P 6 p6 (next P 7 p7 (next P 8 p8 (next P 9 p9 (
    next P 10 p10 (next P 11 p11 (next P 12 p12 (next P 13 p13 (next P 14 p14 (
    next P 15 p15 (next P 16 p16 (next P 17 p17 (next P 18 p18 (next P 19 p19 (
    next P 20 p20 (next P 21 p21 (next P 22 p22 (next P 23 p23 (next P 24 p24 (
    λ j low high. absurd (omega arith)))))))))))))))))))))))))) k (omega arith) b

abbrev pub luma : Plane
luma = record { first = 1; side = 4 }

abbrev pub chroma_u : Plane
chroma_u = record { first = 17; side = 2 }

abbrev pub chroma_v : Plane
chroma_v = record { first = 21; side = 2 }

module _ (g : Grid Blocks) (p : Place) (found : List Bool) where
  -- a neighbour in the same macroblock
  above-inner : (s : Plane) (c r : ℕ) → nat_lt c s.side ≡ true → nat_lt (r + 1) s.side ≡ true → flag_at found (s.first + (r * s.side + c)) ≡ near_had s g found (seen_from s.side p (above (within s.side p c (r + 1))))
  unfolding near_had
  above-inner s c r cb rb = sym
      (ap (λ (b : Option Place). near_had s g found (seen_from s.side p b)) (above-next (within s.side p c (r + 1)) (p.row * s.side + r) (omega arith))
      ∙ ap (near_had s g found) (seen-home s.side p c r (ltb-true _ _ cb) (let b : r + 1 < s.side = ltb-true _ _ rb in omega arith)))

  left-inner : (s : Plane) (c r : ℕ) → nat_lt (c + 1) s.side ≡ true → nat_lt r s.side ≡ true → flag_at found (s.first + (r * s.side + c)) ≡ near_had s g found (seen_from s.side p (left (within s.side p (c + 1) r)))
  unfolding near_had
  left-inner s c r cb rb = sym
      (ap (λ (b : Option Place). near_had s g found (seen_from s.side p b)) (left-next (within s.side p (c + 1) r) (p.column * s.side + c) (omega arith))
      ∙ ap (near_had s g found) (seen-home s.side p c r (let b : c + 1 < s.side = ltb-true _ _ cb in omega arith) (ltb-true _ _ rb)))

  -- a neighbour in the macroblock above, or to the left; n is one less than the side
  above-outer : (s : Plane) (c n : ℕ) → s.side ≡ n + 1 → nat_lt c s.side ≡ true → flag_at (look no_blocks_read g (above p)).had (s.first + (n * s.side + c)) ≡ near_had s g found (seen_from s.side p (above (within s.side p c 0)))
  unfolding near_had seen_from
  above-outer s c n e t = let cb : c < s.side = ltb-true _ _ t in elim (cases_eq p.row 0) [
    | inl z ↦
        let out : (within s.side p c 0).row ≡ 0 = rw z (omega arith) in
        rw (above-first (within s.side p c 0) out, above-first p z) refl
    | inr some ↦
        let q : Place = record { column = p.column; row = p.row - 1 } in
        let up : p.row ≡ q.row + 1 = omega arith in
        let row : p.row * s.side + 0 ≡ q.row * s.side + n + 1 = next_row p.row q.row s.side n up e in
        let other : is_same q p ≡ false = and_right _ _ (ne_eqb q.row p.row (λ z. absurd (omega arith))) in
        rw (above-next p q.row up, above-next (within s.side p c 0) (q.row * s.side + n) row, seen-at s.side p q c n cb (omega arith), other) refl
  ]

  left-outer : (s : Plane) (r n : ℕ) → s.side ≡ n + 1 → nat_lt r s.side ≡ true → flag_at (look no_blocks_read g (left p)).had (s.first + (r * s.side + n)) ≡ near_had s g found (seen_from s.side p (left (within s.side p 0 r)))
  unfolding near_had seen_from
  left-outer s r n e t = let rb : r < s.side = ltb-true _ _ t in elim (cases_eq p.column 0) [
    | inl z ↦
        let out : (within s.side p 0 r).column ≡ 0 = rw z (omega arith) in
        rw (left-first (within s.side p 0 r) out, left-first p z) refl
    | inr some ↦
        let q : Place = record { column = p.column - 1; row = p.row } in
        let up : p.column ≡ q.column + 1 = omega arith in
        let column : p.column * s.side + 0 ≡ q.column * s.side + n + 1 = next_row p.column q.column s.side n up e in
        let other : is_same q p ≡ false = and_left _ _ (ne_eqb q.column p.column (λ z. absurd (omega arith))) in
        rw (left-next p q.column up, left-next (within s.side p 0 r) (q.column * s.side + n) column, seen-at s.side p q n r (omega arith) rb, other) refl
  ]

  -- what the code's flags say is what the grid says
  pub above_is : (k : ℕ) → k < 25 → above_flag (above_flags g p) found k ≡ token_above g p found k
  unfolding above_flag above_flags token_above
  above_is = each_block (λ (k : ℕ). above_flag (above_flags g p) found k ≡ token_above g p found k)
      refl
      (above-outer luma 0 3 refl refl) (above-outer luma 1 3 refl refl) (above-outer luma 2 3 refl refl) (above-outer luma 3 3 refl refl)
      (above-inner luma 0 0 refl refl) (above-inner luma 1 0 refl refl) (above-inner luma 2 0 refl refl) (above-inner luma 3 0 refl refl)
      (above-inner luma 0 1 refl refl) (above-inner luma 1 1 refl refl) (above-inner luma 2 1 refl refl) (above-inner luma 3 1 refl refl)
      (above-inner luma 0 2 refl refl) (above-inner luma 1 2 refl refl) (above-inner luma 2 2 refl refl) (above-inner luma 3 2 refl refl)
      (above-outer chroma_u 0 1 refl refl) (above-outer chroma_u 1 1 refl refl) (above-inner chroma_u 0 0 refl refl) (above-inner chroma_u 1 0 refl refl)
      (above-outer chroma_v 0 1 refl refl) (above-outer chroma_v 1 1 refl refl) (above-inner chroma_v 0 0 refl refl) (above-inner chroma_v 1 0 refl refl)

  pub left_is : (k : ℕ) → k < 25 → left_flag (left_flags g p) found k ≡ token_left g p found k
  unfolding left_flag left_flags token_left
  left_is = each_block (λ (k : ℕ). left_flag (left_flags g p) found k ≡ token_left g p found k)
      refl
      (left-outer luma 0 3 refl refl) (left-inner luma 0 0 refl refl) (left-inner luma 1 0 refl refl) (left-inner luma 2 0 refl refl)
      (left-outer luma 1 3 refl refl) (left-inner luma 0 1 refl refl) (left-inner luma 1 1 refl refl) (left-inner luma 2 1 refl refl)
      (left-outer luma 2 3 refl refl) (left-inner luma 0 2 refl refl) (left-inner luma 1 2 refl refl) (left-inner luma 2 2 refl refl)
      (left-outer luma 3 3 refl refl) (left-inner luma 0 3 refl refl) (left-inner luma 1 3 refl refl) (left-inner luma 2 3 refl refl)
      (left-outer chroma_u 0 1 refl refl) (left-inner chroma_u 0 0 refl refl) (left-outer chroma_u 1 1 refl refl) (left-inner chroma_u 0 1 refl refl)
      (left-outer chroma_v 0 1 refl refl) (left-inner chroma_v 0 0 refl refl) (left-outer chroma_v 1 1 refl refl) (left-inner chroma_v 0 1 refl refl)

  pub left_flags-first : p.column ≡ 0 → left_flags g p ≡ replicate 9 false
  unfolding left_flags nearest_y2
  left_flags-first z = rw (left-first p z, z) refl
