-- Where the blocks round a block lie.
use Rattle.std.proofs.Common.{◌≡◌, ◌∙◌, ℕ, ◌+◌, ◌-◌, ◌*◌, ◌%◌, ◌/◌, ◌<◌, ◌≤◌, cond, Some, None, refl, ap, sym, arith, inl, inr, eqb}
use Rattle.std.specs.Prelude.{Option}
use Rattle.std.specs.Option.{unwrap_or}
use Rattle.std.proofs.lemmas.Nat.{div-mul-add, mod-mul-add}
use Rattle.std.proofs.lemmas.Bool.{cases_eq, eq-eqb, ne_eqb, and_left, and_right}
use Rattle.vp_base.specs.declared.place.Place.{Place}
use Rattle.vp_base.specs.declared.near.Near.TheVariants.{Here, There, Outside}
use Rattle.vp_base.specs.Place.{above, left}
use Rattle.vp_base.specs.Near.{block_place, is_same, seen_from}

above-next : (b : Place) (r : ℕ) → b.row ≡ r + 1 → above b ≡ Some (record { column = b.column; row = r })
above-next b r e = rw (ne_eqb b.row 0 (λ z. absurd (omega arith))) (ap (λ (n : ℕ). Some (record { column = b.column; row = n })) (let d : b.row - 1 ≡ r = omega arith in d))

left-next : (b : Place) (c : ℕ) → b.column ≡ c + 1 → left b ≡ Some (record { column = c; row = b.row })
left-next b c e = rw (ne_eqb b.column 0 (λ z. absurd (omega arith))) (ap (λ (n : ℕ). Some (record { column = n; row = b.row })) (let d : b.column - 1 ≡ c = omega arith in d))

pub above-some : (p q : Place) → above p ≡ Some q → (q.column ≡ p.column) × (p.row ≡ q.row + 1)
above-some p q e = elim (cases_eq p.row 0) [
  | inl z ↦ absurd (let f : None ≡ Some q = sym (rw (eq-eqb p.row 0 z) refl) ∙ e in cc)
  | inr n ↦
      let up : Place = record { column = p.column; row = p.row - 1 } in
      let f : above p ≡ Some up = rw (ne_eqb p.row 0 n) refl in
      let h : q ≡ up = ap (λ (o : Option Place). unwrap_or o p) (sym e ∙ f) in
      let r : q.row ≡ p.row - 1 = ap (λ (x : Place). x.row) h in
      (ap (λ (x : Place). x.column) h, omega arith)
]

pub left-some : (p q : Place) → left p ≡ Some q → (p.column ≡ q.column + 1) × (q.row ≡ p.row)
left-some p q e = elim (cases_eq p.column 0) [
  | inl z ↦ absurd (let f : None ≡ Some q = sym (rw (eq-eqb p.column 0 z) refl) ∙ e in cc)
  | inr n ↦
      let back : Place = record { column = p.column - 1; row = p.row } in
      let f : left p ≡ Some back = rw (ne_eqb p.column 0 n) refl in
      let h : q ≡ back = ap (λ (o : Option Place). unwrap_or o p) (sym e ∙ f) in
      let r : q.column ≡ p.column - 1 = ap (λ (x : Place). x.column) h in
      (omega arith, ap (λ (x : Place). x.row) h)
]

seen-at : (here p : Place) (c r : ℕ) → c < 4 → r < 4 → seen_from 4 here (Some (record { column = p.column * 4 + c; row = p.row * 4 + r })) ≡ cond (is_same p here) (Here (r * 4 + c)) (There p (r * 4 + c))
unfolding seen_from
seen-at here p c r cb rb = rw (div-mul-add p.column 4 c cb, mod-mul-add p.column 4 c cb, div-mul-add p.row 4 r rb, mod-mul-add p.row 4 r rb) refl

at-home : (here : Place) (c r : ℕ) → c < 4 → r < 4 → seen_from 4 here (Some (record { column = here.column * 4 + c; row = here.row * 4 + r })) ≡ Here (r * 4 + c)
at-home here c r cb rb = seen-at here here c r cb rb ∙ rw (eq-eqb here.column here.column refl, eq-eqb here.row here.row refl) refl

pub above_here : (p : Place) (k : ℕ) → 4 ≤ k → k < 16 → Here (k - 4) ≡ seen_from 4 p (above (block_place 4 p k))
above_here p k low high = sym
    (ap (seen_from 4 p) (above-next (block_place 4 p k) (p.row * 4 + (k / 4 - 1)) (omega arith))
    ∙ at-home p (k % 4) (k / 4 - 1) (omega arith) (omega arith)
    ∙ ap Here (let e : (k / 4 - 1) * 4 + k % 4 ≡ k - 4 = omega arith in e))

pub left_here : (p : Place) (k : ℕ) → 0 < k % 4 → k < 16 → Here (k - 1) ≡ seen_from 4 p (left (block_place 4 p k))
left_here p k low high = sym
    (ap (seen_from 4 p) (left-next (block_place 4 p k) (p.column * 4 + (k % 4 - 1)) (omega arith))
    ∙ at-home p (k % 4 - 1) (k / 4) (omega arith) (omega arith)
    ∙ ap Here (let e : k / 4 * 4 + (k % 4 - 1) ≡ k - 1 = omega arith in e))

pub above_there : (p q : Place) (k : ℕ) → k < 4 → Some q ≡ above p → There q (k + 12) ≡ seen_from 4 p (above (block_place 4 p k))
above_there p q k low e =
    let h = above-some p q (sym e) in
    let row = h.1 in
    sym
    (ap (seen_from 4 p) (above-next (block_place 4 p k) (q.row * 4 + 3) (omega arith))
    ∙ ap (λ (c : ℕ). seen_from 4 p (Some (record { column = c; row = q.row * 4 + 3 }))) (ap (λ (c : ℕ). c * 4 + k % 4) (sym h.0))
    ∙ seen-at p q (k % 4) 3 (omega arith) (omega arith)
    ∙ rw (and_right (eqb q.column p.column) (eqb q.row p.row) (ne_eqb q.row p.row (λ z. absurd (omega arith)))) (ap (There q) (let d : 3 * 4 + k % 4 ≡ k + 12 = omega arith in d)))

pub left_there : (p q : Place) (k : ℕ) → k % 4 ≡ 0 → k < 16 → Some q ≡ left p → There q (k + 3) ≡ seen_from 4 p (left (block_place 4 p k))
left_there p q k low high e =
    let h = left-some p q (sym e) in
    let column = h.0 in
    sym
    (ap (seen_from 4 p) (left-next (block_place 4 p k) (q.column * 4 + 3) (omega arith))
    ∙ ap (λ (r : ℕ). seen_from 4 p (Some (record { column = q.column * 4 + 3; row = r }))) (ap (λ (r : ℕ). r * 4 + k / 4) (sym h.1))
    ∙ seen-at p q 3 (k / 4) (omega arith) (omega arith)
    ∙ rw (and_left (eqb q.column p.column) (eqb q.row p.row) (ne_eqb q.column p.column (λ z. absurd (omega arith)))) (ap (There q) (let d : k / 4 * 4 + 3 ≡ k + 3 = omega arith in d)))

pub above_outside : (p : Place) (k : ℕ) → k < 4 → None ≡ above p → Outside ≡ seen_from 4 p (above (block_place 4 p k))
unfolding seen_from
above_outside p k low e = elim (cases_eq p.row 0) [
  | inl z ↦ rw (let d : p.row * 4 + k / 4 ≡ 0 = omega arith in d) refl
  | inr n ↦ absurd (let f : None ≡ Some (record { column = p.column; row = p.row - 1 }) = e ∙ rw (ne_eqb p.row 0 n) refl in cc)
]

pub left_outside : (p : Place) (k : ℕ) → k % 4 ≡ 0 → None ≡ left p → Outside ≡ seen_from 4 p (left (block_place 4 p k))
unfolding seen_from
left_outside p k low e = elim (cases_eq p.column 0) [
  | inl z ↦ rw (let d : p.column * 4 + k % 4 ≡ 0 = omega arith in d) refl
  | inr n ↦ absurd (let f : None ≡ Some (record { column = p.column - 1; row = p.row }) = e ∙ rw (ne_eqb p.column 0 n) refl in cc)
]
