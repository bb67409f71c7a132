-- A row is filtered once the row below it is rebuilt.
use Rattle.vp_decode.proofs.Words.{◌≡◌, ◌∙◌, ℕ, zero, suc, ◌+◌, ◌-◌, ◌*◌, ◌<◌, refl, sym, ap, arith, inl, inr, cases_lt, Image, IsSameAbove, IsSameFrom, AreSameAbove, AreSameFrom, over, same_raster, over-holds, IsShaped, IsAbove, IsBelow}
use Rattle.vp_base.specs.Raster.{Raster}
use Rattle.vp_base.specs.Block.{IsWhole}

-- ---- work above a row and work from it on may change places

-- pictures whose planes have the same sizes
record AreAlike (p q : Image) : Type 0 where
  width_is : p.width ≡ q.width
  height_is : p.height ≡ q.height
  luma : (p.luma.width ≡ q.luma.width) × (p.luma.height ≡ q.luma.height)
  u : (p.u.width ≡ q.u.width) × (p.u.height ≡ q.u.height)
  v : (p.v.width ≡ q.v.width) × (p.v.height ≡ q.v.height)

alike : (width height : ℕ) (p q : Image) → IsShaped width height p → IsShaped width height q → AreAlike p q
alike width height p q a b =
    let w : p.width ≡ q.width = a.width_is ∙ sym b.width_is in
    let h : p.height ≡ q.height = a.height_is ∙ sym b.height_is in
    let c = a.aligned in
    let d = b.aligned in
    record { width_is = w; height_is = h; luma = (cc, cc); u = (cc, cc); v = (cc, cc) }

joined : (k : ℕ) (p q r s : Raster) → (p.width ≡ q.width) × (p.height ≡ q.height) → IsWhole p → IsWhole q
    → IsSameAbove k p r → IsSameAbove k q r → IsSameFrom k p s → IsSameFrom k q s → p ≡ q
joined k p q r s size pw qw pa qa pf qf =
    same_raster p q size.0 size.1 pw qw (λ x y xin yin.
    let xq : x < q.width = omega (arith, size.0) in
    let yq : y < q.height = omega (arith, size.1) in
    elim (cases_lt y k) [
      | inl above ↦ pa x y xin yin above ∙ sym (qa x y xq yq above)
      | inr below ↦ pf x y xin yin below ∙ sym (qf x y xq yq below)
    ])

-- two pictures that are alike above a row and from it on
same_picture : (width height a b : ℕ) (p q r s : Image) → IsShaped width height p → IsShaped width height q
    → AreSameAbove a b p r → AreSameAbove a b q r → AreSameFrom a b p s → AreSameFrom a b q s → p ≡ q
same_picture width height a b p q r s sp sq pa qa pf qf =
    let size = alike width height p q sp sq in
    let luma = joined a p.luma q.luma r.luma s.luma size.luma sp.whole.0 sq.whole.0 pa.luma qa.luma pf.luma qf.luma in
    let u = joined b p.u q.u r.u s.u size.u sp.whole.1 sq.whole.1 pa.u qa.u pf.u qf.u in
    let v = joined b p.v q.v r.v s.v size.v sp.whole.2 sq.whole.2 pa.v qa.v pf.v qf.v in
    λ i. record { width = size.width_is i; height = size.height_is i; luma = luma i; u = u i; v = v i }

apart : (width height k : ℕ) (f g : Image → Image) → IsAbove width height k f → IsBelow width height k g → (p : Image) → IsShaped width height p → g (f p) ≡ f (g p)
apart width height k f g a b p s =
    let fp : IsShaped width height (f p) = a.shaped p s in
    let gp : IsShaped width height (g p) = b.shaped p s in
    same_picture width height (16 * k) (8 * k) (g (f p)) (f (g p)) (f p) (g p) (b.shaped (f p) fp) (a.shaped (g p) gp)
    (b.keeps (f p) fp) (a.reads (g p) p gp s (b.keeps p s)) (b.reads (f p) p fp s (a.keeps p s)) (a.keeps (g p) gp)

-- ---- over all rows

shaped_over : (width height n : ℕ) (F : ℕ → Image → Image) → ((k : ℕ) → k < n → (p : Image) → IsShaped width height p → IsShaped width height (F k p)) → (p : Image) → IsShaped width height p → IsShaped width height (over n F p)
shaped_over width height n F keeps p s = over-holds (IsShaped width height) n F p keeps s

-- what works from row r on may change places with the filters of rows 0 to n - 1, where n is below r
past : (width height r n : ℕ) (F : ℕ → Image → Image) (B : Image → Image) → ((k : ℕ) → k < n → IsAbove width height (k + 1) (F k)) → ((k : ℕ) → k < r → IsBelow width height k B) → n < r
    → (p : Image) → IsShaped width height p → B (over n F p) ≡ over n F (B p)
unfolding over
past width height r zero F B aboves belows h p s = refl
past width height r (suc n) F B aboves belows h p s =
    apart width height (n + 1) (F n) B (aboves n (omega arith)) (belows (n + 1) (omega arith)) (over n F p)
    (shaped_over width height n F (λ k below. (aboves k (omega arith)).shaped) p s)
    ∙ ap (F n) (past width height r n F B (λ k below. aboves k (omega arith)) belows (omega arith) p s)

-- one turn: row r of so many is rebuilt, and row r - 1 filtered
pub window_next : (width height rows r : ℕ) (F B : ℕ → Image → Image) (p q x y : Image)
    → ((k : ℕ) → k < rows → IsAbove width height (k + 1) (F k)) → ((s k : ℕ) → s < rows → k < s → IsBelow width height k (B s))
    → ((k : ℕ) → k < rows → (i : Image) → IsShaped width height i → IsShaped width height (B k i)) → IsShaped width height p → r < rows
    → q ≡ over (r - 1) F (over r B p) → x ≡ B r q → (r ≡ 0 → y ≡ x) → ((k : ℕ) → r ≡ k + 1 → y ≡ F k x)
    → y ≡ over (r + 1 - 1) F (over (r + 1) B p)
unfolding over
window_next width height rows zero F B p q x y aboves belows shapes s within before step none one =
    none refl ∙ step ∙ ap (B 0) before
window_next width height rows (suc k) F B p q x y aboves belows shapes s within before step none one =
    let back : suc k - 1 ≡ k = omega arith in
    let now : suc k + 1 - 1 ≡ suc k = omega arith in
    let next : suc k + 1 ≡ suc (suc k) = omega arith in
    let stood : q ≡ over k F (over (suc k) B p) = before ∙ ap (λ (n : ℕ). over n F (over (suc k) B p)) back in
    rw (now, next)
    (one k (omega arith) ∙ ap (F k) (step ∙ ap (B (suc k)) stood
    ∙ past width height (suc k) k F (B (suc k)) (λ j below. aboves j (omega arith)) (λ j below. belows (suc k) j within below) (omega arith) (over (suc k) B p)
    (shaped_over width height (suc k) B (λ j below. shapes j (omega arith)) p s)))

-- after the last row
pub window_end : (n : ℕ) (F : ℕ → Image → Image) (u x y : Image) → x ≡ over (n - 1) F u → (n ≡ 0 → y ≡ x) → ((k : ℕ) → n ≡ k + 1 → y ≡ F k x) → y ≡ over n F u
unfolding over
window_end zero F u x y before none one = none refl ∙ before
window_end (suc k) F u x y before none one =
    let back : suc k - 1 ≡ k = omega arith in
    one k (omega arith) ∙ ap (F k) (before ∙ ap (λ (n : ℕ). over n F u) back)

-- ---- steps one after another

above_then : (k : ℕ) (p q r : Raster) → (p.width ≡ q.width) × (p.height ≡ q.height) → IsSameAbove k p q → IsSameAbove k q r → IsSameAbove k p r
above_then k p q r size pq qr = λ u v uin vin less. pq u v uin vin less ∙ qr u v (omega (arith, size.0)) (omega (arith, size.1)) less

all_above_then : (width height a b : ℕ) (p q r : Image) → IsShaped width height p → IsShaped width height q → AreSameAbove a b p q → AreSameAbove a b q r → AreSameAbove a b p r
all_above_then width height a b p q r sp sq pq qr =
    let size = alike width height p q sp sq in
    record {
      luma = above_then a p.luma q.luma r.luma size.luma pq.luma qr.luma;
      u = above_then b p.u q.u r.u size.u pq.u qr.u;
      v = above_then b p.v q.v r.v size.v pq.v qr.v;
    }

same_above : (a b : ℕ) (p : Image) → AreSameAbove a b p p
same_above a b p = record { luma = λ u v uin vin less. refl; u = λ u v uin vin less. refl; v = λ u v uin vin less. refl }

-- steps that each work from a row on alone
pub below_over : (width height k n : ℕ) (G : ℕ → Image → Image) → ((i : ℕ) → i < n → IsBelow width height k (G i)) → IsBelow width height k (over n G)
unfolding over
below_over width height k zero G each = record { shaped = λ p s. s; keeps = λ p s. same_above _ _ p; reads = λ p q sp sq same. same }
below_over width height k (suc n) G each =
    let before : IsBelow width height k (over n G) = below_over width height k n G (λ i below. each i (omega arith)) in
    let last : IsBelow width height k (G n) = each n (omega arith) in
    record {
      shaped = λ p s. last.shaped (over n G p) (before.shaped p s);
      keeps = λ p s.
          all_above_then width height (16 * k) (8 * k) (G n (over n G p)) (over n G p) p (last.shaped (over n G p) (before.shaped p s)) (before.shaped p s)
          (last.keeps (over n G p) (before.shaped p s)) (before.keeps p s);
      reads = λ p q sp sq same. last.reads (over n G p) (over n G q) (before.shaped p sp) (before.shaped q sq) (before.reads p q sp sq same);
    }
