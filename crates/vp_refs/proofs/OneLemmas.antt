-- When golden and the last frame are one picture after an update.
use Rattle.std.proofs.Common.{◌≡◌, ◌∙◌, ◌||◌, if◌then◌else◌, Bool, true, false, sym, ap, ap₂}
use Rattle.vp_base.specs.Image.{Image}

-- what a short circuit gives
pub by_key : (key other either : Bool) → key ≡ true → either ≡ key → either ≡ (key || other)
by_key key other either on is = is ∙ on ∙ sym (ap (λ (k : Bool). k || other) on)

pub by_other : (key other either : Bool) → key ≡ false → either ≡ other → either ≡ (key || other)
by_other key other either off is = is ∙ sym (ap (λ (k : Bool). k || other) off)

pub one_of : (a b c d : Bool) (p last golden copied new_last new_golden : Image) → a ≡ b → c ≡ d → golden ≡ copied
    → new_golden ≡ (if a then p else golden) → new_last ≡ (if c then p else last)
    → (if b then p else copied) ≡ (if d then p else last) → new_golden ≡ new_last
one_of a b c d p last golden copied new_last new_golden ab cd kept g l one =
    g ∙ ap₂ (λ (x : Bool) (q : Image). if x then p else q) ab kept ∙ one ∙ sym (ap (λ (x : Bool). if x then p else last) cd) ∙ sym l
