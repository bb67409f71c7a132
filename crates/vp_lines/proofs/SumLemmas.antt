-- The lines of sums, printed one after another.
use Rattle.std.proofs.Common.{◌≡◌, ℕ, ◌+◌, Bool, true, false, List, [], ◌∷◌, ◌++◌, length, Option, sym, ap, subst, ◌∙◌, append_assoc, arith}
use Rattle.std.specs.Io.KnownBytes.{Appends}
use Rattle.std.proofs.lemmas.List.{append-nil}
use Rattle.vp_base.proofs.Writes.{appends_both}
use Rattle.vp_lines.specs.Sums.{picture_line, picture_lines, sum_line, PrintsSums}

pub each_printed : (each : Bool) (name all : List ℕ) (digits : List (List ℕ)) (a b c : Option (List ℕ)) → each ≡ true
    → Appends a b (picture_lines 0 digits) → Appends b c (sum_line all name) → PrintsSums each name a c
each_printed each name all digits a b c e before line =
    subst (λ x. PrintsSums x name a c) (sym e) (digits, all, appends_both a b c _ _ before line)

pub all_printed : (each : Bool) (name all : List ℕ) (a b : Option (List ℕ)) → each ≡ false → Appends a b (sum_line all name)
    → PrintsSums each name a b
all_printed each name all a b e line = subst (λ x. PrintsSums x name a b) (sym e) (all, line)

one_more : (n : ℕ) (ds : List (List ℕ)) (d : List ℕ)
    → picture_lines n (ds ++ d ∷ []) ≡ picture_lines n ds ++ picture_line (n + length ds) d
one_more n [] d = append-nil (picture_line n d) ∙ ap (λ k. picture_line k d) (let e : n ≡ n + 0 = omega arith in e)
one_more n (x ∷ ds) d =
    let first = picture_line n x in
    ap (λ ns. first ++ ns) (one_more (n + 1) ds d)
    ∙ (sym (append_assoc first (picture_lines (n + 1) ds) (picture_line (n + 1 + length ds) d))
    ∙ ap (λ k. picture_lines n (x ∷ ds) ++ picture_line k d) (let e : n + 1 + length ds ≡ n + length (x ∷ ds) = omega arith in e))

pub next_picture : (ds : List (List ℕ)) (d : List ℕ) (number : ℕ) (a b c : Option (List ℕ)) → length ds ≡ number
    → Appends a b (picture_lines 0 ds) → Appends b c (picture_line number d) → Appends a c (picture_lines 0 (ds ++ d ∷ []))
next_picture ds d number a b c long before line =
    let at : 0 + length ds ≡ number = omega (arith, long) in
    rw (one_more 0 ds d) (appends_both a b c _ _ before (subst (λ k. Appends b c (picture_line k d)) (sym at) line))
