-- The texts of pages.
use Rattle.std.proofs.Common.{◌≡◌, ◌++◌, ◌∙◌, ℕ, List, codes, append_assoc, ap, sym}
use Rattle.std.specs.Fmt.{decimal}
use Rattle.vp_y4m.specs.Text.{header_text}

abbrev last : List ℕ
last = codes " Ip A0:0 C420jpeg\n"

pub front_is : (w h rate scale : ℕ)
    → codes "YUV4MPEG2 W" ++ (decimal w ++ (codes " H" ++ (decimal h ++ (codes " F" ++ (decimal rate ++ (codes ":" ++ (decimal scale ++ codes " Ip A0:0 C420jpeg\nFRAME\n")))))))
    ≡ header_text w h rate scale ++ codes "FRAME\n"
unfolding header_text
front_is w h rate scale =
    let s4 = append_assoc (decimal scale) last (codes "FRAME\n") in
    let s3 = append_assoc (decimal rate) (codes ":" ++ (decimal scale ++ last)) (codes "FRAME\n") in
    let s2 = append_assoc (decimal h) (codes " F" ++ (decimal rate ++ (codes ":" ++ (decimal scale ++ last)))) (codes "FRAME\n") in
    let s1 = append_assoc (decimal w) (codes " H" ++ (decimal h ++ (codes " F" ++ (decimal rate ++ (codes ":" ++ (decimal scale ++ last)))))) (codes "FRAME\n") in
    sym (ap (λ t. codes "YUV4MPEG2 W" ++ t)
    (s1 ∙ ap (λ t. decimal w ++ (codes " H" ++ t))
    (s2 ∙ ap (λ t. decimal h ++ (codes " F" ++ t))
    (s3 ∙ ap (λ t. decimal rate ++ (codes ":" ++ t)) s4))))
