use Rattle.std.proofs.Common.{◌≡◌, Ok, sym, ap, subst, ◌∙◌, refl, List, ℕ, arith}
use Rattle.std.proofs.lemmas.Result.{err_from_is_err_and}
use Rattle.vp_webp.specs.WebP.{StillImage, image_in}
use Rattle.vp_webp.specs.Laws.{HasChunks}
use Rattle.vp_webp.specs.Place.{result_map}
use Rattle.vp_webp.proofs.Faithful.{riff_body-is}
use Rattle.vp_webp.proofs.Places.{place-in, after-header, chunks-within, still-of-chunks, still-fault}
use Rattle.vp_webp.proofs.reading.packet_place.Goals as goal

pub returns-in_err-riff_body-clause-packet : goal.returns-in_err-riff_body-clause-packet
returns-in_err-riff_body-clause-packet c =
    let p = err_from_is_err_and c.from_residual.result c.from_residual.ensures.1 in
    rw (p.1, p.2, still-fault c.args.file.now c.in_err-riff_body.field-0.0 c.in_err-riff_body.ensures) refl

pub returns-in_err-place-clause-packet : goal.returns-in_err-place-clause-packet
returns-in_err-place-clause-packet c =
    let p = err_from_is_err_and c.from_residual-in_err-place.result c.from_residual-in_err-place.ensures.1 in
    let chunks : c.branch.inside.taken.now ≡ c.in_ok-riff_body.field-0.0 = ap (λ (x : List ℕ × List ℕ). x.0) c.branch.view_is in
    let is = still-of-chunks c.args.file.now c.in_ok-riff_body.field-0 c.in_ok-riff_body.ensures ∙ ap image_in (sym chunks) in
    rw (p.1, p.2, is, ← c.in_err-place.ensures.value) refl

pub returns-clause-packet : goal.returns-clause-packet
returns-clause-packet c =
    let file = c.args.file.now in
    let body = c.branch.inside.taken.now in
    let found = c.in_ok-place.field-0 in
    let chunks : body ≡ c.in_ok-riff_body.field-0.0 = ap (λ (x : List ℕ × List ℕ). x.0) c.branch.view_is in
    let is = still-of-chunks file c.in_ok-riff_body.field-0 c.in_ok-riff_body.ensures ∙ ap image_in (sym chunks) in
    let has = subst (HasChunks file) (sym chunks) (riff_body-is file c.in_ok-riff_body.field-0 (sym c.in_ok-riff_body.ensures)) in
    let here = place-in file body has.more found.place.start found.place.len (after-header file body has)
    c.in_ok-place.ensures.within in
    ap Ok here ∙ ap (result_map (λ (i : StillImage). i.packet)) (c.in_ok-place.ensures.value ∙ sym is)

pub returns-clause-within : goal.returns-clause-within
returns-clause-within c =
    let file = c.args.file.now in
    let body = c.branch.inside.taken.now in
    let chunks : body ≡ c.in_ok-riff_body.field-0.0 = ap (λ (x : List ℕ × List ℕ). x.0) c.branch.view_is in
    let has = subst (HasChunks file) (sym chunks) (riff_body-is file c.in_ok-riff_body.field-0 (sym c.in_ok-riff_body.ensures)) in
    omega (arith, chunks-within file body has, c.in_ok-place.ensures.within)
