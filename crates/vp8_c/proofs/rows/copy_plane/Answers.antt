use Rattle.std.proofs.Common.{◌≡◌, ◌≤◌, ◌+◌, ◌*◌, ◌∙◌, List, ℕ, length, take, arith, sym, subst}
use Rattle.std.proofs.lemmas.List.{length-take}
use Rattle.vp_base.specs.Raster.{pixel}
use Rattle.vp8_c.specs.Planes.{HoldsRows}
use Rattle.vp8_c.proofs.RowLemmas.{holds_none, holds_more, row_is, ends_within}
use Rattle.vp8_c.proofs.rows.copy_plane.Goals as goal

pub loop-y-init : goal.loop-y-init
loop-y-init c = holds_none c.args.layout.width c.args.layout.stride (pixel c.args.plane.now) c.args.out.now

pub loop-y-preserved : goal.loop-y-preserved
loop-y-preserved c =
    let run = take c.args.layout.width c.row.result.now in
    let long : length run ≡ c.args.layout.width = length-take c.args.layout.width c.row.result.now ∙ (let l = c.row.ensures.len in let f = c.requires.columns in omega arith) in
    let ends : c.loop-y.y * c.args.layout.stride + c.args.layout.width ≤ length c.args.out.now =
    ends_within c.args.layout.width c.args.layout.height c.args.layout.stride (length c.args.out.now) c.loop-y.y c.requires.fits.1 c.loop-y-test.true in
    let len : length c.loop-y.out ≡ length c.args.out.now = c.loop-y.auto.out in
    let P : List ℕ → Type 0 = λ bytes. HoldsRows (record c.args.layout { height = c.loop-y.y + 1 }) (pixel c.args.plane.now) c.args.out.now bytes in
    subst P (sym c.put_run.ensures)
    (holds_more c.args.layout.width c.loop-y.y c.args.layout.stride (pixel c.args.plane.now) c.args.out.now c.loop-y.out run c.loop-y.invariant len
    c.requires.fits.0 long (omega arith) (row_is c.args.plane.now c.args.layout.width c.loop-y.y c.row.result.now c.row.ensures.value c.requires.columns))

pub returns : goal.returns
returns c =
    let all : c.loop-y.y ≡ c.args.layout.height = (let a = c.loop-y.auto.y-end in let f = c.loop-y-test.false in omega arith) in
    let P : ℕ → Type 0 = λ h. HoldsRows (record c.args.layout { height = h }) (pixel c.args.plane.now) c.args.out.now c.loop-y.out in
    subst P all c.loop-y.invariant
