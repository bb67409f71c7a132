use Rattle.std.proofs.Common.{◌≡◌, ◌≤◌, ℕ, ◌+◌, ◌*◌, length, arith, subst}
use Rattle.std.specs.Prelude.{slice_range}
use Rattle.vp_base.specs.Block.{IsWhole}
use Rattle.vp_base.specs.Raster.{Raster}
use Rattle.vp_base.specs.Image.{plane_of}
use Rattle.vp8_c.specs.Planes.{ReadsPlane}
use Rattle.vp8_c.proofs.RowLemmas.{read_none, read_more, run_is, run_long, ends_within}
use Rattle.vp8_c.proofs.rows.read_plane.Goals as goal

pub loop-y-init : goal.loop-y-init
loop-y-init c = read_none c.args.layout.width c.args.layout.stride c.args.bytes.now c.args.k c.args.picture.now

pub loop-y-preserved : goal.loop-y-preserved
loop-y-preserved c =
    let k = c.args.k in let y = c.loop-y.y in let bytes = c.args.bytes.now in let start = y * c.args.layout.stride in
    let W : Raster → Type 0 = λ r. IsWhole r in
    let whole : IsWhole (plane_of c.args.picture.now k) = subst W c.plane.ensures c.width-known.ensures.whole in
    let whole_at : IsWhole (plane_of c.loop-y.picture k) = subst W c.plane-in-loop-y.ensures c.width-known-in-loop-y.ensures.whole in
    let ends : start + c.args.layout.width ≤ length bytes = ends_within c.args.layout.width c.args.layout.height c.args.layout.stride (length bytes) y c.requires.fits.1 c.loop-y-test.true in
    read_more c.args.picture.now c.loop-y.picture c.write_run.new.self k c.args.layout.width y c.args.layout.stride bytes (slice_range bytes start (start + c.args.layout.width))
    c.loop-y.invariant c.write_run.ensures whole whole_at c.requires.columns (let t = c.loop-y-test.true in let r = c.requires.rows in omega arith) (run_long bytes start c.args.layout.width ends)
    (λ x within. run_is bytes start c.args.layout.width x within)

pub returns : goal.returns
returns c =
    let all : c.loop-y.y ≡ c.args.layout.height = (let a = c.loop-y.auto.y-end in let f = c.loop-y-test.false in omega arith) in
    let P : ℕ → Type 0 = λ h. ReadsPlane (record c.args.layout { height = h }) c.args.bytes.now c.args.k c.args.picture.now c.loop-y.picture in
    subst P all c.loop-y.invariant
