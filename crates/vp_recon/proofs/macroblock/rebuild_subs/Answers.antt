use Rattle.std.proofs.Common.{◌≡◌, ◌∙◌, ℕ, ◌+◌, get_or, sym, refl, ap, arith}
use Rattle.vp_recon.proofs.Words.{Place, Raster, Image, with_plane, block_place, over-none, over-next, Modes, Block, block_of, with_sub, residue}
use Rattle.vp_tables.specs.declared.modes.SubMode.TheVariants as sub_is
use Rattle.vp_recon.proofs.LumaLemmas.{first_subs, subs_alone}
use Rattle.vp_recon.proofs.macroblock.rebuild_subs.Goals as goal

pub loop-k-init : goal.loop-k-init
loop-k-init c = record { pixels = ap (with_plane c.args.picture.now 0) (sym (over-none _ c.args.picture.now.luma)); wide = refl; high = refl }

pub loop-k-preserved : goal.loop-k-preserved
loop-k-preserved c =
    let p : Image = c.args.picture.now in
    let now : Image = c.loop-k.picture in
    let f = c.args.factors.now in
    let k : ℕ = c.loop-k.k in
    let here : Place = block_place 4 c.args.place c.loop-k.k in
    let own = residue (block_of c.args.tokens.now (1 + c.loop-k.k)).levels f.y_dc f.y_ac in
    let step : Raster → Raster = λ q. with_sub q here (get_or c.args.modes.now.subs k sub_is.Dc) own in
    let is : c.rebuild_sub.new.picture ≡ with_plane now 0 (step now.luma) =
    c.rebuild_sub.ensures
    ∙ ap (λ (b : Block). with_plane now 0 (with_sub now.luma here (get_or c.modes.inside.subs k sub_is.Dc) (residue b.levels f.y_dc f.y_ac))) c.block_of-levels.ensures
    ∙ ap (λ (a : Modes). with_plane now 0 (with_sub now.luma here (get_or a.subs k sub_is.Dc) own)) c.modes.view_is in
    record {
      pixels = is
          ∙ ap (λ (i : Image). with_plane i 0 (step i.luma)) c.loop-k.invariant.pixels
          ∙ ap (with_plane p 0) (over-next k _ p.luma (first_subs c.args.modes.now c.args.tokens.now f c.args.place k p.luma) refl);
      wide = ap (λ (i : Image). i.luma.width) is ∙ c.loop-k.invariant.wide;
      high = ap (λ (i : Image). i.luma.height) is ∙ c.loop-k.invariant.high;
    }

pub returns : goal.returns
returns c =
    let p : Image = c.args.picture.now in
    let all : c.loop-k.k ≡ 16 = omega arith in
    c.loop-k.invariant.pixels
    ∙ ap (λ n. with_plane p 0 (first_subs c.args.modes.now c.args.tokens.now c.args.factors.now c.args.place n p.luma)) all
    ∙ ap (with_plane p 0) (sym (subs_alone c.args.modes.now c.args.tokens.now c.args.factors.now c.args.place p.luma c.requires.subs))
