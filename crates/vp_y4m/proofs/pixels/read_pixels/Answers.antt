use Rattle.std.proofs.Common.{◌≡◌, ◌∙◌, ap}
use Rattle.vp_base.specs.Image.{Image}
use Rattle.vp_y4m.proofs.PictureLemmas.{picture_read, short_second, short_third}
use Rattle.vp_y4m.proofs.ReadLemmas.{reads_then}
use Rattle.vp_y4m.proofs.pixels.read_pixels.Goals as goal

pub returns-in-Err-read_shown-clause-short : goal.returns-in-Err-read_shown-clause-short
returns-in-Err-read_shown-clause-short g c =
    let w : c.read_shown.new.picture.width ≡ c.args.picture.now.width = ap (λ (i : Image). i.width) c.in-Ok.ensures.ok.kept in
    let h : c.read_shown.new.picture.height ≡ c.args.picture.now.height = ap (λ (i : Image). i.height) c.in-Ok.ensures.ok.kept in
    short_second c.args.picture.now.width c.args.picture.now.height _ c.args.picture.now c.read_shown.new.picture c.read_shown-2.new.picture _ _ _ c.in-Ok.ensures.ok (rw (w, h) at c.in-Err-read_shown.ensures.short)

pub returns-in-Ok-read_shown-2-clause-ok : goal.returns-in-Ok-read_shown-2-clause-ok
returns-in-Ok-read_shown-2-clause-ok g c =
    picture_read c.args.picture.now c.read_shown.new.picture c.read_shown-2.new.picture c.read_shown-3.new.picture _ _ _ _ c.requires c.in-Ok.ensures.ok c.in-Ok-read_shown.ensures.ok c.in-Ok-read_shown-2.ensures.ok

pub returns-in-Err-read_shown-2-clause-short : goal.returns-in-Err-read_shown-2-clause-short
returns-in-Err-read_shown-2-clause-short g c =
    let w : c.read_shown.new.picture.width ≡ c.args.picture.now.width = ap (λ (i : Image). i.width) c.in-Ok.ensures.ok.kept in
    let h : c.read_shown.new.picture.height ≡ c.args.picture.now.height = ap (λ (i : Image). i.height) c.in-Ok.ensures.ok.kept in
    let w2 : c.read_shown-2.new.picture.width ≡ c.args.picture.now.width = ap (λ (i : Image). i.width) c.in-Ok-read_shown.ensures.ok.kept ∙ w in
    let h2 : c.read_shown-2.new.picture.height ≡ c.args.picture.now.height = ap (λ (i : Image). i.height) c.in-Ok-read_shown.ensures.ok.kept ∙ h in
    short_third c.args.picture.now.width c.args.picture.now.height _ c.args.picture.now c.read_shown.new.picture c.read_shown-2.new.picture _ _ _ _ w h c.in-Ok.ensures.ok c.in-Ok-read_shown.ensures.ok (rw (w2, h2) at c.in-Err-read_shown-2.ensures.short)

pub returns-in-Err-read_shown-clause-reads : goal.returns-in-Err-read_shown-clause-reads
returns-in-Err-read_shown-clause-reads g c = reads_then _ _ _ _ _ _ _ c.in-Ok.ensures.reads c.in-Err-read_shown.ensures.reads

pub returns-in-Ok-read_shown-2-clause-reads : goal.returns-in-Ok-read_shown-2-clause-reads
returns-in-Ok-read_shown-2-clause-reads g c =
    reads_then 0 _ _ _ _ _ _ (reads_then 0 _ _ _ _ _ _ c.in-Ok.ensures.reads c.in-Ok-read_shown.ensures.reads) c.in-Ok-read_shown-2.ensures.reads

pub returns-in-Err-read_shown-2-clause-reads : goal.returns-in-Err-read_shown-2-clause-reads
returns-in-Err-read_shown-2-clause-reads g c =
    reads_then _ _ _ _ _ _ _ (reads_then 0 _ _ _ _ _ _ c.in-Ok.ensures.reads c.in-Ok-read_shown.ensures.reads) c.in-Err-read_shown-2.ensures.reads
