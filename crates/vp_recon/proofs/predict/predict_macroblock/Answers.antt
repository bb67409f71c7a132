use Rattle.vp_recon.specs.Predictor.{predictor_of}
use Rattle.vp_recon.proofs.ResidueLemmas.{nothing_rebuilt}
use Rattle.vp_recon.proofs.predict.predict_macroblock.Goals as goal

pub returns : goal.returns
returns c tokens factors none =
    nothing_rebuilt tokens none factors (predictor_of c.args.predictor.now) c.args.place c.args.picture.now c.predict_luma.new.picture c.predict_chroma.new.picture
    c.dim-known.ensures.aligned c.requires.column c.requires.row c.requires.whole c.predict_luma.ensures c.predict_chroma.ensures
    (rw (← c.plane.ensures, ← c.pixels.ensures.value) c.know_bytes.ensures) (rw (← c.plane-2.ensures, ← c.pixels-2.ensures.value) c.know_bytes-2.ensures)
    (rw (← c.plane-3.ensures, ← c.pixels-3.ensures.value) c.know_bytes-3.ensures)
