use Rattle.vp_decode.proofs.SizeLemmas.{step-one_size}
use Rattle.vp_decode.proofs.laws.pictures_have_one_size.Goals as goal

pub returns : goal.returns
returns c =
    let law = c.unfiltered_picture_solves_its_equation.ensures in
    step-one_size (record { size = law.size; aligned = law.aligned; whole = law.whole })
