use Rattle.vp_decode.proofs.Words.{sym, ap, Image, filtered, picture_of}
use Rattle.vp_decode.proofs.laws.the_picture_is_the_filtered_solution.Goals as goal

pub returns : goal.returns
unfolding picture_of
returns c f p is = ap (λ (q : Image). filtered f.level q) (sym (c.unfiltered_picture_is_the_one_solution.ensures.one f p is))
