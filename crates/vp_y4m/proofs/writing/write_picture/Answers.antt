use Rattle.vp_y4m.specs.Text.{picture_text}
use Rattle.vp_base.proofs.Writes.{front_first, front_second}
use Rattle.vp_y4m.proofs.writing.write_picture.Goals as goal

pub returns-in_default-clause-prefix : goal.returns-in_default-clause-prefix
unfolding picture_text
returns-in_default-clause-prefix g c = front_first _ _ _ _ c.in_default.ensures.prefix

pub returns-in_default-put_all-clause-prefix : goal.returns-in_default-put_all-clause-prefix
unfolding picture_text
returns-in_default-put_all-clause-prefix g c = front_second _ _ _ _ _ c.in-Ok.ensures.ok c.in_default-put_all.ensures.prefix

pub returns-clause-prefix : goal.returns-clause-prefix
unfolding picture_text
returns-clause-prefix g c = front_second _ _ _ _ _ c.in-Ok.ensures.ok c.in-Ok-put_all.ensures.prefix
