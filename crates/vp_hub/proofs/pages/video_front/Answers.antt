use Rattle.vp_hub.proofs.PageLemmas.{front_is}
use Rattle.vp_hub.proofs.pages.video_front.Goals as goal

pub returns : goal.returns
returns c = rw (← front_is c.args.w c.args.h c.args.rate c.args.scale) c.format.ensures.ok
