use Rattle.vp_decode.proofs.Words.{◌∙◌, FrameInfo, predictor_by, predictor_at}
use Rattle.vp_decode.proofs.RowEntries.{item_at}
use Rattle.vp_decode.proofs.frame_info.FrameInfo.macroblock.Goals as goal

pub returns : goal.returns
unfolding predictor_at
returns c =
    let f : FrameInfo = c.args.self.now in
    let at = item_at f.maps c.args.place c.args.row.now c.index-row-place.result c.requires.row c.requires.place c.index-row-place.is in
    record {
      modes = at.0;
      predictor = c.predictor_by.ensures ∙ (λ i. predictor_by (c.self.view_is i).references (c.self.view_is i).version (at.0 i) (at.1 i));
    }
