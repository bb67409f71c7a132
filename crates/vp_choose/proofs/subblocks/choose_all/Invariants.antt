use Rattle.std.proofs.Common.{◌≡◌, ℕ, ◌*◌, ◌≤◌, length, get_or}
use Rattle.vp_base.specs.Image.{with_plane}
use Rattle.vp_intra.specs.Edges.{block}
use Rattle.vp_tokens.specs.Block.{no_tokens}
use Rattle.vp_choose.specs.Coding.{AreEnded}
use Rattle.vp_choose.specs.Subblocks.{after_subblocks}
use Rattle.vp_choose.proofs.SubblockChoice.{made, AreFirstChosen}
use Rattle.vp_choose.proofs.subblocks.choose_all.Given as goal

abbrev pub invariant-loop-k : goal.invariant-loop-k
invariant-loop-k l = record {
  modes_size : length l.modes ≡ 16;
  blocks_size : length l.blocks ≡ 25;
  no_y2 : get_or l.blocks 0 no_tokens ≡ no_tokens;
  chosen : (f : ℕ → ℕ → ℕ) → l.source ≡ block 16 f → AreFirstChosen f l.factors l.place l.fn.picture.luma l.k l.cost (made l.modes l.blocks);
  rebuilt : l.picture ≡ with_plane l.fn.picture 0 (after_subblocks l.factors l.place l.fn.picture.luma (made l.modes l.blocks) l.k);
  wide : l.picture.luma.width ≡ l.fn.picture.luma.width;
  high : l.picture.luma.height ≡ l.fn.picture.luma.height;
  ended : AreEnded l.blocks;
  bound : l.cost ≤ 4080 * l.k;
}
