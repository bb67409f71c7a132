use Rattle.std.proofs.Common.{◌≡◌, ℕ, ◌+◌, ◌<◌, pos, set, length, get_or}
use Rattle.vp_tokens.specs.Block.{level_of, no_tokens}
use Rattle.vp_transform.specs.Fits.{EachWithin}
use Rattle.vp_intra.specs.Edges.{block}
use Rattle.vp_choose.specs.Levels.{quantised_levels, part_coefficients}
use Rattle.vp_choose.specs.Coding.{AreEnded}
use Rattle.vp_choose.proofs.levels.blocks_with_y2.Given as goal

abbrev pub invariant-loop-k : goal.invariant-loop-k
invariant-loop-k l = record {
  size : length l.firsts ≡ 16;
  within : EachWithin 2040 l.firsts;
  first : (f g : ℕ → ℕ → ℕ) → l.source ≡ block 16 f → l.prediction ≡ block 16 g → (i : ℕ) → i < l.k
      → get_or l.firsts i (pos 0) ≡ get_or (part_coefficients 4 f g i) 0 (pos 0);
  luma : (f g : ℕ → ℕ → ℕ) → l.source ≡ block 16 f → l.prediction ≡ block 16 g → (i : ℕ) → i < l.k
      → (get_or l.blocks (1 + i) no_tokens).levels ≡ set (quantised_levels (part_coefficients 4 f g i) l.factors.y_dc l.factors.y_ac) 0 (pos 0);
  number : length l.blocks ≡ 25;
  ended : AreEnded l.blocks;
  no_dc : (i : ℕ) → i < l.k → level_of (get_or l.blocks (1 + i) no_tokens) 0 ≡ pos 0;
}
