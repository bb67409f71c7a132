use Rattle.std.proofs.Common.{◌≡◌, ℕ, ◌+◌, ◌*◌, ◌<◌, length, get_or}
use Rattle.vp_tokens.specs.Block.{no_tokens}
use Rattle.vp_intra.specs.Edges.{block}
use Rattle.vp_choose.specs.Levels.{quantised_levels, part_coefficients}
use Rattle.vp_choose.specs.Coding.{AreEnded}
use Rattle.vp_choose.proofs.levels.put_chroma.Given as goal

abbrev pub invariant-loop-k : goal.invariant-loop-k
invariant-loop-k l = record {
  size : length l.blocks ≡ 25;
  others : (i : ℕ) → i < 13 + 4 * l.plane → get_or l.blocks i no_tokens ≡ get_or l.fn.blocks i no_tokens;
  levels : (f g : ℕ → ℕ → ℕ) → l.source ≡ block 8 f → l.prediction ≡ block 8 g → (i : ℕ) → i < l.k
      → (get_or l.blocks (13 + 4 * l.plane + i) no_tokens).levels ≡ quantised_levels (part_coefficients 2 f g i) l.factors.uv_dc l.factors.uv_ac;
  ended : AreEnded l.fn.blocks → AreEnded l.blocks;
}
