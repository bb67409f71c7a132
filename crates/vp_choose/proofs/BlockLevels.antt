-- Blocks that end after their last nonzero level, and the blocks of a macroblock that can be written.
use Rattle.std.proofs.Common.{◌≡◌, ◌∙◌, ℕ, zero, suc, ◌+◌, ◌-◌, ◌<◌, ◌==◌, nat_lt, Bool, true, false, cond, pos, List, get_or, replicate, refl, subst, ap, arith, inl, inr}
use Rattle.std.proofs.lemmas.Bool.Decides.{nat_tests}
use Rattle.std.proofs.lemmas.Bool.{cases_lt}
use Rattle.vp_tokens.specs.declared.block.BlockKind.TheVariants as kind_is
use Rattle.vp_tokens.specs.declared.contexts.Tokens.{Tokens}
use Rattle.vp_tokens.specs.Block.{Block, IsTight, level_of, no_tokens}
use Rattle.vp_tokens.specs.Levels.{first_of}
use Rattle.vp_tokens.specs.Blocks.{kind_of, any_token, no_blocks}
use Rattle.vp_tokens.specs.Spelled.{AreSpelled}
use Rattle.vp_tokens.proofs.LevelLemmas.{no_tokens-good}
use Rattle.vp_tokens.proofs.MacroblockWriting.{none_had}
use Rattle.vp_choose.specs.Coding.{AreWritable, IsEnded}

begins : (y2 chroma with_y2 : Bool) (i : ℕ) → i < first_of (cond y2 kind_is.Y2 (cond chroma kind_is.Chroma (cond with_y2 kind_is.LumaAfterY2 kind_is.Luma)))
    → (i ≡ 0) × (y2 ≡ false) × (chroma ≡ false) × (with_y2 ≡ true)
begins false false true i h = (omega arith, refl, refl, refl)
begins y2 chroma with_y2 i h = absurd (omega arith)

-- Only luma blocks after a Y2 block begin at position 1.
only_luma : (with_y2 : Bool) (k i : ℕ) → i < first_of (kind_of with_y2 k) → (i ≡ 0) × (0 < k) × (k < 17) × (with_y2 ≡ true)
only_luma with_y2 k i h =
    let is = begins (k == 0) (nat_lt 16 k) with_y2 i h in
    let one : (k == 0) ≡ false = is.1 in
    let two : nat_lt 16 k ≡ false = is.2 in
    (is.0, grind (arith, nat_tests), grind (arith, nat_tests), is.3)

none_at : (n k : ℕ) → get_or (replicate n no_tokens) k no_tokens ≡ no_tokens
none_at zero k = refl
none_at (suc n) zero = refl
none_at (suc n) (suc k) = none_at n k

pub none_ended : (n k : ℕ) → IsEnded (get_or (replicate n no_tokens) k no_tokens)
none_ended n k = rw (none_at n k) (record { tight = λ some. absurd (omega arith); good = no_tokens-good })

begun : (first : ℕ) (b : Block) → IsTight b → ((i : ℕ) → i < first → level_of b i ≡ pos 0) → 0 < b.end → first < b.end
begun first b tight before some = elim (cases_lt first b.end) [
  | inl more ↦ more
  | inr most ↦ absurd (tight some (before (b.end - 1) (omega arith)))
]

pub are_spelled : (with_y2 : Bool) (blocks : List Block) → AreWritable with_y2 blocks → AreSpelled with_y2 blocks
are_spelled with_y2 blocks h = record {
  each = λ k below.
      let b : Block = get_or blocks k no_tokens in
      let before : (i : ℕ) → i < first_of (kind_of with_y2 k) → level_of (get_or blocks k no_tokens) i ≡ pos 0 = λ i first.
      let is = only_luma with_y2 k i first in
      let e : 1 + (k - 1) ≡ k = omega (arith, is) in
      rw is.0 (subst (λ (j : ℕ). level_of (get_or blocks j no_tokens) 0 ≡ pos 0) e (h.no_dc is.3 (k - 1) (omega (arith, is)))) in
      record { before = before; begun = begun (first_of (kind_of with_y2 k)) b (h.ended k).tight before; ended = λ some _. (h.ended k).tight some };
  no_y2 = h.no_y2;
}

pub none_written : (with_y2 : Bool) (t : Tokens) → AreWritable with_y2 t.blocks → any_token t ≡ false → t.blocks ≡ no_blocks
none_written with_y2 t h none = none_had t.blocks (λ k _. (h.ended k).good) none ∙ ap (λ n. replicate n no_tokens) h.number
