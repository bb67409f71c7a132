-- Tokens that are made of levels.
use Rattle.std.proofs.Common.{◌≡◌, ◌∙◌, ℕ, ℤ, pos, ◌-◌, ◌<◌, Bool, false, List, length, replicate, get_or, ap, arith, inl, inr}
use Rattle.std.specs.List.{list_any}
use Rattle.std.proofs.lemmas.Bool.{cases_lt, le-ltb}
use Rattle.std.proofs.lemmas.List.{get_or_past}
use Rattle.vp_tokens.specs.declared.block.BlockKind.{BlockKind}
use Rattle.vp_tokens.specs.Block.{Block, IsBlock, IsTight, has_token, level_of, no_tokens}
use Rattle.vp_tokens.specs.Levels.{first_of}
use Rattle.vp_tokens.specs.Blocks.{kind_of, no_blocks}
use Rattle.vp_tokens.specs.Spelled.{IsSpelledBlock, AreSpelled, AreTight, AreLevels, levels_of}
use Rattle.vp_tokens.proofs.MacroblockWriting.{no_tokens-is, none_had}

-- a block that was made of levels
pub record IsMade (levels : List ℤ) (b : Block) : Type 0 where
  pub same : b.levels ≡ levels
  pub tight : IsTight b
  pub good : IsBlock b

pub level-made : (levels : List ℤ) (b : Block) (i : ℕ) → IsMade levels b → get_or levels i (pos 0) ≡ pos 0 → level_of b i ≡ pos 0
level-made levels b i made h = ap (λ (l : List ℤ). get_or l i (pos 0)) made.same ∙ h

begun : (first : ℕ) (b : Block) → IsTight b → ((i : ℕ) → i < first → level_of b i ≡ pos 0) → 0 < b.end → first < b.end
begun first b tight before some = elim (cases_lt first b.end) [
  | inl more ↦ more
  | inr le ↦ absurd (tight some (before (b.end - 1) (omega arith)))
]

spelled-made : (kind : BlockKind) (levels : List ℤ) (b : Block) → IsMade levels b → ((i : ℕ) → i < first_of kind → get_or levels i (pos 0) ≡ pos 0) → IsSpelledBlock kind b
spelled-made kind levels b made before =
    let none = λ (i : ℕ) (h : i < first_of kind). level-made levels b i made (before i h) in
    record { before = none; begun = begun (first_of kind) b made.tight none; ended = λ some _. made.tight some }

none-made : (levels : List ℤ) (b : Block) → IsMade levels b → ((i : ℕ) → get_or levels i (pos 0) ≡ pos 0) → b ≡ no_tokens
none-made levels b made zeros = elim (cases_lt 0 b.end) [
  | inl some ↦ absurd (made.tight some (level-made levels b (b.end - 1) made (zeros (b.end - 1))))
  | inr nothing ↦ no_tokens-is b made.good (le-ltb 0 b.end nothing)
]

module _ (levels : List (List ℤ)) (blocks : List Block) (whole : length blocks ≡ 25) (each : (k : ℕ) → k < 25 → IsMade (levels_of levels k) (get_or blocks k no_tokens)) where
  pub tight : AreTight blocks
  tight k = elim (cases_lt k 25) [
    | inl within ↦ (each k within).tight
    | inr past ↦ rw (get_or_past blocks k no_tokens (omega arith)) (λ h. absurd (omega arith))
  ]

  pub spelled : (has_y2 : Bool) → AreLevels has_y2 levels → AreSpelled has_y2 blocks
  spelled has_y2 can = record {
    each = λ k h. spelled-made (kind_of has_y2 k) (levels_of levels k) (get_or blocks k no_tokens) (each k h) (λ i b. can.before k i h b);
    no_y2 = λ without. none-made (levels_of levels 0) (get_or blocks 0 no_tokens) (each 0 (omega arith)) (can.no_y2 without);
  }

  pub none : list_any has_token blocks ≡ false → blocks ≡ no_blocks
  none h = none_had blocks (λ k b. (each k (omega arith)).good) h ∙ ap (λ n. replicate n no_tokens) whole
