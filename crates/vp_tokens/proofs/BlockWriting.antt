-- One turn of the loop that writes the tokens of a block.
use Rattle.std.proofs.Common.{◌≡◌, ◌∙◌, ◌⊎◌, inl, inr, ℕ, ℤ, pos, negsuc, zero, suc, ◌+◌, ◌-◌, ◌<◌, ◌≤◌, false, eqb, length, replicate, List, refl, sym, ap, arith, cond}
use Rattle.std.specs.Prelude.{slice_set, unsigned_abs, nat_lt, if◌then◌else◌}
use Rattle.std.proofs.lemmas.Bool.{cases_lt, lt-ltb, le-ltb, ne_eqb}
use Rattle.vp_bool.specs.Reader.{give}
use Rattle.vp_bool.specs.Intervals.{Interval}
use Rattle.vp_bool.specs.Writing.{Continues, Writes}
use Rattle.vp_bool.proofs.WritingLemmas.{Writes-then, Continues-none, Continues-same}
use Rattle.vp_tables.specs.declared.modes.Token.TheVariants.{EndOfBlock}
use Rattle.vp_tables.specs.declared.trees.TheConstants.{TOKEN_TREE}
use Rattle.vp_tree.specs.Tree.{walk_from}
use Rattle.vp_tokens.specs.Block.{Block, IsBlock, level_of, no_tokens}
use Rattle.vp_tokens.specs.declared.block.BlockKind.{BlockKind}
use Rattle.vp_tokens.specs.Levels.{Probabilities, token, row, coefficient_block, bands_of, first_of}
use Rattle.vp_tokens.specs.Pieces.{context_after, pair_after}
use Rattle.vp_tokens.specs.Spelled.{IsSpelledBlock}
use Rattle.vp_tokens.specs.Written.{padded_prefix, IsLevelWritten}
use Rattle.vp_tokens.proofs.FrontLemmas.{front-more, front-all, front-none}
use Rattle.vp_tokens.proofs.LevelLemmas.{tokens_from, tokens_from-block}

module _ (bands : List (List (List ℕ))) where
  pub end_written : (i context from : ℕ) (b : Block) {old new : Interval} → i < 16 → from ≡ 0 → Writes (token bands i context 0) old new EndOfBlock
      → Continues (tokens_from bands (16 - i) i context from b) (give b) old new
  unfolding tokens_from
  end_written i context from b lt root w =
      let k : 16 - i ≡ suc (16 - (i + 1)) = omega arith in
      rw (root, k) (Writes-then _ w (Continues-none _ _))

  -- a level, written by the row of its position and context
  pub level_written : (i context from : ℕ) (own : List ℕ) (z : ℤ) (b : Block) {old new : Interval} → i < 16 → own ≡ row bands i context
      → IsLevelWritten (walk_from EndOfBlock TOKEN_TREE own from) (unsigned_abs z) z old new
      → Continues (tokens_from bands (16 - i) i context from b)
      (tokens_from bands (16 - (i + 1)) (i + 1) (context_after (unsigned_abs z)) (pair_after (unsigned_abs z)) (record { levels = slice_set b.levels i z; end = i + 1 })) old new
  unfolding tokens_from token
  level_written i context from own z b lt same w =
      let k : 16 - i ≡ suc (16 - (i + 1)) = omega arith in
      rw (k, ← same) (Writes-then _ w.token (rw w.goes_on (Writes-then _ w.magnitude (Writes-then _ w.sign (Continues-none _ _)))))

  pub done_written : (i context from : ℕ) (b : Block) (old : Interval) → 16 ≤ i → Continues (tokens_from bands (16 - i) i context from b) (give b) old old
  unfolding tokens_from
  done_written i context from b old le =
      let k : 16 - i ≡ 0 = omega arith in
      rw k (Continues-none _ _)

pub block_begun : (p : Probabilities) (kind : BlockKind) (context : ℕ) (old : Interval)
    → Continues (coefficient_block p kind context) (tokens_from (bands_of p kind) (16 - first_of kind) (first_of kind) context 0 no_tokens) old old
block_begun p kind context old = Continues-same (λ s. sym (tokens_from-block p kind context s)) old

-- ---- the block so far

-- what is told of a block before position i
unfoldable pub so_far : ℕ → ℕ → Block → Block
so_far first i b = record { levels = padded_prefix (pos 0) i b.levels; end = (if nat_lt first i then i else 0) }

pub so_far-none : (kind : BlockKind) (b : Block) → length b.levels ≡ 16 → IsSpelledBlock kind b → so_far (first_of kind) (first_of kind) b ≡ no_tokens
unfolding so_far
so_far-none kind b whole spelled = λ j. record {
  levels = (front-none (pos 0) (first_of kind) b.levels spelled.before ∙ ap (λ n. replicate n (pos 0)) whole) j;
  end = cond (le-ltb (first_of kind) (first_of kind) (omega arith) j) (first_of kind) 0;
}

pub so_far-more : (first i : ℕ) (b : Block) → first ≤ i → i < length b.levels
    → record { levels = slice_set (so_far first i b).levels i (level_of b i); end = i + 1 } ≡ so_far first (i + 1) b
unfolding so_far
so_far-more first i b low within = λ j. record {
  levels = front-more (pos 0) i b.levels within j;
  end = cond (sym (lt-ltb first (i + 1) (omega arith)) j) (i + 1) 0;
}

told-all : (first i tokens : ℕ) → first ≤ i → tokens ≤ i → (first < i → i ≤ tokens) → (0 < tokens → first < tokens) → (if nat_lt first i then i else 0) ≡ tokens
told-all first i tokens low end before begun = elim (cases_lt first i) [
  | inl more ↦ rw (lt-ltb first i more) (let up = before more in omega arith)
  | inr none ↦ rw (le-ltb first i none) (elim (cases_lt 0 tokens) [
    | inl some ↦ absurd (let b = begun some in omega arith)
    | inr nothing ↦ omega arith
  ])
]

pub so_far-all : (kind : BlockKind) (i : ℕ) (b : Block) → IsBlock b → IsSpelledBlock kind b → first_of kind ≤ i → b.end ≤ i → (first_of kind < i → i ≤ b.end)
    → so_far (first_of kind) i b ≡ b
unfolding so_far
so_far-all kind i b good spelled low end before = λ j. record {
  levels = front-all (pos 0) i b.levels (λ k a _. good.behind k (omega arith)) j;
  end = told-all (first_of kind) i b.end low end before spelled.begun j;
}

-- ---- where the next walk starts

pub abs_zero : (z : ℤ) → unsigned_abs z ≡ 0 → z ≡ pos 0
abs_zero (pos n) e = ap pos e
abs_zero (negsuc n) e = absurd cc

-- a level that is 0 isn't the last one before the end
pub not_last : (kind : BlockKind) (b : Block) (i : ℕ) → IsSpelledBlock kind b → i < b.end → unsigned_abs (level_of b i) ≡ 0 → i + 1 < 16 → i + 1 < b.end
not_last kind b i spelled lt none small = elim (cases_lt (i + 1) b.end) [
  | inl more ↦ more
  | inr le ↦
      let at : b.end - 1 ≡ i = omega arith in
      absurd (spelled.ended (omega arith) (omega arith) (rw at (abs_zero (level_of b i) none)))
]

pub start_next : (n from : ℕ) {P : Type 0} → from ≡ pair_after n → (n ≡ 0 → P) → (from ≡ 0) ⊎ ((from ≡ 2) × P)
start_next zero from e p = inr (e, p refl)
start_next (suc n) from e p = let no : eqb (suc n) 0 ≡ false = ne_eqb (suc n) 0 (omega arith) in inl (rw no at e)
