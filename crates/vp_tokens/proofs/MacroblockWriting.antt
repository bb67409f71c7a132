-- How the blocks of a macroblock are written, one after another.
use Rattle.std.proofs.Common.{◌≡◌, ◌∙◌, ℕ, ℤ, pos, zero, suc, ◌+◌, ◌-◌, ◌<◌, ◌≤◌, Bool, true, false, nat_lt, List, [], ◌∷◌, length, replicate, get_or, refl, sym, ap, arith, inl, inr, add-one}
use Rattle.std.specs.Prelude.{◌||◌, slice_index, slice_set}
use Rattle.std.specs.List.{list_any}
use Rattle.std.proofs.lemmas.Bool.{cases_eq, cases_lt, lt-ltb}
use Rattle.vp_base.specs.declared.place.Place.{Place}
use Rattle.vp_base.specs.Grid.{Grid}
use Rattle.vp_bool.specs.Bools.{State}
use Rattle.vp_bool.specs.Reader.{Reader, rows}
use Rattle.vp_bool.specs.Intervals.{Interval}
use Rattle.vp_bool.specs.Writing.{Writes}
use Rattle.vp_bool.proofs.WritingLemmas.{Writes-then, Continues-none, Continues-given}
use Rattle.vp_tokens.specs.Block.{Block, IsBlock, has_token, no_tokens}
use Rattle.vp_tokens.specs.Levels.{Probabilities, coefficient_block}
use Rattle.vp_tokens.specs.Blocks.{Blocks, kind_of, is_there, block_at, no_blocks, macroblock}
use Rattle.vp_tokens.specs.Contexts.{flag_at, had_of, above_flags, left_flags}
use Rattle.vp_tokens.specs.Pieces.{true_count, all_blocks}
use Rattle.vp_tokens.specs.declared.contexts.Tokens.{Tokens}
use Rattle.vp_tokens.specs.Flagged.{above_flag, left_flag, by_flags}
use Rattle.vp_tokens.specs.declared.macroblock.Flags.{Flags}
use Rattle.vp_tokens.specs.declared.macroblock.TheConstants.{ABOVE, LEFT}
use Rattle.vp_tokens.specs.Placed.{AreFlagsAt}
use Rattle.vp_tokens.specs.Written.{prefix_blocks}
use Rattle.vp_tokens.proofs.Reading.{macroblock-is}
use Rattle.vp_tokens.proofs.FlagLemmas.{above-is, left-is}
use Rattle.vp_tokens.proofs.FrontLemmas.{front-more, front-all, front-none}

-- ---- a block's context is known from the blocks before it

above-before : (above had other : List Bool) (k : ℕ) → ((j : ℕ) → j < k → flag_at had j ≡ flag_at other j) → above_flag above had k ≡ above_flag above other k
unfolding above_flag
above-before above had other k same = elim (cases_eq k 0) [
  | inl z ↦ rw z refl
  | inr some ↦ rw (same (k - 4) (omega arith), same (k - 2) (omega arith)) refl
]

left-before : (left had other : List Bool) (k : ℕ) → ((j : ℕ) → j < k → flag_at had j ≡ flag_at other j) → left_flag left had k ≡ left_flag left other k
unfolding left_flag
left-before left had other k same = elim (cases_eq k 0) [
  | inl z ↦ rw z refl
  | inr some ↦ rw (same (k - 1) (omega arith)) refl
]

had-front : (k : ℕ) (blocks : List Block) (j : ℕ) → j < k → flag_at (had_of (prefix_blocks k blocks)) j ≡ flag_at (had_of blocks) j
had-front k [] j h = refl
had-front zero (x ∷ xs) j h = absurd (omega arith)
had-front (suc k) (x ∷ xs) zero h = refl
had-front (suc k) (x ∷ xs) (suc j) h = had-front k xs j (omega arith)

context-front : (above left : List Bool) (k : ℕ) (blocks : List Block)
    → by_flags above left (had_of (prefix_blocks k blocks)) k ≡ true_count (above_flag above (had_of blocks) k) (left_flag left (had_of blocks) k)
context-front above left k blocks =
    rw (
      above-before above (had_of (prefix_blocks k blocks)) (had_of blocks) k (had-front k blocks),
      left-before left (had_of (prefix_blocks k blocks)) (had_of blocks) k (had-front k blocks),
    ) refl

-- ---- one block

pub there_behind : (has_y2 : Bool) (k : ℕ) → 0 < k → is_there has_y2 k ≡ true
there_behind has_y2 zero h = absurd (omega arith)
there_behind has_y2 (suc k) h = refl

pub there_with : (has_y2 : Bool) (k : ℕ) → has_y2 ≡ true → is_there has_y2 k ≡ true
there_with has_y2 zero h = h
there_with has_y2 (suc k) h = refl

module _ (p : Probabilities) (has_y2 : Bool) (above left : List Bool) where
  pub block_written : (k n : ℕ) (blocks : List Block) (b : Block) {old new : Interval} → k < length blocks → is_there has_y2 k ≡ true
      → n ≡ true_count (above_flag above (had_of blocks) k) (left_flag left (had_of blocks) k) → b ≡ get_or blocks k no_tokens
      → Writes (coefficient_block p (kind_of has_y2 k) n) old new b → Writes (block_at p has_y2 (by_flags above left) k (prefix_blocks k blocks)) old new (prefix_blocks (k + 1) blocks)
  unfolding block_at
  block_written k n blocks b lt there e same w =
      let n' = e ∙ sym (context-front above left k blocks) in
      rw there (Writes-then _ (rw (same, n') at w) (Continues-given (front-more no_tokens k blocks lt) _))

  pub no_block_written : (k : ℕ) (blocks : List Block) (old : Interval) → k ≡ 0 → has_y2 ≡ false → get_or blocks 0 no_tokens ≡ no_tokens
      → Writes (block_at p has_y2 (by_flags above left) k (prefix_blocks k blocks)) old old (prefix_blocks (k + 1) blocks)
  unfolding block_at
  no_block_written k [] old z without same = rw (z, without) (Continues-none _ _)
  no_block_written k (x ∷ xs) old z without same = rw (z, without, same) (Continues-none _ _)

-- ---- the flags around a block

module _ (has_y2 : Bool) (above left : List Bool) (blocks : List Block) (k : ℕ) (flags : Flags) where
  pub context-by : k < 25 → is_there has_y2 k ≡ true → AreFlagsAt has_y2 above left (had_of blocks) k flags
      → true_count (flag_at flags.above (slice_index ABOVE k)) (flag_at flags.left (slice_index LEFT k))
      ≡ true_count (above_flag above (had_of blocks) k) (left_flag left (had_of blocks) k)
  context-by lt there f =
      rw (f.above_is, f.left_is, above-is above (had_of blocks) has_y2 f.above_nine k lt there, left-is left (had_of blocks) has_y2 f.left_nine k lt there) refl

  pub flags-more : is_there has_y2 k ≡ true → (b : Bool) → b ≡ flag_at (had_of blocks) k → AreFlagsAt has_y2 above left (had_of blocks) k flags
      → AreFlagsAt has_y2 above left (had_of blocks) (k + 1) (record { above = slice_set flags.above (slice_index ABOVE k) b; left = slice_set flags.left (slice_index LEFT k) b })
  flags-more there b e f = record {
    above_nine = f.above_nine;
    left_nine = f.left_nine;
    above_is = rw (add-one, there, e, f.above_is) refl;
    left_is = rw (add-one, there, e, f.left_is) refl;
  }

  pub flags-kept : k ≡ 0 → has_y2 ≡ false → AreFlagsAt has_y2 above left (had_of blocks) k flags → AreFlagsAt has_y2 above left (had_of blocks) (k + 1) flags
  flags-kept z without f = record {
    above_nine = f.above_nine;
    left_nine = f.left_nine;
    above_is = f.above_is ∙ rw (z, without) refl;
    left_is = f.left_is ∙ rw (z, without) refl;
  }

-- ---- all of them

pub rows-begun : {A : Type 0} (row : ℕ → A → Reader A) (a b : A) (old : Interval) → a ≡ b → Writes (rows 0 row a) old old b
unfolding rows
rows-begun row a b old same = Continues-given same old

pub prefix_blocks-none : (blocks : List Block) → length blocks ≡ 25 → no_blocks ≡ prefix_blocks 0 blocks
prefix_blocks-none blocks whole = sym (front-none no_tokens 0 blocks (λ k h. absurd (omega arith)) ∙ ap (λ n. replicate n no_tokens) whole)

pub prefix_blocks-all : (blocks : List Block) (k : ℕ) → length blocks ≤ k → prefix_blocks k blocks ≡ blocks
prefix_blocks-all blocks k whole = front-all no_tokens k blocks (λ j a b. absurd (omega arith))

pub all_written : (p : Probabilities) (has_y2 skipped : Bool) (context : List Bool → ℕ → ℕ) (blocks : List Block) {old new : Interval} → skipped ≡ false
    → Writes (rows 25 (block_at p has_y2 context) no_blocks) old new blocks → Writes (all_blocks p has_y2 skipped context) old new blocks
all_written p has_y2 skipped context blocks e w = rw e w

pub none_written : (p : Probabilities) (has_y2 skipped : Bool) (context : List Bool → ℕ → ℕ) (blocks : List Block) (old : Interval) → skipped ≡ true → no_blocks ≡ blocks
    → Writes (all_blocks p has_y2 skipped context) old old blocks
none_written p has_y2 skipped context blocks old e same = rw e (Continues-given same old)

-- ---- blocks without tokens

or_left : (a b : Bool) → a || b ≡ false → a ≡ false
or_left true b h = h
or_left false b h = refl

or_right : (a b : Bool) → a || b ≡ false → b ≡ false
or_right true b h = absurd cc
or_right false b h = h

not_below : (n : ℕ) → nat_lt 0 n ≡ false → n ≡ 0
not_below n h = elim (cases_lt 0 n) [
  | inl some ↦ absurd (let yes : nat_lt 0 n ≡ true = lt-ltb 0 n some in cc)
  | inr nothing ↦ omega arith
]

zeros : (levels : List ℤ) → ((i : ℕ) → get_or levels i (pos 0) ≡ pos 0) → levels ≡ replicate (length levels) (pos 0)
zeros levels h = sym (front-all (pos 0) 0 levels (λ k a b. h k)) ∙ front-none (pos 0) 0 levels (λ k a. absurd (omega arith))

pub no_tokens-is : (b : Block) → IsBlock b → has_token b ≡ false → b ≡ no_tokens
no_tokens-is b good h =
    let nothing : b.end ≡ 0 = not_below b.end h in
    λ j. record {
      levels = (zeros b.levels (λ i. good.behind i (omega arith)) ∙ ap (λ n. replicate n (pos 0)) good.whole) j;
      end = nothing j;
    }

pub none_had : (blocks : List Block) → ((k : ℕ) → k < length blocks → IsBlock (get_or blocks k no_tokens)) → list_any has_token blocks ≡ false → blocks ≡ replicate (length blocks) no_tokens
none_had [] good h = refl
none_had (x ∷ xs) good h =
    let first = no_tokens-is x (good 0 (omega arith)) (or_left (has_token x) (list_any has_token xs) h) in
    let others = none_had xs (λ k b. good (suc k) (omega arith)) (or_right (has_token x) (list_any has_token xs) h) in
    λ j. first j ∷ others j

-- ---- a macroblock

-- What is written by flags is read by the grid.
pub macroblock_written : (p : Probabilities) (g : Grid Blocks) (at : Place) (has_y2 skipped : Bool) (above left : List Bool) (blocks : List Block) {old new : Interval}
    → above ≡ above_flags g at → left ≡ left_flags g at → Writes (all_blocks p has_y2 skipped (by_flags above left)) old new blocks
    → Writes (macroblock p g at has_y2 skipped) old new (record { blocks = blocks })
macroblock_written p g at has_y2 skipped above left blocks a l w = record {
  bools = w.bools;
  probabilities = w.probabilities;
  appended = w.appended;
  taken = λ s t r.
      sym (macroblock-is p g at has_y2 skipped above left a l s)
      ∙ ap (λ (z : List Block × State). let x : Tokens × State = (record { blocks = z.0 }, z.1) in x) (w.taken s t r);
}
