-- Nine flags that go along from block to block are those by which the blocks are read.
use Rattle.std.proofs.Common.{◌≡◌, ◌∙◌, ℕ, zero, suc, ◌+◌, ◌<◌, ◌≤◌, Bool, true, false, List, [], ◌∷◌, length, refl, sym, ap, subst, arith, add-one, length-set}
use Rattle.std.specs.Prelude.{slice_index, slice_set}
use Rattle.std.proofs.lemmas.Bool.{ne_eqb, le-ltb, lt-ltb}
use Rattle.vp_bool.specs.Bools.{State}
use Rattle.vp_bool.specs.Reader.{Reader, bind, when, rows}
use Rattle.vp_bool.proofs.ReaderLemmas.{rows-more, rows-none}
use Rattle.vp_tokens.specs.declared.block.BlockKind.{BlockKind}
use Rattle.vp_tokens.specs.declared.block.BlockKind.TheVariants as kind_is
use Rattle.vp_tokens.specs.declared.macroblock.TheConstants.{ABOVE, LEFT}
use Rattle.vp_tokens.specs.Block.{Block, has_token}
use Rattle.vp_tokens.specs.Levels.{Probabilities, bands_of, first_of, coefficient_block}
use Rattle.vp_tokens.specs.Blocks.{is_there, kind_of, block_at, no_blocks}
use Rattle.vp_tokens.specs.Contexts.{flag_at, had_of, bottom_row_flags, right_column_flags}
use Rattle.vp_tokens.specs.Pieces.{true_count, y2_or}
use Rattle.vp_tokens.specs.Flagged.{above_flag, left_flag, by_flags}
use Rattle.vp_tokens.specs.Placed.{Reading, flags_at, banded, placed, plane, blocks_read}
use Rattle.vp_tokens.proofs.Around.{each_block}

flags-same : (places : List ℕ) (has_y2 : Bool) (start had had' : List Bool) (k : ℕ) → ((j : ℕ) → j < k → flag_at had j ≡ flag_at had' j) → flags_at places has_y2 start had k ≡ flags_at places has_y2 start had' k
flags-same places has_y2 start had had' zero e = refl
flags-same places has_y2 start had had' (suc k) e =
    rw (flags-same places has_y2 start had had' k (λ j l. e j (omega arith)), e k (omega arith)) refl

module _ (a b c d e f g h i : Bool) (had : List Bool) where
  abbrev start : List Bool
  start = a ∷ b ∷ c ∷ d ∷ e ∷ f ∷ g ∷ h ∷ i ∷ []

  above-at : (has_y2 : Bool) (k : ℕ) → k < 25 → is_there has_y2 k ≡ true → flag_at (flags_at ABOVE has_y2 start had k) (slice_index ABOVE k) ≡ above_flag start had k
  unfolding above_flag
  above-at true = each_block (λ (k : ℕ). is_there true k ≡ true → flag_at (flags_at ABOVE true start had k) (slice_index ABOVE k) ≡ above_flag start had k)
      (λ t. refl) (λ t. refl) (λ t. refl) (λ t. refl) (λ t. refl) (λ t. refl) (λ t. refl) (λ t. refl) (λ t. refl) (λ t. refl) (λ t. refl) (λ t. refl) (λ t. refl) (λ t. refl) (λ t. refl) (λ t. refl) (λ t. refl) (λ t. refl) (λ t. refl) (λ t. refl) (λ t. refl) (λ t. refl) (λ t. refl) (λ t. refl) (λ t. refl)
  above-at false = each_block (λ (k : ℕ). is_there false k ≡ true → flag_at (flags_at ABOVE false start had k) (slice_index ABOVE k) ≡ above_flag start had k)
      (λ t. refl) (λ t. refl) (λ t. refl) (λ t. refl) (λ t. refl) (λ t. refl) (λ t. refl) (λ t. refl) (λ t. refl) (λ t. refl) (λ t. refl) (λ t. refl) (λ t. refl) (λ t. refl) (λ t. refl) (λ t. refl) (λ t. refl) (λ t. refl) (λ t. refl) (λ t. refl) (λ t. refl) (λ t. refl) (λ t. refl) (λ t. refl) (λ t. refl)

  above-end : (has_y2 : Bool) → flags_at ABOVE has_y2 start had 25 ≡ bottom_row_flags had (y2_or (record { has_y2 = has_y2; had = had }) (flag_at start 8))
  above-end true = refl
  above-end false = refl

  left-at : (has_y2 : Bool) (k : ℕ) → k < 25 → is_there has_y2 k ≡ true → flag_at (flags_at LEFT has_y2 start had k) (slice_index LEFT k) ≡ left_flag start had k
  unfolding left_flag
  left-at true = each_block (λ (k : ℕ). is_there true k ≡ true → flag_at (flags_at LEFT true start had k) (slice_index LEFT k) ≡ left_flag start had k)
      (λ t. refl) (λ t. refl) (λ t. refl) (λ t. refl) (λ t. refl) (λ t. refl) (λ t. refl) (λ t. refl) (λ t. refl) (λ t. refl) (λ t. refl) (λ t. refl) (λ t. refl) (λ t. refl) (λ t. refl) (λ t. refl) (λ t. refl) (λ t. refl) (λ t. refl) (λ t. refl) (λ t. refl) (λ t. refl) (λ t. refl) (λ t. refl) (λ t. refl)
  left-at false = each_block (λ (k : ℕ). is_there false k ≡ true → flag_at (flags_at LEFT false start had k) (slice_index LEFT k) ≡ left_flag start had k)
      (λ t. refl) (λ t. refl) (λ t. refl) (λ t. refl) (λ t. refl) (λ t. refl) (λ t. refl) (λ t. refl) (λ t. refl) (λ t. refl) (λ t. refl) (λ t. refl) (λ t. refl) (λ t. refl) (λ t. refl) (λ t. refl) (λ t. refl) (λ t. refl) (λ t. refl) (λ t. refl) (λ t. refl) (λ t. refl) (λ t. refl) (λ t. refl) (λ t. refl)

  left-end : (has_y2 : Bool) → flags_at LEFT has_y2 start had 25 ≡ right_column_flags had (y2_or (record { has_y2 = has_y2; had = had }) (flag_at start 8))
  left-end true = refl
  left-end false = refl

nine : List Bool → List Bool
nine xs = flag_at xs 0 ∷ flag_at xs 1 ∷ flag_at xs 2 ∷ flag_at xs 3 ∷ flag_at xs 4 ∷ flag_at xs 5 ∷ flag_at xs 6 ∷ flag_at xs 7 ∷ flag_at xs 8 ∷ []

nine-is : (xs : List Bool) → length xs ≡ 9 → nine xs ≡ xs
unfolding nine
nine-is [] e = absurd (omega arith)
nine-is (a ∷ []) e = absurd (omega arith)
nine-is (a ∷ (b ∷ [])) e = absurd (omega arith)
nine-is (a ∷ (b ∷ (c ∷ []))) e = absurd (omega arith)
nine-is (a ∷ (b ∷ (c ∷ (d ∷ [])))) e = absurd (omega arith)
nine-is (a ∷ (b ∷ (c ∷ (d ∷ (f ∷ []))))) e = absurd (omega arith)
nine-is (a ∷ (b ∷ (c ∷ (d ∷ (f ∷ (g ∷ [])))))) e = absurd (omega arith)
nine-is (a ∷ (b ∷ (c ∷ (d ∷ (f ∷ (g ∷ (h ∷ []))))))) e = absurd (omega arith)
nine-is (a ∷ (b ∷ (c ∷ (d ∷ (f ∷ (g ∷ (h ∷ (i ∷ [])))))))) e = absurd (omega arith)
nine-is (a ∷ (b ∷ (c ∷ (d ∷ (f ∷ (g ∷ (h ∷ (i ∷ (j ∷ []))))))))) e = refl
nine-is (a ∷ (b ∷ (c ∷ (d ∷ (f ∷ (g ∷ (h ∷ (i ∷ (j ∷ (k ∷ xs)))))))))) e = absurd (omega arith)

module _ (xs had : List Bool) (has_y2 : Bool) (whole : length xs ≡ 9) where
  pub above-is : (k : ℕ) → k < 25 → is_there has_y2 k ≡ true → flag_at (flags_at ABOVE has_y2 xs had k) (slice_index ABOVE k) ≡ above_flag xs had k
  unfolding nine
  above-is k lt t =
      let P : List Bool → Type 0 = λ zs. flag_at (flags_at ABOVE has_y2 zs had k) (slice_index ABOVE k) ≡ above_flag zs had k in
      subst P (nine-is xs whole) (above-at _ _ _ _ _ _ _ _ _ had has_y2 k lt t)

  pub left-is : (k : ℕ) → k < 25 → is_there has_y2 k ≡ true → flag_at (flags_at LEFT has_y2 xs had k) (slice_index LEFT k) ≡ left_flag xs had k
  unfolding nine
  left-is k lt t =
      let P : List Bool → Type 0 = λ zs. flag_at (flags_at LEFT has_y2 zs had k) (slice_index LEFT k) ≡ left_flag zs had k in
      subst P (nine-is xs whole) (left-at _ _ _ _ _ _ _ _ _ had has_y2 k lt t)

  bottom_row_flags-is : flags_at ABOVE has_y2 xs had 25 ≡ bottom_row_flags had (y2_or (record { has_y2 = has_y2; had = had }) (flag_at xs 8))
  unfolding nine
  bottom_row_flags-is =
      let P : List Bool → Type 0 = λ zs. flags_at ABOVE has_y2 zs had 25 ≡ bottom_row_flags had (y2_or (record { has_y2 = has_y2; had = had }) (flag_at zs 8)) in
      subst P (nine-is xs whole) (above-end _ _ _ _ _ _ _ _ _ had has_y2)

  right_column_flags-is : flags_at LEFT has_y2 xs had 25 ≡ right_column_flags had (y2_or (record { has_y2 = has_y2; had = had }) (flag_at xs 8))
  unfolding nine
  right_column_flags-is =
      let P : List Bool → Type 0 = λ zs. flags_at LEFT has_y2 zs had 25 ≡ right_column_flags had (y2_or (record { has_y2 = has_y2; had = had }) (flag_at zs 8)) in
      subst P (nine-is xs whole) (left-end _ _ _ _ _ _ _ _ _ had has_y2)

-- ---- one block more

had-kept : (xs : List Block) (k j : ℕ) (b : Block) → j < k → flag_at (had_of xs) j ≡ flag_at (had_of (slice_set xs k b)) j
had-kept [] k j b lt = refl
had-kept (x ∷ xs) zero j b lt = absurd (omega arith)
had-kept (x ∷ xs) (suc k) zero b lt = refl
had-kept (x ∷ xs) (suc k) (suc j) b lt = had-kept xs k j b (omega arith)

had-here : (xs : List Block) (k : ℕ) (b : Block) → k < length xs → flag_at (had_of (slice_set xs k b)) k ≡ has_token b
had-here [] k b lt = absurd (omega arith)
had-here (x ∷ xs) zero b lt = refl
had-here (x ∷ xs) (suc k) b lt = had-here xs k b (omega arith)

flags-next : (places : List ℕ) (has_y2 : Bool) (start : List Bool) (blocks : List Block) (k : ℕ) (b : Block) (flags : List Bool) → k < length blocks → is_there has_y2 k ≡ true
    → flags ≡ flags_at places has_y2 start (had_of blocks) k
    → slice_set flags (slice_index places k) (has_token b) ≡ flags_at places has_y2 start (had_of (slice_set blocks k b)) (k + 1)
flags-next places has_y2 start blocks k b flags lt t e =
    rw (add-one, t, e, flags-same places has_y2 start (had_of blocks) (had_of (slice_set blocks k b)) k (λ j l. had-kept blocks k j b l), had-here blocks k b lt) refl

pub when-true : {A : Type 0} (t : Bool) (m : Reader A) (a : A) (s : State) → t ≡ true → when t m a s ≡ m s
when-true true m a s e = refl
when-true false m a s e = absurd cc

-- Blocks 0 to k - 1 were read as by the flags at the beginning.
pub record IsRead (p : Probabilities) (has_y2 : Bool) (a l : List Bool) (s : State) (k : ℕ) (r : Reading) (u : State) : Type 0 where
  pub so_far : rows k (block_at p has_y2 (by_flags a l)) no_blocks s ≡ (r.blocks, u)
  pub above : r.above ≡ flags_at ABOVE has_y2 a (had_of r.blocks) k
  pub left : r.left ≡ flags_at LEFT has_y2 l (had_of r.blocks) k
  pub whole : length r.blocks ≡ 25

-- a macroblock without a Y2 block
read-skip : (p : Probabilities) (a l : List Bool) (s : State) (r : Reading) (u : State) → IsRead p false a l s 0 r u → IsRead p false a l s 1 r u
unfolding block_at
read-skip p a l s r u v = record {
  so_far = rows-more 0 (block_at p false (by_flags a l)) no_blocks r.blocks r.blocks s u u v.so_far refl;
  above = v.above;
  left = v.left;
  whole = v.whole;
}

pub when-false : {A : Type 0} (t : Bool) (m : Reader A) (a : A) (s : State) → t ≡ false → when t m a s ≡ (a, s)
when-false true m a s e = absurd cc
when-false false m a s e = refl

module _ (p : Probabilities) (has_y2 : Bool) (a l : List Bool) (wide : length a ≡ 9) (high : length l ≡ 9) (s : State) where
  read-none : (r : Reading) → r.blocks ≡ no_blocks → r.above ≡ a → r.left ≡ l → IsRead p has_y2 a l s 0 r s
  read-none r e f g = record { so_far = rows-none _ _ _ ∙ (λ i. (sym e i, s)); above = f; left = g; whole = ap length e }

  read-next : (kind : BlockKind) (k : ℕ) (r : Reading) (u : State) → k < 25 → is_there has_y2 k ≡ true → kind_of has_y2 k ≡ kind → IsRead p has_y2 a l s k r u
      → IsRead p has_y2 a l s (k + 1) (placed (bands_of p kind) (first_of kind) k r u).0 (placed (bands_of p kind) (first_of kind) k r u).1
  unfolding placed bind block_at coefficient_block banded
  read-next kind k r u lt t e v =
      let x : flag_at r.above (slice_index ABOVE k) ≡ above_flag a (had_of r.blocks) k = ap (λ (z : List Bool). flag_at z (slice_index ABOVE k)) v.above ∙ above-is a (had_of r.blocks) has_y2 wide k lt t in
      let y : flag_at r.left (slice_index LEFT k) ≡ left_flag l (had_of r.blocks) k = ap (λ (z : List Bool). flag_at z (slice_index LEFT k)) v.left ∙ left-is l (had_of r.blocks) has_y2 high k lt t in
      let n : by_flags a l (had_of r.blocks) k ≡ true_count (flag_at r.above (slice_index ABOVE k)) (flag_at r.left (slice_index LEFT k)) = λ i. true_count (sym x i) (sym y i) in
      let b = coefficient_block p kind (true_count (flag_at r.above (slice_index ABOVE k)) (flag_at r.left (slice_index LEFT k))) u in
      let inside : k < length r.blocks = let w = v.whole in omega arith in
      record {
        so_far = rows-more k (block_at p has_y2 (by_flags a l)) no_blocks r.blocks (slice_set r.blocks k b.0) s u b.1 v.so_far
            (when-true (is_there has_y2 k) _ r.blocks u t ∙ (λ i. (slice_set r.blocks k (coefficient_block p (e i) (n i) u).0, (coefficient_block p (e i) (n i) u).1)));
        above = flags-next ABOVE has_y2 a r.blocks k b.0 r.above inside t v.above;
        left = flags-next LEFT has_y2 l r.blocks k b.0 r.left inside t v.left;
        whole = length-set r.blocks k b.0 ∙ v.whole;
      }

  read-plane : (kind : BlockKind) (first n : ℕ) (r : Reading) (u : State) → first + n ≤ 25
      → ((j : ℕ) → j < n → (is_there has_y2 (first + j) ≡ true) × (kind_of has_y2 (first + j) ≡ kind)) → IsRead p has_y2 a l s first r u
      → IsRead p has_y2 a l s (first + n) (plane p kind first n r u).0 (plane p kind first n r u).1
  unfolding plane rows bind
  read-plane kind first zero r u le are v =
      let none : first + 0 ≡ first = omega arith in
      rw none v
  read-plane kind first (suc n) r u le are v =
      let more : first + suc n ≡ first + n + 1 = omega arith in
      let z = plane p kind first n r u in
      let here = are n (omega arith) in
      rw more (read-next kind (first + n) z.0 z.1 (omega arith) here.0 here.1 (read-plane kind first n r u (omega arith) (λ j h. are j (omega arith)) v))

y2_kinds : (j : ℕ) → j < 1 → (is_there true (0 + j) ≡ true) × (kind_of true (0 + j) ≡ kind_is.Y2)
y2_kinds zero h = (refl, refl)
y2_kinds (suc j) h = absurd (omega arith)

luma_kinds : (has_y2 : Bool) (j : ℕ) → j < 16 → (is_there has_y2 (1 + j) ≡ true) × (kind_of has_y2 (1 + j) ≡ kind_of has_y2 1)
luma_kinds has_y2 j h =
    let e : 1 + j ≡ suc j = omega arith in
    rw (e, ne_eqb (suc j) 0 (λ z. absurd (omega arith)), le-ltb 16 (suc j) (omega arith)) (refl, refl)

chroma_kinds : (has_y2 : Bool) (j : ℕ) → j < 8 → (is_there has_y2 (17 + j) ≡ true) × (kind_of has_y2 (17 + j) ≡ kind_is.Chroma)
chroma_kinds has_y2 j h =
    let e : 17 + j ≡ suc (16 + j) = omega arith in
    rw (e, ne_eqb (suc (16 + j)) 0 (λ z. absurd (omega arith)), lt-ltb 16 (suc (16 + j)) (omega arith)) (refl, refl)

pub read-all : (p : Probabilities) (has_y2 : Bool) (r : Reading) (s : State) → length r.above ≡ 9 → length r.left ≡ 9 → r.blocks ≡ no_blocks
    → IsRead p has_y2 r.above r.left s 25 (blocks_read p has_y2 r s).0 (blocks_read p has_y2 r s).1
unfolding blocks_read bind
read-all p true r s wide high e =
    let none = read-none p true r.above r.left wide high s r e refl refl in
    let y2 = read-plane p true r.above r.left wide high s kind_is.Y2 0 1 r s (omega arith) y2_kinds none in
    let luma = read-plane p true r.above r.left wide high s (kind_of true 1) 1 16 _ _ (omega arith) (luma_kinds true) y2 in
    read-plane p true r.above r.left wide high s kind_is.Chroma 17 8 _ _ (omega arith) (chroma_kinds true) luma
read-all p false r s wide high e =
    let none = read-none p false r.above r.left wide high s r e refl refl in
    let luma = read-plane p false r.above r.left wide high s (kind_of false 1) 1 16 _ _ (omega arith) (luma_kinds false) (read-skip p r.above r.left s r s none) in
    read-plane p false r.above r.left wide high s kind_is.Chroma 17 8 _ _ (omega arith) (chroma_kinds false) luma

-- the flags behind the last block
pub above-read : (p : Probabilities) (has_y2 : Bool) (a l : List Bool) (s : State) (r : Reading) (u : State) → length a ≡ 9 → IsRead p has_y2 a l s 25 r u
    → r.above ≡ bottom_row_flags (had_of r.blocks) (y2_or (record { has_y2 = has_y2; had = had_of r.blocks }) (flag_at a 8))
above-read p has_y2 a l s r u wide v = v.above ∙ bottom_row_flags-is a (had_of r.blocks) has_y2 wide

pub left-read : (p : Probabilities) (has_y2 : Bool) (a l : List Bool) (s : State) (r : Reading) (u : State) → length l ≡ 9 → IsRead p has_y2 a l s 25 r u
    → r.left ≡ right_column_flags (had_of r.blocks) (y2_or (record { has_y2 = has_y2; had = had_of r.blocks }) (flag_at l 8))
left-read p has_y2 a l s r u high v = v.left ∙ right_column_flags-is l (had_of r.blocks) has_y2 high

-- ---- what the code does

pub above-place : (k : ℕ) → k < 25 → slice_index ABOVE k < 9
above-place = each_block (λ (k : ℕ). slice_index ABOVE k < 9)
    (omega arith) (omega arith) (omega arith) (omega arith) (omega arith) (omega arith) (omega arith) (omega arith) (omega arith) (omega arith) (omega arith) (omega arith) (omega arith) (omega arith) (omega arith) (omega arith) (omega arith) (omega arith) (omega arith) (omega arith) (omega arith) (omega arith) (omega arith) (omega arith) (omega arith)

pub left-place : (k : ℕ) → k < 25 → slice_index LEFT k < 9
left-place = each_block (λ (k : ℕ). slice_index LEFT k < 9)
    (omega arith) (omega arith) (omega arith) (omega arith) (omega arith) (omega arith) (omega arith) (omega arith) (omega arith) (omega arith) (omega arith) (omega arith) (omega arith) (omega arith) (omega arith) (omega arith) (omega arith) (omega arith) (omega arith) (omega arith) (omega arith) (omega arith) (omega arith) (omega arith) (omega arith)

pub all-placed : (p : Probabilities) (has_y2 : Bool) (kind : BlockKind) (r r1 r2 r3 : Reading) (s s1 s2 s3 : State) → when has_y2 (plane p kind_is.Y2 0 1 r) r s ≡ (r1, s1) → kind ≡ kind_of has_y2 1
    → r2 ≡ (plane p kind 1 16 r1 s1).0 → s2 ≡ (plane p kind 1 16 r1 s1).1 → r3 ≡ (plane p kind_is.Chroma 17 8 r2 s2).0 → s3 ≡ (plane p kind_is.Chroma 17 8 r2 s2).1
    → blocks_read p has_y2 r s ≡ (r3, s3)
unfolding blocks_read bind
all-placed p has_y2 kind r r1 r2 r3 s s1 s2 s3 h k e f x y = rw (h, x, y, e, f, k) refl
