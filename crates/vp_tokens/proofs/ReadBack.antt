-- What is read can be written.
use Rattle.std.proofs.Common.{◌≡◌, ◌≢◌, ◌∙◌, ℕ, ℤ, pos, zero, suc, ◌+◌, ◌-◌, ◌/◌, ◌<◌, ◌≤◌, Bool, true, false, List, [], ◌∷◌, ◌++◌, length, replicate, drop, get_or, Option, Some, None, slice_get, refl, sym, ap, subst, arith, inl, inr}
use Rattle.std.specs.Prelude.{neg_ℤ, not, slice_index, slice_set, if◌then◌else◌}
use Rattle.std.specs.Int.{from_bool}
use Rattle.std.proofs.lemmas.Bool.{cases_lt, cases_eq}
use Rattle.vp_bool.specs.Bools.{State, read}
use Rattle.vp_bool.specs.Reader as reader
use Rattle.vp_tree.specs.declared.entry.TreeEntry.{TreeEntry}
use Rattle.vp_tree.specs.declared.entry.TreeEntry.TheVariants.{Leaf, Pair}
use Rattle.vp_tree.specs.Tree.{leaves_pass, next, walk, walk_from}
use Rattle.vp_tree.proofs.Walks.{and_left, and_right, further}
use Rattle.vp_tree.proofs.Paths.{walk_leads, one_leaf}
use Rattle.vp_tables.specs.declared.modes.Token.{Token}
use Rattle.vp_tables.specs.declared.modes.Token.TheVariants.{EndOfBlock, Zero}
use Rattle.vp_tables.specs.declared.trees.TheConstants.{TOKEN_TREE}
use Rattle.std.proofs.lemmas.List.{get_or_append_left, get_or-append-add, get_or-set_same, get_or-set_other, set_past, length-replicate}
use Rattle.vp_tokens.specs.declared.block.BlockKind.{BlockKind}
use Rattle.vp_tokens.specs.Block.{Block, no_tokens}
use Rattle.vp_tokens.specs.Levels.{Probabilities, bands_of, first_of, token, is_end, row, level_magnitude, signed_level, levels, block_with, coefficient_block}
use Rattle.vp_tokens.specs.Pieces.{context_after, pair_after, all_blocks}
use Rattle.vp_tokens.specs.Blocks.{kind_of, is_there, block_at, no_blocks}
use Rattle.vp_tokens.specs.Contexts.{had_of}
use Rattle.vp_tokens.specs.Spelled.{IsSpelledBlock, AreSpelled}
use Rattle.vp_tokens.proofs.LevelLemmas.{length-levels, first_small}

-- ---- no token behind a 0 ends the block

abbrev goes_on : Token → Bool
goes_on t = not (is_end t)

leaf_passes_at : (t : List (TreeEntry Token)) (k : ℕ) (x : Token) → leaves_pass goes_on t ≡ true → slice_get t k ≡ Some (Leaf x) → goes_on x ≡ true
leaf_passes_at [] k x h e = absurd cc
leaf_passes_at (Leaf y ∷ es) zero x h e =
    let same : y ≡ x = cc in
    ap goes_on (sym same) ∙ and_left (goes_on y) (leaves_pass goes_on es) h
leaf_passes_at (Pair j ∷ es) zero x h e = absurd cc
leaf_passes_at (Leaf y ∷ es) (suc k) x h e = leaf_passes_at es k x (and_right (goes_on y) (leaves_pass goes_on es) h) e
leaf_passes_at (Pair j ∷ es) (suc k) x h e = leaf_passes_at es k x h e

-- the leaves behind the second pair
leaf_behind : (k : ℕ) (x : Token) → 2 ≤ k → slice_get TOKEN_TREE k ≡ Some (Leaf x) → goes_on x ≡ true
leaf_behind zero x h e = absurd (omega arith)
leaf_behind (suc zero) x h e = absurd (omega arith)
leaf_behind (suc (suc k)) x h e = leaf_passes_at (drop 2 TOKEN_TREE) k x refl e

next_goes : (f : ℕ → reader.Reader Token) (k : ℕ) (o : Option (TreeEntry Token)) (s : State) → slice_get TOKEN_TREE k ≡ o → 2 ≤ k → ((j : ℕ) (u : State) → 2 ≤ j → goes_on (f j u).0 ≡ true)
    → goes_on (next Zero f o s).0 ≡ true
next_goes f k None s e h on = refl
next_goes f k (Some (Leaf x)) s e h on = leaf_behind k x h e
next_goes f k (Some (Pair j)) s e h on = on j s (let l = (further TOKEN_TREE k j refl e).later in omega arith)

walk_goes : (ps : List ℕ) (n i : ℕ) (s : State) → 2 ≤ i → goes_on (walk Zero TOKEN_TREE ps n i s).0 ≡ true
unfolding walk reader.bind
walk_goes ps zero i s h = refl
walk_goes ps (suc n) i s h =
    let r = read (slice_index ps (i / 2)) s in
    next_goes (walk Zero TOKEN_TREE ps n) (i + from_bool r.0) (slice_get TOKEN_TREE (i + from_bool r.0)) r.1 refl (omega arith) (λ j u b. walk_goes ps n j u b)

not_true : (b : Bool) → not b ≡ true → b ≡ false
not_true true h = absurd cc
not_true false h = refl

no_end : (bands : List (List (List ℕ))) (i context : ℕ) (s : State) → is_end (token bands i context 2 s).0 ≡ false
unfolding token walk_from
no_end bands i context s =
    let ps = row bands i context in
    let same = one_leaf TOKEN_TREE ps 2 s _ _ _ _ (walk_leads Zero TOKEN_TREE ps 2 s refl (omega arith)) (walk_leads EndOfBlock TOKEN_TREE ps 2 s refl (omega arith)) in
    not_true _ (ap goes_on (sym same.0) ∙ walk_goes ps 20 2 s (omega arith))

-- ---- the levels that are read end with one that isn't 0, or at the last position

record IsEnded (n from : ℕ) (xs : List ℤ) : Type 0 where
  ends : length xs < n → 0 < length xs → get_or xs (length xs - 1) (pos 0) ≢ pos 0
  goes : from ≡ 2 → 0 < n → 0 < length xs

sign_kept : (n : ℕ) (s : State) → (signed_level n s).0 ≡ pos 0 → n ≡ 0
unfolding signed_level reader.bind
sign_kept zero s h = refl
sign_kept (suc n) s h = signs (read 128 s).0 h
  where
    signs : (b : Bool) → (if b then neg_ℤ (pos (suc n)) else pos (suc n)) ≡ pos 0 → suc n ≡ 0
    signs true h = absurd cc
    signs false h = absurd cc

level_ended : (n from m : ℕ) (z : ℤ) (ys : List ℤ) → (z ≡ pos 0 → m ≡ 0) → IsEnded n (pair_after m) ys → IsEnded (suc n) from (z ∷ ys)
level_ended n from m z [] kept o = record {
  ends = λ short some nothing.
      let two : pair_after m ≡ 2 = rw (kept nothing) refl in
      let more : 0 < 0 = o.goes two (omega arith) in
      omega arith;
  goes = λ two some. omega arith;
}
level_ended n from m z (y ∷ ys) kept o = record {
  ends = λ short some.
      let at : suc (suc (length ys)) - 1 ≡ suc (length ys) = omega arith in
      let at' : suc (length ys) - 1 ≡ length ys = omega arith in
      rw at (rw at' at (o.ends (omega arith) (omega arith)));
  goes = λ two some. omega arith;
}

ended_or : (e : Bool) (g : reader.Reader (List ℤ)) (n from : ℕ) (u : State) → (from ≡ 2 → e ≡ false) → IsEnded n from (g u).0 → IsEnded n from ((if e then reader.give [] else g) u).0
ended_or true g n from u h o = record {
  ends = λ short some. absurd (omega arith);
  goes = λ two some. absurd (let no_two = h two in cc);
}
ended_or false g n from u h o = o

levels-end_of_block : (bands : List (List (List ℕ))) (n i context from : ℕ) (s : State) → IsEnded n from (levels bands n i context from s).0
unfolding levels reader.bind
levels-end_of_block bands zero i context from s = record { ends = λ short some. absurd (omega arith); goes = λ two some. absurd (omega arith) }
levels-end_of_block bands (suc n) i context from s =
    let r = token bands i context from s in
    let m = level_magnitude r.0 r.1 in
    let l = signed_level m.0 m.1 in
    let o = levels-end_of_block bands n (i + 1) (context_after m.0) (pair_after m.0) l.1 in
    ended_or (is_end r.0)
    (λ u. let m' = level_magnitude r.0 u in let l' = signed_level m'.0 m'.1 in let o' = levels bands n (i + 1) (context_after m'.0) (pair_after m'.0) l'.1 in (l'.0 ∷ o'.0, o'.1))
    (suc n) from r.1
    (λ two. rw two (no_end bands i context s))
    (level_ended n from m.0 l.0 _ (sign_kept m.0 m.1) o)

-- ---- a block

zeros-at : (n i : ℕ) → get_or (replicate n (pos 0)) i (pos 0) ≡ pos 0
zeros-at zero i = refl
zeros-at (suc n) zero = refl
zeros-at (suc n) (suc i) = zeros-at n i

none_spelled : (kind : BlockKind) → IsSpelledBlock kind no_tokens
none_spelled kind = record { before = λ i h. zeros-at 16 i; begun = λ h. absurd (omega arith); ended = λ h short. absurd (omega arith) }

with_spelled : (kind : BlockKind) (xs : List ℤ) → length xs ≤ 16 - first_of kind → IsEnded (16 - first_of kind) 0 xs → IsSpelledBlock kind (block_with (first_of kind) xs)
with_spelled kind [] h e = none_spelled kind
with_spelled kind (x ∷ xs) h e =
    let first = first_of kind in
    let small = first_small kind in
    let zeros = replicate first (pos 0) in
    let rest = replicate (16 - first - suc (length xs)) (pos 0) in
    let wide : length zeros ≡ first = length-replicate first (pos 0) in
    record {
      before = λ i b. get_or_append_left zeros ((x ∷ xs) ++ rest) (pos 0) i (omega arith) ∙ zeros-at first i;
      begun = λ some. omega arith;
      ended = λ some short nothing.
          let last = suc (length xs) - 1 in
          let at : first + suc (length xs) - 1 ≡ length zeros + last = omega arith in
          let here : get_or (zeros ++ ((x ∷ xs) ++ rest)) (first + suc (length xs) - 1) (pos 0) ≡ get_or (x ∷ xs) last (pos 0) =
          ap (λ n. get_or (zeros ++ ((x ∷ xs) ++ rest)) n (pos 0)) at ∙ get_or-append-add zeros ((x ∷ xs) ++ rest) last (pos 0) ∙ get_or_append_left (x ∷ xs) rest (pos 0) last (omega arith) in
          e.ends (omega arith) (omega arith) (sym here ∙ nothing);
    }

pub block-spelled : (p : Probabilities) (kind : BlockKind) (context : ℕ) (s : State) → IsSpelledBlock kind (coefficient_block p kind context s).0
unfolding coefficient_block reader.bind
block-spelled p kind context s =
    with_spelled kind _ (length-levels (bands_of p kind) (16 - first_of kind) (first_of kind) context 0 s) (levels-end_of_block (bands_of p kind) (16 - first_of kind) (first_of kind) context 0 s)

-- ---- all blocks

record AreToBe (has_y2 : Bool) (blocks : List Block) : Type 0 where
  each : (k : ℕ) → IsSpelledBlock (kind_of has_y2 k) (get_or blocks k no_tokens)
  no_y2 : has_y2 ≡ false → get_or blocks 0 no_tokens ≡ no_tokens

none_at : (n k : ℕ) → get_or (replicate n no_tokens) k no_tokens ≡ no_tokens
none_at zero k = refl
none_at (suc n) zero = refl
none_at (suc n) (suc k) = none_at n k

none_to_be : (has_y2 : Bool) → AreToBe has_y2 no_blocks
none_to_be has_y2 = record { each = λ k. rw (none_at 25 k) (none_spelled (kind_of has_y2 k)); no_y2 = λ h. refl }

set_to_be : (has_y2 : Bool) (k : ℕ) (b : Block) (blocks : List Block) → is_there has_y2 k ≡ true → IsSpelledBlock (kind_of has_y2 k) b → AreToBe has_y2 blocks → AreToBe has_y2 (slice_set blocks k b)
set_to_be has_y2 k b blocks there spelled all = record {
  each = λ j. elim (cases_eq j k) [
    | inl same ↦ elim (cases_lt k (length blocks)) [
      | inl within ↦ rw (same, get_or-set_same blocks k b no_tokens within) spelled
      | inr past ↦ rw (set_past blocks k b past) (all.each j)
    ]
    | inr other ↦ rw (get_or-set_other blocks k j b no_tokens other) (all.each j)
  ];
  no_y2 = λ without.
      let behind : 0 ≢ k = λ z. let yes : has_y2 ≡ true = subst (λ (n : ℕ). is_there has_y2 n ≡ true) (sym z) there in cc in
      get_or-set_other blocks k 0 b no_tokens behind ∙ all.no_y2 without;
}

when_to_be : (has_y2 there : Bool) (m : reader.Reader (List Block)) (blocks : List Block) (s : State) → AreToBe has_y2 blocks → (there ≡ true → AreToBe has_y2 (m s).0) → AreToBe has_y2 (reader.when there m blocks s).0
when_to_be has_y2 true m blocks s all more = more refl
when_to_be has_y2 false m blocks s all more = all

module _ (p : Probabilities) (has_y2 : Bool) (context : List Bool → ℕ → ℕ) where
  at_to_be : (k : ℕ) (blocks : List Block) (s : State) → AreToBe has_y2 blocks → AreToBe has_y2 (block_at p has_y2 context k blocks s).0
  unfolding block_at reader.bind
  at_to_be k blocks s all =
      when_to_be has_y2 (is_there has_y2 k) _ blocks s all (λ there. set_to_be has_y2 k _ blocks there (block-spelled p (kind_of has_y2 k) (context (had_of blocks) k) s) all)

  rows_to_be : (n : ℕ) (blocks : List Block) (s : State) → AreToBe has_y2 blocks → AreToBe has_y2 (reader.rows n (block_at p has_y2 context) blocks s).0
  unfolding reader.rows reader.bind
  rows_to_be zero blocks s all = all
  rows_to_be (suc n) blocks s all = at_to_be n _ _ (rows_to_be n blocks s all)

  pub all_spelled : (skipped : Bool) (s : State) → AreSpelled has_y2 (all_blocks p has_y2 skipped context s).0
  all_spelled skipped s =
      let all = when_to_be has_y2 (not skipped) (reader.rows 25 (block_at p has_y2 context) no_blocks) no_blocks s (none_to_be has_y2) (λ there. rows_to_be 25 no_blocks s (none_to_be has_y2)) in
      record { each = λ k h. all.each k; no_y2 = all.no_y2 }

  pub skipped_none : (skipped : Bool) (s : State) → skipped ≡ true → (all_blocks p has_y2 skipped context s).0 ≡ no_blocks
  skipped_none skipped s e = rw e refl
