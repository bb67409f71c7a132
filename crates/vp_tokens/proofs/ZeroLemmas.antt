-- Zeros that are passed leave the levels as they are.
use Rattle.std.proofs.Common.{◌≡◌, ◌∙◌, ℕ, ℤ, pos, zero, suc, ◌+◌, ◌-◌, ◌≤◌, Bool, true, false, List, Option, Some, None, refl, sym, ap, arith, inl, inr, ◌<◌}
use Rattle.std.specs.Prelude.{slice_index, slice_set, if◌then◌else◌}
use Rattle.std.proofs.lemmas.Bool.{ne_eqb}
use Rattle.std.proofs.lemmas.List.{set-get_or}
use Rattle.vp_bool.specs.Bools.{State, read}
use Rattle.vp_bool.specs.Reader as reader
use Rattle.vp_bool.specs.Reader.{Reader, ◌>>=◌, give}
use Rattle.vp_tables.specs.declared.modes.Token.{Token}
use Rattle.vp_tables.specs.declared.modes.Token.TheVariants as token_is
use Rattle.vp_tables.specs.Tables.{least_magnitude, extra_probabilities}
use Rattle.vp_tree.specs.Tree.{walk_from}
use Rattle.vp_tables.specs.declared.trees.TheConstants.{TOKEN_TREE}
use Rattle.vp_tokens.specs.Block.{Block, level_of, IsBlock}
use Rattle.vp_tokens.specs.Levels.{bits, level_magnitude, signed_level, token, is_end, row}
use Rattle.vp_tokens.specs.Pieces.{context_after, pair_after}
use Rattle.vp_tokens.specs.Walks.{one_of, categories_3_6, any_category, two_to_four, above_one, nonzero, more, end_of_block, is_nonzero}
use Rattle.vp_tokens.specs.Zeros.{NonzeroAt, zeros}
use Rattle.vp_tokens.proofs.LevelLemmas.{tokens_from, level_end}
use Rattle.vp_tokens.proofs.WalkLemmas.{walk-goes, walk-end_of_block}

-- ---- a token that isn't 0

pick : (b : Bool) (x y : Token) → is_nonzero x ≡ true → is_nonzero y ≡ true → is_nonzero (if b then x else y) ≡ true
pick true x y h k = h
pick false x y h k = k

either : (b : Bool) (f g : Reader Token) (u : State) → is_nonzero (f u).0 ≡ true → is_nonzero (g u).0 ≡ true → is_nonzero ((if b then f else g) u).0 ≡ true
either true f g u h k = h
either false f g u h k = k

module _ (row : List ℕ) where
  in_one : (i : ℕ) (low high : Token) (s : State) → is_nonzero low ≡ true → is_nonzero high ≡ true → is_nonzero (one_of i low high row s).0 ≡ true
  unfolding reader.bind
  in_one i low high s l h = pick (read (slice_index row i) s).0 high low h l

  in_categories_3_6 : (s : State) → is_nonzero (categories_3_6 row s).0 ≡ true
  unfolding categories_3_6 reader.bind
  in_categories_3_6 s =
      let r = read (slice_index row 8) s in
      either r.0 _ _ r.1 (in_one 10 token_is.Category5 token_is.Category6 r.1 refl refl) (in_one 9 token_is.Category3 token_is.Category4 r.1 refl refl)

  in_any_category : (s : State) → is_nonzero (any_category row s).0 ≡ true
  unfolding any_category reader.bind
  in_any_category s =
      let r = read (slice_index row 6) s in
      either r.0 _ _ r.1 (in_categories_3_6 r.1) (in_one 7 token_is.Category1 token_is.Category2 r.1 refl refl)

  in_two_to_four : (s : State) → is_nonzero (two_to_four row s).0 ≡ true
  unfolding two_to_four reader.bind
  in_two_to_four s =
      let r = read (slice_index row 4) s in
      either r.0 _ (give token_is.Two) r.1 (in_one 5 token_is.Three token_is.Four r.1 refl refl) refl

  in_above_one : (s : State) → is_nonzero (above_one row s).0 ≡ true
  unfolding above_one reader.bind
  in_above_one s =
      let r = read (slice_index row 3) s in
      either r.0 _ _ r.1 (in_any_category r.1) (in_two_to_four r.1)

  in_nonzero : (s : State) → is_nonzero (nonzero row s).0 ≡ true
  unfolding nonzero reader.bind
  in_nonzero s =
      let r = read (slice_index row 2) s in
      either r.0 _ (give token_is.One) r.1 (in_above_one r.1) refl

goes_on : (t : Token) → is_nonzero t ≡ true → is_end t ≡ false
goes_on token_is.EndOfBlock h = absurd cc
goes_on token_is.Zero h = refl
goes_on token_is.One h = refl
goes_on token_is.Two h = refl
goes_on token_is.Three h = refl
goes_on token_is.Four h = refl
goes_on token_is.Category1 h = refl
goes_on token_is.Category2 h = refl
goes_on token_is.Category3 h = refl
goes_on token_is.Category4 h = refl
goes_on token_is.Category5 h = refl
goes_on token_is.Category6 h = refl

least : (t : Token) → is_nonzero t ≡ true → 1 ≤ least_magnitude t
unfolding least_magnitude
least token_is.EndOfBlock h = absurd cc
least token_is.Zero h = absurd cc
least token_is.One h = omega arith
least token_is.Two h = omega arith
least token_is.Three h = omega arith
least token_is.Four h = omega arith
least token_is.Category1 h = omega arith
least token_is.Category2 h = omega arith
least token_is.Category3 h = omega arith
least token_is.Category4 h = omega arith
least token_is.Category5 h = omega arith
least token_is.Category6 h = omega arith

large : (t : Token) (s : State) → is_nonzero t ≡ true → 1 ≤ (level_magnitude t s).0
unfolding level_magnitude reader.bind
large t s h = omega (arith, least t h)

-- after it, the end of block may be coded
first_pair : (n : ℕ) → 1 ≤ n → pair_after n ≡ 0
first_pair n h = rw (ne_eqb n 0 (λ e. absurd (omega arith))) refl

-- ---- the tokens of a block by its zeros

module _ (bands : List (List (List ℕ))) where
  -- the block after these levels: a token that isn't 0 follows, or none at all
  unfoldable pub from_nonzero : List ℤ → Option NonzeroAt → Reader Block
  from_nonzero levels None = give (record { levels = levels; end = 16 })
  from_nonzero levels (Some next) = do
    t ← nonzero next.row
    s ← level_magnitude t
    level ← signed_level s
    tokens_from bands (16 - (next.position + 1)) (next.position + 1) (context_after s) 0 (record { levels = slice_set levels next.position level; end = next.position + 1 })

  abbrev after : ℕ → ℕ → Block → Token → Reader Block
  after n i b t = if is_end t then give b else (do
    s ← level_magnitude t
    level ← signed_level s
    tokens_from bands n (i + 1) (context_after s) (pair_after s) (record { levels = slice_set b.levels i level; end = i + 1 }))

  token-more : (i context : ℕ) (s : State) → token bands i context 2 s ≡ more (row bands i context) s
  unfolding token end_of_block
  token-more i context s = sym (walk-goes (row bands i context) 2 s s (inr refl) refl refl)

  after-nonzero : (n i context : ℕ) (b : Block) (u : State) → i + suc n ≡ 16
      → (let t = nonzero (row bands i context) u in after n i b t.0 t.1) ≡ from_nonzero b.levels (Some (record { position = i; row = row bands i context })) u
  unfolding from_nonzero reader.bind
  after-nonzero n i context b u all =
      let t = nonzero (row bands i context) u in
      let here = in_nonzero (row bands i context) u in
      let left : n ≡ 16 - (i + 1) = omega arith in
      rw (goes_on t.0 here, first_pair (level_magnitude t.0 t.1).0 (large t.0 t.1 here), left) refl

  after-zero : (n i : ℕ) (b : Block) (u : State) → level_of b i ≡ pos 0
      → after n i b token_is.Zero u ≡ tokens_from bands n (i + 1) 0 2 (record { levels = b.levels; end = i + 1 }) u
  unfolding reader.bind level_magnitude bits signed_level least_magnitude extra_probabilities
  after-zero n i b u none =
      let same : slice_set b.levels i (pos 0) ≡ b.levels = ap (λ (z : ℤ). slice_set b.levels i z) (sym none) ∙ set-get_or b.levels i (pos 0) in
      ap (λ (levels : List ℤ). tokens_from bands n (i + 1) 0 2 (record { levels = levels; end = i + 1 }) u) same

  split : (n i context : ℕ) (b : Block) (going : Bool) (u : State) → i + suc n ≡ 16 → level_of b i ≡ pos 0
      → ((v : State) → tokens_from bands n (i + 1) 0 2 (record { levels = b.levels; end = i + 1 }) v ≡ (let z = zeros bands n (i + 1) 0 v in from_nonzero b.levels z.0 z.1))
      → (let t = (if going then nonzero (row bands i context) else give token_is.Zero) u in after n i b t.0 t.1)
      ≡ (let z = (if going then give (Some (record { position = i; row = row bands i context })) else zeros bands n (i + 1) 0) u in from_nonzero b.levels z.0 z.1)
  split n i context b true u all none others = after-nonzero n i context b u all
  split n i context b false u all none others = after-zero n i b u none ∙ others u

  pub zeros-passed : (n i context : ℕ) (b : Block) (s : State) → i + n ≡ 16 → ((k : ℕ) → i ≤ k → level_of b k ≡ pos 0) → (n ≡ 0 → b.end ≡ i)
      → tokens_from bands n i context 2 b s ≡ (let z = zeros bands n i context s in from_nonzero b.levels z.0 z.1)
  unfolding tokens_from zeros from_nonzero more reader.bind
  zeros-passed zero i context b s all none ends =
      let full : b.end ≡ 16 = ends refl ∙ omega arith in
      ap (λ (n : ℕ). let w : Block = record { levels = b.levels; end = n } in (w, s)) full
  zeros-passed (suc n) i context b s all none ends =
      let r = read (slice_index (row bands i context) 1) s in
      ap (λ (t : Token × State). after n i b t.0 t.1) (token-more i context s)
      ∙ split n i context b r.0 r.1 all (none i (omega arith)) (λ v. zeros-passed n (i + 1) 0 (record { levels = b.levels; end = i + 1 }) v (omega arith) (λ k h. none k (omega arith)) (λ e. refl))

  -- ---- what the loops read

  pub zeros-found : (i context : ℕ) (r : List ℕ) (s u : State) → i < 16 → r ≡ row bands i context → (read (slice_index r 1) s).0 ≡ true → u ≡ (read (slice_index r 1) s).1
      → zeros bands (16 - i) i context s ≡ (Some (record { position = i; row = r }), u)
  unfolding zeros reader.bind
  zeros-found i context r s u lt e b v =
      let k : 16 - i ≡ suc (16 - (i + 1)) = omega arith in
      rw (k, sym e, b, v) refl

  pub zeros-more : (i context : ℕ) (r : List ℕ) (s u : State) → i < 16 → r ≡ row bands i context → (read (slice_index r 1) s).0 ≡ false → u ≡ (read (slice_index r 1) s).1
      → zeros bands (16 - i) i context s ≡ zeros bands (16 - (i + 1)) (i + 1) 0 u
  unfolding zeros reader.bind
  zeros-more i context r s u lt e b v =
      let k : 16 - i ≡ suc (16 - (i + 1)) = omega arith in
      rw (k, sym e, b, v) refl

  pub zeros-done : (i context : ℕ) (s : State) → 16 ≤ i → zeros bands (16 - i) i context s ≡ (None, s)
  unfolding zeros
  zeros-done i context s le =
      let k : 16 - i ≡ 0 = omega arith in
      rw k refl

  pub block-ends : (i context : ℕ) (r : List ℕ) (b : Block) (s u : State) → i < 16 → r ≡ row bands i context → (end_of_block r 0 s).0 ≡ true → u ≡ (end_of_block r 0 s).1
      → tokens_from bands (16 - i) i context 0 b s ≡ (b, u)
  unfolding token
  block-ends i context r b s u lt e h v =
      let ended : (token_is.EndOfBlock, u) ≡ token bands i context 0 s =
      walk-end_of_block r 0 s u (sym h) v ∙ ap (λ (ps : List ℕ). walk_from token_is.EndOfBlock TOKEN_TREE ps 0 s) e in
      level_end bands i context 0 token_is.EndOfBlock b s u lt (ap (λ (z : Token × State). z.0) ended) (ap (λ (z : Token × State). z.1) ended) refl

  token-after : (i context : ℕ) (r : List ℕ) (s u : State) → r ≡ row bands i context → (end_of_block r 0 s).0 ≡ false → u ≡ (end_of_block r 0 s).1
      → token bands i context 0 s ≡ token bands i context 2 u
  unfolding token
  token-after i context r s u e h v =
      sym (walk-goes r 0 s u (inl refl) (sym h) v ∙ ap (λ (ps : List ℕ). walk_from token_is.EndOfBlock TOKEN_TREE ps 0 s) e)
      ∙ ap (λ (ps : List ℕ). more ps u) e
      ∙ sym (token-more i context u)

  pub block-goes_on : (i context : ℕ) (r : List ℕ) (b : Block) (s u : State) → i < 16 → r ≡ row bands i context → (end_of_block r 0 s).0 ≡ false → u ≡ (end_of_block r 0 s).1
      → tokens_from bands (16 - i) i context 0 b s ≡ tokens_from bands (16 - i) i context 2 b u
  unfolding tokens_from reader.bind
  block-goes_on i context r b s u lt e h v =
      let k : 16 - i ≡ suc (16 - (i + 1)) = omega arith in
      rw k (ap (λ (t : Token × State). after (16 - (i + 1)) i b t.0 t.1) (token-after i context r s u e h v))

  pub passed : (i context : ℕ) (b : Block) (z : Option NonzeroAt) (s u : State) → i < 16 → IsBlock b → b.end ≤ i → z ≡ (zeros bands (16 - i) i context s).0 → u ≡ (zeros bands (16 - i) i context s).1
      → tokens_from bands (16 - i) i context 2 b s ≡ from_nonzero b.levels z u
  passed i context b z s u lt good below p q =
      zeros-passed (16 - i) i context b s (omega arith) (λ k h. good.behind k (omega arith)) (λ e. absurd (omega arith))
      ∙ sym (λ j. from_nonzero b.levels (p j) (q j))

  pub all_zeros : (levels : List ℤ) (u : State) → from_nonzero levels None u ≡ (let b : Block = record { levels = levels; end = 16 } in (b, u))
  unfolding from_nonzero
  all_zeros levels u = refl

  pub nonzero-read : (levels : List ℤ) (next : NonzeroAt) (n : ℕ) (t : Token) (level : ℤ) (s u v w : State) → t ≡ (nonzero next.row s).0 → u ≡ (nonzero next.row s).1
      → n ≡ (level_magnitude t u).0 → v ≡ (level_magnitude t u).1 → level ≡ (signed_level n v).0 → w ≡ (signed_level n v).1
      → from_nonzero levels (Some next) s
      ≡ tokens_from bands (16 - (next.position + 1)) (next.position + 1) (context_after n) 0 (record { levels = slice_set levels next.position level; end = next.position + 1 }) w
  unfolding from_nonzero reader.bind
  nonzero-read levels next n t level s u v w p q x y z a = rw (a, z, y, x, q, p) refl
