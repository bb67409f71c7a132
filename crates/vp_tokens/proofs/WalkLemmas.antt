-- The walk of the token tree, pair by pair.
use Rattle.std.proofs.Common.{◌≡◌, ℕ, zero, suc, ◌+◌, inl, inr, Bool, true, false, List, refl, sym, ap, ◌∙◌, arith}
use Rattle.std.specs.Prelude.{slice_index, slice_get, if◌then◌else◌, not}
use Rattle.std.specs.Int.{from_bool}
use Rattle.vp_bool.specs.Bools.{State, read}
use Rattle.vp_bool.specs.Reader as reader
use Rattle.vp_bool.specs.Reader.{Reader, ◌>>=◌, give}
use Rattle.vp_tree.specs.Tree.{walk, walk_from, next}
use Rattle.vp_tables.specs.declared.modes.Token.{Token}
use Rattle.vp_tables.specs.declared.modes.Token.TheVariants as token_is
use Rattle.vp_tables.specs.declared.trees.TheConstants.{TOKEN_TREE}
use Rattle.vp_tokens.specs.Walks.{one_of, categories_3_6, any_category, two_to_four, above_one, nonzero, more, end_of_block, IsStart}

module _ (row : List ℕ) where
  abbrev step : ℕ → ℕ → Bool → Reader Token
  step n i b = next token_is.EndOfBlock (walk token_is.EndOfBlock TOKEN_TREE row n) (slice_get TOKEN_TREE (i + from_bool b))

  at_20 : (n : ℕ) (b : Bool) (u : State) → step n 20 b u ≡ ((if b then token_is.Category6 else token_is.Category5), u)
  at_20 n true u = refl
  at_20 n false u = refl

  at_18 : (n : ℕ) (b : Bool) (u : State) → step n 18 b u ≡ ((if b then token_is.Category4 else token_is.Category3), u)
  at_18 n true u = refl
  at_18 n false u = refl

  at_14 : (n : ℕ) (b : Bool) (u : State) → step n 14 b u ≡ ((if b then token_is.Category2 else token_is.Category1), u)
  at_14 n true u = refl
  at_14 n false u = refl

  at_10 : (n : ℕ) (b : Bool) (u : State) → step n 10 b u ≡ ((if b then token_is.Four else token_is.Three), u)
  at_10 n true u = refl
  at_10 n false u = refl

  at_16 : (n : ℕ) (b : Bool) (u : State) → step (suc n) 16 b u ≡ (if b then one_of 10 token_is.Category5 token_is.Category6 row else one_of 9 token_is.Category3 token_is.Category4 row) u
  unfolding walk reader.bind
  at_16 n true u = at_20 n (read (slice_index row 10) u).0 (read (slice_index row 10) u).1
  at_16 n false u = at_18 n (read (slice_index row 9) u).0 (read (slice_index row 9) u).1

  at_12 : (n : ℕ) (b : Bool) (u : State) → step (suc (suc n)) 12 b u ≡ (if b then categories_3_6 row else one_of 7 token_is.Category1 token_is.Category2 row) u
  unfolding walk reader.bind categories_3_6
  at_12 n true u = at_16 n (read (slice_index row 8) u).0 (read (slice_index row 8) u).1
  at_12 n false u = at_14 (suc n) (read (slice_index row 7) u).0 (read (slice_index row 7) u).1

  at_8 : (n : ℕ) (b : Bool) (u : State) → step (suc n) 8 b u ≡ (if b then one_of 5 token_is.Three token_is.Four row else give token_is.Two) u
  unfolding walk reader.bind
  at_8 n true u = at_10 n (read (slice_index row 5) u).0 (read (slice_index row 5) u).1
  at_8 n false u = refl

  at_6 : (n : ℕ) (b : Bool) (u : State) → step (suc (suc (suc n))) 6 b u ≡ (if b then any_category row else two_to_four row) u
  unfolding walk reader.bind any_category two_to_four
  at_6 n true u = at_12 n (read (slice_index row 6) u).0 (read (slice_index row 6) u).1
  at_6 n false u = at_8 (suc n) (read (slice_index row 4) u).0 (read (slice_index row 4) u).1

  at_4 : (n : ℕ) (b : Bool) (u : State) → step (suc (suc (suc (suc n)))) 4 b u ≡ (if b then above_one row else give token_is.One) u
  unfolding walk reader.bind above_one
  at_4 n true u = at_6 n (read (slice_index row 3) u).0 (read (slice_index row 3) u).1
  at_4 n false u = refl

  at_2 : (n : ℕ) (b : Bool) (u : State) → step (suc (suc (suc (suc (suc n))))) 2 b u ≡ (if b then nonzero row else give token_is.Zero) u
  unfolding walk reader.bind nonzero
  at_2 n true u = at_4 n (read (slice_index row 2) u).0 (read (slice_index row 2) u).1
  at_2 n false u = refl

  walk-more : (n : ℕ) (u : State) → walk token_is.EndOfBlock TOKEN_TREE row (suc (suc (suc (suc (suc (suc n)))))) 2 u ≡ more row u
  unfolding walk reader.bind more
  walk-more n u = at_2 n (read (slice_index row 1) u).0 (read (slice_index row 1) u).1

  at_0 : (b : Bool) (u : State) → step 21 0 b u ≡ (if b then more row else give token_is.EndOfBlock) u
  at_0 true u = walk-more 15 u
  at_0 false u = refl

  not_true : (b : Bool) → true ≡ not b → b ≡ false
  not_true true e = e
  not_true false e = refl

  not_false : (b : Bool) → false ≡ not b → b ≡ true
  not_false true e = refl
  not_false false e = e

  -- a walk that has ended, and one that goes on
  pub walk-end_of_block : (from : ℕ) (s u : State) → true ≡ (end_of_block row from s).0 → u ≡ (end_of_block row from s).1 → (token_is.EndOfBlock, u) ≡ walk_from token_is.EndOfBlock TOKEN_TREE row from s
  unfolding end_of_block walk_from walk reader.bind
  walk-end_of_block zero s u b v =
      let first = read (slice_index row 0) s in
      rw v (sym (ap (λ (x : Bool). step 21 0 x first.1) (not_true first.0 b)))
  walk-end_of_block (suc n) s u b v = absurd cc

  pub walk-goes : (from : ℕ) (s u : State) → IsStart from → false ≡ (end_of_block row from s).0 → u ≡ (end_of_block row from s).1 → more row u ≡ walk_from token_is.EndOfBlock TOKEN_TREE row from s
  unfolding end_of_block walk_from walk reader.bind
  walk-goes zero s u st b v =
      let first = read (slice_index row 0) s in
      rw v (sym (ap (λ (x : Bool). step 21 0 x first.1) (not_false first.0 b) ∙ at_0 true first.1))
  walk-goes (suc zero) s u st b v = absurd (elim st [ inl e ↦ cc | inr e ↦ omega arith ])
  walk-goes (suc (suc zero)) s u st b v = rw v (sym (walk-more 14 s))
  walk-goes (suc (suc (suc n))) s u st b v = absurd (elim st [ inl e ↦ cc | inr e ↦ omega arith ])
