-- The walk of the token tree in two parts, and how they are written.
use Rattle.std.proofs.Common.{◌≡◌, ◌⊎◌, inl, inr, ℕ, Bool, true, false, List, refl, sym}
use Rattle.std.specs.Prelude.{slice_index, not, if◌then◌else◌}
use Rattle.vp_bool.specs.Bools.{State, read}
use Rattle.vp_bool.specs.Reader as reader
use Rattle.vp_bool.specs.Reader.{Reader, ◌>>=◌, give}
use Rattle.vp_bool.specs.Intervals.{Interval}
use Rattle.vp_bool.specs.Writing.{Writes, Continues}
use Rattle.vp_bool.proofs.WritingLemmas.{Writes-then, Continues-none, Continues-given, Continues-same, Continues-then}
use Rattle.vp_tree.specs.Tree.{walk_from}
use Rattle.vp_tables.specs.declared.modes.Token.{Token}
use Rattle.vp_tables.specs.declared.modes.Token.TheVariants as token_is
use Rattle.vp_tables.specs.declared.trees.TheConstants.{TOKEN_TREE}
use Rattle.vp_tokens.specs.Walks.{more, nonzero, end_of_block, IsStart}
use Rattle.vp_tokens.proofs.WalkLemmas.{walk-end_of_block, walk-goes}

module _ (row : List ℕ) where
  -- the token, once it is known whether the block ends
  abbrev pub after_end : Bool → Reader Token
  after_end true = give token_is.EndOfBlock
  after_end false = more row

  by_end : (from : ℕ) (s : State) (ends : Bool) → IsStart from → ends ≡ (end_of_block row from s).0
      → walk_from token_is.EndOfBlock TOKEN_TREE row from s ≡ after_end ends (end_of_block row from s).1
  by_end from s true start e = sym (walk-end_of_block row from s _ e refl)
  by_end from s false start e = sym (walk-goes row from s _ start e refl)

  walk_parts : (from : ℕ) (s : State) → IsStart from → walk_from token_is.EndOfBlock TOKEN_TREE row from s ≡ (end_of_block row from >>= after_end) s
  unfolding reader.bind
  walk_parts from s start = by_end from s (end_of_block row from s).0 start refl

  pub walk_written : (from : ℕ) (ends : Bool) (what : Token) {old mid new : Interval} → IsStart from → Writes (end_of_block row from) old mid ends
      → Writes (after_end ends) mid new what → Writes (walk_from token_is.EndOfBlock TOKEN_TREE row from) old new what
  walk_written from ends what start first rest = Continues-then (Continues-same (λ s. walk_parts from s start) _) (Writes-then after_end first rest)

  not_not : (b : Bool) → not (not b) ≡ b
  not_not true = refl
  not_not false = refl

  pub end_coded : (ends : Bool) {old new : Interval} → Writes (read (slice_index row 0)) old new (not ends) → Writes (end_of_block row 0) old new ends
  unfolding end_of_block
  end_coded ends w = Writes-then _ w (Continues-given (not_not ends) _)

  pub end_uncoded : (from : ℕ) (ends : Bool) (old : Interval) → from ≡ 2 → ends ≡ false → Writes (end_of_block row from) old old ends
  unfolding end_of_block
  end_uncoded from ends old e f = rw (e, f) (Continues-none _ _)

  -- whether the next level is nonzero, once the block goes on
  pub front_written : (from : ℕ) (b : Bool) {old mid new : Interval} → IsStart from → Writes (end_of_block row from) old mid false
      → Writes (read (slice_index row 1)) mid new b → Continues (walk_from token_is.EndOfBlock TOKEN_TREE row from) (if b then nonzero row else give token_is.Zero) old new
  unfolding more
  front_written from b start first w = Continues-then (Continues-same (λ s. walk_parts from s start) _) (Writes-then after_end first (Writes-then _ w (Continues-none _ _)))

  pub one_written : {old mid new : Interval} {m : Reader Token} → Continues m (nonzero row) old mid → Writes (read (slice_index row 2)) mid new false → Writes m old new token_is.One
  unfolding nonzero
  one_written front w = Continues-then front (Writes-then _ w (Continues-none _ _))

pub start : {from : ℕ} {P : Type 0} → (from ≡ 0) ⊎ ((from ≡ 2) × P) → IsStart from
start (inl e) = inl e
start (inr e) = inr e.0
