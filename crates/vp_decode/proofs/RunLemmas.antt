-- Parsers read bools and nothing else: the frame header, the modes, the motion and the tokens.
use Rattle.std.proofs.Common.{[]}
use Rattle.vp_decode.proofs.Words.{◌≡◌, ◌∙◌, ℕ, zero, suc, Bool, true, false, cond, List, ◌∷◌, ◌++◌, Option, Some, None, refl, sym, ap, State, read, literal, after_bools, Reader, bind, give, when, rows, each, Place, Grid, Header, Saved, Tag, magnitude, optional_signed, renewed, four_signed, segment_values, tree_probabilities, segmentation, level_deltas, quantiser_indices, copy, refreshes, skip, reference_probabilities, frame, frame_and_kept, header, segment_of, skip_by, inter_reference, reference_of, luma_mode, chroma_mode, sub_row, sub_modes, intra_modes, modes_at, Vector, MacroblockMotion, Candidates, with_bit, long_size, component_magnitude, component, vector, new_vector, part_by, part_vector, part_row, split_vectors, vector_mode, vectors_by, motion_by, motion_at, Probabilities, bits, level_magnitude, signed_level, token, levels, coefficient_block, Blocks, block_at, macroblock, FrameInfo, tokens_at, seen_read, row_seen, MacroblockMaps, motion_read, macroblock_read, row_read, maps_read}
use Rattle.vp_tree.specs.declared.entry.TreeEntry.{TreeEntry}
use Rattle.vp_tree.specs.declared.entry.TreeEntry.TheVariants.{Leaf, Pair}
use Rattle.vp_tree.specs.Tree.{next, walk, walk_from}
use Rattle.vp_tables.specs.declared.modes.PartMode.{PartMode}
use Rattle.vp_tables.specs.declared.modes.PartMode.TheVariants as part_is
use Rattle.vp_tables.specs.declared.modes.VectorMode.{VectorMode}
use Rattle.vp_tables.specs.declared.modes.VectorMode.TheVariants as vector_is
use Rattle.vp_head.specs.Probabilities.{token_probability_updates, luma_mode_probabilities, chroma, vector_renewed, vectors}
use Rattle.vp_head.specs.Header.{filter}

-- t is the state after bools that are read from s on
pub record IsRun (s t : State) : Type 0 where
  pub probabilities : List ℕ
  pub after : t ≡ after_bools probabilities s

-- in every state a parser reads bools
pub record ReadsBools {A : Type 0} (m : Reader A) : Type 0 where
  pub run : (s : State) → IsRun s (m s).1

after-append : (ps qs : List ℕ) (s : State) → after_bools (ps ++ qs) s ≡ after_bools qs (after_bools ps s)
unfolding after_bools
after-append [] qs s = refl
after-append (p ∷ ps) qs s = after-append ps qs (read p s).1

pub run-none : (s : State) → IsRun s s
unfolding after_bools
run-none s = record { probabilities = []; after = refl }

pub run-join : (s t u : State) → IsRun s t → IsRun t u → IsRun s u
run-join s t u a b = record {
  probabilities = a.probabilities ++ b.probabilities;
  after = b.after ∙ ap (after_bools b.probabilities) a.after ∙ sym (after-append a.probabilities b.probabilities s);
}

by_give : {A : Type 0} (a : A) → ReadsBools (give a)
by_give a = record { run = run-none }

by_read : (p : ℕ) → ReadsBools (read p)
unfolding after_bools
by_read p = record { run = λ s. record { probabilities = p ∷ []; after = refl } }

by_bind : {A B : Type 0} (m : Reader A) (f : A → Reader B) → ReadsBools m → ((a : A) → ReadsBools (f a)) → ReadsBools (bind m f)
unfolding bind
by_bind m f h k = record { run = λ s. run-join s (m s).1 (f (m s).0 (m s).1).1 (h.run s) ((k (m s).0).run (m s).1) }

by_when : {A : Type 0} (b : Bool) (m : Reader A) (a : A) → ReadsBools m → ReadsBools (when b m a)
by_when true m a h = h
by_when false m a h = by_give a

by_if : {A : Type 0} (b : Bool) (m n : Reader A) → ReadsBools m → ReadsBools n → ReadsBools (cond b m n)
by_if true m n h k = h
by_if false m n h k = k

by_rows : {A : Type 0} (n : ℕ) (row : ℕ → A → Reader A) (a : A) → ((i : ℕ) (b : A) → ReadsBools (row i b)) → ReadsBools (rows n row a)
unfolding rows
by_rows zero row a h = by_give a
by_rows (suc n) row a h = by_bind (rows n row a) (row n) (by_rows n row a h) (h n)

by_each : {X : Type 0} (default : X) (n : ℕ) (row : ℕ → X → Reader X) (xs : List X) → ((i : ℕ) (x : X) → ReadsBools (row i x)) → ReadsBools (each default n row xs)
unfolding each
by_each default zero row xs h = by_give xs
by_each default (suc n) row xs h = by_bind _ _ (by_each default n row xs h) (λ ys. by_bind _ _ (h n _) (λ y. by_give _))

by_literal : (n : ℕ) → ReadsBools (literal n)
unfolding literal
by_literal zero = record { run = run-none }
by_literal (suc n) = record { run = λ s. run-join s (read 128 s).1 (literal n (read 128 s).1).1 ((by_read 128).run s) ((by_literal n).run (read 128 s).1) }

by_next : {T : Type 0} (default : T) (further : ℕ → Reader T) (e : Option (TreeEntry T)) → ((j : ℕ) → ReadsBools (further j)) → ReadsBools (next default further e)
by_next default further None h = by_give default
by_next default further (Some (Leaf x)) h = by_give x
by_next default further (Some (Pair j)) h = h j

by_walk : {T : Type 0} (default : T) (t : List (TreeEntry T)) (ps : List ℕ) (n i : ℕ) → ReadsBools (walk default t ps n i)
unfolding walk
by_walk default t ps zero i = by_give default
by_walk default t ps (suc n) i = let more = by_walk default t ps n in search (by_bind, by_read, by_next, more)

by_walk_from : {T : Type 0} (default : T) (t : List (TreeEntry T)) (ps : List ℕ) (i : ℕ) → ReadsBools (walk_from default t ps i)
unfolding walk_from
by_walk_from default t ps i = by_walk default t ps _ i

ruleset by_parts = (by_bind, by_give, by_read, by_when, by_if, by_literal, by_walk_from, by_each, by_rows)

-- ---- the frame header

pub by_header : (saved : Saved) (tag : Tag) → ReadsBools (header saved tag)
unfolding header frame_and_kept frame segmentation segment_values tree_probabilities filter level_deltas four_signed quantiser_indices optional_signed magnitude refreshes copy
    token_probability_updates renewed skip reference_probabilities luma_mode_probabilities chroma vectors vector_renewed
by_header saved tag = search by_parts depth 60 fits 5000

-- ---- modes and motion

by_skip : (p : Option ℕ) → ReadsBools (skip_by p)
by_skip (Some p) = search by_parts
by_skip None = search by_parts

by_vector : (probabilities : List (List ℕ)) (best : Vector) → ReadsBools (new_vector probabilities best)
unfolding new_vector vector component component_magnitude long_size with_bit
by_vector probabilities best = search by_parts depth 60 fits 5000

by_part : (probabilities : List (List ℕ)) (best l a : Vector) (mode : PartMode) → ReadsBools (part_by probabilities best l a mode)
by_part probabilities best l a part_is.Left = search by_parts
by_part probabilities best l a part_is.Above = search by_parts
by_part probabilities best l a part_is.Zero = search by_parts
by_part probabilities best l a part_is.New = by_vector probabilities best

by_vectors : (probabilities : List (List ℕ)) (g : Grid MacroblockMotion) (p : Place) (c : Candidates) (mode : VectorMode) → ReadsBools (vectors_by probabilities g p c mode)
unfolding split_vectors part_row part_vector
by_vectors probabilities g p c vector_is.Zero = search by_parts
by_vectors probabilities g p c vector_is.Nearest = search by_parts
by_vectors probabilities g p c vector_is.Near = search by_parts
by_vectors probabilities g p c vector_is.New = search (by_parts, by_vector)
by_vectors probabilities g p c vector_is.Split = search (by_parts, by_part) depth 14

pub by_maps_read : (h : Header) (m : MacroblockMaps) → ReadsBools (maps_read h m)
unfolding maps_read row_read macroblock_read modes_at segment_of reference_of inter_reference intra_modes luma_mode sub_modes sub_row chroma_mode motion_read motion_at motion_by vector_mode
by_maps_read h m = search (by_parts, by_skip, by_vectors) depth 60 fits 5000

-- ---- tokens

by_bits : (high : ℕ) (ps : List ℕ) → ReadsBools (bits high ps)
unfolding bits
by_bits high [] = search by_parts
by_bits high (p ∷ ps) = let more = λ (n : ℕ). by_bits n ps in search (by_parts, more)

by_signed_level : (n : ℕ) → ReadsBools (signed_level n)
unfolding signed_level
by_signed_level zero = search by_parts
by_signed_level (suc n) = search by_parts

by_levels : (bands : List (List (List ℕ))) (n i context from : ℕ) → ReadsBools (levels bands n i context from)
unfolding levels token level_magnitude
by_levels bands zero i context from = search by_parts
by_levels bands (suc n) i context from = let more = by_levels bands n in search (by_parts, by_bits, by_signed_level, more) depth 20

by_macroblock : (probabilities : Probabilities) (g : Grid Blocks) (p : Place) (has_y2 skipped : Bool) → ReadsBools (macroblock probabilities g p has_y2 skipped)
unfolding macroblock block_at coefficient_block
by_macroblock probabilities g p has_y2 skipped = search (by_parts, by_levels) depth 20

pub by_row_seen : (f : FrameInfo) (row n : ℕ) (seen : Grid Blocks) → ReadsBools (row_seen f row n seen)
unfolding row_seen seen_read tokens_at
by_row_seen f row n seen = search (by_parts, by_macroblock)
