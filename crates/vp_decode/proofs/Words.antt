-- The words of specs, and the lemmas of std and of the crates below, that the proofs of several functions cite.
pub use Rattle.std.proofs.Common.{Bool, Bor, List, None, Some, add-one, ap, arith, cond, drop, false, get_or, inl, inr, length, length-drop, refl, replicate, subst, suc, sym, take, true, zero, ℕ, ◌%◌, ◌*◌, ◌++◌, ◌+◌, ◌-◌, ◌<◌, ◌^◌, ◌∙◌, ◌∷◌, ◌≡◌, ◌≢◌, ◌≤◌}
pub use Rattle.std.proofs.lemmas.Bool.{cases_Bool, cases_lt, le-ltb, lt-ltb, ltb-false, ltb-true, or_left, or_parts, or_right}
pub use Rattle.std.proofs.lemmas.List.{get_or_default, get_or-drop, get_or-take, length-map, length-replicate, length-set, length-take-le, map-append, map-set, set-get_or}
pub use Rattle.std.proofs.lemmas.Option.{get_or_from_slice_get, slice_get-get_or, slice_get-map, slice_get_read, slice_get_within, unwrap_or-slice_get}
pub use Rattle.std.specs.Option.{ok_or}
pub use Rattle.std.specs.Prelude.{Err, IfOk, IfSome, is_some, IsSome, IsSomeAnd, map, nat_lt, Ok, Option, option_map, Result, slice_get, slice_index_or, slice_set, unwrap_or, OnErr, ◌==◌, ◌||◌, ◌⊎◌}
pub use Rattle.vp_base.proofs.BlockLemmas.{IsWhole-blank, same_raster}
pub use Rattle.vp_base.proofs.GridLemmas.{entry-elsewhere, entry-here, entry-inside, number_fits}
pub use Rattle.vp_base.proofs.OverLemmas.{over-holds, over-more, over-next, over-none, over-same}
pub use Rattle.vp_base.specs.Grid.{all, at, Grid, Has, mapped, with_entry}
unfoldable pub use Rattle.vp_base.specs.Grid.{changed, entry, repeated}
pub use Rattle.vp_base.specs.Image.{AreWhole, blank_image, Image, IsAligned, macroblocks}
unfoldable pub use Rattle.vp_base.specs.Over.{over}
pub use Rattle.vp_base.specs.Rows.{AreOneSize, AreSameAbove, AreSameFrom, IsSameAbove, IsSameFrom}
pub use Rattle.vp_base.specs.declared.limits.Limits.{Limits}
pub use Rattle.vp_base.specs.declared.place.Place.{Place}
pub use Rattle.vp_bool.proofs.ReaderLemmas.{Gives, gives, rows-more, rows-none}
unfoldable pub use Rattle.vp_bool.specs.Bools.{after_bools, literal}
pub use Rattle.vp_bool.specs.Bools.{initial_state, read, State}
unfoldable pub use Rattle.vp_bool.specs.Reader.{bind, each, rows}
pub use Rattle.vp_bool.specs.Reader.{give, Reader, when}
pub use Rattle.vp_decode.specs.Corrupt.{any_past, corrupt_in, first_after, step_by, tokens_after}
unfoldable pub use Rattle.vp_decode.specs.Corrupt.{corrupt, is_corrupt}
pub use Rattle.vp_decode.specs.Equation.{IsOneSize, IsSolution}
unfoldable pub use Rattle.vp_decode.specs.Frame.{all_tokens_read, picture_of, predictor_at, token_row_read, tokens_of, tokens_read, unfiltered}
pub use Rattle.vp_decode.specs.Frame.{factors_at, Frame, frame_of, FrameInfo, level_at, macroblock_at, no_tokens_read, predictor_by, ReadTokens}
pub use Rattle.vp_decode.specs.FrameDecoder.{FrameDecoder, IsAfterRows, IsMacroblockAt, IsMacroblockRow, IsMacroblockStep, IsOneFrame, IsRow, IsSameFrame}
pub use Rattle.vp_decode.specs.FrameFacts.{AreFactsOfStep, facts_in, facts_of, facts_with, is_frame_corrupt, IsOlder, shown_before}
unfoldable pub use Rattle.vp_decode.specs.FrameFacts.{frame_facts}
pub use Rattle.vp_decode.specs.MacroblockMaps.{MacroblockMaps, modes_in, motion_in, place, with_modes}
unfoldable pub use Rattle.vp_decode.specs.MacroblockMaps.{macroblock_read, maps_read, motion_read, row_read}
pub use Rattle.vp_decode.specs.MacroblockReader.{IsAhead, IsNext, kept_modes, MacroblockReader, maps_of, maps_so_far, modes_before, with_macroblock}
unfoldable pub use Rattle.vp_decode.specs.MacroblockReader.{begun}
pub use Rattle.vp_decode.specs.Outcomes.{has_shown, OutcomeReader}
pub use Rattle.vp_decode.specs.Passing.{frame_outcome, is_shown_after, repeated_outcome, tag_in, was_shown}
pub use Rattle.vp_decode.specs.RowBands.{IsAbove, IsBelow, IsShaped}
pub use Rattle.vp_decode.specs.SkippedLevels.{AreRowLevels, AreSkipsOf, level_by}
pub use Rattle.vp_decode.specs.State.{AreSized, by_fault, finished, HasConsistentSizes, IsSized, parts_of, references_in, shown_of, state_from_frame}
pub use Rattle.vp_decode.specs.Step.{after, Answer, answer, context_of, decoded, Decoder, DecoderState, Fault, first_part, frame_of_packet, FrameContext, Hidden, inter_context, key_context, maps_before, outcome, parsed_in_context, ParsedPacket, picture_in, references_after, repeated_frame, Shown, shown_after, shown_again, state_after, tag_length, IsDecoded, ◌>>=◌}
unfoldable pub use Rattle.vp_decode.specs.Step.{count_of, frame_info_of, parsed, step}
pub use Rattle.vp_decode.specs.TokenRows.{nothing_read, Readings, row_partition, token_row}
unfoldable pub use Rattle.vp_decode.specs.TokenRows.{readings, row_seen, row_tokens, seen_read, tokens_at, tokens_when_read}
pub use Rattle.vp_decode.specs.declared.decoder.Outcome.{Outcome}
pub use Rattle.vp_decode.specs.declared.frame_facts.FrameFacts.{FrameFacts}
unfoldable pub use Rattle.vp_head.specs.Header.{copy, frame, frame_and_kept, header, level_deltas, quantiser_indices, reference_probabilities, refreshes, segment_values, segmentation, skip, tree_probabilities}
pub use Rattle.vp_head.specs.Reference.{is_intra}
unfoldable pub use Rattle.vp_head.specs.Rows.{four_signed, magnitude, optional_signed, renewed}
pub use Rattle.vp_head.specs.Tag.{IsKeyPacket}
unfoldable pub use Rattle.vp_head.specs.Tag.{tag_of}
pub use Rattle.vp_head.specs.declared.fault.PacketFault.TheVariants.{FirstPartition, NoReference}
pub use Rattle.vp_head.specs.declared.fault.PacketFault.{PacketFault}
pub use Rattle.vp_head.specs.declared.fields.Header.{Header}
pub use Rattle.vp_head.specs.declared.fields.KeyTag.{KeyTag}
pub use Rattle.vp_head.specs.declared.fields.ReferenceCopy.TheVariants.{Last, Nothing, Other, Unused}
pub use Rattle.vp_head.specs.declared.fields.ReferenceCopy.{ReferenceCopy}
pub use Rattle.vp_head.specs.declared.fields.Saved.{Saved}
pub use Rattle.vp_head.specs.declared.fields.Tag.{Tag}
pub use Rattle.vp_loop.proofs.WindowLemmas.{row_aligned, row_keeps, row_reads, row_size, row_whole}
unfoldable pub use Rattle.vp_loop.specs.Filtered.{filtered, row_filtered}
pub use Rattle.vp_loop.specs.Filtered.{level_in, macroblock_filtered}
pub use Rattle.vp_loop.specs.declared.strength.Level.{Level}
pub use Rattle.vp_modes.specs.Entry.{Modes, plain_of}
unfoldable pub use Rattle.vp_modes.specs.Entry.{plain}
pub use Rattle.vp_modes.specs.Map.{segments_of}
unfoldable pub use Rattle.vp_modes.specs.Map.{sub_of}
unfoldable pub use Rattle.vp_modes.specs.Modes.{chroma_mode, inter_reference, intra_modes, luma_mode, modes_at, reference_of, segment_of, sub_modes, sub_row}
pub use Rattle.vp_modes.specs.Modes.{skip_by}
unfoldable pub use Rattle.vp_motion.specs.Map.{intra}
unfoldable pub use Rattle.vp_motion.specs.Motion.{component, component_magnitude, long_size, motion_at, motion_by, new_vector, part_row, part_vector, split_vectors, vector, vector_mode, with_bit}
pub use Rattle.vp_motion.specs.Motion.{part_by, vectors_by}
pub use Rattle.vp_motion.specs.Vector.{Candidates, MacroblockMotion, Vector}
pub use Rattle.vp_recon.specs.Predictor.{has_y2, macroblock_of, Predictor, predictor_of}
pub use Rattle.vp_recon.specs.Rebuilt.{all_rebuilt, rebuilt, row_rebuilt}
pub use Rattle.vp_refs.specs.References.{all_of, copied_by, reference_picture, References}
pub use Rattle.vp_tokens.specs.Blocks.{any_token, Blocks, blocks_of, without_tokens}
unfoldable pub use Rattle.vp_tokens.specs.Blocks.{block_at, macroblock}
pub use Rattle.vp_tokens.specs.Contexts.{AreContextsAt, Contexts, right}
pub use Rattle.vp_tokens.specs.Levels.{Probabilities}
unfoldable pub use Rattle.vp_tokens.specs.Levels.{bits, coefficient_block, level_magnitude, levels, signed_level, token}
pub use Rattle.vp_tokens.specs.Partitions.{cut_of}
pub use Rattle.vp_tokens.specs.declared.contexts.Tokens.{Tokens}
