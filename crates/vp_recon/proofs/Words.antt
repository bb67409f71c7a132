-- The words of specs, and the lemmas of std and of the crates below, that the proofs of several functions cite.
pub use Rattle.std.proofs.Math.IntN.{zero-*ℤ}
pub use Rattle.std.proofs.Math.Nat.{mul-le-mul, mul_comm}
pub use Rattle.std.proofs.lemmas.Bool.{cases_Bool, cases_lt, eq-eqb, le-ltb, lt-ltb, ne_eqb}
pub use Rattle.std.proofs.lemmas.Bool.Decides.{nat_tests}
pub use Rattle.std.proofs.lemmas.Int.{clamps, ints, to_z-of_z}
pub use Rattle.std.proofs.lemmas.List.{ext_get_or, get_or-drop, get_or-replicate, get_or-take, get_or_past, length-take, take-append-le, take_all}
pub use Rattle.std.proofs.lemmas.List.FromFn.{fill_by_all, get_or-map-range_with_len, length-map-range_with_len}
pub use Rattle.std.proofs.lemmas.Nat.{div-add-mod', div_below, le_or_l, le_or_r, mod_below, row_fits, same_from_place}
pub use Rattle.std.proofs.lemmas.Simd.{get_or-chunk, length-put_chunk, put_chunk_is}
pub use Rattle.std.specs.Int.{int_max, int_min}
pub use Rattle.std.specs.Prelude.{not}
pub use Rattle.vp_base.proofs.BlockLemmas.{IsWhole-with_block, pixel-with_block, same_raster, with_block_more, with_block_none, with_block_same}
pub use Rattle.vp_base.proofs.ImageLemmas.{plane_of-with_plane, with_plane-plane_of, with_plane-with_plane}
pub use Rattle.vp_base.proofs.OverLemmas.{over-holds, over-kept, over-next, over-none, over-same}
pub use Rattle.vp_base.proofs.RasterLemmas.{raster}
pub use Rattle.vp_base.specs.Block.{IsWhole, is_in_block, with_block, written}
pub use Rattle.vp_base.specs.Image.{AreWhole, Image, IsAligned, IsCovering, macroblocks, plane_of, with_plane}
pub use Rattle.vp_base.specs.Near.{block_place}
pub use Rattle.vp_base.specs.Over.{over}
pub use Rattle.vp_base.specs.Raster.{Raster, pixel, pixel_index, with_pixels}
pub use Rattle.vp_base.specs.Rows.{AreOneSize, AreSameAbove, AreSameFrom, IsSameFrom}
pub use Rattle.vp_base.specs.declared.place.Place.{Place}
pub use Rattle.vp_inter.specs.Filter.{filter_six, taps}
pub use Rattle.vp_inter.specs.Inter.{inter_pixel, reference_pixel}
pub use Rattle.vp_inter.specs.Vectors.{fraction, luma_vector, whole_pixels}
pub use Rattle.vp_inter.specs.declared.vector.PlaneVector.{PlaneVector}
pub use Rattle.vp_intra.proofs.BlockLemmas.{read_block}
pub use Rattle.vp_intra.specs.Edges.{block, first, rounded_mean, true_motion}
pub use Rattle.vp_intra.specs.Sub.{around, predicted, sub_pixel}
pub use Rattle.vp_intra.specs.Whole.{luma_pixel}
pub use Rattle.vp_lanes.proofs.Bytes.{byte_lane}
pub use Rattle.vp_lanes.proofs.Shape.{lane_fits, lanes_of, signed_lanes}
pub use Rattle.vp_lanes.proofs.Signed.{signed_add, signed_clamp, signed_out, signed_param, signed_shr, signed_splat, stands_pos, to_bytes_fits, to_bytes_out, widened}
pub use Rattle.vp_lanes.specs.Lane.{lane}
pub use Rattle.vp_modes.specs.Entry.{Modes}
pub use Rattle.vp_motion.specs.Vector.{AreOne, MacroblockMotion, Vector, last_of, zero_vector}
pub use Rattle.vp_quant.specs.Quant.{dequantised}
pub use Rattle.vp_quant.specs.Short.{HasBlock, coefficients_after}
pub use Rattle.vp_quant.specs.declared.factors.Factors.{Factors}
pub use Rattle.vp_recon.specs.Equation.{IsUnfiltered}
pub use Rattle.vp_recon.specs.Given.{IsGiven}
pub use Rattle.vp_recon.specs.Parts.{AreDcs, HasBlocks, HasResidues, HasTokens, HasUpTo, coefficients_in, large_residue_in, luma_dc, own_dc, residue_by, residue_in}
pub use Rattle.vp_recon.specs.Prediction.{chroma_moved, chroma_predicted, chroma_prediction, four_from, luma_moved, luma_predicted, luma_prediction, moved_pixel}
pub use Rattle.vp_recon.specs.Predictor.{Inter, Intra, Macroblock, has_y2, predicts_by_subblocks, macroblock_of, predictor_of}
pub use Rattle.vp_recon.specs.Rebuilt.{all_rebuilt, chroma_made, chroma_rebuilt, clamp_to_pixel, luma_made, luma_rebuilt, rebuilt, residue_at, row_rebuilt, sub_step, summed, with_sub}
pub use Rattle.vp_recon.specs.Residue.{chroma_residue, luma_residue, residue}
pub use Rattle.vp_recon.specs.Sums.{AreBlockBytes, AreLow, AreRows, AreVectors, BlockLiesAt, Four, HasEqualSums, IsAcross, IsAdded, IsAddedToBlock, IsBlockWritten, IsNothing, block_sum, row_lane, row_pixel, strip_sum, sub_of_quarter, vector_at, with_chroma, with_sums}
pub use Rattle.vp_recon.specs.declared.given.MacroblockPixels.{MacroblockPixels}
pub use Rattle.vp_recon.specs.declared.residue_inputs.SmallInputs.{SmallInputs}
pub use Rattle.vp_tables.specs.Modes.{is_split}
pub use Rattle.vp_tables.specs.declared.modes.ChromaMode.{ChromaMode}
pub use Rattle.vp_tables.specs.declared.modes.LumaMode.{LumaMode}
pub use Rattle.vp_tables.specs.declared.modes.SubMode.{SubMode}
pub use Rattle.vp_tokens.proofs.LevelLemmas.{no_tokens-good}
pub use Rattle.vp_tokens.specs.Block.{Block, IsBlock, no_tokens}
pub use Rattle.vp_tokens.specs.Blocks.{block_of, no_blocks}
pub use Rattle.vp_tokens.specs.declared.contexts.Tokens.{Tokens}
pub use Rattle.vp_transform.proofs.Bounds.{idct-first_alone, idct-within, idct_fits, iwht-first_alone}
pub use Rattle.vp_transform.proofs.Eights.{below_eight, coded16, eight, handed16, in_first, in_second, passed16}
pub use Rattle.vp_transform.proofs.Sizes.{fits-below, rounded-at_most}
pub use Rattle.vp_transform.proofs.Vectors.{below_four, short16_fits, sixteen}
pub use Rattle.vp_transform.proofs.Words.{coded, read}
pub use Rattle.vp_transform.specs.Fits.{EachWithin}
pub use Rattle.vp_transform.specs.Pair.{even_block, odd_block, row_in}
pub use Rattle.vp_transform.specs.Transform.{idct, iwht, rounded}
