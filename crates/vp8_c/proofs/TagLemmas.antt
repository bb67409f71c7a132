-- Of the limits, a tag depends on the greatest number of pixels alone.
use Rattle.std.proofs.Common.{◌≡◌, ℕ, ◌*◌, List, length, Some, None, Ok, Err, refl, ap}
use Rattle.std.specs.Prelude.{Option, Result, nat_lt, ◌==◌, if◌then◌else◌}
use Rattle.vp_base.specs.declared.limits.Dim.{Dim}
use Rattle.vp_base.specs.declared.limits.Limits.{Limits}
use Rattle.vp_head.specs.declared.fields.KeyTag.{KeyTag}
use Rattle.vp_head.specs.declared.fields.Tag.{Tag}
use Rattle.vp_head.specs.declared.fault.PacketFault.{PacketFault}
use Rattle.vp_head.specs.declared.fault.PacketFault.TheVariants.{Truncated, Version, StartCode, TooLarge}
use Rattle.vp_head.specs.Tag.{bit_field, word_at, tag_word, has_start_code, dim_within_limits, tag_dim, key_with, key_of, tag_with, tag_with_key, tag_of_word, tag_of}

same_dim : (l m : Limits) (dim : Option Dim) → l.pixels ≡ m.pixels → dim_within_limits l dim ≡ dim_within_limits m dim
same_dim l m None e = refl
same_dim l m (Some dim) e =
    let within : ℕ → Result Dim PacketFault = λ n. if nat_lt n (dim.w * dim.h) then Err TooLarge else Ok dim in
    ap within e

same_key : (l m : Limits) (packet : List ℕ) → l.pixels ≡ m.pixels → key_of l packet ≡ key_of m packet
unfolding key_of
same_key l m packet e =
    let w = word_at 6 packet in
    let h = word_at 8 packet in
    let of : Result Dim PacketFault → Result KeyTag PacketFault = λ dim.
    if nat_lt (length packet) 10 then Err Truncated else if has_start_code packet then key_with w h dim else Err StartCode in
    ap of (same_dim l m (tag_dim w h) e)

same_word : (l m : Limits) (word : ℕ) (packet : List ℕ) → l.pixels ≡ m.pixels → tag_of_word l word packet ≡ tag_of_word m word packet
unfolding tag_of_word
same_word l m word packet e =
    let of : Result KeyTag PacketFault → Result Tag PacketFault = λ key.
    if nat_lt 3 (bit_field 1 3 word) then Err Version else if bit_field 0 1 word == 0 then tag_with_key word key else Ok (tag_with word None) in
    ap of (same_key l m packet e)

pub same_tag : (l m : Limits) (packet : List ℕ) → l.pixels ≡ m.pixels → tag_of l packet ≡ tag_of m packet
unfolding tag_of
same_tag l m packet e =
    let of : Result Tag PacketFault → Result Tag PacketFault = λ tag. if nat_lt (length packet) 3 then Err Truncated else tag in
    ap of (same_word l m (tag_word packet) packet e)
