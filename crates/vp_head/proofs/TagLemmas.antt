-- What holds of every tag.
use Rattle.std.proofs.Common.{◌≡◌, ℕ, ◌≤◌, ◌*◌, Bool, true, false, cond, List, length, Option, Some, None, refl, arith}
use Rattle.std.specs.Prelude.{Result, Ok, Err, IfOk, IsSome, IsNone, nat_lt, ◌==◌}
use Rattle.std.proofs.lemmas.Bool.{le-ltb, ltb-false}
use Rattle.vp_base.specs.declared.limits.Dim.{Dim}
use Rattle.vp_base.specs.declared.limits.Limits.{Limits}
use Rattle.vp_head.specs.Bounds.{IsKeyInRange, IsTagInRange}
use Rattle.vp_head.specs.Tag.{bit_field, word_at, tag_word, has_start_code, dim_within_limits, tag_dim, key_with, key_of, tag_with_key, tag_of_word, tag_of, IsKeyPacket, IsInterPacket}
use Rattle.vp_head.specs.declared.fields.KeyTag.{KeyTag}
use Rattle.vp_head.specs.declared.fault.PacketFault.{PacketFault}
use Rattle.vp_head.specs.declared.fault.PacketFault.TheVariants.{TooLarge}

-- past a test that answers a fault
past : {T : Type 0} (P : T → Type 0) (b : Bool) (f : PacketFault) (r : Result T PacketFault) → (b ≡ false → IfOk r P) → IfOk (cond b (Err f) r) P
past P true f r h = tt
past P false f r h = h refl

-- either way
both : {T : Type 0} (P : T → Type 0) (b : Bool) (x y : Result T PacketFault) → IfOk x P → IfOk y P → IfOk (cond b x y) P
both P true x y h k = h
both P false x y h k = k

has_key : (word : ℕ) (r : Result KeyTag PacketFault) → IfOk (tag_with_key word r) (λ tag. IsSome tag.key)
has_key word (Err f) = tt
has_key word (Ok key) = refl

pub tag_of-key : (limits : Limits) (packet : List ℕ) → IsKeyPacket packet → IfOk (tag_of limits packet) (λ tag. IsSome tag.key)
unfolding tag_of tag_of_word
tag_of-key limits packet k =
    let even : bit_field 0 1 (tag_word packet) ≡ 0 = omega arith in
    rw (le-ltb (length packet) 3 k.0, even) (past (λ tag. IsSome tag.key) (nat_lt 3 (bit_field 1 3 (tag_word packet))) _ _ (λ _. has_key (tag_word packet) (key_of limits packet)))

pub tag_of-inter : (limits : Limits) (packet : List ℕ) → IsInterPacket packet → IfOk (tag_of limits packet) (λ tag. IsNone tag.key)
unfolding tag_of tag_of_word
tag_of-inter limits packet k =
    let odd : bit_field 0 1 (tag_word packet) ≡ 1 = omega arith in
    rw (le-ltb (length packet) 3 k.0, odd) (past (λ tag. IsNone tag.key) (nat_lt 3 (bit_field 1 3 (tag_word packet))) _ _ (λ _. refl))

sized : (limits : Limits) (width height : ℕ) (dim : Dim) (b : Bool) → nat_lt limits.pixels (dim.w * dim.h) ≡ b
    → IfOk (key_with width height (cond b (Err TooLarge) (Ok dim))) (IsKeyInRange limits)
sized limits width height dim true e = tt
sized limits width height dim false e = record { pixels = ltb-false _ _ e; horizontal_scale = omega arith; vertical_scale = omega arith }

with_size : (limits : Limits) (width height : ℕ) (o : Option Dim) → IfOk (key_with width height (dim_within_limits limits o)) (IsKeyInRange limits)
with_size limits width height None = tt
with_size limits width height (Some dim) = sized limits width height dim (nat_lt limits.pixels (dim.w * dim.h)) refl

key_in_range : (limits : Limits) (packet : List ℕ) → IfOk (key_of limits packet) (IsKeyInRange limits)
unfolding key_of
key_in_range limits packet =
    past (IsKeyInRange limits) (nat_lt (length packet) 10) _ _
    (λ _. both (IsKeyInRange limits) (has_start_code packet) _ _ (with_size limits (word_at 6 packet) (word_at 8 packet) (tag_dim (word_at 6 packet) (word_at 8 packet))) tt)

with_key : (limits : Limits) (word : ℕ) (r : Result KeyTag PacketFault) → bit_field 1 3 word ≤ 3 → IfOk r (IsKeyInRange limits) → IfOk (tag_with_key word r) (IsTagInRange limits)
with_key limits word (Err f) v k = tt
with_key limits word (Ok key) v k = record { version = v; first_partition = omega arith; key = k }

pub word_in_range : (limits : Limits) (word : ℕ) (packet : List ℕ) → IfOk (tag_of_word limits word packet) (IsTagInRange limits)
unfolding tag_of_word
word_in_range limits word packet =
    past (IsTagInRange limits) (nat_lt 3 (bit_field 1 3 word)) _ _
    (λ v.
    both (IsTagInRange limits) (bit_field 0 1 word == 0) _ _
    (with_key limits word (key_of limits packet) (ltb-false _ _ v) (key_in_range limits packet))
    (record { version = ltb-false _ _ v; first_partition = omega arith; key = tt }))

pub tag_in_range : (limits : Limits) (packet : List ℕ) → IfOk (tag_of limits packet) (IsTagInRange limits)
unfolding tag_of
tag_in_range limits packet = past (IsTagInRange limits) (nat_lt (length packet) 3) _ _ (λ _. word_in_range limits (tag_word packet) packet)
