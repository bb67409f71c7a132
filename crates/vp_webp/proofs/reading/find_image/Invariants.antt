use Rattle.std.proofs.Common.{◌≡◌, ◌≤◌, ℕ, length, drop}
use Rattle.vp_webp.specs.Bytes.{without_rest}
use Rattle.vp_webp.specs.WebP.{first_image, image_in}
use Rattle.vp_webp.proofs.reading.find_image.Given as goal

-- the image in the rest, with enough chunks allowed, is that of the whole; and the rest lies so many bytes on
abbrev pub invariant-loop-chunk : goal.invariant-loop-chunk
invariant-loop-chunk l =
    (n : ℕ) × (length l.rest ≤ n) × (without_rest (first_image n l.seen l.rest) ≡ image_in l.body)
    × (k : ℕ) × (l.rest ≡ drop k l.body)

abbrev pub decreases-loop-chunk : goal.decreases-loop-chunk
decreases-loop-chunk l = length l.rest
