-- The last, golden and altref frame, and how a header copies and refreshes them (RFC 6386, chapters 5, 9.7 and 9.8).
-- Pinned by the tests `altref_is_copied_before_golden` and `unused_number_copies_nothing`.
use Rattle.std.specs.Prelude.{◌≡◌, ◌⊎◌, ◌||◌, if◌then◌else◌}
use Rattle.vp_base.specs.Image.{Image}
use Rattle.vp_head.specs.declared.fields.Header.{Header}
use Rattle.vp_head.specs.declared.fields.ReferenceUpdates.{ReferenceUpdates}
use Rattle.vp_head.specs.declared.fields.ReferenceCopy.{ReferenceCopy}
use Rattle.vp_head.specs.declared.fields.ReferenceCopy.TheVariants.{Last, Other}
use Rattle.vp_head.specs.declared.fields.Reference.{Reference}
use Rattle.vp_head.specs.declared.fields.Reference.TheVariants as reference

-- the three reference frames, and the newest picture
pub record References : Type 0 where
  pub last : Image
  pub golden : Image
  pub alt : Image
  pub newest : Image

-- p is one of the reference frames, or the newest picture
abbrev pub IsOneOf : References → Image → Type 0
IsOneOf refs p = (p ≡ refs.last) ⊎ (p ≡ refs.golden) ⊎ (p ≡ refs.alt) ⊎ (p ≡ refs.newest)

-- the reference frames after a key frame: its picture is all of them
abbrev pub all_of : Image → References
all_of p = record { last = p; golden = p; alt = p; newest = p }

-- the picture of a reference frame; for intra, which has none and does not use it, the last frame
abbrev pub reference_picture : References → Reference → Image
reference_picture refs reference.Golden = refs.golden
reference_picture refs reference.Alt = refs.alt
reference_picture refs _ = refs.last

-- the picture of golden or altref after a copy: own is its picture before, other that of altref or golden
abbrev pub copied_by : ReferenceCopy → Image → Image → Image → Image
copied_by Last last other own = last
copied_by Other last other own = other
copied_by _ last other own = own

-- Copies precede refreshes. The copy to altref precedes the copy to golden, which uses the new altref; the standard
-- leaves their order open.
abbrev pub with_copies : ReferenceUpdates → References → References
with_copies updates refs =
    let alt : Image = copied_by updates.copy_to_alt refs.last refs.golden refs.alt in
    record refs { alt = alt; golden = copied_by updates.copy_to_golden refs.last alt refs.golden }

-- Then the new picture is stored in the references that the header refreshes; in a key frame, in all of them.
abbrev pub updated : Header → Image → References → References
updated header p old =
    let refs : References = with_copies header.updates old in
    record {
      last = if header.key || header.updates.refresh_last then p else refs.last;
      golden = if header.key || header.updates.refresh_golden then p else refs.golden;
      alt = if header.key || header.updates.refresh_alt then p else refs.alt;
      newest = p;
    }
