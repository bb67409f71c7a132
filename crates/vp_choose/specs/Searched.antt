-- Private to the crate: the motion that is found for a macroblock.
use Rattle.std.specs.Prelude.{◌≡◌, ◌≤◌, ℕ, false, Option, Some, None, MatchOption}
use Rattle.vp_base.specs.declared.place.Place.{Place}
use Rattle.vp_base.specs.Raster.{Raster}
use Rattle.vp_head.specs.declared.fields.Reference.{Reference}
use Rattle.vp_head.specs.Reference.{is_intra}
use Rattle.vp_refs.specs.References.{reference_picture}
use Rattle.vp_search.specs.declared.vector.Refined.{Refined}
use Rattle.vp_choose.specs.declared.motion.Moved.{Moved}
use Rattle.vp_choose.specs.Frame.{Search}
use Rattle.vp_choose.specs.Inter.{IsFound, IsMoved, IsInSearchRange}

-- a vector and its cost, without its reference frame
abbrev pub found_of : Moved → Refined
found_of m = record { vector = m.vector; cost = m.cost }

-- the best vector in a reference frame costs at least a limit
pub record IsOver (s : Search) (source reference : Raster) (place : Place) (limit : ℕ) : Type 0 where
  pub found : Refined
  pub is : IsFound s source reference place found
  pub over : limit ≤ found.cost

-- the best vector in a reference frame, which is short
pub record IsFoundIn (s : Search) (source : Raster) (r : Reference) (place : Place) (m : Moved) : Type 0 where
  pub reference : m.reference ≡ r
  pub is : IsFound s source (reference_picture s.references r).luma place (found_of m)
  pub short : IsInSearchRange m.vector

-- the best motion, which is short
pub record IsBestMotion (s : Search) (source : Raster) (place : Place) (m : Moved) : Type 0 where
  pub is : IsMoved s source place m
  pub short : IsInSearchRange m.vector
  pub inter : is_intra m.reference ≡ false

-- the best motion in an inter frame, and none in a key frame
abbrev pub IsSearched : Option Search → Raster → Place → Option Moved → Type 0
IsSearched None source place m = m ≡ None
IsSearched (Some s) source place m = MatchOption m ⊥ (IsBestMotion s source place)
