-- The results of reading a frame line, and of reading a picture.
use Rattle.std.specs.Prelude.{ℕ, ◌≡◌, Bool, true, false, List, Option, Some, None, Result, Ok, Err, codes}
use Rattle.vp_base.specs.Image.{Image, i420}
use Rattle.vp_y4m.specs.declared.fault.SourceFault.{SourceFault}
use Rattle.vp_y4m.specs.Reads.{Shows, ShowsAtEnd, Fails}
use Rattle.vp_y4m.specs.Lines.{first_line}
use Rattle.vp_y4m.specs.Header.{begins_with}
use Rattle.vp_y4m.specs.Pictures.{next_of}
use Rattle.vp_y4m.specs.Pixels.{IsZeroOutside}

-- the frame line of a picture is read
pub record ReadsFrameLine (before after : Option (List ℕ)) : Type 0 where
  pub line : List ℕ
  pub named : begins_with (codes "FRAME") line ≡ true
  pub shown : Shows first_line (λ rest. Ok (Some (line, rest))) before after

-- the frame line, or the end of the input before it, or a fault for pictures of any size
abbrev pub FindsFrame : Result Bool SourceFault → Option (List ℕ) → Option (List ℕ) → Type 0
FindsFrame (Ok true) before after = ReadsFrameLine before after
FindsFrame (Ok false) before after = (w h : ℕ) → ShowsAtEnd (next_of w h) (Ok None) before after
FindsFrame (Err fault) before after = (w h : ℕ) → Fails (next_of w h) fault before after

-- a picture of that size whose I420 is the next one in the bytes; its pixels that aren't shown are 0
pub record GivesPicture (w h : ℕ) (p : Image) (before after : Option (List ℕ)) : Type 0 where
  pub width : p.width ≡ w
  pub height : p.height ≡ h
  pub shown : Shows (next_of w h) (λ rest. Ok (Some (i420 p, rest))) before after
  pub outside : IsZeroOutside p

-- the next picture, or the end of the input before its frame line, or a fault
abbrev pub FindsPicture : ℕ → ℕ → Result Bool SourceFault → Image → Option (List ℕ) → Option (List ℕ) → Type 0
FindsPicture w h (Ok true) p before after = GivesPicture w h p before after
FindsPicture w h (Ok false) p before after = ShowsAtEnd (next_of w h) (Ok None) before after
FindsPicture w h (Err fault) p before after = Fails (next_of w h) fault before after
