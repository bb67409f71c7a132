-- The kinds of files, by bytes at a place near their start. Pinned by the test `kinds_of_files`.
use Rattle.std.specs.Prelude.{ℕ, Bool, nat_eq, List, [], ◌∷◌, drop, codes, if◌then◌else◌}
use Rattle.std.specs.List.{starts_with}
use Rattle.vp_hints.specs.declared.kinds.FileKind.{FileKind}
use Rattle.vp_hints.specs.declared.kinds.FileKind.TheVariants.{Empty, Ivf, WebM, Mp4, Avi, WebP, Y4m}
use Rattle.vp_hints.specs.declared.kinds.FileKind.TheVariants.{Ogg, H264, Png, Jpeg, Gif, Unknown}

-- a kind of file, a place, and the bytes there
pub record Mark : Type 0 where
  pub kind : FileKind
  pub place : ℕ
  pub bytes : List ℕ

abbrev pub mark : FileKind → ℕ → List ℕ → Mark
mark kind place bytes = record { kind = kind; place = place; bytes = bytes }

-- the marks of containers
abbrev pub container_marks : List Mark
container_marks =
    mark Ivf 0 (codes "DKIF") ∷ mark WebM 0 (0x1a ∷ 0x45 ∷ 0xdf ∷ 0xa3 ∷ []) ∷ mark Mp4 4 (codes "ftyp")
    ∷ mark Avi 8 (codes "AVI ") ∷ []

-- the marks of other videos
abbrev pub video_marks : List Mark
video_marks =
    mark Y4m 0 (codes "YUV4MPEG2") ∷ mark Ogg 0 (codes "OggS")
    ∷ mark H264 0 (0 ∷ 0 ∷ 0 ∷ 1 ∷ []) ∷ []

-- the marks of images
abbrev pub image_marks : List Mark
image_marks =
    mark WebP 8 (codes "WEBP") ∷ mark Png 0 (0x89 ∷ codes "PNG") ∷ mark Jpeg 0 (0xff ∷ 0xd8 ∷ 0xff ∷ [])
    ∷ mark Gif 0 (codes "GIF8") ∷ []

-- the bytes have this word at this place
abbrev pub stands_at : List ℕ → ℕ → List ℕ → Bool
stands_at head place word = starts_with nat_eq (drop place head) word

-- the kind of the first mark that is found, or else this kind
abbrev pub kind_in : List Mark → FileKind → List ℕ → FileKind
kind_in [] other head = other
kind_in (m ∷ ms) other head = if stands_at head m.place m.bytes then m.kind else kind_in ms other head

-- the kind of a file that begins with these bytes
abbrev pub kind_of : List ℕ → FileKind
kind_of [] = Empty
kind_of (b ∷ bs) =
    kind_in container_marks (kind_in video_marks (kind_in image_marks Unknown (b ∷ bs)) (b ∷ bs)) (b ∷ bs)

-- the name of a kind
abbrev pub kind_name : FileKind → List ℕ
kind_name Empty = codes "empty"
kind_name Ivf = codes "IVF"
kind_name WebM = codes "WebM"
kind_name Mp4 = codes "MP4"
kind_name Avi = codes "AVI"
kind_name WebP = codes "WebP"
kind_name Y4m = codes "YUV4MPEG2"
kind_name Ogg = codes "Ogg"
kind_name H264 = codes "H.264"
kind_name Png = codes "PNG"
kind_name Jpeg = codes "JPEG"
kind_name Gif = codes "GIF"
kind_name Unknown = codes "unknown"
