-- The output of decoding a file: the shown pictures as I420, or as YUV4MPEG2 up to the first change of size; and the
-- lines that tell of its head. Pinned by the tests `decode_to_y4m`, `no_picture_no_bytes`,
-- `size_change_before_file_fault` and `info_of_a_stream`.
use Rattle.std.specs.Prelude.{ℕ, Bool, false, not, ◌==◌, ◌&&◌, List, [], ◌∷◌, ◌++◌, codes, decimal, Option, Some, None}
use Rattle.std.specs.List.{flat_map, filter_map, take_while, list_all}
use Rattle.std.specs.Option.{option_map_or}
use Rattle.vp_base.specs.declared.limits.Limits.{Limits}
use Rattle.vp_base.specs.Image.{Image, i420}
use Rattle.vp_y4m.specs.Text.{header_text, picture_text}
use Rattle.vp_ivf.specs.declared.packet.IvfHead.{IvfHead}
use Rattle.vp_decode.specs.Step.{Answer, picture_in}
use Rattle.vp_stream.specs.declared.form.Form.{Form}
use Rattle.vp_stream.specs.declared.form.Form.TheVariants.{I420, Y4m}
use Rattle.vp_stream.specs.Answers.{reading_of, answers_of}

-- the shown pictures, in order
abbrev pub shown_in : List Answer → List Image
shown_in answers = filter_map picture_in answers

-- whether two pictures have one size
abbrev pub same_size : Image → Image → Bool
same_size p q = (p.width == q.width) && (p.height == q.height)

-- the pictures before the first one that differs in size from the first
abbrev pub before_change : List Image → List Image
before_change [] = []
before_change (p ∷ ps) = p ∷ take_while (same_size p) ps

-- the YUV4MPEG2 header line, from the file's head and the first picture
abbrev pub y4m_header : Option IvfHead → Image → List ℕ
y4m_header head p = option_map_or (λ h. header_text p.width p.height h.rate h.scale) head []

-- pictures as I420, or as YUV4MPEG2 with a header line and a line before each picture
abbrev pub text : Form → Option IvfHead → List Image → List ℕ
text I420 head ps = flat_map i420 ps
text Y4m head [] = []
text Y4m head (p ∷ ps) = y4m_header head p ++ flat_map (λ q. picture_text (i420 q)) (before_change (p ∷ ps))

-- whether a picture differs in size from the first one and the form requires one size
abbrev pub changes_size : Form → List Image → Bool
changes_size I420 ps = false
changes_size Y4m [] = false
changes_size Y4m (p ∷ ps) = not (list_all (same_size p) ps)

-- the shown pictures of a file
abbrev pub pictures_of : Limits → List ℕ → List Image
pictures_of limits file = shown_in (answers_of limits file)

-- all output for a file
abbrev pub decoded_text : Limits → Form → List ℕ → List ℕ
decoded_text limits form file = text form (reading_of limits file).head (pictures_of limits file)

-- ---- the lines for the head of a file: its size and its rate

-- the lines, none if there is no valid head
abbrev pub head_lines : Option IvfHead → List ℕ
head_lines None = []
head_lines (Some h) =
    codes "size " ++ (decimal h.w ++ (codes "x" ++ (decimal h.h
    ++ (codes "\nrate " ++ (decimal h.rate ++ (codes "/" ++ (decimal h.scale ++ codes "\n")))))))
