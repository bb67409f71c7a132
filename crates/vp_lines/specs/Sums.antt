-- The lines of MD5 sums. Pinned by the test `sums_of_pictures`.
use Rattle.std.specs.Prelude.{◌+◌, ℕ, Bool, true, false, List, [], ◌∷◌, ◌++◌, codes, decimal, Option}
use Rattle.std.specs.Io.KnownBytes.{Appends}

-- the line of a sum, as md5sum prints it
abbrev pub sum_line : List ℕ → List ℕ → List ℕ
sum_line digits name = digits ++ (codes "  " ++ (name ++ codes "\n"))

-- the line of the sum of a picture with this number
abbrev pub picture_line : ℕ → List ℕ → List ℕ
picture_line number digits = digits ++ (codes "  picture " ++ (decimal number ++ codes "\n"))

-- the lines of pictures, of which the first has this number
abbrev pub picture_lines : ℕ → List (List ℕ) → List ℕ
picture_lines number [] = []
picture_lines number (d ∷ ds) = picture_line number d ++ picture_lines (number + 1) ds

-- the sum of all is printed, and before it, if that is asked for, those of the pictures
abbrev pub PrintsSums : Bool → List ℕ → Option (List ℕ) → Option (List ℕ) → Type 0
PrintsSums true name before after =
    (each : List (List ℕ)) × (all : List ℕ) × Appends before after (picture_lines 0 each ++ sum_line all name)
PrintsSums false name before after = (all : List ℕ) × Appends before after (sum_line all name)
