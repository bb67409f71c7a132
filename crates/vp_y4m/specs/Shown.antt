-- The model of a header: the numbers in its struct.
use Rattle.std.specs.Prelude.{ℕ, List, Option, Result, Ok, Err}
use Rattle.std.specs.Option.{option_map}
use Rattle.std.specs.Borrow.{Bor}
use Rattle.vp_base.specs.declared.limits.Dim.{Dim}
use Rattle.vp_y4m.specs.declared.header.SourceHead.{SourceHead}
use Rattle.vp_y4m.specs.declared.fault.SourceFault.{SourceFault}
use Rattle.vp_y4m.specs.Header.{Head}

-- the model of a header
abbrev pub head_model : SourceHead → Head
head_model head = record { w = head.dim.w; h = head.dim.h; rate = head.rate; scale = head.scale }

-- the model of the result of parsing a header
abbrev pub outcome_model : Result SourceHead SourceFault → Result Head SourceFault
outcome_model (Ok head) = Ok (head_model head)
outcome_model (Err fault) = Err fault

-- the borrowed text, if any
abbrev pub borrowed_text : Option (Bor (List ℕ)) → Option (List ℕ)
borrowed_text text = option_map (λ t. t.now) text

abbrev pub sides_of : Option Dim → Option (ℕ × ℕ)
sides_of dim = option_map (λ d. (d.w, d.h)) dim
