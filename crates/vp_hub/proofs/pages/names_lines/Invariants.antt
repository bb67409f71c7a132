use Rattle.std.proofs.Common.{◌≡◌, take}
use Rattle.vp_hub.specs.Pages.{names_text}
use Rattle.vp_hub.proofs.pages.names_lines.Given as goal

abbrev pub invariant-loop-name : goal.invariant-loop-name
invariant-loop-name l = l.text ≡ names_text (take l.name-index l.names)
