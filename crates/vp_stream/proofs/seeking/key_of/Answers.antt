use Rattle.std.proofs.Common.{◌≡◌, ◌-◌, ◌+◌, ◌≤◌, length, ◌∙◌, sym, ap, arith, List, []}
use Rattle.std.proofs.lemmas.Grind.{common_steps}
use Rattle.std.proofs.lemmas.List.{nil_from_length}
use Rattle.vp_ivf.specs.declared.packet.Packet.{Packet}
use Rattle.vp_stream.specs.Seeking.{key_before}
use Rattle.vp_stream.proofs.KeyLemmas.{last_before, none_before}
use Rattle.vp_stream.proofs.seeking.key_of.Goals as goal

pub returns-then-is_empty : goal.returns-then-is_empty
returns-then-is_empty c =
    let none : length c.args.keys.now ≡ 0 = grind (arith, common_steps) in
    let empty : c.args.packets.now ≡ [] = nil_from_length c.args.packets.now (sym c.requires.long ∙ none) in
    sym (ap (λ (ps : List Packet). key_before ps c.args.n) empty ∙ none_before c.args.n)

pub returns-else-is_empty : goal.returns-else-is_empty
returns-else-is_empty c =
    let some : 1 ≤ length c.args.keys.now = grind (arith, common_steps) in
    let m = length c.args.keys.now - 1 in
    let long : length c.args.packets.now ≡ m + 1 = omega (arith, c.requires.long) in
    c.requires.each m (omega arith) ∙ sym (last_before c.args.packets.now c.args.n m long (omega arith))
