use Rattle.std.proofs.Common.{◌≡◌, ◌++◌, ◌∷◌, [], suc, ◌-◌, ◌<◌, length, get_or, Some, None, ◌∙◌, sym, ap, arith}
use Rattle.std.proofs.lemmas.Grind.{common_steps}
use Rattle.std.proofs.lemmas.List.{get_or_read}
use Rattle.vp_stream.specs.Seeking.{is_key, key_before}
use Rattle.vp_stream.proofs.KeyLemmas.{keys_push, key_here, key_before_it, no_key_yet}
use Rattle.vp_stream.proofs.seeking.keep.Goals as goal
use Rattle.vp_stream.proofs.seeking.keep.Goals.{then-is_key, else-is_key+then-place-gt0, else-is_key+else-place-gt0}

pub returns-clause-keys : goal.returns-clause-keys
returns-clause-keys c =
    let ps = c.args.packets.now.items in
    let p = c.args.packet in
    let place : c.len-place.result ≡ length ps = grind (arith, common_steps) in
    let tested : is_key p.bytes ≡ c.is_key.result = ap is_key (sym c.as_slice.ensures) ∙ sym c.is_key.ensures in
    let key : c.if-is_key.key ≡ key_before (ps ++ p ∷ []) (length ps) =
    elim c.if-is_key.branch [
      | then-is_key w ↦ w.key-is ∙ (ap (λ n. Some n) place ∙ sym (key_here ps p (tested ∙ w.if-is_key.true)))
      | else-is_key+then-place-gt0 w ↦
          let m = c.len-place.result - 1 in
          let long : length ps ≡ suc m = omega (arith, w.if-place-gt0.true) in
          let within : m < length c.args.keys.now.items = omega (arith, c.requires.keys.long) in
          let read : w.index.result.now ≡ get_or c.args.keys.now.items m None = get_or_read c.args.keys.now.items m w.index.result.now within w.index.ensures None in
          w.key-is ∙ (read ∙ (c.requires.keys.each m (omega arith) ∙ sym (key_before_it ps p m (tested ∙ w.if-is_key.false) long)))
      | else-is_key+else-place-gt0 w ↦ w.key-is ∙ sym (no_key_yet ps p (tested ∙ w.if-is_key.false) (omega (arith, w.if-place-gt0.false)))
    ] in
    rw (c.push_reserved-2.ensures.items, c.push_reserved.ensures.items) (keys_push ps p c.args.keys.now.items c.if-is_key.key c.requires.keys key)
