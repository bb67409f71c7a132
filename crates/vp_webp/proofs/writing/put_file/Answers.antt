use Rattle.std.proofs.Common.{List, ℕ, ◌++◌, length, Option, Result, Ok, Err, OnOk}
use Rattle.std.specs.Io.KnownBytes.{Appends}
use Rattle.vp_base.proofs.Writes.{appends_both, front_first, front_second}
use Rattle.vp_webp.specs.Text.{webp_head_text, padding}
use Rattle.vp_webp.proofs.writing.put_file.Goals as goal

-- what is written after other bytes
writes_after : {E : Type 0} (r : Result (Unit {0}) E) (a b c : Option (List ℕ)) (xs ys : List ℕ) → Appends a b xs
    → OnOk r (Appends b c ys) → OnOk r (Appends a c (xs ++ ys))
writes_after (Ok x) a b c xs ys p q = appends_both a b c xs ys p q
writes_after (Err e) a b c xs ys p q = tt

pub returns-in_default-clause-prefix : goal.returns-in_default-clause-prefix
returns-in_default-clause-prefix g c =
    let packet = c.args.packet.now in
    front_first _ _ _ (padding (length packet))
    (front_first _ _ _ packet (rw c.head_bytes.ensures at c.in_default.ensures.prefix))

pub returns-in_default-put_all-clause-prefix : goal.returns-in_default-put_all-clause-prefix
returns-in_default-put_all-clause-prefix g c =
    let packet = c.args.packet.now in
    front_first _ _ _ (padding (length packet))
    (front_second _ _ _ _ packet (rw c.head_bytes.ensures at c.in-Ok.ensures.ok) c.in_default-put_all.ensures.prefix)

pub returns-clause-ok : goal.returns-clause-ok
returns-clause-ok g c =
    let packet = c.args.packet.now in
    let both = appends_both _ _ _ (webp_head_text (length packet)) packet (rw c.head_bytes.ensures at c.in-Ok.ensures.ok)
    c.in-Ok-put_all.ensures.ok in
    writes_after c.put_padding.result _ _ _ (webp_head_text (length packet) ++ packet) (padding (length packet)) both c.put_padding.ensures.ok

pub returns-clause-prefix : goal.returns-clause-prefix
returns-clause-prefix g c =
    let packet = c.args.packet.now in
    let both = appends_both _ _ _ (webp_head_text (length packet)) packet (rw c.head_bytes.ensures at c.in-Ok.ensures.ok)
    c.in-Ok-put_all.ensures.ok in
    front_second _ _ _ (webp_head_text (length packet) ++ packet) (padding (length packet)) both c.put_padding.ensures.prefix
