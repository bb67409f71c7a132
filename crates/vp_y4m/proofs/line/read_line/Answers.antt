use Rattle.std.proofs.Common.{◌≡◌, ◌∷◌, [], take, arith}
use Rattle.std.proofs.lemmas.List.{length-take}
use Rattle.vp_y4m.proofs.LineLemmas.{whole_line, longer_line, torn_line, end_of_line}
use Rattle.vp_y4m.proofs.ReadLemmas.{one_read}
use Rattle.vp_y4m.proofs.line.read_line.Goals as goal

pub returns-in-Ok-Some-eq10-clause-line : goal.returns-in-Ok-Some-eq10-clause-line
returns-in-Ok-Some-eq10-clause-line g c =
    let l = length-take c.loop-n.n c.loop-n.line in
    (omega arith, whole_line (take c.loop-n.n c.loop-n.line) _ _ _ (omega arith) c.loop-n.invariant.3 (rw (c.in-Ok-Some-eq10.field-0-is, c.in-Ok-Some-eq10.field-0-0-test) at c.in-Ok-Some-eq10.ensures.byte))

pub returns-in-Ok-None-clause-line : goal.returns-in-Ok-None-clause-line
returns-in-Ok-None-clause-line g c =
    let end = rw c.in-Ok-None.field-0-is at c.in-Ok-None.ensures.byte in
    end_of_line _ c.loop-n.n c.loop-n.line _ _ _ c.end_after.ensures (omega arith) c.loop-n.invariant.1 c.loop-n.invariant.3 end.0 end.1

pub returns-in-Ok-Some-eq10-read_byte-clause-line :
    goal.returns-in-Ok-Some-eq10-read_byte-clause-line
returns-in-Ok-Some-eq10-read_byte-clause-line g c =
    let e : c.loop-n.n ≡ 1024 = omega arith in
    let l = length-take 1024 c.loop-n.line in
    (omega arith, whole_line (take 1024 c.loop-n.line) _ _ _ (omega arith) (rw e at c.loop-n.invariant.3) (rw (c.in-Ok-Some-eq10-read_byte.field-0-is, c.in-Ok-Some-eq10-read_byte.field-0-0-test) at c.in-Ok-Some-eq10-read_byte.ensures.byte))

pub returns-in-Ok-Some-read_byte-clause-line : goal.returns-in-Ok-Some-read_byte-clause-line
returns-in-Ok-Some-read_byte-clause-line g c =
    let l = length-take c.loop-n.n c.loop-n.line in
    longer_line (take c.loop-n.n c.loop-n.line) c.in-Ok-Some-read_byte.field-0-0 _ _ _ (omega arith) c.loop-n.invariant.3 (rw c.in-Ok-Some-read_byte.field-0-is at c.in-Ok-Some-read_byte.ensures.byte) c.in-Ok-Some-read_byte.field-0-0-test.1

pub returns-in-Ok-None-read_byte-clause-line : goal.returns-in-Ok-None-read_byte-clause-line
returns-in-Ok-None-read_byte-clause-line g c =
    let end = rw c.in-Ok-None-read_byte.field-0-is at c.in-Ok-None-read_byte.ensures.byte in
    let l = length-take c.loop-n.n c.loop-n.line in
    torn_line (take c.loop-n.n c.loop-n.line) _ _ _ (omega arith) (omega arith) c.loop-n.invariant.3 end.0 end.1

pub returns-in-Ok-Some-eq10-clause-reads : goal.returns-in-Ok-Some-eq10-clause-reads
returns-in-Ok-Some-eq10-clause-reads g c =
    let l = length-take c.loop-n.n c.loop-n.line in
    one_read 0 c.loop-n.n (take c.loop-n.n c.loop-n.line) (10 ∷ []) _ _ _ _ _ _ (omega arith) c.loop-n.invariant.3.consumed
    (rw (c.in-Ok-Some-eq10.field-0-is, c.in-Ok-Some-eq10.field-0-0-test) at c.in-Ok-Some-eq10.ensures.byte) c.loop-n.invariant.2 c.in-Ok-Some-eq10.ensures.reads (omega arith)

pub returns-in-Ok-Some-eq10-read_byte-clause-reads :
    goal.returns-in-Ok-Some-eq10-read_byte-clause-reads
returns-in-Ok-Some-eq10-read_byte-clause-reads g c =
    let l = length-take c.loop-n.n c.loop-n.line in
    one_read 0 c.loop-n.n (take c.loop-n.n c.loop-n.line) (10 ∷ []) _ _ _ _ _ _ (omega arith) c.loop-n.invariant.3.consumed
    (rw (c.in-Ok-Some-eq10-read_byte.field-0-is, c.in-Ok-Some-eq10-read_byte.field-0-0-test) at c.in-Ok-Some-eq10-read_byte.ensures.byte) c.loop-n.invariant.2 c.in-Ok-Some-eq10-read_byte.ensures.reads (omega arith)

pub returns-in-Ok-Some-read_byte-clause-reads : goal.returns-in-Ok-Some-read_byte-clause-reads
returns-in-Ok-Some-read_byte-clause-reads g c =
    let l = length-take c.loop-n.n c.loop-n.line in
    one_read 0 c.loop-n.n (take c.loop-n.n c.loop-n.line) (c.in-Ok-Some-read_byte.field-0-0 ∷ []) _ _ _ _ _ _ (omega arith) c.loop-n.invariant.3.consumed
    (rw c.in-Ok-Some-read_byte.field-0-is at c.in-Ok-Some-read_byte.ensures.byte) c.loop-n.invariant.2 c.in-Ok-Some-read_byte.ensures.reads (omega arith)
