use Rattle.std.proofs.Common.{◌<◌, ◌≤◌, ◌^◌, length, ap, append_assoc, refl, arith}
use Rattle.vp_y4m.proofs.DecimalLemmas.{decimal_of_one, decimal_of_more, length_of_more}
use Rattle.vp_y4m.proofs.writing.+put_digits.Goals as goal

pub put_text-requires : goal.put_text-requires
put_text-requires t c =
    let e = ap length (decimal_of_one c.args.n (let f : c.args.n < 10 = omega arith in f)) in omega arith

pub returns-then-n-lt10-clause-place : goal.returns-then-n-lt10-clause-place
returns-then-n-lt10-clause-place t c =
    let e = ap length (decimal_of_one c.args.n (let f : c.args.n < 10 = omega arith in f)) in omega arith

pub returns-then-n-lt10-clause-text : goal.returns-then-n-lt10-clause-text
returns-then-n-lt10-clause-text t c = rw (decimal_of_one c.args.n (let f : c.args.n < 10 = omega arith in f)) c.put_text.ensures.text

pub put_digits-at-requires : goal.put_digits-at-requires
put_digits-at-requires t c =
    let e = length_of_more c.args.n (let f : c.args.n < 2 ^ 32 = omega arith in f) (let f : 10 ≤ c.args.n = omega arith in f) in
    (omega arith, omega arith)

pub put_text-requires-2 : goal.put_text-requires-2
put_text-requires-2 t c =
    let e = length_of_more c.args.n (let f : c.args.n < 2 ^ 32 = omega arith in f) (let f : 10 ≤ c.args.n = omega arith in f) in
    omega arith

pub returns-clause-place : goal.returns-clause-place
returns-clause-place t c =
    let e = length_of_more c.args.n (let f : c.args.n < 2 ^ 32 = omega arith in f) (let f : 10 ≤ c.args.n = omega arith in f) in
    omega arith

pub returns-clause-text : goal.returns-clause-text
returns-clause-text t c =
    let e = decimal_of_more c.args.n (let f : c.args.n < 2 ^ 32 = omega arith in f) (let f : 10 ≤ c.args.n = omega arith in f) in
    rw (c.put_text-2.ensures.text, c.put_digits-at.ensures.text, e, append_assoc) refl
