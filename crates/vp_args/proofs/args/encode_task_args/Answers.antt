use Rattle.std.proofs.Common.{arith, refl}
use Rattle.vp_args.proofs.args.encode_task_args.Goals as goal

pub overflow_cast-result : goal.overflow_cast-result
overflow_cast-result c = let h = rw c.as_slice.ensures at c.in_ok-qi.ensures.numbers in omega (arith, h.0.2)

pub overflow_cast-result-2 : goal.overflow_cast-result-2
overflow_cast-result-2 c = let h = rw c.as_slice.ensures at c.in_ok-qi.ensures.numbers in omega (arith, h.1.0.2)

pub overflow_cast-result-3 : goal.overflow_cast-result-3
overflow_cast-result-3 c = let h = rw c.as_slice.ensures at c.in_ok-qi.ensures.numbers in omega (arith, h.1.1.0.2)

pub overflow_cast-result-4 : goal.overflow_cast-result-4
overflow_cast-result-4 c = let h = rw c.as_slice.ensures at c.in_ok-qi.ensures.numbers in omega (arith, h.1.1.1.1.1.0.2)

pub overflow_cast-result-5 : goal.overflow_cast-result-5
overflow_cast-result-5 c = let h = rw c.as_slice.ensures at c.in_ok-qi.ensures.numbers in omega (arith, h.1.1.1.1.1.1.0.2)

pub returns-clause-plan : goal.returns-clause-plan
returns-clause-plan c = let h = rw c.as_slice.ensures at c.in_ok-qi.ensures.numbers in record {
  settings_are = record {
    qi = h.0.0;
    level = h.1.0.0;
    sharpness = h.1.1.0.0;
    simple = c.is_set.ensures;
    key_every = h.1.1.1.0.0;
    golden_every = h.1.1.1.1.0.0;
    range = h.1.1.1.1.1.0.0;
    subpel = c.is_set-2.ensures;
    partitions = h.1.1.1.1.1.1.0.0;
  };
  progress_is = c.is_set-3.ensures;
  live_is = c.is_set-4.ensures;
  limits_are = record { packets_are = h.1.1.1.1.1.1.1.0.0; pixels_are = h.1.1.1.1.1.1.1.1.0.0 };
  input_is = refl;
  output_is = refl;
}
