-- The packet step (RFC 6386, chapter 5) of a decoder that goes on after damage, which the standard leaves open: a
-- packet with a fault shows no picture and leaves the state. Pinned by the test `a_stream_goes_on_after_damage`.
use Rattle.std.specs.Prelude.{ℕ, Bool, true, false, List, [], ◌∷◌, Option, if◌then◌else◌}
use Rattle.vp_base.specs.declared.limits.Limits.{Limits}
use Rattle.vp_decode.specs.Step.{DecoderState, Answer, Shown, Hidden, Fault, step}

-- the state after an answer: the next one, or the one before a fault
abbrev pub state_kept : Option DecoderState → Option DecoderState → Answer → Option DecoderState
state_kept before next (Shown p) = next
state_kept before next Hidden = next
state_kept before next (Fault f) = before

-- a step's state and answer, where a fault leaves the state before
abbrev pub keeping : Option DecoderState → Option DecoderState × Answer → Option DecoderState × Answer
keeping before s = (state_kept before s.0 s.1, s.1)

-- the packet step, where a fault leaves the state
abbrev pub step_keeping : Limits → Option DecoderState → List ℕ → Option DecoderState × Answer
step_keeping limits state packet = keeping state (step limits state packet)

-- ---- runs of packets

-- whether an answer is no fault
abbrev pub is_decoded : Answer → Bool
is_decoded (Shown p) = true
is_decoded Hidden = true
is_decoded (Fault f) = false

-- the state after packets, one after another
abbrev pub run_state : (Option DecoderState → List ℕ → Option DecoderState × Answer) → Option DecoderState
    → List (List ℕ) → Option DecoderState
run_state next state [] = state
run_state next state (p ∷ ps) = run_state next (next state p).0 ps

-- the answers for packets, one after another
abbrev pub run_answers : (Option DecoderState → List ℕ → Option DecoderState × Answer) → Option DecoderState
    → List (List ℕ) → List Answer
run_answers next state [] = []
run_answers next state (p ∷ ps) = (next state p).1 ∷ run_answers next (next state p).0 ps

-- the packets without faults, each judged in the state in which it is met
abbrev pub sound_packets : Limits → Option DecoderState → List (List ℕ) → List (List ℕ)
sound_packets limits state [] = []
sound_packets limits state (p ∷ ps) =
    if is_decoded (step limits state p).1 then p ∷ sound_packets limits (step limits state p).0 ps
    else sound_packets limits state ps
