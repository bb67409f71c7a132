-- A step that leaves the state after a fault, beside one that drops it.
use Rattle.std.proofs.Common.{[]}
use Rattle.vp_decode.proofs.Words.{◌≡◌, ◌∙◌, ℕ, List, ◌∷◌, refl, sym, ap, Option, Limits, DecoderState, Answer, Shown, Hidden, Fault, step}
use Rattle.std.specs.Prelude.{filter, if◌then◌else◌}
use Rattle.vp_decode.specs.Keeping.{keeping, step_keeping, is_decoded, run_state, run_answers, sound_packets}

skipped_state : (limits : Limits) (state : Option DecoderState) (p : List ℕ) (ps : List (List ℕ))
    → ((next : Option DecoderState) → run_state (step_keeping limits) next ps ≡ run_state (step limits) next (sound_packets limits next ps))
    → (s : Option DecoderState × Answer) → step limits state p ≡ s
    → run_state (step_keeping limits) (keeping state s).0 ps
    ≡ run_state (step limits) state (if is_decoded s.1 then p ∷ sound_packets limits s.0 ps else sound_packets limits state ps)
skipped_state limits state p ps rest (next, Shown q) e =
    rest next ∙ ap (λ (t : Option DecoderState × Answer). run_state (step limits) t.0 (sound_packets limits next ps)) (sym e)
skipped_state limits state p ps rest (next, Hidden) e =
    rest next ∙ ap (λ (t : Option DecoderState × Answer). run_state (step limits) t.0 (sound_packets limits next ps)) (sym e)
skipped_state limits state p ps rest (next, Fault f) e = rest state

pub same_states : (limits : Limits) (packets : List (List ℕ)) (state : Option DecoderState)
    → run_state (step_keeping limits) state packets ≡ run_state (step limits) state (sound_packets limits state packets)
same_states limits [] state = refl
same_states limits (p ∷ ps) state = skipped_state limits state p ps (same_states limits ps) (step limits state p) refl

skipped_answers : (limits : Limits) (state : Option DecoderState) (p : List ℕ) (ps : List (List ℕ))
    → ((next : Option DecoderState) → filter is_decoded (run_answers (step_keeping limits) next ps) ≡ run_answers (step limits) next (sound_packets limits next ps))
    → (s : Option DecoderState × Answer) → step limits state p ≡ s
    → filter is_decoded (s.1 ∷ run_answers (step_keeping limits) (keeping state s).0 ps)
    ≡ run_answers (step limits) state (if is_decoded s.1 then p ∷ sound_packets limits s.0 ps else sound_packets limits state ps)
skipped_answers limits state p ps rest (next, Shown q) e =
    ap (λ (xs : List Answer). Shown q ∷ xs) (rest next)
    ∙ ap (λ (t : Option DecoderState × Answer). t.1 ∷ run_answers (step limits) t.0 (sound_packets limits next ps)) (sym e)
skipped_answers limits state p ps rest (next, Hidden) e =
    ap (λ (xs : List Answer). Hidden ∷ xs) (rest next)
    ∙ ap (λ (t : Option DecoderState × Answer). t.1 ∷ run_answers (step limits) t.0 (sound_packets limits next ps)) (sym e)
skipped_answers limits state p ps rest (next, Fault f) e = rest state

pub same_answers : (limits : Limits) (packets : List (List ℕ)) (state : Option DecoderState)
    → filter is_decoded (run_answers (step_keeping limits) state packets) ≡ run_answers (step limits) state (sound_packets limits state packets)
same_answers limits [] state = refl
same_answers limits (p ∷ ps) state = skipped_answers limits state p ps (same_answers limits ps) (step limits state p) refl
