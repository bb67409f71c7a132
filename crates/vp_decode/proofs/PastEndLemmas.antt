-- A frame is corrupt exactly if one of its partitions is read past its end.
use Rattle.std.proofs.Common.{[]}
use Rattle.vp_decode.proofs.Words.{◌≡◌, ◌∙◌, ℕ, zero, suc, ◌%◌, ◌<◌, ◌≤◌, true, false, List, ◌∷◌, length, Ok, inl, inr, sym, ap, subst, arith, Option, map, slice_index_or, slice_set, cases_Bool, lt-ltb, ltb-true, ltb-false, or_left, or_right, or_parts, State, initial_state, after_bools, Limits, over-holds, tag_of, FrameInfo, Readings, row_partition, token_row, nothing_read, readings, DecoderState, ParsedPacket, first_part, parsed, maps_before, frame_info_of, first_after, tokens_after, any_past, is_corrupt, corrupt_in, corrupt}
use Rattle.std.proofs.Math.Dec.{ltb}
use Rattle.vp_bool.specs.Laws.{PastIsBits, bits_after_first, bits_shifted}
use Rattle.vp_decode.proofs.TokenGrid.{rests_in_turn}
use Rattle.vp_decode.specs.PastEnd.{IsPastEnd, IsWithin, HasPartPast, AreAllPartsWithin, token_part, token_reader}
use Rattle.vp_decode.proofs.CutLemmas.{opened-is}
use Rattle.vp_decode.proofs.RunLemmas.{IsRun, run-none, run-join, by_header, by_maps_read, by_row_seen}

-- ---- one partition

-- whether a state is past the end is whether more bits are shifted in than follow the first byte
bits_say : PastIsBits → (bytes : List ℕ) (s : State) (ps : List ℕ) → s ≡ after_bools ps (initial_state bytes) → ltb (bits_after_first bytes) (bits_shifted ps (initial_state bytes)) ≡ s.past
bits_say law bytes s ps h = sym (ap (λ (t : State). t.past) h ∙ law bytes ps)

past_end : PastIsBits → (bytes : List ℕ) (s : State) → IsRun (initial_state bytes) s → s.past ≡ true → IsPastEnd bytes s
past_end law bytes s r e = record { probabilities = r.probabilities; read = r.after; past = λ ps h. ltb-true _ _ (bits_say law bytes s ps h ∙ e) }

within_end : PastIsBits → (bytes : List ℕ) (s : State) → IsRun (initial_state bytes) s → s.past ≡ false → IsWithin bytes s
within_end law bytes s r e = record { probabilities = r.probabilities; read = r.after; enough = λ ps h. ltb-false _ _ (bits_say law bytes s ps h ∙ e) }

is_past : PastIsBits → (bytes : List ℕ) (s : State) → IsPastEnd bytes s → s.past ≡ true
is_past law bytes s p = sym (bits_say law bytes s p.probabilities p.read) ∙ lt-ltb _ _ (p.past p.probabilities p.read)

-- a partition is not both
not_both : (bytes : List ℕ) (s : State) → IsPastEnd bytes s → IsWithin bytes s → ⊥
not_both bytes s p w =
    let more : bits_after_first bytes < bits_shifted p.probabilities (initial_state bytes) = p.past p.probabilities p.read in
    let fewer : bits_shifted p.probabilities (initial_state bytes) ≤ bits_after_first bytes = w.enough p.probabilities p.read in
    omega arith

-- ---- the first partition

-- the first partition is read from its start: the header, and then the modes and the motion
first_run : (limits : Limits) (state : Option DecoderState) (packet : List ℕ) (o : ParsedPacket) → parsed limits state packet ≡ Ok o → IsRun (initial_state (first_part o.tag packet)) (first_after o)
first_run limits state packet o e =
    run-join (initial_state (first_part o.tag packet)) o.first (first_after o) (rw ((opened-is limits state packet o e).first_is) ((by_header o.context.saved o.tag).run _))
    ((by_maps_read o.header (maps_before o.context.modes)).run o.first)

-- ---- the token partitions

-- each of these states is after bools that are read from the start of its partition
AreRuns : List (List ℕ) → List State → Type 0
AreRuns [] [] = Unit {0}
AreRuns [] (t ∷ ts) = ⊥
AreRuns (b ∷ bs) [] = ⊥
AreRuns (b ∷ bs) (t ∷ ts) = IsRun (initial_state b) t × AreRuns bs ts

starts : (bs : List (List ℕ)) → AreRuns bs (map initial_state bs)
unfolding AreRuns
starts [] = tt
starts (b ∷ bs) = (run-none (initial_state b), starts bs)

-- one of them is read on
read_on : (bs : List (List ℕ)) (ts : List State) (i : ℕ) (u : State) → AreRuns bs ts → IsRun (slice_index_or ts i (initial_state [])) u → AreRuns bs (slice_set ts i u)
unfolding AreRuns
read_on [] [] i u h r = tt
read_on [] (t ∷ ts) i u h r = absurd h
read_on (b ∷ bs) [] i u h r = absurd h
read_on (b ∷ bs) (t ∷ ts) zero u h r = (run-join (initial_state b) t u h.0 r, h.1)
read_on (b ∷ bs) (t ∷ ts) (suc i) u h r = (h.0, read_on bs ts i u h.1 r)

row_on : (f : FrameInfo) (bs : List (List ℕ)) (row : ℕ) (r : Readings) → AreRuns bs r.rests → AreRuns bs (token_row f row r).rests
row_on f bs row r h = read_on bs r.rests (row % length r.rests) _ h ((by_row_seen f row f.maps.modes.columns r.seen).run (row_partition row r))

token_runs : (f : FrameInfo) (bs : List (List ℕ)) → AreRuns bs (tokens_after f (map initial_state bs))
unfolding readings
token_runs f bs =
    subst (AreRuns bs) (sym (rests_in_turn f (map initial_state bs)))
    (over-holds (λ (r : Readings). AreRuns bs r.rests) f.maps.modes.rows (token_row f) (nothing_read f (map initial_state bs)) (λ row below r. row_on f bs row r) (starts bs))

-- a partition that is read past its end
record HasPast (bs : List (List ℕ)) (ts : List State) : Type 0 where
  at : ℕ
  is_part : at < length bs
  past : IsPastEnd (slice_index_or bs at []) (slice_index_or ts at (initial_state []))

find_past : PastIsBits → (bs : List (List ℕ)) (ts : List State) → AreRuns bs ts → any_past ts ≡ true → HasPast bs ts
unfolding AreRuns
find_past law [] [] h e = absurd cc
find_past law [] (t ∷ ts) h e = absurd h
find_past law (b ∷ bs) [] h e = absurd h
find_past law (b ∷ bs) (t ∷ ts) h e = elim (cases_Bool t.past) [
  | inl is ↦ record { at = 0; is_part = omega arith; past = past_end law b t h.0 is }
  | inr off ↦
      let rest : any_past ts ≡ true = rw off at e in
      let more : HasPast bs ts = find_past law bs ts h.1 rest in
      let below : more.at < length bs = more.is_part in
      record { at = suc more.at; is_part = omega arith; past = more.past }
]

all_within : PastIsBits → (bs : List (List ℕ)) (ts : List State) → AreRuns bs ts → any_past ts ≡ false → (i : ℕ) → i < length bs
    → IsWithin (slice_index_or bs i []) (slice_index_or ts i (initial_state []))
unfolding AreRuns
all_within law [] ts h e i below = absurd (omega arith)
all_within law (b ∷ bs) [] h e i below = absurd h
all_within law (b ∷ bs) (t ∷ ts) h e zero below = within_end law b t h.0 (or_parts t.past (any_past ts) e).0
all_within law (b ∷ bs) (t ∷ ts) h e (suc i) below = all_within law bs ts h.1 (or_parts t.past (any_past ts) e).1 i (omega arith)

is_any_past : PastIsBits → (bs : List (List ℕ)) (ts : List State) → AreRuns bs ts → (i : ℕ) → i < length bs → IsPastEnd (slice_index_or bs i []) (slice_index_or ts i (initial_state []))
    → any_past ts ≡ true
unfolding AreRuns
is_any_past law [] ts h i below p = absurd (omega arith)
is_any_past law (b ∷ bs) [] h i below p = absurd h
is_any_past law (b ∷ bs) (t ∷ ts) h zero below p = or_left t.past (any_past ts) (is_past law b t p)
is_any_past law (b ∷ bs) (t ∷ ts) h (suc i) below p = or_right t.past (any_past ts) (is_any_past law bs ts h.1 i (omega arith) p)

-- ---- the frame

-- whether the frame of a packet is corrupt is asked of the packet that is opened
corrupt_at : (limits : Limits) (state : Option DecoderState) (packet : List ℕ) (o : ParsedPacket) → parsed limits state packet ≡ Ok o → corrupt limits state packet ≡ is_corrupt o
unfolding corrupt tag_of
corrupt_at limits state [] o e = let none : tag_of limits [] ≡ Ok o.tag = (opened-is limits state [] o e).tag_is in absurd cc
corrupt_at limits state (b ∷ bs) o e = ap corrupt_in e

runs_of : (o : ParsedPacket) → AreRuns o.partitions (tokens_after (frame_info_of o) (map initial_state o.partitions))
runs_of o = token_runs (frame_info_of o) o.partitions

none_past : (packet : List ℕ) (o : ParsedPacket) → AreAllPartsWithin packet o → HasPartPast packet o → ⊥
none_past packet o w (inl first) = not_both (first_part o.tag packet) (first_after o) first w.first
none_past packet o w (inr part) = not_both (token_part o part.0) (token_reader o part.0) part.1.past (w.tokens part.0 part.1.is_part)

module _ (law : PastIsBits) (limits : Limits) (state : Option DecoderState) (packet : List ℕ) (o : ParsedPacket) (e : parsed limits state packet ≡ Ok o) where
  pub corrupt-past : corrupt limits state packet ≡ true → HasPartPast packet o
  unfolding is_corrupt
  corrupt-past is = elim (cases_Bool (first_after o).past) [
    | inl past ↦ inl (past_end law (first_part o.tag packet) (first_after o) (first_run limits state packet o e) past)
    | inr off ↦
        let found = find_past law o.partitions _ (runs_of o) (rw off at (sym (corrupt_at limits state packet o e) ∙ is)) in
        inr (found.at, record { is_part = found.is_part; past = found.past })
  ]

  pub corrupt-within : corrupt limits state packet ≡ false → AreAllPartsWithin packet o
  unfolding is_corrupt
  corrupt-within is =
      let each = or_parts (first_after o).past (any_past (tokens_after (frame_info_of o) (map initial_state o.partitions))) (sym (corrupt_at limits state packet o e) ∙ is) in
      record { first = within_end law (first_part o.tag packet) (first_after o) (first_run limits state packet o e) each.0; tokens = all_within law o.partitions _ (runs_of o) each.1 }

  pub corrupt-told : HasPartPast packet o → corrupt limits state packet ≡ true
  unfolding is_corrupt
  corrupt-told (inl first) = corrupt_at limits state packet o e ∙ or_left _ _ (is_past law (first_part o.tag packet) (first_after o) first)
  corrupt-told (inr part) = corrupt_at limits state packet o e ∙ or_right (first_after o).past _ (is_any_past law o.partitions _ (runs_of o) part.0 part.1.is_part part.1.past)

  pub corrupt-not_told : AreAllPartsWithin packet o → corrupt limits state packet ≡ false
  corrupt-not_told w = elim (cases_Bool (corrupt limits state packet)) [
    | inl is ↦ absurd (none_past packet o w (corrupt-past is))
    | inr off ↦ off
  ]
