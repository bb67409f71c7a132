-- The facts of a frame are those of the states before and after it, and of the answer.
use Rattle.std.proofs.Common.{[]}
use Rattle.vp_decode.proofs.Words.{◌≡◌, ◌∙◌, ℕ, Bool, true, false, List, ◌∷◌, Some, None, Ok, Err, inl, inr, refl, sym, ap, subst, Option, Result, IsSomeAnd, is_some, or_parts, Image, Limits, PacketFault, Header, KeyTag, Last, References, copied_by, reference_picture, picture_of, facts_of, facts_in, frame_facts, shown_before, IsOlder, AreFactsOfStep, DecoderState, FrameContext, ParsedPacket, context_of, parsed, frame_of_packet, references_after, shown_after, state_after, answer, decoded, step, outcome, ◌⊎◌, ◌||◌, FrameFacts}
use Rattle.std.specs.Prelude.{if◌then◌else◌}
use Rattle.vp_head.specs.declared.fields.ReferenceUpdates.{ReferenceUpdates}
use Rattle.vp_head.specs.declared.fields.Reference.{Reference}
use Rattle.vp_head.specs.declared.fields.Reference.TheVariants as reference_is
use Rattle.vp_decode.specs.declared.decoder.Outcome.TheVariants as code
use Rattle.vp_decode.proofs.CutLemmas.{IsOpened, opened-is, by_context}
use Rattle.vp_decode.proofs.SizeLemmas.{KeepsShape, copied_keeps, newest_is, picture_shaped}

-- the references that are refreshed
record AreNew (before : Option References) (h : Header) (p : Image) : Type 0 where
  last : (h.key || h.updates.refresh_last) ≡ true → (references_after before h p).last ≡ p
  golden : (h.key || h.updates.refresh_golden) ≡ true → (references_after before h p).golden ≡ p
  alt : (h.key || h.updates.refresh_alt) ≡ true → (references_after before h p).alt ≡ p

are_new : (before : Option References) (h : Header) (p : Image) → AreNew before h p
are_new None h p = record { last = λ e. refl; golden = λ e. refl; alt = λ e. refl }
are_new (Some r) h p = record { last = λ e. rw e refl; golden = λ e. rw e refl; alt = λ e. rw e refl }

-- a picture that is one of three
abbrev IsOld : References → Image → Type 0
IsOld b p = (p ≡ b.last) ⊎ (p ≡ b.golden) ⊎ (p ≡ b.alt)

-- the references that are not refreshed
record AreOld (before : Option References) (b : References) (h : Header) (p : Image) : Type 0 where
  last : (h.key || h.updates.refresh_last) ≡ false → (references_after before h p).last ≡ b.last
  golden : (h.key || h.updates.refresh_golden) ≡ false → IsOld b (references_after before h p).golden
  alt : (h.key || h.updates.refresh_alt) ≡ false → IsOld b (references_after before h p).alt

are_old : (before : Option References) (b : References) (h : Header) (p : Image) → before ≡ Some b → AreOld before b h p
are_old before b h p e =
    let u : ReferenceUpdates = h.updates in
    let alt : IsOld b (copied_by u.copy_to_alt b.last b.golden b.alt) = copied_keeps (IsOld b) u.copy_to_alt b.last b.golden b.alt (inl refl) (inr (inl refl)) (inr (inr refl)) in
    rw e (record {
      last = λ off. rw off refl;
      golden = λ off. rw off (copied_keeps (IsOld b) u.copy_to_golden b.last _ b.golden (inl refl) alt (inr (inl refl)));
      alt = λ off. rw off alt;
    })

-- ---- what a frame has of the state before

shown_is : (key : Option KeyTag) (state : Option DecoderState) (context : FrameContext) → context_of key state ≡ Ok context → context.shown ≡ shown_before (is_some key) state
shown_is = by_context (λ key state context. context.shown ≡ shown_before (is_some key) state) (λ key state. refl) (λ k. refl)

-- the state before, and its references
record HasBefore (state : Option DecoderState) (references : Option References) : Type 0 where
  before : DecoderState
  is : state ≡ Some before
  has : references ≡ Some before.references

before_by : (key : Option KeyTag) (state : Option DecoderState) (context : FrameContext) → context_of key state ≡ Ok context → is_some key ≡ false → HasBefore state context.references
before_by = by_context (λ key state context. is_some key ≡ false → HasBefore state context.references) (λ key state off. absurd cc) (λ k off. record { before = k; is = refl; has = refl })

-- a frame that doesn't refresh a reference is no key frame, and has the references of a state before
before_is : (limits : Limits) (state : Option DecoderState) (packet : List ℕ) (o : ParsedPacket) (refresh : Bool) → IsOpened limits state packet o → (o.header.key || refresh) ≡ false
    → HasBefore state o.context.references
before_is limits state packet o refresh is off = before_by o.tag.key state o.context is.context_is (sym is.key_is ∙ (or_parts o.header.key refresh off).0)

facts_hold : KeepsShape → (limits : Limits) (state : Option DecoderState) (packet : List ℕ) (o : ParsedPacket) → IsOpened limits state packet o → AreFactsOfStep (facts_of o) state (state_after o)
facts_hold law limits state packet o is =
    let p : Image = picture_of (frame_of_packet o) in
    let newest = newest_is o.context.references o.header p in
    let shaped = picture_shaped law (frame_of_packet o) in
    let new = are_new o.context.references o.header p in
    let u : ReferenceUpdates = o.header.updates in
    record {
      width_is = ap (λ (q : Image). q.width) newest ∙ shaped.width_is;
      height_is = ap (λ (q : Image). q.height) newest ∙ shaped.height_is;
      shown = λ e. subst (λ (show : Bool). shown_after show p o.context.shown ≡ Some (state_after o).references.newest) (sym e) (ap Some (sym newest));
      hidden = λ e. subst (λ (show : Bool). shown_after show p o.context.shown ≡ shown_before (is_some o.tag.key) state) (sym e) (shown_is o.tag.key state o.context is.context_is);
      last = λ e. new.last e ∙ sym newest;
      golden = λ e. new.golden e ∙ sym newest;
      alt = λ e. new.alt e ∙ sym newest;
      last_stays = λ e. let b = before_is limits state packet o u.refresh_last is e in rw b.is ((are_old o.context.references b.before.references o.header p b.has).last e);
      older_golden = λ e. let b = before_is limits state packet o u.refresh_golden is e in rw b.is ((are_old o.context.references b.before.references o.header p b.has).golden e);
      older_alt = λ e. let b = before_is limits state packet o u.refresh_alt is e in rw b.is ((are_old o.context.references b.before.references o.header p b.has).alt e);
    }

state_by : KeepsShape → (limits : Limits) (state : Option DecoderState) (packet : List ℕ) (r : Result ParsedPacket PacketFault) (f : FrameFacts) → parsed limits state packet ≡ r → facts_in r ≡ Some f
    → IsSomeAnd (decoded r).0 (AreFactsOfStep f state)
state_by law limits state packet (Err g) f is e = absurd cc
state_by law limits state packet (Ok o) f is e =
    let same : facts_of o ≡ f = cc in
    subst (λ (x : FrameFacts). AreFactsOfStep x state (state_after o)) same (facts_hold law limits state packet o (opened-is limits state packet o is))

answer_is : (show : Bool) (p : Image) → outcome (answer show p) ≡ (if show then code.Shown else code.Hidden)
answer_is true p = refl
answer_is false p = refl

outcome_by : (r : Result ParsedPacket PacketFault) (f : FrameFacts) → facts_in r ≡ Some f → outcome (decoded r).1 ≡ (if f.shown then code.Shown else code.Hidden)
outcome_by (Err g) f e = absurd cc
outcome_by (Ok o) f e = let same : facts_of o ≡ f = cc in answer_is o.tag.show (picture_of (frame_of_packet o)) ∙ ap (λ (x : FrameFacts). if x.shown then code.Shown else code.Hidden) same

pub facts_of_state : KeepsShape → (limits : Limits) (state : Option DecoderState) (packet : List ℕ) (f : FrameFacts) → frame_facts limits state packet ≡ Some f
    → IsSomeAnd (step limits state packet).0 (AreFactsOfStep f state)
unfolding step frame_facts
facts_of_state law limits state [] f e = absurd cc
facts_of_state law limits state (b ∷ bs) f e = state_by law limits state (b ∷ bs) (parsed limits state (b ∷ bs)) f refl e

pub facts_of_outcome : (limits : Limits) (state : Option DecoderState) (packet : List ℕ) (f : FrameFacts) → frame_facts limits state packet ≡ Some f
    → outcome (step limits state packet).1 ≡ (if f.shown then code.Shown else code.Hidden)
unfolding step frame_facts
facts_of_outcome limits state [] f e = absurd cc
facts_of_outcome limits state (b ∷ bs) f e = outcome_by (parsed limits state (b ∷ bs)) f e

-- ---- what the facts say of the reference frames

is_new_or_older : (refreshes : Bool) (before : Option DecoderState) (newest p : Image) → (refreshes ≡ true → p ≡ newest) → (refreshes ≡ false → IsOlder before p) → (p ≡ newest) ⊎ IsOlder before p
is_new_or_older true before newest p new older = inl (new refl)
is_new_or_older false before newest p new older = inr (older refl)

last_is_older : (before : Option DecoderState) (p : Image) → IsSomeAnd before (λ k. p ≡ k.references.last) → IsOlder before p
last_is_older None p h = absurd h
last_is_older (Some k) p h = inl h

last_by : (f : FrameFacts) (before : Option DecoderState) (after : DecoderState) → AreFactsOfStep f before after
    → (after.references.last ≡ after.references.newest) ⊎ IsOlder before after.references.last
last_by f before after h =
    is_new_or_older f.refreshes_last before after.references.newest after.references.last h.last (λ e. last_is_older before after.references.last (h.last_stays e))

pub new_or_older : (f : FrameFacts) (before : Option DecoderState) (after : DecoderState) (r : Reference) → AreFactsOfStep f before after
    → (reference_picture after.references r ≡ after.references.newest) ⊎ IsOlder before (reference_picture after.references r)
new_or_older f before after reference_is.Intra h = last_by f before after h
new_or_older f before after reference_is.Last h = last_by f before after h
new_or_older f before after reference_is.Golden h = is_new_or_older f.refreshes_golden before after.references.newest after.references.golden h.golden h.older_golden
new_or_older f before after reference_is.Alt h = is_new_or_older f.refreshes_alt before after.references.newest after.references.alt h.alt h.older_alt
