-- What the streams are fed.
use Rattle.std.proofs.Common.{◌≡◌, ◌++◌, ◌∷◌, ◌∙◌, [], List, Bool, true, false, Option, Some, None, cond, refl, ap, sym, append_assoc, append-nil, flat_map}
use Rattle.vp_hub.specs.Hub.{Outcome}
use Rattle.vp_hub.specs.View.{is_memory}
use Rattle.vp_serve.specs.declared.options.FilePiece.{FilePiece}
use Rattle.vp_serve.specs.ServerLoop.{LoopState, initial, after_feed, Action, Accepted, Rejected, Received, Submitted, Sent, Closed, Grown, Fed, Ended, Waited, IsTransition, IsTrace}
use Rattle.vp_serve.specs.Files.{grown_in, fed_in, fed_pieces, FilesAreFed}

-- what waits and what is read are what is fed and what waits then
abbrev pub Balances : LoopState → Action → LoopState → Type 0
Balances d x e = fed_pieces d.waiting ++ grown_in x ≡ fed_in x ++ fed_pieces e.waiting

same : (d e : LoopState) (x : Action) → grown_in x ≡ [] → fed_in x ≡ [] → e.waiting ≡ d.waiting → Balances d x e
same d e x g f w =
    ap (λ (l : List FilePiece). fed_pieces d.waiting ++ l) g ∙ append-nil (fed_pieces d.waiting) ∙ ap fed_pieces (sym w) ∙ sym (ap (λ (l : List FilePiece). l ++ fed_pieces e.waiting) f)

after_fed : (piece : FilePiece) (o : Outcome) → piece ∷ [] ≡ fed_in (Fed piece o) ++ fed_pieces (after_feed piece o)
after_fed piece o = at (is_memory o)
  where
    at : (b : Bool) → piece ∷ [] ≡ cond b [] (piece ∷ []) ++ fed_pieces (cond b (Some piece) None)
    at true = refl
    at false = refl

one : (d e : LoopState) (x : Action) → IsTransition d x e → Balances d x e
one d e (Accepted c now) h = same d e (Accepted c now) refl refl (ap (λ (t : LoopState). t.waiting) h.3)
one d e (Rejected c fault) h = same d e (Rejected c fault) refl refl (ap (λ (t : LoopState). t.waiting) h.3)
one d e (Received c bytes) h = same d e (Received c bytes) refl refl (ap (λ (t : LoopState). t.waiting) h.4)
one d e (Submitted c now line o) h = same d e (Submitted c now line o) refl refl (ap (λ (t : LoopState). t.waiting) h.7)
one d e (Sent c now bytes) h = same d e (Sent c now bytes) refl refl (ap (λ (t : LoopState). t.waiting) h.5)
one d e (Closed c now reason o) h = same d e (Closed c now reason o) refl refl (ap (λ (t : LoopState). t.waiting) h.4)
one d e (Grown piece) h = ap (λ (w : Option FilePiece). fed_pieces w ++ piece ∷ []) h.0 ∙ sym (ap (λ (t : LoopState). fed_pieces t.waiting) h.1)
one d e (Fed piece o) h =
    append-nil (fed_pieces d.waiting) ∙ ap fed_pieces h.0 ∙ after_fed piece o ∙ sym (ap (λ (t : LoopState). fed_in (Fed piece o) ++ fed_pieces t.waiting) h.2)
one d e (Ended name o) h = same d e (Ended name o) refl refl (ap (λ (t : LoopState). t.waiting) h.2)
one d e (Waited busy clock) h = same d e (Waited busy clock) refl refl (ap (λ (t : LoopState). t.waiting) h.1)

along : (d e : LoopState) (xs : List Action) → IsTrace d xs e → fed_pieces d.waiting ++ flat_map grown_in xs ≡ flat_map fed_in xs ++ fed_pieces e.waiting
along d e [] h = append-nil (fed_pieces d.waiting) ∙ ap (λ (t : LoopState). fed_pieces t.waiting) (sym h)
along d e (x ∷ xs) h =
    let m = h.0 in
    sym (append_assoc (fed_pieces d.waiting) (grown_in x) (flat_map grown_in xs)) ∙ ap (λ (l : List FilePiece). l ++ flat_map grown_in xs) (one d m x h.1)
    ∙ append_assoc (fed_in x) (fed_pieces m.waiting) (flat_map grown_in xs) ∙ ap (λ (l : List FilePiece). fed_in x ++ l) (along m e xs h.2)
    ∙ sym (append_assoc (fed_in x) (flat_map fed_in xs) (fed_pieces e.waiting))

pub fed : FilesAreFed
fed options s xs d h = along (initial options s) d xs h
