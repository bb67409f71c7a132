-- A file is fed piece by piece.
use Rattle.std.proofs.Common.{◌≡◌, ◌≢◌, ◌++◌, ℕ, List, [], ◌∷◌, Option, Some, None, Ok, Err, refl, ap, sym, subst, ◌∙◌, append-nil, Bool, true, false, arith, inl, inr}
use Rattle.std.specs.Prelude.{All, IsOk}
use Rattle.std.specs.List.{concat}
use Rattle.std.proofs.lemmas.List.Elements.{All-push}
use Rattle.std.proofs.lemmas.List.Folds.{concat-append}
use Rattle.vp_hub.specs.declared.event.Event.{Event}
use Rattle.vp_hub.specs.declared.event.Event.TheVariants.{Feed, End}
use Rattle.vp_hub.specs.Hub.{Outcome, HubState, IsStep}
use Rattle.vp_hub.specs.declared.event.HubFault.{HubFault}
use Rattle.vp_hub.specs.declared.event.HubFault.TheVariants.{Memory}
use Rattle.vp_hub.specs.View.{IsRun, is_memory}
use Rattle.vp_hub.proofs.Isolation.{run_more, memory_isn't}
use Rattle.vp_app.specs.Feeding.{feeds, IsFed, FeedsPiece}

feeds_push : (name : List ℕ) (pieces : List (List ℕ)) (piece : List ℕ) → feeds name (pieces ++ piece ∷ []) ≡ feeds name pieces ++ Feed name piece ∷ []
feeds_push name [] piece = refl
feeds_push name (p ∷ pieces) piece = ap (λ (es : List Event). Feed name p ∷ es) (feeds_push name pieces piece)

concat_push : (pieces : List (List ℕ)) (piece : List ℕ) → concat (pieces ++ piece ∷ []) ≡ concat pieces ++ piece
concat_push pieces piece = concat-append pieces (piece ∷ []) ∙ ap (λ (xs : List ℕ). concat pieces ++ xs) (append-nil piece)

-- these bytes were read, fed and taken
pub record IsFeeding (name : List ℕ) (old now : HubState) (file : List ℕ) : Type 0 where
  pub pieces : List (List ℕ)
  pub taken : List Outcome
  pub file_is : file ≡ concat pieces
  pub run : IsRun old (feeds name pieces) taken now
  pub all_taken : All IsOk taken

none_yet : {X : Type 0} (P : X → Type 0) → All P []
none_yet P k d lt = absurd (omega (arith, lt))

pub at_first : (name : List ℕ) (old : HubState) → IsFeeding name old old []
at_first name old = record { pieces = []; taken = []; file_is = refl; run = refl; all_taken = none_yet IsOk }

module _ (name : List ℕ) (old now new : HubState) (file piece : List ℕ) (h : IsFeeding name old now file) where
  read_on : file ++ piece ≡ concat (h.pieces ++ piece ∷ [])
  read_on = ap (λ (xs : List ℕ). xs ++ piece) h.file_is ∙ sym (concat_push h.pieces piece)

  run_on : (o : Outcome) → IsStep now (Feed name piece) o new → IsRun old (feeds name (h.pieces ++ piece ∷ [])) (h.taken ++ o ∷ []) new
  run_on o step = subst (λ (es : List Event). IsRun old es (h.taken ++ o ∷ []) new) (sym (feeds_push name h.pieces piece))
      (run_more old (feeds name h.pieces) h.taken now (Feed name piece) o new h.run step)

pub feeds_on : (name : List ℕ) (old now new : HubState) (file piece : List ℕ) (left : Option (List ℕ)) (b : Bool) → b ≡ true → IsFeeding name old now file
    → FeedsPiece name now new (Ok b) piece left → IsFeeding name old new (file ++ piece)
feeds_on name old now new file piece left true is h (reply, step) = record {
  pieces = h.pieces ++ piece ∷ [];
  taken = h.taken ++ Ok reply ∷ [];
  file_is = read_on name old now new file piece h;
  run = run_on name old now new file piece h (Ok reply) step;
  all_taken = All-push IsOk h.taken (Ok reply) h.all_taken refl;
}
feeds_on name old now new file piece left false is h x = absurd (differ is)
  where
    differ : false ≡ true → ⊥
    differ e = cc

pub is_fed : (name : List ℕ) (old now new : HubState) (file piece : List ℕ) (left : Option (List ℕ)) (b : Bool) → b ≡ false → IsFeeding name old now file
    → FeedsPiece name now new (Ok b) piece left → IsFed name old new (file ++ piece) left
is_fed name old now new file piece left true is h x = absurd (differ is)
  where
    differ : true ≡ false → ⊥
    differ e = cc
is_fed name old now new file piece left false is h (inl (none, end, (o, step))) = record {
  pieces = h.pieces;
  taken = h.taken;
  fault = None;
  told = o;
  file_is = ap (λ (xs : List ℕ). file ++ xs) none ∙ (append-nil file ∙ h.file_is);
  run = subst (λ (os : List Outcome). IsRun old (feeds name h.pieces ++ End name ∷ []) (os ++ o ∷ []) new) (sym (append-nil h.taken))
      (run_more old (feeds name h.pieces) h.taken now (End name) o new h.run step);
  all_taken = h.all_taken;
  whole = end;
}
is_fed name old now new file piece left false is h (inr (fault, mid, o, not_memory, feed, end)) = record {
  pieces = h.pieces ++ piece ∷ [];
  taken = h.taken;
  fault = Some fault;
  told = o;
  file_is = read_on name old now mid file piece h;
  run = run_more old (feeds name (h.pieces ++ piece ∷ [])) (h.taken ++ Err fault ∷ []) mid (End name) o new
      (run_on name old now mid file piece h (Err fault) feed) end;
  all_taken = h.all_taken;
  whole = not_memory;
}

pub not_memory : (fault : HubFault) → is_memory (Err fault) ≡ false → fault ≢ Memory
not_memory fault h e = memory_isn't (Err fault) h (ap (λ (f : HubFault). Err f) e)
