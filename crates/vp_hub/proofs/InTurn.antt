-- Lines handed in one after another, each after the response to the line before it.
use Rattle.std.proofs.Common.{◌++◌, ◌∷◌, ℕ, List, [], Option, Some, None, Result, Ok, Err, refl, sym, subst, append-nil, inl, inr}
use Rattle.std.specs.Option.{option_to_list}
use Rattle.std.specs.Io.KnownBytes.{Appends}
use Rattle.vp_base.specs.Counted.{AppendsPrefix, HasFailed}
use Rattle.vp_base.proofs.Writes.{appends_none, appends_both}
use Rattle.vp_hub.specs.declared.event.Event.TheVariants.{Bytes}
use Rattle.vp_hub.specs.declared.session.ServeFault.{ServeFault}
use Rattle.vp_hub.specs.declared.session.ServeFault.TheVariants as serve_fault
use Rattle.vp_hub.specs.Hub.{Outcome}
use Rattle.vp_hub.specs.Work.{Hub}
use Rattle.vp_hub.specs.Sessions.{reply_bytes, replies, WritesBy, IsWorkedStep, GoInTurn, EndsInTurn, AllButTheLastAreWritten}

-- one more line
pub in_turn_push : (c : ℕ) (lines : List (List ℕ)) (os : List Outcome) (line : List ℕ) (o : Outcome) (old now new : Hub) (before after then : Option (List ℕ))
    → GoInTurn c lines os old now before after → IsWorkedStep now (Bytes c line) o new → Appends after then (reply_bytes o)
    → GoInTurn c (lines ++ line ∷ []) (os ++ o ∷ []) old new before then
in_turn_push c [] [] line o old now new before after then h step written = (
  new,
  then,
  subst (λ (s : Hub). IsWorkedStep s (Bytes c line) o new) h.0 step,
  subst (λ (b : Option (List ℕ)). Appends b then (reply_bytes o)) h.1 written,
  (refl, refl),
)
in_turn_push c (first ∷ lines) (p ∷ os) line o old now new before after then h step written =
    (h.0, h.1, h.2, h.3, in_turn_push c lines os line o h.0 now new h.1 after then h.4 step written)
in_turn_push c [] (p ∷ os) line o old now new before after then h step written = absurd h
in_turn_push c (first ∷ lines) [] line o old now new before after then h step written = absurd h

-- ---- what is written

all_written : (c : ℕ) (lines : List (List ℕ)) (os : List Outcome) (old new : Hub) (before after : Option (List ℕ)) → GoInTurn c lines os old new before after
    → Appends before after (replies os)
all_written c [] [] old new before after h = subst (λ (b : Option (List ℕ)). Appends before b []) (sym h.1) (appends_none before)
all_written c (line ∷ lines) (o ∷ os) old new before after h =
    appends_both before h.1 after (reply_bytes o) (replies os) h.3 (all_written c lines os h.0 new h.1 after h.4)
all_written c [] (o ∷ os) old new before after h = absurd h
all_written c (line ∷ lines) [] old new before after h = absurd h

whole : (a b : Option (List ℕ)) (text : List ℕ) → Appends a b text → AppendsPrefix a b text
whole a b text w = (text, [], sym (append-nil text), w)

at_least_a_prefix : (o : Result (Unit {0}) ServeFault) (failed : Type 0) (text : List ℕ) (a b : Option (List ℕ)) → WritesBy o failed text a b → AppendsPrefix a b text
at_least_a_prefix (Ok u) failed text a b w = whole a b text w
at_least_a_prefix (Err (serve_fault.Hub fault)) failed text a b w = whole a b text w
at_least_a_prefix (Err serve_fault.Device) failed text a b (inl w) = whole a b text w
at_least_a_prefix (Err serve_fault.Device) failed text a b (inr w) = w.1
at_least_a_prefix (Err serve_fault.ReadTurns) failed text a b w = whole a b text w

last_written : (c : ℕ) (final : Option (List ℕ)) (last : Option Outcome) (old new : Hub) (o : Result (Unit {0}) ServeFault) (a b : Option (List ℕ)) (failed : Type 0)
    → EndsInTurn c final last old new o a b failed → AppendsPrefix a b (replies (option_to_list last))
last_written c None None old new o a b failed h = whole a b [] (subst (λ (x : Option (List ℕ)). Appends a x []) (sym h.1) (appends_none a))
last_written c (Some line) (Some last) old new o a b failed h =
    subst (λ (text : List ℕ). AppendsPrefix a b text) (sym (append-nil (reply_bytes last))) (at_least_a_prefix o failed (reply_bytes last) a b h.1)
last_written c None (Some last) old new o a b failed h = absurd h
last_written c (Some line) None old new o a b failed h = absurd h

pub all_but_the_last : AllButTheLastAreWritten
all_but_the_last c old new o read left before after had now session =
    let t = session.in_turn in (
      t.between,
      all_written c t.front session.going old t.mid before t.between t.goes_on,
      last_written c t.final session.last t.mid new o t.between after (HasFailed had now) t.ends,
    )
