-- An empty slot owns nothing.
use Rattle.std.proofs.Common.{lit<, ◌≡◌, [], ◌∷◌, refl}
use Rattle.std.specs.Prelude.{None}
use base.Logic.{emp}
use base.Fml.{ftrue}
use contract.Monad.{fact, fact_i}
use types.Kit.{‵, raw, ◌⊛◌, split, ◌$◌, ◌∵◌, !, qed, by, keep, use0}
use types.Run.{enter, lit, no_more, and_then, returns}
use types.ByLocal.{alloc_all, pass_all, free_all, look_at, sets}
use types.Part.{agg}
use denote.RawPtr.{null_ptr}
use denote.Steps.{nothing}
use denote.Triple.Walked.{Stays}
use Rattle.std.proofs.raw_atomic.Walks.{proved_at, leaves}
use Rattle.vp8_c.specs.Slot.{MaybeHandleValue}
use Rattle.vp8_c.proofs.Values.{slot_in, word}
use Rattle.vp8_c.specs.contracts.slot.Slot.empty as f
use Rattle.vp8_c.proofs.slot.Slot.empty.Statement.{statement}
use Rattle.vp8_c.proofs.slot.Slot.empty.Code as code

abbrev stayed : Stays f.ended.signature.params f.ended.kept
stayed = tt

pub empty_spec : {M : Type 1} → statement M
empty_spec 𝓤 𝓛 𝓜 𝓡 wired =
    let c = f.clauses 𝓛 𝓜.mem 𝓡.returns in let none : MaybeHandleValue = None in
    proved_at 𝓛 f.ended stayed c 𝓜 𝓡 tt f.Key.name code.function (code.unfolded 𝓤 𝓛.H 𝓜 𝓡 wired) (λ z are.
    qed 𝓛 ((‵ ftrue ⊛ ‵ ftrue) ∷ ‵ ftrue ∷ []) ∵ split ! $
    enter ! _ _ _ _ _ $ alloc_all ! (λ l. pass_all ! refl tt $
    sets ! (agg ! (and_then ! (lit ! tt) (no_more !))) refl (tt, (record { fits = lit< tt }, tt)) $
    returns ! (look_at ! 0 refl) $ free_all ! refl $
    slot_in ! null_ptr None $
    use0 𝓛 (raw (fact 𝓤 (none ≡ None))) (fact_i 𝓤 (none ≡ None) (emp 𝓤) refl) $ nothing ! $
    keep ! (3 ∷ 0 ∷ 2 ∷ 1 ∷ []) $ by ! (leaves 𝓛 f.ended stayed c z (word null_ptr) (record { at = null_ptr; held = None }) tt tt)))
