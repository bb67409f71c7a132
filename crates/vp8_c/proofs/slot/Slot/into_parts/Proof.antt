-- The parts take over what the slot owns.
use Rattle.std.proofs.Common.{◌≡◌, [], ◌∷◌, ◌++◌, List, refl, sym, ap, subst, ◌∙◌}
use Rattle.std.specs.Prelude.{Some, None, Option, IsSome}
use Rattle.std.proofs.alloc.Global.TheLaws.{the_row_laws}
use Rattle.std.specs.contracts.alloc.Global as heap
use Rattle.std.specs.contracts.impls.GlobalAllocator.TheImpl.{ghosts}
use mir.Val.{Val, vptr}
use mir.Raw.{raw as bare}
use base.Logic.{SProp, ent, emp, id⊢, never, fst∗}
use base.Fml.{ftrue}
use prog.Wp.{WpFn}
use types.Logic.{sem}
use contract.Monad.{fact, fact_i}
use contract.Running.{tables}
use types.Kit.{‵, raw, ◌⊛◌, ◌$◌, ◌∵◌, !, qed, by, move, keep, split, fsplit, fjoin, suffices, use0, rewrite}
use types.Run.{stop, fld, enter, of_opd, no_more, and_then, returns}
use types.ByLocal.{alloc_all, pass_all, free_all, look_at, get, get_in, sets}
use types.Part.{agg, sub, whole}
use denote.Exit.{yes}
use denote.Memory.{lone}
use denote.RattleType.{owns}
use denote.Signature.{plain}
use denote.RawPtr.{Ptr, block_ptr, null_ptr, in_a_block}
use denote.Steps.{nothing, heard}
use denote.Triple.Walked.{Stays, stay_dropped, walk_of}
use Rattle.core.proofs.alloc.Calls.{Goes-blank, handle_tells}
use Rattle.std.proofs.raw_atomic.Walks.{proved_at, leaves}
use Rattle.std_alloc.specs.Box.Ownership.{box_owns}
use Rattle.vp8_c.specs.Slot.{slot_owns, MaybeHandleValue}
use Rattle.vp8_c.proofs.Values.{slot_out, word, both, al, parts_in, parts_good}
use Rattle.vp8_c.specs.contracts.handle_value.HandleValue as held_type
use Rattle.vp8_c.specs.contracts.slot.Slot as slot
use Rattle.vp8_c.specs.contracts.slot.Slot.into_parts as f
use Rattle.vp8_c.proofs.slot.Slot.into_parts.Statement.{statement}
use Rattle.vp8_c.proofs.slot.Slot.into_parts.Code as code

abbrev stayed : Stays f.ended.signature.params f.ended.kept
stayed = (stay_dropped (plain (λ _. slot.the_row)) yes, (stay_dropped (plain (λ _. heap.the_row)) yes, tt))

some_of : {A : Type 0} (o : Option A) → IsSome o → (x : A) × (o ≡ Some x)
some_of (Some x) h = (x, refl)
some_of None h = cc

pub into_parts_spec : {M : Type 1} → statement M
into_parts_spec 𝓤 𝓛 𝓜 𝓡 wired =
    let H = 𝓛.H in let 𝓣 = tables 𝓤 H 𝓜 𝓡 𝓡.env in let c = f.clauses 𝓛 𝓜.mem 𝓡.returns in
    proved_at 𝓛 f.ended stayed c 𝓜 𝓡 (Goes-blank 𝓛 0 (plain (λ _. slot.the_row)) yes (λ κs x g. tt), (Goes-blank 𝓛 0 (plain (λ _. heap.the_row)) yes (λ κs x g. tt), tt))
    f.Key.name code.function (code.unfolded 𝓤 𝓛.H 𝓜 𝓡 wired) (λ z are.
    let d = z.0.3.0 in let a = z.0.3.1.0 in let Post : Val → SProp 𝓤 = (walk_of 𝓛 f.ended stayed c).post z in let Run : List Val → SProp 𝓤 = λ ws. WpFn 𝓤 H 𝓣.C 𝓣.Λ code.function ws Post in
    qed 𝓛 ((‵ ftrue ⊛ ‵ (owns (slot.the_row ∷ heap.the_row ∷ []) z.0.3 z.0.4)) ∷ raw (fact 𝓤 (IsSome d.held)) ∷ []) ∵ move ! (1 ∷ []) $ heard ! (IsSome d.held) (λ there.
    let x = (some_of d.held there).0 in let held_is : d.held ≡ Some x = (some_of d.held there).1 in
    split ! $ move ! (1 ∷ []) $ fsplit ! $ move ! (1 ∷ []) $ fsplit ! $ move ! (2 ∷ []) $
    slot_out ! d z.0.4.0 (λ ws. rewrite ! 0 (λ (h : MaybeHandleValue). ‵ (slot_owns d.at h)) held_is refl $
    in_a_block ! d.at (λ p. box_owns (ghosts.dealloc_token a) held_type.the_row p x) (fst∗ 𝓤 (never 𝓤) (sem 𝓛 (ghosts.dealloc_token a (bare (lone (held_type.the_row).mir)) null_ptr))) (λ b o e.
    move ! (1 ∷ []) $ handle_tells (al held_type.the_row heap.the_row the_row_laws ghosts) ! a z.0.4.1.0 (λ h us fits.
    let w : Val = word (block_ptr b o) in
    let is : z.0.4.0 ++ (z.0.4.1.0 ++ []) ≡ w ∷ h ∷ [] = (λ i. (ws ∙ ap (λ (p : Ptr). word p ∷ []) e) i ++ (us i ++ [])) in
    suffices ! (Run (w ∷ h ∷ [])) (subst (λ (vs : List Val). ent 𝓤 (Run (w ∷ h ∷ [])) (Run vs)) (sym is) (id⊢ 𝓤 (Run (w ∷ h ∷ [])))) $
    enter ! 𝓣.C 𝓣.Λ code.function (w ∷ h ∷ []) Post $ alloc_all ! (λ l. pass_all ! refl ((tt, (tt, tt)), (fits, tt)) $
    sets ! (of_opd ! (get_in ! (fld ! refl (stop !)) (sub ! 0 refl (whole !)))) refl (tt, tt) $
    sets ! (of_opd ! (get ! refl)) refl (tt, tt) $
    sets ! (agg ! (and_then ! (get ! refl) (and_then ! (get ! refl) (no_more !)))) refl (parts_good held_type.the_row heap.the_row the_row_laws ghosts b o h fits) $
    returns ! (look_at ! 0 refl) $ free_all ! refl $
    move ! (1 ∷ 0 ∷ []) $ parts_in held_type.the_row heap.the_row the_row_laws ghosts ! b o h a x $
    use0 𝓛 (raw (fact 𝓤 (Some x ≡ d.held))) (fact_i 𝓤 (Some x ≡ d.held) (emp 𝓤) (sym held_is)) $ nothing ! $ nothing ! $ fjoin ! $ nothing ! $ fjoin ! $
    keep ! (3 ∷ 0 ∷ 2 ∷ 1 ∷ []) $ by ! (leaves 𝓛 f.ended stayed c z (both (vptr b o) h) (record { ptr = block_ptr b o; alloc = a; value = x }) (tt, (tt, tt)) (tt, (tt, tt)))))))))
