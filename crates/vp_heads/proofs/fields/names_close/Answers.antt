use Rattle.std.proofs.Common.{◌≡◌, ◌∙◌, ◌||◌, Bool, true, false, refl, sym, ap}
use Rattle.vp_heads.specs.Fields.{has_close, is_close}
use Rattle.vp_heads.proofs.FieldLemmas.{close_more, close_last}
use Rattle.vp_heads.proofs.fields.names_close.Goals as goal

one : (a b : Bool) → a ≡ true → (a || b) ≡ true
one true b h = refl
one false b h = cc

rest : (a b : Bool) → a ≡ false → (a || b) ≡ b
rest true b h = cc
rest false b h = refl

pub returns-then-is_close_member : goal.returns-then-is_close_member
returns-then-is_close_member c =
    sym (sym c.loop-member.invariant ∙ close_more c.loop-member.rest.now c.in-Some.ensures.0
    ∙ one _ _ (sym (sym c.if-is_close_member.true ∙ c.is_close_member.ensures ∙ ap is_close c.in-Some.ensures.1)))

pub loop-member-preserved : goal.loop-member-preserved
loop-member-preserved c =
    sym (close_more c.loop-member.rest.now c.in-Some.ensures.0
    ∙ rest _ _ (sym (sym c.if-is_close_member.false ∙ c.is_close_member.ensures ∙ ap is_close c.in-Some.ensures.1)) ∙ ap has_close (sym c.in-Some.ensures.2)) ∙ c.loop-member.invariant

pub returns : goal.returns
returns c = c.is_close_member-2.ensures ∙ sym (close_last c.loop-member.rest.now c.in_default.ensures) ∙ c.loop-member.invariant
