use Rattle.std.proofs.Common.{◌∙◌, sym}
use Rattle.httparse.specs.declared.spans.HeaderSpan.{HeaderSpan}
use Rattle.vp_heads.proofs.FieldLemmas.{value_found, value_later}
use Rattle.vp_heads.proofs.fields.value_named.Goals as goal

abbrev none : HeaderSpan
none = record { name = record { start = 0; end = 0 }; value = record { start = 0; end = 0 } }

pub returns-then-has_name : goal.returns-then-has_name
returns-then-has_name c =
    c.of.ensures
    ∙ sym (value_found c.args.bytes.now c.args.name.now c.args.fields.now c.loop-field.field-index c.loop-field-test.true none (sym c.has_name.ensures ∙ c.if-has_name.true))
    ∙ c.loop-field.invariant

pub loop-field-preserved : goal.loop-field-preserved
loop-field-preserved c =
    sym (value_later c.args.bytes.now c.args.name.now c.args.fields.now c.loop-field.field-index c.loop-field-test.true none (sym c.has_name.ensures ∙ c.if-has_name.false))
    ∙ c.loop-field.invariant
