use Rattle.std.proofs.Common.{codes, refl}
use Rattle.httparse.specs.Spans.{header_bytes}
use Rattle.vp_heads.specs.Fields.{is_named, is_body_field, is_closing_field}
use Rattle.vp_heads.proofs.FieldLemmas.{any-map, count-map}
use Rattle.vp_heads.proofs.request.judge.Goals as goal

pub returns : goal.returns
returns c =
    let fields = c.args.fields.now in
    let pair = header_bytes c.args.bytes.now in
    rw (
      c.wanted_of-wanted.ensures,
      c.is_last.ensures,
      c.is_head.ensures,
      c.range_for.ensures,
      c.wanted_of-wanted.ensures,
      c.has_closing_field.ensures,
      c.count_named-hosts.ensures,
      c.has_body_field-body.ensures,
      count-map pair (is_named (codes "host")) fields,
      any-map pair is_body_field fields,
      any-map pair is_closing_field fields,
    ) refl
