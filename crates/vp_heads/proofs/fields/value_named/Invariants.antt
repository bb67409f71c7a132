use Rattle.std.proofs.Common.{◌≡◌, drop, map}
use Rattle.httparse.specs.Spans.{header_bytes}
use Rattle.vp_heads.specs.Fields.{value_of}
use Rattle.vp_heads.proofs.fields.value_named.Given as goal

-- the fields so far have another name
abbrev pub invariant-loop-field : goal.invariant-loop-field
invariant-loop-field l = value_of l.name (map (header_bytes l.bytes) (drop l.field-index l.fields)) ≡ value_of l.name (map (header_bytes l.bytes) l.fields)
