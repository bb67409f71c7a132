-- The header fields of a request: names, trimmed values, and the fields that the server looks at (RFC 9110, chapter 5).
use Rattle.std.specs.Prelude.{ℕ, ◌==◌, ◌&&◌, ◌||◌, not, nat_lt, Bool, List, [], ◌∷◌, codes, if◌then◌else◌}
use Rattle.std.specs.List.{list_any, slice_split}
use Rattle.std.specs.Str.{str_eq_ignore_ascii_case, bytes_eq}
use Rattle.httparse.specs.Grammar.{trim_ows}

-- the name and the value of a field
abbrev pub Pair : Type 0
Pair = List ℕ × List ℕ

-- the field has this name, ignoring case
abbrev pub is_named : List ℕ → Pair → Bool
is_named name field = str_eq_ignore_ascii_case field.0 name

-- the field announces a body: a Transfer-Encoding, or a Content-Length other than 0
abbrev pub is_body_field : Pair → Bool
is_body_field field =
    is_named (codes "transfer-encoding") field || (is_named (codes "content-length") field
    && not (bytes_eq field.1 (codes "0")))

-- the number of Host fields is wrong: more than one, or none in HTTP/1.1
abbrev pub is_host_wrong : ℕ → ℕ → Bool
is_host_wrong minor hosts = nat_lt 1 hosts || (minor == 1 && hosts == 0)

-- the byte `,`
abbrev pub is_comma : ℕ → Bool
is_comma b = b == 44

-- the element is `close`, ignoring case and surrounding spaces and tabs
abbrev pub is_close : List ℕ → Bool
is_close member = str_eq_ignore_ascii_case (trim_ows member) (codes "close")

-- an element of the comma-separated value is `close`
unfoldable pub has_close : List ℕ → Bool
has_close value = list_any is_close (slice_split is_comma value)

-- the field is a Connection field that asks to close
abbrev pub is_closing_field : Pair → Bool
is_closing_field field = is_named (codes "connection") field && has_close field.1

-- the value of the first field with this name, or no bytes
abbrev pub value_of : List ℕ → List Pair → List ℕ
value_of name [] = []
value_of name (field ∷ more) = if is_named name field then field.1 else value_of name more
