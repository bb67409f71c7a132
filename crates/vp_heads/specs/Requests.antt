-- The request in a request head, or the error to answer, with the checks in order. Pinned by the tests
-- `method_and_host_refused` and `head_requests`.
use Rattle.std.specs.Prelude.{◌≡◌, ◌⊎◌, ◌==◌, ◌||◌, not, ℕ, Bool, true, false, nat_eq, List, map, codes, count_by}
use Rattle.std.specs.Prelude.{if◌then◌else◌}
use Rattle.std.specs.List.{list_any, starts_with, before_first}
use Rattle.std.specs.Str.{bytes_eq}
use Rattle.httparse.specs.Grammar.{RequestHead}
use Rattle.matchit.specs.Rows.{RowsOf}
use Rattle.matchit.specs.Router.{RouteOf}
use Rattle.httparse.specs.Spans.{name_and_value}
use Rattle.vp_heads.specs.declared.request.Request.{Request}
use Rattle.vp_heads.specs.declared.request.Resource.{Resource}
use Rattle.vp_heads.specs.declared.request.Resource.TheVariants as wanted
use Rattle.vp_heads.specs.declared.request.Resource.TheVariants.{Bad, WrongMethod}
use Rattle.vp_heads.specs.declared.ranges.Range.{Range}
use Rattle.vp_heads.specs.declared.ranges.Range.TheVariants.{Whole}
use Rattle.vp_heads.specs.Heads.{IsHeadOf, HasNoHead}
use Rattle.vp_heads.specs.Fields.{Pair, is_named, is_body_field, is_host_wrong, is_closing_field}
use Rattle.vp_heads.specs.Ranges.{range_in}
use Rattle.vp_heads.specs.declared.routes.Page.{Page}
use Rattle.vp_heads.specs.Routes.{at_path, our_routes}

-- the method is GET
abbrev pub is_get : List ℕ → Bool
is_get method = bytes_eq method (codes "GET")

-- the method is HEAD
abbrev pub is_head : List ℕ → Bool
is_head method = bytes_eq method (codes "HEAD")

-- the byte `?`
abbrev pub is_question : ℕ → Bool
is_question b = b == 63

-- the resource by these routes, given the method, the target, the version, the number of Host fields, and whether a
-- body is announced
unfoldable pub wanted_by : RowsOf (RouteOf Page) → List (List ℕ) → List ℕ → List ℕ → ℕ → ℕ → Bool → Resource
wanted_by routes names method target minor hosts body =
    if body then Bad else
    if is_host_wrong minor hosts then Bad else
    if not (is_get method || is_head method) then WrongMethod else
    if not (starts_with nat_eq target (codes "/")) then Bad else
    at_path routes names (before_first is_question target)

-- a bad request
abbrev pub is_bad : Resource → Bool
is_bad Bad = true
is_bad _ = false

-- the connection is closed after a bad request, with HTTP/1.0, or if a Connection field asks for it
abbrev pub request_by : Resource → List ℕ → ℕ → Bool → Range → Request
request_by wanted method minor closing range = record {
  wanted = wanted;
  head_only = is_head method;
  closing = is_bad wanted || (minor == 0 || closing);
  range = if is_get method then range else Whole;
}

-- the request, given the parts of a head
abbrev pub asked_by : RowsOf (RouteOf Page) → List (List ℕ) → List ℕ → List ℕ → ℕ → List Pair → Request
asked_by routes names method target minor fields =
    request_by (wanted_by routes names method target minor (count_by (is_named (codes "host")) fields)
    (list_any is_body_field fields))
    method minor (list_any is_closing_field fields) (range_in fields)

-- the request of a head
abbrev pub asked : RowsOf (RouteOf Page) → List (List ℕ) → RequestHead → Request
asked routes names h = asked_by routes names h.method h.target h.minor (map name_and_value h.fields)

-- a bad request, for bytes that aren't a valid head
abbrev pub unreadable : Request
unreadable = record { wanted = Bad; head_only = false; closing = true; range = Whole }

-- the request in the bytes of a head, by these routes, for streams with these names
abbrev pub IsRequestFor : RowsOf (RouteOf Page) → List (List ℕ) → List ℕ → Request → Type 0
IsRequestFor routes names bytes request =
    ((h : RequestHead) × IsHeadOf bytes h × (request ≡ asked routes names h))
    ⊎ (HasNoHead bytes × (request ≡ unreadable))

-- the resource isn't a WebP file
abbrev pub IsNoStill : Resource → Type 0
IsNoStill (wanted.Still k n scale) = ⊥
IsNoStill _ = Unit {0}

-- by the four routes no head requests a WebP file
abbrev pub OurRoutesHaveNoStill : Type 0
OurRoutesHaveNoStill = (names : List (List ℕ)) (bytes : List ℕ) (request : Request)
    → IsRequestFor our_routes names bytes request
    → IsNoStill request.wanted
