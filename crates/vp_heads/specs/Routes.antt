-- The routes of the server, and the resource that a path names. Pinned by the tests `serve_one_frame` and
-- `stills_over_http`.
use Rattle.std.specs.Prelude.{◌≡◌, ◌==◌, ℕ, Bool, true, false, List, [], drop, position, Option, Some, None, Result}
use Rattle.std.specs.Prelude.{Ok, Err, codes, option_map, if◌then◌else◌}
use Rattle.std.specs.List.{before_first, after_first}
use Rattle.std.specs.Str.{is_utf8, bytes_eq}
use Rattle.matchit.specs.Rows.{RowsOf}
use Rattle.matchit.specs.Seek.{first}
use Rattle.matchit.specs.Order.{placed}
use Rattle.matchit.specs.Route.{Scan, parse_route}
use Rattle.matchit.specs.Router.{RouteOf, route_from, nearest}
use Rattle.matchit.specs.declared.error.InsertError.{InsertError}
use Rattle.vp_scale.specs.declared.scale.Scale.{Scale}
use Rattle.vp_scale.specs.declared.scale.Scale.TheVariants.{Full, Half, Quarter, Eighth}
use Rattle.vp_heads.specs.declared.routes.Page.{Page}
use Rattle.vp_heads.specs.declared.routes.Page.TheVariants as page
use Rattle.vp_heads.specs.declared.request.Resource.{Resource}
use Rattle.vp_heads.specs.declared.request.Resource.TheVariants.{Missing, Streams, Info, Frame, Video, Still}
use Rattle.vp_heads.specs.Numbers.{packet_number}

-- the routes with one more
abbrev pub with_scan : Result Scan InsertError → Page → RowsOf (RouteOf Page) → RowsOf (RouteOf Page)
with_scan (Ok s) p rows = placed (s.pattern, route_from s p) rows
with_scan (Err e) p rows = rows

-- the routes with one more, if it is valid
abbrev pub with_route : List ℕ → Page → RowsOf (RouteOf Page) → RowsOf (RouteOf Page)
with_route text p rows = with_scan (parse_route text) p rows

-- the four routes
unfoldable pub our_routes : RowsOf (RouteOf Page)
our_routes =
    with_route (codes "/s/{name}/y4m/{n}") page.Video
    (with_route (codes "/s/{name}/frame/{n}") page.Frame
    (with_route (codes "/s/{name}/info") page.Info
    (with_route (codes "/streams") page.Streams [])))

-- the six routes of a server that also shows WebP files
unfoldable pub still_routes : RowsOf (RouteOf Page)
still_routes =
    with_route (codes "/s/{name}/webp/{n}/{k}") page.Thumbnail
    (with_route (codes "/s/{name}/webp/{n}") page.Still our_routes)

-- the routes of a server, and whether it shows WebP files
abbrev pub routes_of : Bool → RowsOf (RouteOf Page)
routes_of true = still_routes
routes_of false = our_routes

-- the page of a path: none if no route matches, or if the path isn't UTF-8
abbrev pub page_at : RowsOf (RouteOf Page) → List ℕ → Option Page
page_at routes path = if is_utf8 path then option_map (λ r. r.value) (first routes path) else None

-- the route is valid, and conflicts with none
abbrev pub ScanHasPlace : Result Scan InsertError → RowsOf (RouteOf Page) → Type 0
ScanHasPlace (Ok s) rows = nearest s.pattern rows ≡ None
ScanHasPlace (Err e) rows = ⊥

-- the route is valid, and conflicts with none
abbrev pub HasPlace : List ℕ → RowsOf (RouteOf Page) → Type 0
HasPlace text rows = ScanHasPlace (parse_route text) rows

-- ---- the stream's name (after `/s/`), the packet's number (after the page's word and a slash), and how much smaller a
-- ---- thumbnail is (after the number and a slash) in a path

-- the byte `/`
abbrev pub is_slash : ℕ → Bool
is_slash b = b == 47

-- the stream's name in a path
abbrev pub name_in : List ℕ → List ℕ
name_in path = before_first is_slash (drop 3 path)

-- the packet's number in a path
abbrev pub number_segment : List ℕ → List ℕ
number_segment path = after_first is_slash (after_first is_slash (drop 3 path))

-- the number of a thumbnail's packet in a path
abbrev pub thumbnail_number : List ℕ → List ℕ
thumbnail_number path = before_first is_slash (number_segment path)

-- how much smaller a thumbnail is, in a path
abbrev pub scale_segment : List ℕ → List ℕ
scale_segment path = after_first is_slash (number_segment path)

-- how much smaller a thumbnail is: by 2, 4 or 8
abbrev pub scale_named : List ℕ → Option Scale
scale_named text =
    if bytes_eq text (codes "2") then Some Half else
    if bytes_eq text (codes "4") then Some Quarter else if bytes_eq text (codes "8") then Some Eighth else None

-- the index of a name among names
abbrev pub name_index : List (List ℕ) → List ℕ → Option ℕ
name_index names name = position (λ x. bytes_eq x name) names

-- ---- the resource that a path names; `Missing` if there is no such stream, or no number

-- the information about a stream
abbrev pub info_route : Option ℕ → Resource
info_route None = Missing
info_route (Some stream) = Info stream

-- a picture as I420
abbrev pub frame_route : Option ℕ → Option ℕ → Resource
frame_route (Some stream) (Some n) = Frame stream n
frame_route (Some stream) None = Missing
frame_route None n = Missing

-- a picture as YUV4MPEG2
abbrev pub video_route : Option ℕ → Option ℕ → Resource
video_route (Some stream) (Some n) = Video stream n
video_route (Some stream) None = Missing
video_route None n = Missing

-- a picture as a WebP file
abbrev pub still_route : Option ℕ → Option ℕ → Option Scale → Resource
still_route (Some stream) (Some n) (Some scale) = Still stream n scale
still_route (Some stream) (Some n) None = Missing
still_route (Some stream) None scale = Missing
still_route None n scale = Missing

-- the resource on a page, given the path
abbrev pub on_page : Option Page → List (List ℕ) → List ℕ → Resource
on_page None names path = Missing
on_page (Some page.Streams) names path = Streams
on_page (Some page.Info) names path = info_route (name_index names (name_in path))
on_page (Some page.Frame) names path = frame_route (name_index names (name_in path))
    (packet_number (number_segment path))
on_page (Some page.Video) names path = video_route (name_index names (name_in path))
    (packet_number (number_segment path))
on_page (Some page.Still) names path = still_route (name_index names (name_in path))
    (packet_number (number_segment path)) (Some Full)
on_page (Some page.Thumbnail) names path = still_route (name_index names (name_in path))
    (packet_number (thumbnail_number path)) (scale_named (scale_segment path))

-- the resource that a path names, by these routes
unfoldable pub at_path : RowsOf (RouteOf Page) → List (List ℕ) → List ℕ → Resource
at_path routes names path = on_page (page_at routes path) names path
