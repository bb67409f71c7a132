-- The routes without WebP files lead to none.
use Rattle.std.proofs.Common.{ℕ, zero, suc, ◌-◌, ◌==◌, List, [], ◌∷◌, Option, Some, None, Bool, true, false, cond, ltb, length, sym, inl, inr, subst, option_map}
use Rattle.std.specs.Prelude.{if◌then◌else◌, not, ◌||◌, codes, nat_eq}
use Rattle.std.specs.List.{before_first, starts_with}
use Rattle.std.specs.Str.{is_utf8}
use Rattle.matchit.specs.Rows.{RowsOf, param_token, catch_all_token}
use Rattle.matchit.specs.Seek.{own, step, or_else, seek, first, param_step, segment, longest_suffix, with_suffix, same_text, has_slash}
use Rattle.matchit.specs.Router.{RouteOf}
use Rattle.matchit.proofs.OnLiterals.{matchit_on_literals}
use Rattle.vp_heads.specs.declared.routes.Page.{Page}
use Rattle.vp_heads.specs.declared.routes.Page.TheVariants as page
use Rattle.vp_heads.specs.declared.request.Request.{Request}
use Rattle.vp_heads.specs.declared.request.Resource.{Resource}
use Rattle.vp_heads.specs.declared.request.Resource.TheVariants as wanted
use Rattle.vp_heads.specs.Fields.{is_host_wrong}
use Rattle.vp_heads.specs.Numbers.{packet_number}
use Rattle.vp_heads.specs.Routes.{our_routes, page_at, at_path, on_page, info_route, frame_route, video_route, name_index, name_in, number_segment}
use Rattle.vp_heads.specs.Requests.{IsNoStill, OurRoutesHaveNoStill, wanted_by, is_get, is_head, is_question}

-- ---- what a walk finds is the key of a row

module _ {K : Type 0} (P : K → Type 0) where
  abbrev pub Each : RowsOf K → Type 0
  Each [] = Unit {0}
  Each ((t, key) ∷ rest) = P key × Each rest

  abbrev pub If : Option K → Type 0
  If None = Unit {0}
  If (Some key) = P key

  own_is : (rows : RowsOf K) → Each rows → If (own rows)
  own_is [] h = tt
  own_is (([], key) ∷ rest) h = h.0
  own_is ((x ∷ t, key) ∷ rest) h = own_is rest h.1

  step_each : (b : ℕ) (rows : RowsOf K) → Each rows → Each (step b rows)
  step_each b [] h = tt
  step_each b (([], key) ∷ rest) h = step_each b rest h.1
  step_each b ((x ∷ t, key) ∷ rest) h =
      elim (x == b) as (λ v. Each (cond v ((t, key) ∷ step b rest) (step b rest))) [
        | true ↦ (h.0, step_each b rest h.1)
        | false ↦ step_each b rest h.1
      ]

  suffix_each : (suffix : List ℕ) (rows : RowsOf K) → Each rows → Each (with_suffix suffix rows)
  suffix_each suffix [] h = tt
  suffix_each suffix ((t, key) ∷ rest) h =
      elim (same_text (segment t) suffix) as (λ v. Each (cond v ((t, key) ∷ with_suffix suffix rest) (with_suffix suffix rest))) [
        | true ↦ (h.0, suffix_each suffix rest h.1)
        | false ↦ suffix_each suffix rest h.1
      ]

  either : (a b : Option K) → If a → If b → If (or_else a b)
  either None b h k = k
  either (Some key) b h k = h

  param_each : (rows : RowsOf K) (path : List ℕ) → Each rows → Each (param_step rows path).1
  unfolding param_step
  param_each rows path h =
      elim (ltb 0 (length (longest_suffix (segment path) rows)))
      as (λ v. Each (cond {A = ℕ × RowsOf K} v (length (segment path) - length (longest_suffix (segment path) rows), with_suffix (longest_suffix (segment path) rows) rows) (cond (has_slash path) (0, []) (length path, rows))).1) [
        | true ↦ suffix_each (longest_suffix (segment path) rows) rows h
        | false ↦ elim (has_slash path) as (λ v. Each (cond {A = ℕ × RowsOf K} v (0, []) (length path, rows)).1) [
          | true ↦ tt
          | false ↦ h
        ]
      ]

  pub found_is : (skip : ℕ) (rows : RowsOf K) (path : List ℕ) → Each rows → If (seek skip rows path)
  unfolding seek
  found_is skip rows [] h = own_is rows h
  found_is (suc skip) rows (b ∷ path) h = found_is skip rows path h
  found_is zero rows (b ∷ path) h =
      either (seek 0 (step b rows) path) _ (found_is 0 (step b rows) path (step_each b rows h))
      (either (seek ((param_step (step param_token rows) (b ∷ path)).0 - 1) (param_step (step param_token rows) (b ∷ path)).1 path) _
      (found_is ((param_step (step param_token rows) (b ∷ path)).0 - 1) (param_step (step param_token rows) (b ∷ path)).1 path
      (param_each (step param_token rows) (b ∷ path) (step_each param_token rows h)))
      (own_is (step catch_all_token rows) (step_each catch_all_token rows h)))

-- ---- the four routes

IsPlain : Page → Type 0
IsPlain page.Streams = Unit {0}
IsPlain page.Info = Unit {0}
IsPlain page.Frame = Unit {0}
IsPlain page.Video = Unit {0}
IsPlain page.Still = ⊥
IsPlain page.Thumbnail = ⊥

ours_plain : Each (λ (r : RouteOf Page). IsPlain r.value) our_routes
unfolding matchit_on_literals our_routes IsPlain
ours_plain = (tt, (tt, (tt, (tt, tt))))

abbrev IsPlainIf : Option Page → Type 0
IsPlainIf None = Unit {0}
IsPlainIf (Some p) = IsPlain p

value_plain : (o : Option (RouteOf Page)) → If (λ (r : RouteOf Page). IsPlain r.value) o → IsPlainIf (option_map (λ r. r.value) o)
value_plain None h = tt
value_plain (Some r) h = h

page_plain : (path : List ℕ) → IsPlainIf (page_at our_routes path)
page_plain path =
    elim (is_utf8 path) as (λ v. IsPlainIf (if v then option_map (λ r. r.value) (first our_routes path) else None)) [
      | true ↦ value_plain (first our_routes path) (found_is (λ (r : RouteOf Page). IsPlain r.value) 0 our_routes path ours_plain)
      | false ↦ tt
    ]

-- ---- the resource

info_no : (k : Option ℕ) → IsNoStill (info_route k)
info_no None = tt
info_no (Some k) = tt

frame_no : (k n : Option ℕ) → IsNoStill (frame_route k n)
frame_no None n = tt
frame_no (Some k) None = tt
frame_no (Some k) (Some n) = tt

video_no : (k n : Option ℕ) → IsNoStill (video_route k n)
video_no None n = tt
video_no (Some k) None = tt
video_no (Some k) (Some n) = tt

on_page_no : (p : Option Page) (names : List (List ℕ)) (path : List ℕ) → IsPlainIf p → IsNoStill (on_page p names path)
unfolding IsPlain
on_page_no None names path h = tt
on_page_no (Some page.Streams) names path h = tt
on_page_no (Some page.Info) names path h = info_no (name_index names (name_in path))
on_page_no (Some page.Frame) names path h = frame_no (name_index names (name_in path)) (packet_number (number_segment path))
on_page_no (Some page.Video) names path h = video_no (name_index names (name_in path)) (packet_number (number_segment path))
on_page_no (Some page.Still) names path h = absurd h
on_page_no (Some page.Thumbnail) names path h = absurd h

at_path_no : (names : List (List ℕ)) (path : List ℕ) → IsNoStill (at_path our_routes names path)
unfolding at_path
at_path_no names path = on_page_no (page_at our_routes path) names path (page_plain path)

choose_no : (t : Bool) (a b : Resource) → IsNoStill a → IsNoStill b → IsNoStill (if t then a else b)
choose_no true a b h k = h
choose_no false a b h k = k

wanted_no : (names : List (List ℕ)) (method target : List ℕ) (minor hosts : ℕ) (body : Bool) → IsNoStill (wanted_by our_routes names method target minor hosts body)
unfolding wanted_by
wanted_no names method target minor hosts body =
    let found : Resource = at_path our_routes names (before_first is_question target) in
    let no_path : Bool = not (starts_with nat_eq target (codes "/")) in
    let no_method : Bool = not (is_get method || is_head method) in
    let third : Resource = if no_path then wanted.Bad else found in
    let second : Resource = if no_method then wanted.WrongMethod else third in
    let first : Resource = if is_host_wrong minor hosts then wanted.Bad else second in
    choose_no body wanted.Bad first tt
    (choose_no (is_host_wrong minor hosts) wanted.Bad second tt
    (choose_no no_method wanted.WrongMethod third tt
    (choose_no no_path wanted.Bad found tt (at_path_no names (before_first is_question target)))))

pub none_by_ours : OurRoutesHaveNoStill
none_by_ours names bytes request (inl (h, is, e)) = subst (λ (r : Request). IsNoStill r.wanted) (sym e) (wanted_no names h.method h.target h.minor _ _)
none_by_ours names bytes request (inr (none, e)) = subst (λ (r : Request). IsNoStill r.wanted) (sym e) tt
