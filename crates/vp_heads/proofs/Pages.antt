-- `page_at` by whether the path is text.
use Rattle.std.proofs.Common.{◌≡◌, ℕ, List, None, true, false, IsUtf8, option_map, refl}
use Rattle.std.specs.Str.{is_utf8}
use Rattle.std.proofs.lemmas.Str.{IsUtf8-from_is_utf8, is_utf8-from_IsUtf8}
use Rattle.matchit.specs.Seek.{first}
use Rattle.matchit.specs.Rows.{RowsOf}
use Rattle.matchit.specs.Router.{RouteOf}
use Rattle.vp_heads.specs.declared.routes.Page.{Page}
use Rattle.vp_heads.specs.Routes.{page_at}

pub page_at-text : (routes : RowsOf (RouteOf Page)) (path : List ℕ) → IsUtf8 path → page_at routes path ≡ option_map (λ r. r.value) (first routes path)
page_at-text routes path text = rw (is_utf8-from_IsUtf8 path text) refl

pub page_at-other : (routes : RowsOf (RouteOf Page)) (path : List ℕ) → ¬ (IsUtf8 path) → page_at routes path ≡ None
page_at-other routes path other =
    (elim (is_utf8 path) as (λ y. is_utf8 path ≡ y → page_at routes path ≡ None) [
      | true ↦ λ e. absurd (other (IsUtf8-from_is_utf8 path e))
      | false ↦ λ e. rw e refl
    ]) refl
