-- Private to the crate: the motion searchers of a frame.
use Rattle.std.specs.Prelude.{◌≡◌, true, Option, IfSome, MatchOption}
use Rattle.vp_head.specs.declared.fields.Reference.{Reference}
use Rattle.vp_head.specs.declared.fields.Reference.TheVariants as reference_is
use Rattle.vp_refs.specs.References.{reference_picture}
use Rattle.vp_search.specs.Searcher.{Searcher}
use Rattle.vp_choose.specs.declared.searchers.Searchers.{Searchers}
use Rattle.vp_choose.specs.Frame.{Search}

-- the searcher of a reference frame, within the range
abbrev pub searcher_of : Search → Reference → Searcher
searcher_of s reference = record { reference = (reference_picture s.references reference).luma; range = s.range }

-- the searchers of an inter frame; golden has none if it is not searched, or is the last frame's picture
pub record AreSearchers (s : Search) (searchers : Searchers) : Type 0 where
  pub last : searchers.last ≡ searcher_of s reference_is.Last
  pub golden : MatchOption searchers.golden (s.golden ≡ true → s.references.golden ≡ s.references.last)
      (λ searcher. (s.golden ≡ true) × (searcher ≡ searcher_of s reference_is.Golden))

-- the searchers of a frame; a key frame needs none
abbrev pub AreSearchersOf : Option Search → Option Searchers → Type 0
AreSearchersOf search searchers = IfSome search (λ s. MatchOption searchers ⊥ (AreSearchers s))
