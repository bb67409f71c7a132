use Rattle.std.proofs.Common.{◌≡◌, ◌∙◌, ◌≤◌, ◌<◌, List, ℕ, ◌+◌, ◌-◌, ◌*◌, length, min, subst, sym, arith, rules}
use Rattle.std.proofs.lemmas.List.{with_items_is}
use borrow.Rule.Slice.PartMut.{mid_of}
use Rattle.vp_base.specs.declared.place.Place.{Place}
use Rattle.vp_search.specs.Coarse.{AreCoarse}
use Rattle.vp_search.specs.Kept.{AreKept}
use Rattle.vp_search.proofs.SearchLemmas.{best_below}
use Rattle.vp_search.proofs.WindowLemmas.{IsFilled}
use Rattle.vp_search.proofs.SquareLemmas.{kept_summed, summed_kept}
use Rattle.vp_search.proofs.CoarseLemmas.{part_coarse}
use Rattle.vp_search.proofs.kept_sums.KeptSums.best.Goals.{After-deref}
use Rattle.vp_search.proofs.kept_sums.KeptSums.best.Goals as goal

-- the window is cut
filled : (c : After-deref) → IsFilled c.deref.result.now c.args.reference.now c.args.place c.args.range
filled c = rw (c.deref.ensures.value ∙ with_items_is c.args.self.now.window c.cut_window.new.window (search rules)) c.cut_window.ensures

pub returns-then-unbounded-gt0-clause-chosen : goal.returns-then-unbounded-gt0-clause-chosen
returns-then-unbounded-gt0-clause-chosen c =
    best_below _ c.args.reference.now c.args.place c.search.result.best (filled (goal.at.returns-then-unbounded-gt0-clause-chosen c).After-deref) c.centre.ensures.bytes c.search.ensures

pub fill_sums-requires-clause-columns : goal.fill_sums-requires-clause-columns
fill_sums-requires-clause-columns c = (c.moved_to-slid.ensures.kept _ _ _ _ c.requires.ready.sums).few

pub fill_sums-requires-clause-known : goal.fill_sums-requires-clause-known
fill_sums-requires-clause-known c =
    rw c.as_mut_slice-sums.ensures.value
    (kept_summed _ _ _ _ c.args.place c.args.range c.moved_to-slid.result (c.moved_to-slid.ensures.kept _ _ _ _ c.requires.ready.sums) c.moved_to-slid.ensures.place (filled (goal.at.fill_sums-requires-clause-known c).After-deref))

-- the coarse sums of the part that is used, if there are any
used : (sums coarse : List ℕ) (start first : ℕ) → AreCoarse (length sums) sums coarse → length coarse ≡ length sums → start ≤ length sums → first ≡ min start (length coarse)
    → AreCoarse (length sums - start) (mid_of start (length sums - start) sums) (mid_of first (length coarse - first) coarse)
used sums coarse start first all wide room least =
    let e : length sums - start ≡ length coarse - start = omega arith in
    let f : start ≡ first = omega arith in
    subst (λ (k : ℕ). AreCoarse (length sums - start) (mid_of start (length sums - start) sums) (mid_of k (length coarse - k) coarse)) f
    (subst (λ (m : ℕ). AreCoarse (length sums - start) (mid_of start (length sums - start) sums) (mid_of start m coarse)) e
    (part_coarse sums coarse start (length sums - start) (length sums) all (omega arith)))

pub with_sums-summed-requires-clause-coarse : goal.with_sums-summed-requires-clause-coarse
with_sums-summed-requires-clause-coarse c some k h =
    let old = c.requires.ready.sums in
    let sums : List ℕ = c.fill_sums.new.sums in let coarse : List ℕ = c.fill_sums.new.coarse in
    let start : ℕ = c.moved_to-slid.result.start in let first : ℕ = c.min-coarse_start.result in
    let held_sums : c.deref-2.result.now ≡ sums = c.deref-2.ensures.value ∙ with_items_is c.args.self.now.sums sums (search rules) in
    let held_coarse : c.deref-3.result.now ≡ coarse = c.deref-3.ensures.value ∙ with_items_is c.args.self.now.coarse coarse (search rules) in
    let long : length sums ≡ length c.args.self.now.sums.items = search rules in
    let wide : length coarse ≡ length c.args.self.now.coarse.items = search rules in
    let broad : length (mid_of first (length coarse - first) coarse) ≡ length coarse - first = search rules in
    let any : 0 < length c.args.self.now.coarse.items = omega (arith, subst (λ (xs : List ℕ). 0 < length (mid_of first (length xs - first) xs)) held_coarse some) in
    let equal = old.coarse_size any in let size = old.size in let room = c.moved_to-slid.ensures.start in
    let made : AreCoarse (length sums) sums coarse =
    c.fill_sums.ensures.coarse (rw c.as_mut_slice-coarse.ensures.value any) (length sums)
    (rw (c.as_mut_slice-sums.ensures.value, c.as_mut_slice-coarse.ensures.value) (λ i l. old.coarse_are any i (omega arith))) in
    let span : length (mid_of start (length sums - start) sums) ≡ length sums - start = search rules in
    rw (held_sums, held_coarse) (used sums coarse start first made (omega arith) (omega arith)
    (omega (arith, c.min-coarse_start.ensures, c.len.ensures, c.as_mut_slice-coarse.ensures.len, c.fill_sums.auto.coarse)) k
    (omega (arith, subst (λ (xs : List ℕ). k < length (mid_of start (length xs - start) xs)) held_sums h)))

pub returns-clause-ready : goal.returns-clause-ready
returns-clause-ready c =
    let old = c.requires.ready.sums in
    let sums : List ℕ = c.fill_sums.new.sums in let coarse : List ℕ = c.fill_sums.new.coarse in
    let long : length sums ≡ length c.args.self.now.sums.items = search rules in
    let wide : length coarse ≡ length c.args.self.now.coarse.items = search rules in
    let size = old.size in
    let columns : 2 * c.from.result + 9 ≡ 2 * c.args.range + 9 = omega arith in
    record {
      room = c.requires.ready.room;
      sums = rw (with_items_is c.args.self.now.sums sums (search rules), with_items_is c.args.self.now.coarse coarse (search rules))
          (subst (λ (q : Place). AreKept c.args.reference.now c.args.range (record { place = q; columns = 2 * c.from.result + 9; start = c.moved_to-slid.result.start }) sums coarse)
          (sym c.moved_to-slid.ensures.place)
          (summed_kept c.deref.result.now sums coarse c.args.reference.now c.args.place c.args.range (2 * c.from.result + 9) c.moved_to-slid.result.start
          c.fill_sums.ensures.sums columns c.moved_to-slid.ensures.start (filled (goal.at.returns-clause-ready c).After-deref) (omega arith)
          (λ some. let e = old.coarse_size (omega arith) in omega arith)
          (λ some. c.fill_sums.ensures.coarse (rw c.as_mut_slice-coarse.ensures.value (omega arith)) (length sums)
          (rw (c.as_mut_slice-sums.ensures.value, c.as_mut_slice-coarse.ensures.value) (λ i l. old.coarse_are (omega arith) i (omega arith))))));
      row = c.spot_of-self-2.ensures.row;
      column = c.spot_of-self-2.ensures.column;
    }

pub returns-clause-chosen : goal.returns-clause-chosen
returns-clause-chosen c =
    let same = c.with_sums-summed.ensures in
    rw (← same.block, ← same.range, ← same.limit)
    (best_below c.with_sums-summed.result c.args.reference.now c.args.place c.search-2.result.best (rw (same.pixels, same.range) (filled (goal.at.returns-clause-chosen c).After-deref))
    (rw (same.pixels) c.centre.ensures.bytes) c.search-2.ensures)
