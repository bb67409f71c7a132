use Rattle.vp_decode.proofs.Words.{◌∙◌, ◌*◌, sym, ap, option_map, Modes, MacroblockReader}
use Rattle.vp_decode.proofs.MacroblockLists.{modes-read, segment-none, segment-kept}
use Rattle.vp_decode.proofs.macroblock_reader.MacroblockReaderModeGrid.segment.Goals as goal

pub returns-in-Some-clause-value : goal.returns-in-Some-clause-value
returns-in-Some-clause-value c =
    ap (λ (m : Modes). m.segment) (c.modes.view_is ∙ sym (modes-read c.args.self.now c.args.place c.in-Some.macroblock.now (record { column = c.requires.column; row = c.requires.row }) c.in-Some.ensures))

pub returns-in-Some-kept_segments-clause-value : goal.returns-in-Some-kept_segments-clause-value
returns-in-Some-kept_segments-clause-value c =
    c.segment.view_is ∙ c.index-segments-place.is
    ∙ segment-kept c.args.self.now c.args.place c.in-Some-kept_segments.segments.now _ _ (record { column = c.requires.column; row = c.requires.row }) c.in_default.ensures
    (ap (λ (r : MacroblockReader). r.kept_segments) (sym c.self.view_is) ∙ ap (λ o. option_map (λ s. s.now) o) c.in-Some-kept_segments.is)
    (ap (λ (r : MacroblockReader). r.columns) c.self.view_is)
    (rw c.in-Some-kept_segments.is at c.self.invariant.2 ∙ (λ i. (c.self.view_is i).rows * (c.self.view_is i).columns))

pub returns-in-None-clause-value : goal.returns-in-None-clause-value
returns-in-None-clause-value c =
    segment-none c.args.self.now c.args.place (record { column = c.requires.column; row = c.requires.row }) c.in_default.ensures
    (ap (λ (r : MacroblockReader). r.kept_segments) (sym c.self.view_is) ∙ ap (λ o. option_map (λ s. s.now) o) c.in-None.is)
