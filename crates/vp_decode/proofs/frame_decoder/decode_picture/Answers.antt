use Rattle.vp_decode.proofs.Words.{◌∙◌, subst, HasConsistentSizes, ParsedPacket}
use Rattle.vp_decode.proofs.RowsLemmas.{IsCovered, info_covers, rebuilt_picture, rebuilt_covered}
use Rattle.vp_decode.proofs.frame_decoder.decode_picture.Goals as goal
use Rattle.vp_decode.proofs.frame_decoder.decode_picture.Goals.{In-Some}

covered : (g : _) (c : In-Some g) → IsCovered c.args.info.now c.in-Some.rebuilt
covered g c =
    let law = c.unfiltered_picture_solves_its_equation.ensures in
    rebuilt_covered (record { size = law.size; aligned = law.aligned; whole = law.whole }) c.args.parsed.now c.args.info.now c.in-Some.rebuilt c.requires.info
    (subst (λ (o : ParsedPacket). HasConsistentSizes o.context) c.parsed.view_is c.parsed.invariant.0) (rw c.in-Some.is at c.requires.rebuilt)

pub filter_rebuilt-requires-clause-columns : goal.filter_rebuilt-requires-clause-columns
filter_rebuilt-requires-clause-columns g c = (covered g (goal.at.filter_rebuilt-requires-clause-columns g c).In-Some).columns

pub filter_rebuilt-requires-clause-rows : goal.filter_rebuilt-requires-clause-rows
filter_rebuilt-requires-clause-rows g c = (covered g (goal.at.filter_rebuilt-requires-clause-rows g c).In-Some).rows

pub returns-in-Some-clause-picture : goal.returns-in-Some-clause-picture
returns-in-Some-clause-picture g c =
    rebuilt_picture c.args.parsed.now c.args.info.now c.in-Some.rebuilt _ c.requires.info (rw c.in-Some.is at c.requires.rebuilt) c.in_ok-picture.ensures

pub invariant_of-frame-2 : goal.invariant_of-frame-2
invariant_of-frame-2 g c =
    let made = info_covers c.args.parsed.now c.args.info.now c.in_ok-picture-2.picture c.requires.info
    (subst (λ (o : ParsedPacket). HasConsistentSizes o.context) c.parsed.view_is c.parsed.invariant.0)
    (rw (← c.parsed.view_is, ← c.opened.view_is, ← c.opened-inside.view_is) c.in_ok-picture-2.ensures.width)
    (rw (← c.parsed.view_is, ← c.opened.view_is, ← c.opened-inside.view_is) c.in_ok-picture-2.ensures.height) in
    let columns = c.columns-columns.ensures.value ∙ made.columns in
    record {
      columns = made.columns;
      rows = made.rows;
      level_columns = c.in_ok-levels.ensures.columns ∙ columns;
      level_rows = c.in_ok-levels.ensures.rows ∙ c.rows.ensures.value ∙ made.rows;
      contexts = c.in_ok-contexts.ensures.columns ∙ columns;
    }
