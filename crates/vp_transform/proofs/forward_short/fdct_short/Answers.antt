use Rattle.std.proofs.Common.{◌∙◌, ℤ, List, sym, subst}
use Rattle.vp_transform.specs.Fits.{EachWithin}
use Rattle.vp_transform.proofs.Shorts.{read_rows, rows-within, across_rows, crossed_rows, down_rows}
use Rattle.vp_transform.proofs.Waves.{fdct-within}
use Rattle.vp_transform.proofs.forward_short.fdct_short.Goals as goal

pub across-requires : goal.across-requires
across-requires c =
    let x = c.args.block.now in
    let read = read_rows x c.columns_of.result.0 c.columns_of.result.1 c.columns_of.result.2 c.columns_of.result.3 c.requires c.columns_of.ensures in
    rows-within read

pub down-requires : goal.down-requires
down-requires c =
    let x = c.args.block.now in
    let read = read_rows x c.columns_of.result.0 c.columns_of.result.1 c.columns_of.result.2 c.columns_of.result.3 c.requires c.columns_of.ensures in
    let once = across_rows x c.requires read c.across.result.0 c.across.result.1 c.across.result.2 c.across.result.3 c.across.ensures in
    let crossed = crossed_rows x c.requires once c.transpose.result.0 c.transpose.result.1 c.transpose.result.2 c.transpose.result.3 c.transpose.ensures in
    rows-within crossed

pub returns-clause-value : goal.returns-clause-value
returns-clause-value c =
    let x = c.args.block.now in
    let read = read_rows x c.columns_of.result.0 c.columns_of.result.1 c.columns_of.result.2 c.columns_of.result.3 c.requires c.columns_of.ensures in
    let once = across_rows x c.requires read c.across.result.0 c.across.result.1 c.across.result.2 c.across.result.3 c.across.ensures in
    let crossed = crossed_rows x c.requires once c.transpose.result.0 c.transpose.result.1 c.transpose.result.2 c.transpose.result.3 c.transpose.ensures in
    let done = down_rows x c.requires crossed c.down.result.0 c.down.result.1 c.down.result.2 c.down.result.3 c.down.ensures in
    c.joined.ensures ∙ done.passed

pub returns-clause-within : goal.returns-clause-within
returns-clause-within c =
    let x = c.args.block.now in
    let read = read_rows x c.columns_of.result.0 c.columns_of.result.1 c.columns_of.result.2 c.columns_of.result.3 c.requires c.columns_of.ensures in
    let once = across_rows x c.requires read c.across.result.0 c.across.result.1 c.across.result.2 c.across.result.3 c.across.ensures in
    let crossed = crossed_rows x c.requires once c.transpose.result.0 c.transpose.result.1 c.transpose.result.2 c.transpose.result.3 c.transpose.ensures in
    let done = down_rows x c.requires crossed c.down.result.0 c.down.result.1 c.down.result.2 c.down.result.3 c.down.ensures in
    subst (λ (v : List ℤ). EachWithin 2040 v) (sym (c.joined.ensures ∙ done.passed)) (fdct-within 255 x c.requires)
