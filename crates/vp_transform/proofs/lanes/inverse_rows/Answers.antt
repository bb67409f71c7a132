use Rattle.std.proofs.Common.{◌≡◌, ap, ◌∙◌, lit<, arith}
use Rattle.vp_lanes.specs.Lane.{lane}
use Rattle.vp_transform.specs.Narrow.{LanesWithin}
use Rattle.vp_transform.specs.Transform.{turned, vertical, horizontal, idct}
use Rattle.vp_transform.proofs.Along.{get, turned_along, rows_along}
use Rattle.vp_transform.proofs.Vectors.{handed, passes, small_passes, within, column_is, turned_across, turned-within, lanes-within, rounded_across}
use Rattle.vp_transform.proofs.lanes.inverse_rows.Goals as goal

pub idct_1d-requires-clause-first : goal.idct_1d-requires-clause-first
idct_1d-requires-clause-first c = within 8192 40960 (passes c.args.a _ c.well_formed.0) (omega arith) c.requires.first

pub idct_1d-requires-clause-second : goal.idct_1d-requires-clause-second
idct_1d-requires-clause-second c = within 8192 40960 (passes c.args.b _ c.well_formed.1.0) (omega arith) c.requires.second

pub idct_1d-requires-clause-third : goal.idct_1d-requires-clause-third
idct_1d-requires-clause-third c = within 8192 40960 (passes c.args.c _ c.well_formed.1.1.0) (omega arith) c.requires.third

pub idct_1d-requires-clause-fourth : goal.idct_1d-requires-clause-fourth
idct_1d-requires-clause-fourth c = within 8192 40960 (passes c.args.d _ c.well_formed.1.1.1.0) (omega arith) c.requires.fourth

pub idct_1d-requires-2-clause-first : goal.idct_1d-requires-2-clause-first
idct_1d-requires-2-clause-first c =
    let pa = passes c.args.a _ c.well_formed.0 in
    let pb = passes c.args.b _ c.well_formed.1.0 in
    let pc = passes c.args.c _ c.well_formed.1.1.0 in
    let pd = passes c.args.d _ c.well_formed.1.1.1.0 in
    let v0 = small_passes 40960 c.idct_1d.result.0 (omega arith) (lanes-within 8192 (handed c.args.a) (handed c.args.b) (handed c.args.c) (handed c.args.d) c.idct_1d.result.0 (within 8192 8192 pa (omega arith) c.requires.first) (within 8192 8192 pb (omega arith) c.requires.second) (within 8192 8192 pc (omega arith) c.requires.third) (within 8192 8192 pd (omega arith) c.requires.fourth) 0 (λ j h. ap (λ u. get u 0) (c.idct_1d.ensures j h))) in
    let v1 = small_passes 40960 c.idct_1d.result.1 (omega arith) (lanes-within 8192 (handed c.args.a) (handed c.args.b) (handed c.args.c) (handed c.args.d) c.idct_1d.result.1 (within 8192 8192 pa (omega arith) c.requires.first) (within 8192 8192 pb (omega arith) c.requires.second) (within 8192 8192 pc (omega arith) c.requires.third) (within 8192 8192 pd (omega arith) c.requires.fourth) 1 (λ j h. ap (λ u. get u 1) (c.idct_1d.ensures j h))) in
    let v2 = small_passes 40960 c.idct_1d.result.2 (omega arith) (lanes-within 8192 (handed c.args.a) (handed c.args.b) (handed c.args.c) (handed c.args.d) c.idct_1d.result.2 (within 8192 8192 pa (omega arith) c.requires.first) (within 8192 8192 pb (omega arith) c.requires.second) (within 8192 8192 pc (omega arith) c.requires.third) (within 8192 8192 pd (omega arith) c.requires.fourth) 2 (λ j h. ap (λ u. get u 2) (c.idct_1d.ensures j h))) in
    let v3 = small_passes 40960 c.idct_1d.result.3 (omega arith) (lanes-within 8192 (handed c.args.a) (handed c.args.b) (handed c.args.c) (handed c.args.d) c.idct_1d.result.3 (within 8192 8192 pa (omega arith) c.requires.first) (within 8192 8192 pb (omega arith) c.requires.second) (within 8192 8192 pc (omega arith) c.requires.third) (within 8192 8192 pd (omega arith) c.requires.fourth) 3 (λ j h. ap (λ u. get u 3) (c.idct_1d.ensures j h))) in
    let b = turned-within 8192 c.args.a c.args.b c.args.c c.args.d c.transpose.result.0 c.requires.first c.requires.second c.requires.third c.requires.fourth 0 (lit< tt) (turned_across pa pb pc pd v0 v1 v2 v3 c.idct_1d.ensures c.transpose.result.0 0 (lit< tt) c.transpose.ensures.first) in
    within 40960 40960 (small_passes 40960 c.transpose.result.0 (omega arith) b) (omega arith) b

pub idct_1d-requires-2-clause-second : goal.idct_1d-requires-2-clause-second
idct_1d-requires-2-clause-second c =
    let pa = passes c.args.a _ c.well_formed.0 in
    let pb = passes c.args.b _ c.well_formed.1.0 in
    let pc = passes c.args.c _ c.well_formed.1.1.0 in
    let pd = passes c.args.d _ c.well_formed.1.1.1.0 in
    let v0 = small_passes 40960 c.idct_1d.result.0 (omega arith) (lanes-within 8192 (handed c.args.a) (handed c.args.b) (handed c.args.c) (handed c.args.d) c.idct_1d.result.0 (within 8192 8192 pa (omega arith) c.requires.first) (within 8192 8192 pb (omega arith) c.requires.second) (within 8192 8192 pc (omega arith) c.requires.third) (within 8192 8192 pd (omega arith) c.requires.fourth) 0 (λ j h. ap (λ u. get u 0) (c.idct_1d.ensures j h))) in
    let v1 = small_passes 40960 c.idct_1d.result.1 (omega arith) (lanes-within 8192 (handed c.args.a) (handed c.args.b) (handed c.args.c) (handed c.args.d) c.idct_1d.result.1 (within 8192 8192 pa (omega arith) c.requires.first) (within 8192 8192 pb (omega arith) c.requires.second) (within 8192 8192 pc (omega arith) c.requires.third) (within 8192 8192 pd (omega arith) c.requires.fourth) 1 (λ j h. ap (λ u. get u 1) (c.idct_1d.ensures j h))) in
    let v2 = small_passes 40960 c.idct_1d.result.2 (omega arith) (lanes-within 8192 (handed c.args.a) (handed c.args.b) (handed c.args.c) (handed c.args.d) c.idct_1d.result.2 (within 8192 8192 pa (omega arith) c.requires.first) (within 8192 8192 pb (omega arith) c.requires.second) (within 8192 8192 pc (omega arith) c.requires.third) (within 8192 8192 pd (omega arith) c.requires.fourth) 2 (λ j h. ap (λ u. get u 2) (c.idct_1d.ensures j h))) in
    let v3 = small_passes 40960 c.idct_1d.result.3 (omega arith) (lanes-within 8192 (handed c.args.a) (handed c.args.b) (handed c.args.c) (handed c.args.d) c.idct_1d.result.3 (within 8192 8192 pa (omega arith) c.requires.first) (within 8192 8192 pb (omega arith) c.requires.second) (within 8192 8192 pc (omega arith) c.requires.third) (within 8192 8192 pd (omega arith) c.requires.fourth) 3 (λ j h. ap (λ u. get u 3) (c.idct_1d.ensures j h))) in
    let b = turned-within 8192 c.args.a c.args.b c.args.c c.args.d c.transpose.result.1 c.requires.first c.requires.second c.requires.third c.requires.fourth 1 (lit< tt) (turned_across pa pb pc pd v0 v1 v2 v3 c.idct_1d.ensures c.transpose.result.1 1 (lit< tt) c.transpose.ensures.second) in
    within 40960 40960 (small_passes 40960 c.transpose.result.1 (omega arith) b) (omega arith) b

pub idct_1d-requires-2-clause-third : goal.idct_1d-requires-2-clause-third
idct_1d-requires-2-clause-third c =
    let pa = passes c.args.a _ c.well_formed.0 in
    let pb = passes c.args.b _ c.well_formed.1.0 in
    let pc = passes c.args.c _ c.well_formed.1.1.0 in
    let pd = passes c.args.d _ c.well_formed.1.1.1.0 in
    let v0 = small_passes 40960 c.idct_1d.result.0 (omega arith) (lanes-within 8192 (handed c.args.a) (handed c.args.b) (handed c.args.c) (handed c.args.d) c.idct_1d.result.0 (within 8192 8192 pa (omega arith) c.requires.first) (within 8192 8192 pb (omega arith) c.requires.second) (within 8192 8192 pc (omega arith) c.requires.third) (within 8192 8192 pd (omega arith) c.requires.fourth) 0 (λ j h. ap (λ u. get u 0) (c.idct_1d.ensures j h))) in
    let v1 = small_passes 40960 c.idct_1d.result.1 (omega arith) (lanes-within 8192 (handed c.args.a) (handed c.args.b) (handed c.args.c) (handed c.args.d) c.idct_1d.result.1 (within 8192 8192 pa (omega arith) c.requires.first) (within 8192 8192 pb (omega arith) c.requires.second) (within 8192 8192 pc (omega arith) c.requires.third) (within 8192 8192 pd (omega arith) c.requires.fourth) 1 (λ j h. ap (λ u. get u 1) (c.idct_1d.ensures j h))) in
    let v2 = small_passes 40960 c.idct_1d.result.2 (omega arith) (lanes-within 8192 (handed c.args.a) (handed c.args.b) (handed c.args.c) (handed c.args.d) c.idct_1d.result.2 (within 8192 8192 pa (omega arith) c.requires.first) (within 8192 8192 pb (omega arith) c.requires.second) (within 8192 8192 pc (omega arith) c.requires.third) (within 8192 8192 pd (omega arith) c.requires.fourth) 2 (λ j h. ap (λ u. get u 2) (c.idct_1d.ensures j h))) in
    let v3 = small_passes 40960 c.idct_1d.result.3 (omega arith) (lanes-within 8192 (handed c.args.a) (handed c.args.b) (handed c.args.c) (handed c.args.d) c.idct_1d.result.3 (within 8192 8192 pa (omega arith) c.requires.first) (within 8192 8192 pb (omega arith) c.requires.second) (within 8192 8192 pc (omega arith) c.requires.third) (within 8192 8192 pd (omega arith) c.requires.fourth) 3 (λ j h. ap (λ u. get u 3) (c.idct_1d.ensures j h))) in
    let b = turned-within 8192 c.args.a c.args.b c.args.c c.args.d c.transpose.result.2 c.requires.first c.requires.second c.requires.third c.requires.fourth 2 (lit< tt) (turned_across pa pb pc pd v0 v1 v2 v3 c.idct_1d.ensures c.transpose.result.2 2 (lit< tt) c.transpose.ensures.third) in
    within 40960 40960 (small_passes 40960 c.transpose.result.2 (omega arith) b) (omega arith) b

pub idct_1d-requires-2-clause-fourth : goal.idct_1d-requires-2-clause-fourth
idct_1d-requires-2-clause-fourth c =
    let pa = passes c.args.a _ c.well_formed.0 in
    let pb = passes c.args.b _ c.well_formed.1.0 in
    let pc = passes c.args.c _ c.well_formed.1.1.0 in
    let pd = passes c.args.d _ c.well_formed.1.1.1.0 in
    let v0 = small_passes 40960 c.idct_1d.result.0 (omega arith) (lanes-within 8192 (handed c.args.a) (handed c.args.b) (handed c.args.c) (handed c.args.d) c.idct_1d.result.0 (within 8192 8192 pa (omega arith) c.requires.first) (within 8192 8192 pb (omega arith) c.requires.second) (within 8192 8192 pc (omega arith) c.requires.third) (within 8192 8192 pd (omega arith) c.requires.fourth) 0 (λ j h. ap (λ u. get u 0) (c.idct_1d.ensures j h))) in
    let v1 = small_passes 40960 c.idct_1d.result.1 (omega arith) (lanes-within 8192 (handed c.args.a) (handed c.args.b) (handed c.args.c) (handed c.args.d) c.idct_1d.result.1 (within 8192 8192 pa (omega arith) c.requires.first) (within 8192 8192 pb (omega arith) c.requires.second) (within 8192 8192 pc (omega arith) c.requires.third) (within 8192 8192 pd (omega arith) c.requires.fourth) 1 (λ j h. ap (λ u. get u 1) (c.idct_1d.ensures j h))) in
    let v2 = small_passes 40960 c.idct_1d.result.2 (omega arith) (lanes-within 8192 (handed c.args.a) (handed c.args.b) (handed c.args.c) (handed c.args.d) c.idct_1d.result.2 (within 8192 8192 pa (omega arith) c.requires.first) (within 8192 8192 pb (omega arith) c.requires.second) (within 8192 8192 pc (omega arith) c.requires.third) (within 8192 8192 pd (omega arith) c.requires.fourth) 2 (λ j h. ap (λ u. get u 2) (c.idct_1d.ensures j h))) in
    let v3 = small_passes 40960 c.idct_1d.result.3 (omega arith) (lanes-within 8192 (handed c.args.a) (handed c.args.b) (handed c.args.c) (handed c.args.d) c.idct_1d.result.3 (within 8192 8192 pa (omega arith) c.requires.first) (within 8192 8192 pb (omega arith) c.requires.second) (within 8192 8192 pc (omega arith) c.requires.third) (within 8192 8192 pd (omega arith) c.requires.fourth) 3 (λ j h. ap (λ u. get u 3) (c.idct_1d.ensures j h))) in
    let b = turned-within 8192 c.args.a c.args.b c.args.c c.args.d c.transpose.result.3 c.requires.first c.requires.second c.requires.third c.requires.fourth 3 (lit< tt) (turned_across pa pb pc pd v0 v1 v2 v3 c.idct_1d.ensures c.transpose.result.3 3 (lit< tt) c.transpose.ensures.fourth) in
    within 40960 40960 (small_passes 40960 c.transpose.result.3 (omega arith) b) (omega arith) b

pub round-requires : goal.round-requires
round-requires c =
    let pa = passes c.args.a _ c.well_formed.0 in
    let pb = passes c.args.b _ c.well_formed.1.0 in
    let pc = passes c.args.c _ c.well_formed.1.1.0 in
    let pd = passes c.args.d _ c.well_formed.1.1.1.0 in
    let v0 = small_passes 40960 c.idct_1d.result.0 (omega arith) (lanes-within 8192 (handed c.args.a) (handed c.args.b) (handed c.args.c) (handed c.args.d) c.idct_1d.result.0 (within 8192 8192 pa (omega arith) c.requires.first) (within 8192 8192 pb (omega arith) c.requires.second) (within 8192 8192 pc (omega arith) c.requires.third) (within 8192 8192 pd (omega arith) c.requires.fourth) 0 (λ j h. ap (λ u. get u 0) (c.idct_1d.ensures j h))) in
    let v1 = small_passes 40960 c.idct_1d.result.1 (omega arith) (lanes-within 8192 (handed c.args.a) (handed c.args.b) (handed c.args.c) (handed c.args.d) c.idct_1d.result.1 (within 8192 8192 pa (omega arith) c.requires.first) (within 8192 8192 pb (omega arith) c.requires.second) (within 8192 8192 pc (omega arith) c.requires.third) (within 8192 8192 pd (omega arith) c.requires.fourth) 1 (λ j h. ap (λ u. get u 1) (c.idct_1d.ensures j h))) in
    let v2 = small_passes 40960 c.idct_1d.result.2 (omega arith) (lanes-within 8192 (handed c.args.a) (handed c.args.b) (handed c.args.c) (handed c.args.d) c.idct_1d.result.2 (within 8192 8192 pa (omega arith) c.requires.first) (within 8192 8192 pb (omega arith) c.requires.second) (within 8192 8192 pc (omega arith) c.requires.third) (within 8192 8192 pd (omega arith) c.requires.fourth) 2 (λ j h. ap (λ u. get u 2) (c.idct_1d.ensures j h))) in
    let v3 = small_passes 40960 c.idct_1d.result.3 (omega arith) (lanes-within 8192 (handed c.args.a) (handed c.args.b) (handed c.args.c) (handed c.args.d) c.idct_1d.result.3 (within 8192 8192 pa (omega arith) c.requires.first) (within 8192 8192 pb (omega arith) c.requires.second) (within 8192 8192 pc (omega arith) c.requires.third) (within 8192 8192 pd (omega arith) c.requires.fourth) 3 (λ j h. ap (λ u. get u 3) (c.idct_1d.ensures j h))) in
    let b0 : LanesWithin 40960 c.transpose.result.0 = turned-within 8192 c.args.a c.args.b c.args.c c.args.d c.transpose.result.0 c.requires.first c.requires.second c.requires.third c.requires.fourth 0 (lit< tt) (turned_across pa pb pc pd v0 v1 v2 v3 c.idct_1d.ensures c.transpose.result.0 0 (lit< tt) c.transpose.ensures.first) in
    let b1 : LanesWithin 40960 c.transpose.result.1 = turned-within 8192 c.args.a c.args.b c.args.c c.args.d c.transpose.result.1 c.requires.first c.requires.second c.requires.third c.requires.fourth 1 (lit< tt) (turned_across pa pb pc pd v0 v1 v2 v3 c.idct_1d.ensures c.transpose.result.1 1 (lit< tt) c.transpose.ensures.second) in
    let b2 : LanesWithin 40960 c.transpose.result.2 = turned-within 8192 c.args.a c.args.b c.args.c c.args.d c.transpose.result.2 c.requires.first c.requires.second c.requires.third c.requires.fourth 2 (lit< tt) (turned_across pa pb pc pd v0 v1 v2 v3 c.idct_1d.ensures c.transpose.result.2 2 (lit< tt) c.transpose.ensures.third) in
    let b3 : LanesWithin 40960 c.transpose.result.3 = turned-within 8192 c.args.a c.args.b c.args.c c.args.d c.transpose.result.3 c.requires.first c.requires.second c.requires.third c.requires.fourth 3 (lit< tt) (turned_across pa pb pc pd v0 v1 v2 v3 c.idct_1d.ensures c.transpose.result.3 3 (lit< tt) c.transpose.ensures.fourth) in
    let t0 = small_passes 40960 c.transpose.result.0 (omega arith) b0 in
    let t1 = small_passes 40960 c.transpose.result.1 (omega arith) b1 in
    let t2 = small_passes 40960 c.transpose.result.2 (omega arith) b2 in
    let t3 = small_passes 40960 c.transpose.result.3 (omega arith) b3 in
    let m0 : LanesWithin 204800 c.idct_1d-2.result.0 = lanes-within 40960 (handed c.transpose.result.0) (handed c.transpose.result.1) (handed c.transpose.result.2) (handed c.transpose.result.3) c.idct_1d-2.result.0 (within 40960 40960 t0 (omega arith) b0) (within 40960 40960 t1 (omega arith) b1) (within 40960 40960 t2 (omega arith) b2) (within 40960 40960 t3 (omega arith) b3) 0 (λ j h. ap (λ u. get u 0) (c.idct_1d-2.ensures j h)) in
    let w0 = small_passes 204800 c.idct_1d-2.result.0 (omega arith) m0 in
    within 204800 204800 w0 (omega arith) m0

pub round-requires-2 : goal.round-requires-2
round-requires-2 c =
    let pa = passes c.args.a _ c.well_formed.0 in
    let pb = passes c.args.b _ c.well_formed.1.0 in
    let pc = passes c.args.c _ c.well_formed.1.1.0 in
    let pd = passes c.args.d _ c.well_formed.1.1.1.0 in
    let v0 = small_passes 40960 c.idct_1d.result.0 (omega arith) (lanes-within 8192 (handed c.args.a) (handed c.args.b) (handed c.args.c) (handed c.args.d) c.idct_1d.result.0 (within 8192 8192 pa (omega arith) c.requires.first) (within 8192 8192 pb (omega arith) c.requires.second) (within 8192 8192 pc (omega arith) c.requires.third) (within 8192 8192 pd (omega arith) c.requires.fourth) 0 (λ j h. ap (λ u. get u 0) (c.idct_1d.ensures j h))) in
    let v1 = small_passes 40960 c.idct_1d.result.1 (omega arith) (lanes-within 8192 (handed c.args.a) (handed c.args.b) (handed c.args.c) (handed c.args.d) c.idct_1d.result.1 (within 8192 8192 pa (omega arith) c.requires.first) (within 8192 8192 pb (omega arith) c.requires.second) (within 8192 8192 pc (omega arith) c.requires.third) (within 8192 8192 pd (omega arith) c.requires.fourth) 1 (λ j h. ap (λ u. get u 1) (c.idct_1d.ensures j h))) in
    let v2 = small_passes 40960 c.idct_1d.result.2 (omega arith) (lanes-within 8192 (handed c.args.a) (handed c.args.b) (handed c.args.c) (handed c.args.d) c.idct_1d.result.2 (within 8192 8192 pa (omega arith) c.requires.first) (within 8192 8192 pb (omega arith) c.requires.second) (within 8192 8192 pc (omega arith) c.requires.third) (within 8192 8192 pd (omega arith) c.requires.fourth) 2 (λ j h. ap (λ u. get u 2) (c.idct_1d.ensures j h))) in
    let v3 = small_passes 40960 c.idct_1d.result.3 (omega arith) (lanes-within 8192 (handed c.args.a) (handed c.args.b) (handed c.args.c) (handed c.args.d) c.idct_1d.result.3 (within 8192 8192 pa (omega arith) c.requires.first) (within 8192 8192 pb (omega arith) c.requires.second) (within 8192 8192 pc (omega arith) c.requires.third) (within 8192 8192 pd (omega arith) c.requires.fourth) 3 (λ j h. ap (λ u. get u 3) (c.idct_1d.ensures j h))) in
    let b0 : LanesWithin 40960 c.transpose.result.0 = turned-within 8192 c.args.a c.args.b c.args.c c.args.d c.transpose.result.0 c.requires.first c.requires.second c.requires.third c.requires.fourth 0 (lit< tt) (turned_across pa pb pc pd v0 v1 v2 v3 c.idct_1d.ensures c.transpose.result.0 0 (lit< tt) c.transpose.ensures.first) in
    let b1 : LanesWithin 40960 c.transpose.result.1 = turned-within 8192 c.args.a c.args.b c.args.c c.args.d c.transpose.result.1 c.requires.first c.requires.second c.requires.third c.requires.fourth 1 (lit< tt) (turned_across pa pb pc pd v0 v1 v2 v3 c.idct_1d.ensures c.transpose.result.1 1 (lit< tt) c.transpose.ensures.second) in
    let b2 : LanesWithin 40960 c.transpose.result.2 = turned-within 8192 c.args.a c.args.b c.args.c c.args.d c.transpose.result.2 c.requires.first c.requires.second c.requires.third c.requires.fourth 2 (lit< tt) (turned_across pa pb pc pd v0 v1 v2 v3 c.idct_1d.ensures c.transpose.result.2 2 (lit< tt) c.transpose.ensures.third) in
    let b3 : LanesWithin 40960 c.transpose.result.3 = turned-within 8192 c.args.a c.args.b c.args.c c.args.d c.transpose.result.3 c.requires.first c.requires.second c.requires.third c.requires.fourth 3 (lit< tt) (turned_across pa pb pc pd v0 v1 v2 v3 c.idct_1d.ensures c.transpose.result.3 3 (lit< tt) c.transpose.ensures.fourth) in
    let t0 = small_passes 40960 c.transpose.result.0 (omega arith) b0 in
    let t1 = small_passes 40960 c.transpose.result.1 (omega arith) b1 in
    let t2 = small_passes 40960 c.transpose.result.2 (omega arith) b2 in
    let t3 = small_passes 40960 c.transpose.result.3 (omega arith) b3 in
    let m1 : LanesWithin 204800 c.idct_1d-2.result.1 = lanes-within 40960 (handed c.transpose.result.0) (handed c.transpose.result.1) (handed c.transpose.result.2) (handed c.transpose.result.3) c.idct_1d-2.result.1 (within 40960 40960 t0 (omega arith) b0) (within 40960 40960 t1 (omega arith) b1) (within 40960 40960 t2 (omega arith) b2) (within 40960 40960 t3 (omega arith) b3) 1 (λ j h. ap (λ u. get u 1) (c.idct_1d-2.ensures j h)) in
    let w1 = small_passes 204800 c.idct_1d-2.result.1 (omega arith) m1 in
    within 204800 204800 w1 (omega arith) m1

pub round-requires-3 : goal.round-requires-3
round-requires-3 c =
    let pa = passes c.args.a _ c.well_formed.0 in
    let pb = passes c.args.b _ c.well_formed.1.0 in
    let pc = passes c.args.c _ c.well_formed.1.1.0 in
    let pd = passes c.args.d _ c.well_formed.1.1.1.0 in
    let v0 = small_passes 40960 c.idct_1d.result.0 (omega arith) (lanes-within 8192 (handed c.args.a) (handed c.args.b) (handed c.args.c) (handed c.args.d) c.idct_1d.result.0 (within 8192 8192 pa (omega arith) c.requires.first) (within 8192 8192 pb (omega arith) c.requires.second) (within 8192 8192 pc (omega arith) c.requires.third) (within 8192 8192 pd (omega arith) c.requires.fourth) 0 (λ j h. ap (λ u. get u 0) (c.idct_1d.ensures j h))) in
    let v1 = small_passes 40960 c.idct_1d.result.1 (omega arith) (lanes-within 8192 (handed c.args.a) (handed c.args.b) (handed c.args.c) (handed c.args.d) c.idct_1d.result.1 (within 8192 8192 pa (omega arith) c.requires.first) (within 8192 8192 pb (omega arith) c.requires.second) (within 8192 8192 pc (omega arith) c.requires.third) (within 8192 8192 pd (omega arith) c.requires.fourth) 1 (λ j h. ap (λ u. get u 1) (c.idct_1d.ensures j h))) in
    let v2 = small_passes 40960 c.idct_1d.result.2 (omega arith) (lanes-within 8192 (handed c.args.a) (handed c.args.b) (handed c.args.c) (handed c.args.d) c.idct_1d.result.2 (within 8192 8192 pa (omega arith) c.requires.first) (within 8192 8192 pb (omega arith) c.requires.second) (within 8192 8192 pc (omega arith) c.requires.third) (within 8192 8192 pd (omega arith) c.requires.fourth) 2 (λ j h. ap (λ u. get u 2) (c.idct_1d.ensures j h))) in
    let v3 = small_passes 40960 c.idct_1d.result.3 (omega arith) (lanes-within 8192 (handed c.args.a) (handed c.args.b) (handed c.args.c) (handed c.args.d) c.idct_1d.result.3 (within 8192 8192 pa (omega arith) c.requires.first) (within 8192 8192 pb (omega arith) c.requires.second) (within 8192 8192 pc (omega arith) c.requires.third) (within 8192 8192 pd (omega arith) c.requires.fourth) 3 (λ j h. ap (λ u. get u 3) (c.idct_1d.ensures j h))) in
    let b0 : LanesWithin 40960 c.transpose.result.0 = turned-within 8192 c.args.a c.args.b c.args.c c.args.d c.transpose.result.0 c.requires.first c.requires.second c.requires.third c.requires.fourth 0 (lit< tt) (turned_across pa pb pc pd v0 v1 v2 v3 c.idct_1d.ensures c.transpose.result.0 0 (lit< tt) c.transpose.ensures.first) in
    let b1 : LanesWithin 40960 c.transpose.result.1 = turned-within 8192 c.args.a c.args.b c.args.c c.args.d c.transpose.result.1 c.requires.first c.requires.second c.requires.third c.requires.fourth 1 (lit< tt) (turned_across pa pb pc pd v0 v1 v2 v3 c.idct_1d.ensures c.transpose.result.1 1 (lit< tt) c.transpose.ensures.second) in
    let b2 : LanesWithin 40960 c.transpose.result.2 = turned-within 8192 c.args.a c.args.b c.args.c c.args.d c.transpose.result.2 c.requires.first c.requires.second c.requires.third c.requires.fourth 2 (lit< tt) (turned_across pa pb pc pd v0 v1 v2 v3 c.idct_1d.ensures c.transpose.result.2 2 (lit< tt) c.transpose.ensures.third) in
    let b3 : LanesWithin 40960 c.transpose.result.3 = turned-within 8192 c.args.a c.args.b c.args.c c.args.d c.transpose.result.3 c.requires.first c.requires.second c.requires.third c.requires.fourth 3 (lit< tt) (turned_across pa pb pc pd v0 v1 v2 v3 c.idct_1d.ensures c.transpose.result.3 3 (lit< tt) c.transpose.ensures.fourth) in
    let t0 = small_passes 40960 c.transpose.result.0 (omega arith) b0 in
    let t1 = small_passes 40960 c.transpose.result.1 (omega arith) b1 in
    let t2 = small_passes 40960 c.transpose.result.2 (omega arith) b2 in
    let t3 = small_passes 40960 c.transpose.result.3 (omega arith) b3 in
    let m2 : LanesWithin 204800 c.idct_1d-2.result.2 = lanes-within 40960 (handed c.transpose.result.0) (handed c.transpose.result.1) (handed c.transpose.result.2) (handed c.transpose.result.3) c.idct_1d-2.result.2 (within 40960 40960 t0 (omega arith) b0) (within 40960 40960 t1 (omega arith) b1) (within 40960 40960 t2 (omega arith) b2) (within 40960 40960 t3 (omega arith) b3) 2 (λ j h. ap (λ u. get u 2) (c.idct_1d-2.ensures j h)) in
    let w2 = small_passes 204800 c.idct_1d-2.result.2 (omega arith) m2 in
    within 204800 204800 w2 (omega arith) m2

pub round-requires-4 : goal.round-requires-4
round-requires-4 c =
    let pa = passes c.args.a _ c.well_formed.0 in
    let pb = passes c.args.b _ c.well_formed.1.0 in
    let pc = passes c.args.c _ c.well_formed.1.1.0 in
    let pd = passes c.args.d _ c.well_formed.1.1.1.0 in
    let v0 = small_passes 40960 c.idct_1d.result.0 (omega arith) (lanes-within 8192 (handed c.args.a) (handed c.args.b) (handed c.args.c) (handed c.args.d) c.idct_1d.result.0 (within 8192 8192 pa (omega arith) c.requires.first) (within 8192 8192 pb (omega arith) c.requires.second) (within 8192 8192 pc (omega arith) c.requires.third) (within 8192 8192 pd (omega arith) c.requires.fourth) 0 (λ j h. ap (λ u. get u 0) (c.idct_1d.ensures j h))) in
    let v1 = small_passes 40960 c.idct_1d.result.1 (omega arith) (lanes-within 8192 (handed c.args.a) (handed c.args.b) (handed c.args.c) (handed c.args.d) c.idct_1d.result.1 (within 8192 8192 pa (omega arith) c.requires.first) (within 8192 8192 pb (omega arith) c.requires.second) (within 8192 8192 pc (omega arith) c.requires.third) (within 8192 8192 pd (omega arith) c.requires.fourth) 1 (λ j h. ap (λ u. get u 1) (c.idct_1d.ensures j h))) in
    let v2 = small_passes 40960 c.idct_1d.result.2 (omega arith) (lanes-within 8192 (handed c.args.a) (handed c.args.b) (handed c.args.c) (handed c.args.d) c.idct_1d.result.2 (within 8192 8192 pa (omega arith) c.requires.first) (within 8192 8192 pb (omega arith) c.requires.second) (within 8192 8192 pc (omega arith) c.requires.third) (within 8192 8192 pd (omega arith) c.requires.fourth) 2 (λ j h. ap (λ u. get u 2) (c.idct_1d.ensures j h))) in
    let v3 = small_passes 40960 c.idct_1d.result.3 (omega arith) (lanes-within 8192 (handed c.args.a) (handed c.args.b) (handed c.args.c) (handed c.args.d) c.idct_1d.result.3 (within 8192 8192 pa (omega arith) c.requires.first) (within 8192 8192 pb (omega arith) c.requires.second) (within 8192 8192 pc (omega arith) c.requires.third) (within 8192 8192 pd (omega arith) c.requires.fourth) 3 (λ j h. ap (λ u. get u 3) (c.idct_1d.ensures j h))) in
    let b0 : LanesWithin 40960 c.transpose.result.0 = turned-within 8192 c.args.a c.args.b c.args.c c.args.d c.transpose.result.0 c.requires.first c.requires.second c.requires.third c.requires.fourth 0 (lit< tt) (turned_across pa pb pc pd v0 v1 v2 v3 c.idct_1d.ensures c.transpose.result.0 0 (lit< tt) c.transpose.ensures.first) in
    let b1 : LanesWithin 40960 c.transpose.result.1 = turned-within 8192 c.args.a c.args.b c.args.c c.args.d c.transpose.result.1 c.requires.first c.requires.second c.requires.third c.requires.fourth 1 (lit< tt) (turned_across pa pb pc pd v0 v1 v2 v3 c.idct_1d.ensures c.transpose.result.1 1 (lit< tt) c.transpose.ensures.second) in
    let b2 : LanesWithin 40960 c.transpose.result.2 = turned-within 8192 c.args.a c.args.b c.args.c c.args.d c.transpose.result.2 c.requires.first c.requires.second c.requires.third c.requires.fourth 2 (lit< tt) (turned_across pa pb pc pd v0 v1 v2 v3 c.idct_1d.ensures c.transpose.result.2 2 (lit< tt) c.transpose.ensures.third) in
    let b3 : LanesWithin 40960 c.transpose.result.3 = turned-within 8192 c.args.a c.args.b c.args.c c.args.d c.transpose.result.3 c.requires.first c.requires.second c.requires.third c.requires.fourth 3 (lit< tt) (turned_across pa pb pc pd v0 v1 v2 v3 c.idct_1d.ensures c.transpose.result.3 3 (lit< tt) c.transpose.ensures.fourth) in
    let t0 = small_passes 40960 c.transpose.result.0 (omega arith) b0 in
    let t1 = small_passes 40960 c.transpose.result.1 (omega arith) b1 in
    let t2 = small_passes 40960 c.transpose.result.2 (omega arith) b2 in
    let t3 = small_passes 40960 c.transpose.result.3 (omega arith) b3 in
    let m3 : LanesWithin 204800 c.idct_1d-2.result.3 = lanes-within 40960 (handed c.transpose.result.0) (handed c.transpose.result.1) (handed c.transpose.result.2) (handed c.transpose.result.3) c.idct_1d-2.result.3 (within 40960 40960 t0 (omega arith) b0) (within 40960 40960 t1 (omega arith) b1) (within 40960 40960 t2 (omega arith) b2) (within 40960 40960 t3 (omega arith) b3) 3 (λ j h. ap (λ u. get u 3) (c.idct_1d-2.ensures j h)) in
    let w3 = small_passes 204800 c.idct_1d-2.result.3 (omega arith) m3 in
    within 204800 204800 w3 (omega arith) m3

pub returns : goal.returns
unfolding idct horizontal vertical
returns c =
    let pa = passes c.args.a _ c.well_formed.0 in
    let pb = passes c.args.b _ c.well_formed.1.0 in
    let pc = passes c.args.c _ c.well_formed.1.1.0 in
    let pd = passes c.args.d _ c.well_formed.1.1.1.0 in
    let v0 = small_passes 40960 c.idct_1d.result.0 (omega arith) (lanes-within 8192 (handed c.args.a) (handed c.args.b) (handed c.args.c) (handed c.args.d) c.idct_1d.result.0 (within 8192 8192 pa (omega arith) c.requires.first) (within 8192 8192 pb (omega arith) c.requires.second) (within 8192 8192 pc (omega arith) c.requires.third) (within 8192 8192 pd (omega arith) c.requires.fourth) 0 (λ j h. ap (λ u. get u 0) (c.idct_1d.ensures j h))) in
    let v1 = small_passes 40960 c.idct_1d.result.1 (omega arith) (lanes-within 8192 (handed c.args.a) (handed c.args.b) (handed c.args.c) (handed c.args.d) c.idct_1d.result.1 (within 8192 8192 pa (omega arith) c.requires.first) (within 8192 8192 pb (omega arith) c.requires.second) (within 8192 8192 pc (omega arith) c.requires.third) (within 8192 8192 pd (omega arith) c.requires.fourth) 1 (λ j h. ap (λ u. get u 1) (c.idct_1d.ensures j h))) in
    let v2 = small_passes 40960 c.idct_1d.result.2 (omega arith) (lanes-within 8192 (handed c.args.a) (handed c.args.b) (handed c.args.c) (handed c.args.d) c.idct_1d.result.2 (within 8192 8192 pa (omega arith) c.requires.first) (within 8192 8192 pb (omega arith) c.requires.second) (within 8192 8192 pc (omega arith) c.requires.third) (within 8192 8192 pd (omega arith) c.requires.fourth) 2 (λ j h. ap (λ u. get u 2) (c.idct_1d.ensures j h))) in
    let v3 = small_passes 40960 c.idct_1d.result.3 (omega arith) (lanes-within 8192 (handed c.args.a) (handed c.args.b) (handed c.args.c) (handed c.args.d) c.idct_1d.result.3 (within 8192 8192 pa (omega arith) c.requires.first) (within 8192 8192 pb (omega arith) c.requires.second) (within 8192 8192 pc (omega arith) c.requires.third) (within 8192 8192 pd (omega arith) c.requires.fourth) 3 (λ j h. ap (λ u. get u 3) (c.idct_1d.ensures j h))) in
    let b0 : LanesWithin 40960 c.transpose.result.0 = turned-within 8192 c.args.a c.args.b c.args.c c.args.d c.transpose.result.0 c.requires.first c.requires.second c.requires.third c.requires.fourth 0 (lit< tt) (turned_across pa pb pc pd v0 v1 v2 v3 c.idct_1d.ensures c.transpose.result.0 0 (lit< tt) c.transpose.ensures.first) in
    let b1 : LanesWithin 40960 c.transpose.result.1 = turned-within 8192 c.args.a c.args.b c.args.c c.args.d c.transpose.result.1 c.requires.first c.requires.second c.requires.third c.requires.fourth 1 (lit< tt) (turned_across pa pb pc pd v0 v1 v2 v3 c.idct_1d.ensures c.transpose.result.1 1 (lit< tt) c.transpose.ensures.second) in
    let b2 : LanesWithin 40960 c.transpose.result.2 = turned-within 8192 c.args.a c.args.b c.args.c c.args.d c.transpose.result.2 c.requires.first c.requires.second c.requires.third c.requires.fourth 2 (lit< tt) (turned_across pa pb pc pd v0 v1 v2 v3 c.idct_1d.ensures c.transpose.result.2 2 (lit< tt) c.transpose.ensures.third) in
    let b3 : LanesWithin 40960 c.transpose.result.3 = turned-within 8192 c.args.a c.args.b c.args.c c.args.d c.transpose.result.3 c.requires.first c.requires.second c.requires.third c.requires.fourth 3 (lit< tt) (turned_across pa pb pc pd v0 v1 v2 v3 c.idct_1d.ensures c.transpose.result.3 3 (lit< tt) c.transpose.ensures.fourth) in
    let t0 = small_passes 40960 c.transpose.result.0 (omega arith) b0 in
    let t1 = small_passes 40960 c.transpose.result.1 (omega arith) b1 in
    let t2 = small_passes 40960 c.transpose.result.2 (omega arith) b2 in
    let t3 = small_passes 40960 c.transpose.result.3 (omega arith) b3 in
    let m0 : LanesWithin 204800 c.idct_1d-2.result.0 = lanes-within 40960 (handed c.transpose.result.0) (handed c.transpose.result.1) (handed c.transpose.result.2) (handed c.transpose.result.3) c.idct_1d-2.result.0 (within 40960 40960 t0 (omega arith) b0) (within 40960 40960 t1 (omega arith) b1) (within 40960 40960 t2 (omega arith) b2) (within 40960 40960 t3 (omega arith) b3) 0 (λ j h. ap (λ u. get u 0) (c.idct_1d-2.ensures j h)) in
    let m1 : LanesWithin 204800 c.idct_1d-2.result.1 = lanes-within 40960 (handed c.transpose.result.0) (handed c.transpose.result.1) (handed c.transpose.result.2) (handed c.transpose.result.3) c.idct_1d-2.result.1 (within 40960 40960 t0 (omega arith) b0) (within 40960 40960 t1 (omega arith) b1) (within 40960 40960 t2 (omega arith) b2) (within 40960 40960 t3 (omega arith) b3) 1 (λ j h. ap (λ u. get u 1) (c.idct_1d-2.ensures j h)) in
    let m2 : LanesWithin 204800 c.idct_1d-2.result.2 = lanes-within 40960 (handed c.transpose.result.0) (handed c.transpose.result.1) (handed c.transpose.result.2) (handed c.transpose.result.3) c.idct_1d-2.result.2 (within 40960 40960 t0 (omega arith) b0) (within 40960 40960 t1 (omega arith) b1) (within 40960 40960 t2 (omega arith) b2) (within 40960 40960 t3 (omega arith) b3) 2 (λ j h. ap (λ u. get u 2) (c.idct_1d-2.ensures j h)) in
    let m3 : LanesWithin 204800 c.idct_1d-2.result.3 = lanes-within 40960 (handed c.transpose.result.0) (handed c.transpose.result.1) (handed c.transpose.result.2) (handed c.transpose.result.3) c.idct_1d-2.result.3 (within 40960 40960 t0 (omega arith) b0) (within 40960 40960 t1 (omega arith) b1) (within 40960 40960 t2 (omega arith) b2) (within 40960 40960 t3 (omega arith) b3) 3 (λ j h. ap (λ u. get u 3) (c.idct_1d-2.ensures j h)) in
    let w0 = small_passes 204800 c.idct_1d-2.result.0 (omega arith) m0 in
    let w1 = small_passes 204800 c.idct_1d-2.result.1 (omega arith) m1 in
    let w2 = small_passes 204800 c.idct_1d-2.result.2 (omega arith) m2 in
    let w3 = small_passes 204800 c.idct_1d-2.result.3 (omega arith) m3 in
    let e0 = passes c.round.result _ c.round.type_inv in
    let e1 = passes c.round-2.result _ c.round-2.type_inv in
    let e2 = passes c.round-3.result _ c.round-3.type_inv in
    let e3 = passes c.round-4.result _ c.round-4.type_inv in
    let x0 : c.transpose.result.0 ≡ turned (lane c.args.a 0) (lane c.args.b 0) (lane c.args.c 0) (lane c.args.d 0) = turned_across pa pb pc pd v0 v1 v2 v3 c.idct_1d.ensures c.transpose.result.0 0 (lit< tt) c.transpose.ensures.first in
    let x1 : c.transpose.result.1 ≡ turned (lane c.args.a 1) (lane c.args.b 1) (lane c.args.c 1) (lane c.args.d 1) = turned_across pa pb pc pd v0 v1 v2 v3 c.idct_1d.ensures c.transpose.result.1 1 (lit< tt) c.transpose.ensures.second in
    let x2 : c.transpose.result.2 ≡ turned (lane c.args.a 2) (lane c.args.b 2) (lane c.args.c 2) (lane c.args.d 2) = turned_across pa pb pc pd v0 v1 v2 v3 c.idct_1d.ensures c.transpose.result.2 2 (lit< tt) c.transpose.ensures.third in
    let x3 : c.transpose.result.3 ≡ turned (lane c.args.a 3) (lane c.args.b 3) (lane c.args.c 3) (lane c.args.d 3) = turned_across pa pb pc pd v0 v1 v2 v3 c.idct_1d.ensures c.transpose.result.3 3 (lit< tt) c.transpose.ensures.fourth in
    let r0 = column_is t0 t1 t2 t3 w0 w1 w2 w3 c.idct_1d-2.ensures 0 (lit< tt) ∙ turned_along (ap (λ v. lane v 0) x0) (ap (λ v. lane v 0) x1) (ap (λ v. lane v 0) x2) (ap (λ v. lane v 0) x3) in
    let r1 = column_is t0 t1 t2 t3 w0 w1 w2 w3 c.idct_1d-2.ensures 1 (lit< tt) ∙ turned_along (ap (λ v. lane v 1) x0) (ap (λ v. lane v 1) x1) (ap (λ v. lane v 1) x2) (ap (λ v. lane v 1) x3) in
    let r2 = column_is t0 t1 t2 t3 w0 w1 w2 w3 c.idct_1d-2.ensures 2 (lit< tt) ∙ turned_along (ap (λ v. lane v 2) x0) (ap (λ v. lane v 2) x1) (ap (λ v. lane v 2) x2) (ap (λ v. lane v 2) x3) in
    let r3 = column_is t0 t1 t2 t3 w0 w1 w2 w3 c.idct_1d-2.ensures 3 (lit< tt) ∙ turned_along (ap (λ v. lane v 3) x0) (ap (λ v. lane v 3) x1) (ap (λ v. lane v 3) x2) (ap (λ v. lane v 3) x3) in
    let o0 = rounded_across w0 w1 w2 w3 e0 e1 e2 e3 c.transpose-2.result.0 _ 0 (lit< tt) (c.round.ensures 0 (lit< tt)) (c.round-2.ensures 0 (lit< tt)) (c.round-3.ensures 0 (lit< tt)) (c.round-4.ensures 0 (lit< tt)) c.transpose-2.ensures.first r0 in
    let o1 = rounded_across w0 w1 w2 w3 e0 e1 e2 e3 c.transpose-2.result.1 _ 1 (lit< tt) (c.round.ensures 1 (lit< tt)) (c.round-2.ensures 1 (lit< tt)) (c.round-3.ensures 1 (lit< tt)) (c.round-4.ensures 1 (lit< tt)) c.transpose-2.ensures.second r1 in
    let o2 = rounded_across w0 w1 w2 w3 e0 e1 e2 e3 c.transpose-2.result.2 _ 2 (lit< tt) (c.round.ensures 2 (lit< tt)) (c.round-2.ensures 2 (lit< tt)) (c.round-3.ensures 2 (lit< tt)) (c.round-4.ensures 2 (lit< tt)) c.transpose-2.ensures.third r2 in
    let o3 = rounded_across w0 w1 w2 w3 e0 e1 e2 e3 c.transpose-2.result.3 _ 3 (lit< tt) (c.round.ensures 3 (lit< tt)) (c.round-2.ensures 3 (lit< tt)) (c.round-3.ensures 3 (lit< tt)) (c.round-4.ensures 3 (lit< tt)) c.transpose-2.ensures.fourth r3 in
    rows_along o0 o1 o2 o3
