use Rattle.vp_lanes.proofs.Signed.{signed_param}
use Rattle.vp_transform.proofs.Turning.{lanes_a, lanes_b, lanes_c, lanes_d, rounded_lane, even_rounded, odd_rounded}
use Rattle.vp_transform.proofs.pair.round.Goals as goal

pub returns-clause-even : goal.returns-clause-even
returns-clause-even c =
    let e = c.requires.even in
    let o = c.requires.odd in
    let a = c.args.a in
    let b = c.args.b in
    let r = c.args.c in
    let d = c.args.d in
    even_rounded a b r d _ _ _ _
    (λ j h. rounded_lane a (signed_param 8 a _ c.well_formed.0) (lanes_a 32763 a b r d e o) j h)
    (λ j h. rounded_lane b (signed_param 8 b _ c.well_formed.1.0) (lanes_b 32763 a b r d e o) j h)
    (λ j h. rounded_lane r (signed_param 8 r _ c.well_formed.1.1.0) (lanes_c 32763 a b r d e o) j h)
    (λ j h. rounded_lane d (signed_param 8 d _ c.well_formed.1.1.1.0) (lanes_d 32763 a b r d e o) j h)

pub returns-clause-odd : goal.returns-clause-odd
returns-clause-odd c =
    let e = c.requires.even in
    let o = c.requires.odd in
    let a = c.args.a in
    let b = c.args.b in
    let r = c.args.c in
    let d = c.args.d in
    odd_rounded a b r d _ _ _ _
    (λ j h. rounded_lane a (signed_param 8 a _ c.well_formed.0) (lanes_a 32763 a b r d e o) j h)
    (λ j h. rounded_lane b (signed_param 8 b _ c.well_formed.1.0) (lanes_b 32763 a b r d e o) j h)
    (λ j h. rounded_lane r (signed_param 8 r _ c.well_formed.1.1.0) (lanes_c 32763 a b r d e o) j h)
    (λ j h. rounded_lane d (signed_param 8 d _ c.well_formed.1.1.1.0) (lanes_d 32763 a b r d e o) j h)
