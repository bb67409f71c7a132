use Rattle.std.proofs.Common.{◌<◌, ◌≤◌, length, arith, rules}
use Rattle.std.proofs.lemmas.List.{length-take-le}
use Rattle.vp_bool.specs.Window.{IsLeftAligned}
use Rattle.vp_bool.proofs.MarkLemmas.{aligned_more}
use Rattle.vp_bool.proofs.TopLemmas.{word_fits, loaded_is, loaded_aligned, behind, bytes_drop}
use Rattle.vp_bool.proofs.decoder.load.Goals as goal

pub overflow_add-result-2 : goal.overflow_add-result-2
overflow_add-result-2 c =
    let some : 0 < length c.args.old.rest.now = search rules in
    let inside : c.min-taken.result ≤ length c.args.old.rest.now = omega (arith, c.min-taken.ensures) in
    let taken = length-take-le c.min-taken.result c.args.old.rest.now inside in
    let plain : IsLeftAligned c.args.old.value c.args.old.count = aligned_more c.args.old.value c.args.old.count c.args.old.rest.now c.requires.aligned some in
    omega (arith, word_fits c.args.old.value c.args.old.count c.min-taken.result c.number_of.result c.args.old.rest.now plain c.requires.low inside (omega (arith, c.min-taken.ensures)) c.number_of.ensures.value (rw taken at c.number_of.ensures.small) (omega arith))

pub returns-clause-more : goal.returns-clause-more
returns-clause-more c = λ some.
    let inside : c.min-taken.result ≤ length c.args.old.rest.now = omega (arith, c.min-taken.ensures) in
    let few : c.min-taken.result ≤ 6 = omega (arith, c.min-taken.ensures) in
    let taken = length-take-le c.min-taken.result c.args.old.rest.now inside in
    let small = rw taken at c.number_of.ensures.small in
    let plain : IsLeftAligned c.args.old.value c.args.old.count = aligned_more c.args.old.value c.args.old.count c.args.old.rest.now c.requires.aligned some in
    rw (behind c.min-taken.result c.args.old.rest.now)
    (record {
      same = loaded_is c.args.old.value c.args.old.count c.min-taken.result c.number_of.result c.args.old.rest.now plain c.requires.low inside few c.number_of.ensures.value small;
      enough = omega (arith, c.min-taken.ensures);
      few = omega (arith, few, c.requires.low);
      aligned = loaded_aligned c.args.old.value c.args.old.count c.min-taken.result c.number_of.result c.args.old.rest.now plain c.requires.low inside few c.number_of.ensures.value small;
      bytes = bytes_drop c.min-taken.result c.args.old.rest.now c.requires.bytes;
    })
