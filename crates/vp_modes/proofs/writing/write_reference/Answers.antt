use Rattle.std.proofs.Common.{◌≡◌, Bool, true, refl, sym}
use Rattle.vp_bool.proofs.WritingLemmas.{Writes-then, Continues-none, Continues-given}
use Rattle.vp_head.specs.declared.fields.Reference.{Reference}
use Rattle.vp_head.specs.declared.fields.Reference.TheVariants as reference_is
use Rattle.vp_head.specs.Reference.{is_intra}
use Rattle.vp_modes.specs.Modes.{reference_of}
use Rattle.vp_modes.proofs.writing.write_reference.Goals as goal

intra : (r : Reference) (b : Bool) → b ≡ is_intra r → b ≡ true → reference_is.Intra ≡ r
intra reference_is.Intra b h e = refl
intra reference_is.Last b h e = absurd cc
intra reference_is.Golden b h e = absurd cc
intra reference_is.Alt b h e = absurd cc

pub returns-then-header : goal.returns-then-header
unfolding reference_of
returns-then-header c = rw c.if-header.true (Writes-then _ (Continues-none _ _) (Continues-given (sym (c.requires c.if-header.true)) _))

pub returns-in_ok-write_inter_reference : goal.returns-in_ok-write_inter_reference
unfolding reference_of
returns-in_ok-write_inter_reference c =
    let w = rw c.if-inter.true at c.in_ok-write.ensures.reads in
    rw c.if-header.false (Writes-then _ w c.in_ok-write_inter_reference.ensures)

pub returns-else-inter : goal.returns-else-inter
unfolding reference_of
returns-else-inter c =
    let w = rw c.if-inter.false at c.in_ok-write.ensures.reads in
    let e = intra c.args.reference _ c.is_intra-inter.ensures c.if-inter.false in
    rw c.if-header.false (Writes-then _ w (Continues-given e _))
