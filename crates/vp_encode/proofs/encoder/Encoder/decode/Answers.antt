use Rattle.std.proofs.Common.{◌≡◌, arith, subst}
use Rattle.std.proofs.lemmas.Grind.{common_steps}
use Rattle.vp_encode.specs.Between.{HasSize}
use Rattle.vp_encode.proofs.EncoderLemmas.{size_fits, kept_shown, sound_after}
use Rattle.vp_encode.proofs.encoder.Encoder.decode.Goals as goal

pub decode_rebuilt-requires : goal.decode_rebuilt-requires
decode_rebuilt-requires c = λ o opens.
    let rebuilt = rw (← c.self.view_is) at c.requires.rebuilt in
    rebuilt c.self.inside.decoder.limits o (size_fits c.self.inside.dim c.self.inside.decoder.limits.pixels c.self.invariant.wide) opens

pub invariant_of-self-in_err-recon-in-Some : goal.invariant_of-self-in_err-recon-in-Some
invariant_of-self-in_err-recon-in-Some c =
    sound_after _ _ _ c.self.inside.decoder _ _ _ c.self.view_is c.self.invariant c.requires.shows c.in_ok-decode_rebuilt.ensures.after c.self.inside.since c.self.invariant.since

pub unreachable-requires : goal.unreachable-requires
unreachable-requires c =
    let kept = kept_shown _ _ _ c.self.inside.decoder _ _ _ c.self.view_is c.self.invariant c.requires.shows c.in_ok-decode_rebuilt.ensures.after in
    cc (c.in-None.ensures, kept)

pub invariant_of-self-2 : goal.invariant_of-self-2
invariant_of-self-2 c =
    sound_after _ _ _ c.self.inside.decoder _ _ _ c.self.view_is c.self.invariant c.requires.shows c.in_ok-decode_rebuilt.ensures.after c.args.since (rw (← c.self.view_is) at c.requires.few)

pub returns-clause-size : goal.returns-clause-size
returns-clause-size c =
    let kept = kept_shown _ _ _ c.self.inside.decoder _ _ _ c.self.view_is c.self.invariant c.requires.shows c.in_ok-decode_rebuilt.ensures.after in
    let same : c.requires.shows.kept.references.newest ≡ c.in_ok-recon-in-Some.recon.value = grind (arith, common_steps, kept, c.in-Some.ensures, c.in_ok-recon-in-Some.ensures) in
    subst (HasSize c.args.self.now.dim) same c.requires.shows.sound.size
