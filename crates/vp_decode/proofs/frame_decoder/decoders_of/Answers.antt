use Rattle.std.proofs.Common.{[]}
use Rattle.vp_decode.proofs.Words.{◌≡◌, ℕ, ◌≤◌, List, ◌∷◌, length, take, map, get_or, refl, arith, State, initial_state}
use Rattle.vp_decode.proofs.frame_decoder.decoders_of.Goals as goal

abbrev nth : List (List ℕ) → ℕ → State
nth ps i = initial_state (get_or ps i [])

eight_of : (ps : List (List ℕ)) → length ps ≤ 8
    → take (length ps) (nth ps 0 ∷ nth ps 1 ∷ nth ps 2 ∷ nth ps 3 ∷ nth ps 4 ∷ nth ps 5 ∷ nth ps 6 ∷ nth ps 7 ∷ []) ≡ map initial_state ps
eight_of [] h = refl
eight_of (a ∷ []) h = refl
eight_of (a ∷ b ∷ []) h = refl
eight_of (a ∷ b ∷ c ∷ []) h = refl
eight_of (a ∷ b ∷ c ∷ d ∷ []) h = refl
eight_of (a ∷ b ∷ c ∷ d ∷ e ∷ []) h = refl
eight_of (a ∷ b ∷ c ∷ d ∷ e ∷ f ∷ []) h = refl
eight_of (a ∷ b ∷ c ∷ d ∷ e ∷ f ∷ g ∷ []) h = refl
eight_of (a ∷ b ∷ c ∷ d ∷ e ∷ f ∷ g ∷ i ∷ []) h = refl
eight_of (a ∷ b ∷ c ∷ d ∷ e ∷ f ∷ g ∷ i ∷ j ∷ ps) h = absurd (omega arith)

pub returns : goal.returns
returns c =
    rw (
      c.decoder_of.ensures,
      c.decoder_of-2.ensures,
      c.decoder_of-3.ensures,
      c.decoder_of-4.ensures,
      c.decoder_of-5.ensures,
      c.decoder_of-6.ensures,
      c.decoder_of-7.ensures,
      c.decoder_of-8.ensures,
    )
    (eight_of c.args.parts.now c.requires)
