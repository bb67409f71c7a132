-- The pixels of pictures that are shown, and packets by their numbers.
use Rattle.std.proofs.Common.{◌≡◌, ◌∙◌, ℕ, zero, suc, ◌<◌, List, [], ◌∷◌, Option, Some, None, length, inl, inr, sym, ap, subst, arith}
use Rattle.vp_base.specs.declared.limits.Limits.{Limits}
use Rattle.vp_base.specs.Image.{Image, i420}
use Rattle.vp_ivf.specs.declared.packet.Packet.{Packet}
use Rattle.vp_decode.specs.Step as step_is
use Rattle.vp_stream.specs.Answers.{answers_from}
use Rattle.vp_stream.specs.Seeking.{AnswerValue, Shown, Hidden, Fault, NoPacket, answer_at, answer_or_none}
use Rattle.vp_stream.proofs.PictureLemmas.{length-i420}
use Rattle.std.proofs.lemmas.Bool.{cases_lt}
use Rattle.vp_stream.proofs.AnswerLemmas.{no_answer}
use Rattle.std.specs.Prelude.{slice_get}
use Rattle.vp_scale.specs.Planes.{i420_size}

-- the pixels of a picture by another name
pub whole : (p : Image) (w h : ℕ) (pixels : List ℕ) → pixels ≡ i420 p → w ≡ p.width → h ≡ p.height → length pixels ≡ i420_size w h
whole p w h pixels is wide high = ap length is ∙ length-i420 p ∙ (λ i. i420_size (sym wide i) (sym high i))

HasAll : AnswerValue → Type 0
HasAll (Shown w h pixels) = length pixels ≡ i420_size w h
HasAll Hidden = Unit {0}
HasAll (Fault f) = Unit {0}
HasAll NoPacket = Unit {0}

whole_by : (o : Option step_is.Answer) → HasAll (answer_or_none o)
unfolding HasAll
whole_by None = tt
whole_by (Some (step_is.Shown p)) = length-i420 p
whole_by (Some step_is.Hidden) = tt
whole_by (Some (step_is.Fault f)) = tt

-- a shown picture has all its pixels
pub whole_at : (limits : Limits) (packets : List Packet) (n w h : ℕ) (pixels : List ℕ) → answer_at limits packets n ≡ Shown w h pixels → length pixels ≡ i420_size w h
unfolding HasAll
whole_at limits packets n w h pixels e = subst HasAll e (whole_by (slice_get (answers_from limits None packets) n))

-- a packet that shows a picture is there
pub in_range : (limits : Limits) (packets : List Packet) (n w h : ℕ) (pixels : List ℕ) → answer_at limits packets n ≡ Shown w h pixels → n < length packets
in_range limits packets n w h pixels e = elim (cases_lt n (length packets)) [
  | inl below ↦ below
  | inr past ↦ absurd (let none : answer_at limits packets n ≡ NoPacket = no_answer limits packets n past in cc)
]

-- so there is a packet with its number
pub not_none : (all : List Packet) (n : ℕ) → None ≡ slice_get all n → n < length all → ⊥
not_none [] n e below = omega (arith, below)
not_none (p ∷ ps) zero e below = cc
not_none (p ∷ ps) (suc n) e below = not_none ps n e (omega (arith, below))
