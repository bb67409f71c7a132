-- Ranges and whole files.
use Rattle.std.proofs.Common.{◌≡◌, ◌≢◌, ℕ, ◌+◌, ◌≤◌, ◌&&◌, Bool, true, false, not, List, [], ◌∷◌, ◌++◌, length, Option, Some, None, refl, sym, ap, subst, ◌∙◌, arith}
use Rattle.std.specs.Prelude.{◌==◌}
use Rattle.std.specs.List.{flat_map, take_while, list_all}
use Rattle.std.proofs.lemmas.Bool.{eqb-true}
use Rattle.std.proofs.lemmas.Bool.Decides.{nat_tests}
use Rattle.std.proofs.lemmas.List.{append-nil}
use Rattle.std.proofs.lemmas.List.Folds.{list_all-append}
use Rattle.std.proofs.lemmas.List.Concat.{flat_map-append}
use Rattle.std.proofs.lemmas.List.Elements.{filter_map-append}
use Rattle.vp_base.specs.declared.limits.Limits.{Limits}
use Rattle.vp_base.specs.Image.{Image, i420}
use Rattle.vp_y4m.specs.Text.{header_text, picture_text}
use Rattle.vp_ivf.specs.declared.packet.IvfHead.{IvfHead}
use Rattle.vp_decode.specs.Step.{picture_in}
use Rattle.vp_stream.specs.declared.form.Form.TheVariants.{I420, Y4m}
use Rattle.vp_stream.specs.Answers.{reading_of, answers_of}
use Rattle.vp_stream.specs.Reports.{faults_from}
use Rattle.vp_stream.specs.Texts.{shown_in, same_size, y4m_header, text, decoded_text, pictures_of, changes_size}
use Rattle.vp_stream.specs.Transcode.{fresh}
use Rattle.vp_stream.proofs.ReportLemmas.{length-answers_to}
use Rattle.vp_stream.proofs.TextLemmas.{all_taken}
use Rattle.vp_frames.specs.declared.range.PacketRange.{PacketRange}
use Rattle.vp_frames.specs.Ranges.{answers_in, pictures_in, range_text, faults_in, frames_text}
use Rattle.vp_frames.proofs.RangeLemmas.{range_all, range_inside}

-- each packet has an answer
pub answers_long : (limits : Limits) (file : List ℕ) → length (answers_of limits file) ≡ length (reading_of limits file).packets
answers_long limits file = length-answers_to (fresh limits I420) (reading_of limits file).packets

pub all_answers : (limits : Limits) (file : List ℕ) (range : PacketRange) → range.first ≡ 0 → length (reading_of limits file).packets ≤ range.last + 1
    → answers_in limits file range ≡ answers_of limits file
all_answers limits file range none past =
    let P : ℕ → Type 0 = λ n. n ≤ range.last + 1 in
    range_all (answers_of limits file) range.first (range.last + 1) none (subst P (sym (answers_long limits file)) past)

pictures_inside : (limits : Limits) (file : List ℕ) (range : PacketRange) → (before behind : List Image) × (pictures_of limits file ≡ before ++ (pictures_in limits file range ++ behind))
pictures_inside limits file range =
    let parts = range_inside (answers_of limits file) range.first (range.last + 1) in
    let part = answers_in limits file range in (
      shown_in parts.0,
      shown_in parts.1,
      ap shown_in parts.2
          ∙ (filter_map-append picture_in parts.0 (part ++ parts.1)
          ∙ ap (λ (ps : List Image). shown_in parts.0 ++ ps) (filter_map-append picture_in part parts.1)),
    )

pub text_inside : (limits : Limits) (file : List ℕ) (range : PacketRange)
    → (before behind : List ℕ) × (decoded_text limits I420 file ≡ before ++ (range_text limits I420 file range ++ behind))
text_inside limits file range =
    let parts = pictures_inside limits file range in
    let part = pictures_in limits file range in (
      flat_map i420 parts.0,
      flat_map i420 parts.1,
      ap (flat_map i420) parts.2
          ∙ (flat_map-append i420 parts.0 (part ++ parts.1)
          ∙ ap (λ (xs : List ℕ). flat_map i420 parts.0 ++ xs) (flat_map-append i420 part parts.1)),
    )

pub all_faults : (limits : Limits) (file : List ℕ) (range : PacketRange) → range.first ≡ 0 → length (reading_of limits file).packets ≤ range.last + 1
    → faults_in limits file range ≡ faults_from 0 (answers_of limits file)
all_faults limits file range none past =
    ap (λ (n : ℕ). faults_from n (answers_in limits file range)) none ∙ ap (faults_from 0) (all_answers limits file range none past)

-- ---- with header lines

and_true : (a b : Bool) → (a && b) ≡ true → (a ≡ true) × (b ≡ true)
and_true true b e = (refl, e)
and_true false b e = cc

not_false : (b : Bool) → not b ≡ false → b ≡ true
not_false true e = refl
not_false false e = cc

sizes_equal : (q p : Image) → same_size q p ≡ true → (p.width ≡ q.width) × (p.height ≡ q.height)
sizes_equal q p e =
    let both = and_true (q.width == p.width) (q.height == p.height) e in
    (sym (eqb-true q.width p.width both.0), sym (eqb-true q.height p.height both.1))

own_size : (q : Image) → same_size q q ≡ true
own_size q = grind (arith, nat_tests)

-- pictures of one size as the first one
module _ (head : Option IvfHead) (q p : Image) (is : (p.width ≡ q.width) × (p.height ≡ q.height)) where
  same_test : same_size p ≡ same_size q
  same_test = λ i. λ (x : Image). (is.0 i == x.width) && (is.1 i == x.height)

  line_by : (h : Option IvfHead) → y4m_header h p ≡ y4m_header h q
  line_by None = refl
  line_by (Some h) = λ i. header_text (is.0 i) (is.1 i) h.rate h.scale

-- pictures of one size are all written
one_size_text : (head : Option IvfHead) (q : Image) (qs : List Image) → list_all (same_size q) qs ≡ true → text Y4m head (q ∷ qs) ≡ y4m_header head q ++ frames_text (q ∷ qs)
one_size_text head q qs e =
    let all : take_while (same_size q) qs ≡ qs =
    ap (take_while (same_size q)) (sym (append-nil qs)) ∙ (all_taken (same_size q) qs [] e ∙ append-nil qs) in
    ap (λ (zs : List Image). y4m_header head q ++ (picture_text (i420 q) ++ flat_map (λ (x : Image). picture_text (i420 x)) zs)) all

frames_split : (before part behind : List Image) → frames_text (before ++ (part ++ behind)) ≡ frames_text before ++ (frames_text part ++ frames_text behind)
frames_split before part behind =
    flat_map-append (λ (x : Image). picture_text (i420 x)) before (part ++ behind)
    ∙ ap (λ (xs : List ℕ). frames_text before ++ xs) (flat_map-append (λ (x : Image). picture_text (i420 x)) part behind)

not_empty : (before part behind : List Image) (p : Image) → [] ≡ before ++ ((p ∷ part) ++ behind) → ⊥
not_empty [] part behind p e = cc
not_empty (b ∷ before) part behind p e = cc

-- the part's text has the whole text's line
abbrev pub HasLineOf : Option IvfHead → List Image → List Image → Type 0
HasLineOf head whole part =
    (line before behind : List ℕ) × (text Y4m head part ≡ line ++ frames_text part)
    × (text Y4m head whole ≡ line ++ (before ++ (frames_text part ++ behind)))

lines_by : (head : Option IvfHead) (whole before part behind : List Image) → whole ≡ before ++ (part ++ behind) → changes_size Y4m whole ≡ false → part ≢ []
    → HasLineOf head whole part
lines_by head whole before [] behind split sizes some = absurd (some refl)
lines_by head [] before (p ∷ part) behind split sizes some = absurd (not_empty before part behind p split)
lines_by head (q ∷ qs) before (p ∷ part) behind split sizes some =
    let rest : list_all (same_size q) qs ≡ true = not_false (list_all (same_size q) qs) sizes in
    let all : list_all (same_size q) (q ∷ qs) ≡ true = ap (λ (b : Bool). b && list_all (same_size q) qs) (own_size q) ∙ rest in
    let in_two : (list_all (same_size q) before && list_all (same_size q) ((p ∷ part) ++ behind)) ≡ true =
    sym (ap (list_all (same_size q)) split ∙ list_all-append (same_size q) before ((p ∷ part) ++ behind)) ∙ all in
    let second = and_true (list_all (same_size q) before) (list_all (same_size q) ((p ∷ part) ++ behind)) in_two in
    let in_part : (list_all (same_size q) (p ∷ part) && list_all (same_size q) behind) ≡ true =
    sym (list_all-append (same_size q) (p ∷ part) behind) ∙ second.1 in
    let here = and_true (list_all (same_size q) (p ∷ part)) (list_all (same_size q) behind) in_part in
    let first = and_true (same_size q p) (list_all (same_size q) part) here.0 in
    let is = sizes_equal q p first.0 in (
      y4m_header head q,
      frames_text before,
      frames_text behind,
      one_size_text head p part (ap (λ (t : Image → Bool). list_all t part) (same_test head q p is) ∙ first.1)
          ∙ ap (λ (line : List ℕ). line ++ frames_text (p ∷ part)) (line_by head q p is head),
      one_size_text head q qs rest
          ∙ ap (λ (xs : List ℕ). y4m_header head q ++ xs) (ap frames_text split ∙ frames_split before (p ∷ part) behind),
    )

pub lines_inside : (limits : Limits) (file : List ℕ) (range : PacketRange) → changes_size Y4m (pictures_of limits file) ≡ false → pictures_in limits file range ≢ []
    → HasLineOf (reading_of limits file).head (pictures_of limits file) (pictures_in limits file range)
lines_inside limits file range sizes some =
    let parts = pictures_inside limits file range in
    lines_by (reading_of limits file).head (pictures_of limits file) parts.0 (pictures_in limits file range) parts.1 parts.2 sizes some
