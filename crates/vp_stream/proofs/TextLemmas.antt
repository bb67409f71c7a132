-- The text of pictures, one after another.
use Rattle.std.proofs.Common.{◌≡◌, ℕ, ◌&&◌, Bool, true, false, not, cond, List, [], ◌∷◌, ◌++◌, Option, Some, None, refl, sym, ap, ◌∙◌, append_assoc}
use Rattle.std.specs.List.{flat_map, take_while, list_all}
use Rattle.std.specs.Option.{option_to_list}
use Rattle.std.proofs.lemmas.List.{append-nil}
use Rattle.std.proofs.lemmas.List.Concat.{flat_map-append}
use Rattle.std.proofs.lemmas.List.Elements.{filter_map-append}
use Rattle.std.proofs.lemmas.List.Folds.{list_all-append}
use Rattle.std.proofs.lemmas.List.Sums.{take_while-cons}
use Rattle.vp_base.specs.Image.{Image, i420}
use Rattle.vp_y4m.specs.Text.{header_text, picture_text}
use Rattle.vp_ivf.specs.declared.packet.IvfHead.{IvfHead}
use Rattle.vp_decode.specs.Step.{Answer, Shown, Hidden, Fault, picture_in}
use Rattle.vp_stream.specs.declared.form.Form.{Form}
use Rattle.vp_stream.specs.declared.form.Form.TheVariants.{I420, Y4m}
use Rattle.vp_stream.specs.Texts.{shown_in, same_size, y4m_header, text, changes_size}
use Rattle.vp_stream.specs.Transcode.{PictureWriter, first_size, has_size, fits_in, text_if, line_before, one_text_in, with_shown, fits_shown, shown_text}

-- ---- lists up to the first element that fails a test

and_true : (a b : Bool) → (a && b) ≡ true → (a ≡ true) × (b ≡ true)
and_true true b e = (refl, e)
and_true false b e = cc

pub all_taken : {X : Type 0} (p : X → Bool) (xs ys : List X) → list_all p xs ≡ true → take_while p (xs ++ ys) ≡ xs ++ take_while p ys
all_taken p [] ys e = refl
all_taken p (x ∷ xs) ys e =
    let both = and_true (p x) (list_all p xs) e in
    take_while-cons p x (xs ++ ys) ∙ (ap (λ (b : Bool). cond b (x ∷ take_while p (xs ++ ys)) []) both.0 ∙ ap (λ zs. x ∷ zs) (all_taken p xs ys both.1))

left_at : {X : Type 0} (p : X → Bool) (x : X) (xs ys : List X) (b : Bool) → p x ≡ b → (b && list_all p xs) ≡ false
    → (list_all p xs ≡ false → take_while p (xs ++ ys) ≡ take_while p xs)
    → take_while p (x ∷ (xs ++ ys)) ≡ take_while p (x ∷ xs)
left_at p x xs ys true is e later =
    take_while-cons p x (xs ++ ys) ∙ (ap (λ zs. cond (p x) (x ∷ zs) []) (later e) ∙ sym (take_while-cons p x xs))
left_at p x xs ys false is e later =
    take_while-cons p x (xs ++ ys) ∙ (ap (λ (b : Bool). cond b (x ∷ take_while p (xs ++ ys)) []) is
    ∙ (ap (λ (b : Bool). cond b (x ∷ take_while p xs) []) (sym is) ∙ sym (take_while-cons p x xs)))

pub some_left : {X : Type 0} (p : X → Bool) (xs ys : List X) → list_all p xs ≡ false → take_while p (xs ++ ys) ≡ take_while p xs
some_left p [] ys e = cc
some_left p (x ∷ xs) ys e = left_at p x xs ys (p x) refl e (λ f. some_left p xs ys f)

not_false : (b : Bool) → not b ≡ false → b ≡ true
not_false true e = refl
not_false false e = cc

not_true : (b : Bool) → not b ≡ true → b ≡ false
not_true false e = refl
not_true true e = cc

-- ---- the size that stands

abbrev pub first_of : Form → List Image → Option (ℕ × ℕ)
first_of I420 ps = None
first_of Y4m [] = None
first_of Y4m (p ∷ ps) = Some (p.width, p.height)

abbrev pub sized : Form → List Image → PictureWriter
sized form ps = record { form = form; size = first_of form ps }

size_after : (form : Form) (ps : List Image) (p : Image) → first_size form (first_of form ps) p.width p.height ≡ first_of form (ps ++ p ∷ [])
size_after I420 ps p = refl
size_after Y4m [] p = refl
size_after Y4m (q ∷ qs) p = refl

pub size_more : (form : Form) (ps : List Image) (o : Option Image) → with_shown (sized form ps) o ≡ sized form (ps ++ option_to_list o)
size_more form ps None = ap (sized form) (sym (append-nil ps))
size_more form ps (Some p) = ap (λ (s : Option (ℕ × ℕ)). let z : PictureWriter = record { form = form; size = s } in z) (size_after form ps p)

-- ---- one picture more

all_by : (b : Bool) → (b && true) ≡ b
all_by true = refl
all_by false = refl

one_all : (p : Image → Bool) (x : Image) → list_all p (x ∷ []) ≡ p x
one_all p x = all_by (p x)

change_one : (form : Form) (ps : List Image) (p : Image) (b : Bool) → changes_size form ps ≡ false → fits_in form (first_of form ps) p ≡ b → changes_size form (ps ++ p ∷ []) ≡ not b
change_one I420 ps p b e is = ap not is
change_one Y4m [] p b e is = ap not is
change_one Y4m (q ∷ qs) p b e is =
    let all = not_false (list_all (same_size q) qs) e in
    ap not (list_all-append (same_size q) qs (p ∷ []) ∙ (ap (λ (a : Bool). a && list_all (same_size q) (p ∷ [])) all ∙ (one_all (same_size q) p ∙ is)))

pub change_more : (form : Form) (ps : List Image) (o : Option Image) (b : Bool) → changes_size form ps ≡ false → fits_shown (sized form ps) o ≡ b
    → changes_size form (ps ++ option_to_list o) ≡ not b
change_more form ps None b e is = ap (changes_size form) (append-nil ps) ∙ (e ∙ ap not is)
change_more form ps (Some p) b e is = change_one form ps p b e is

taken_one : {X : Type 0} (p : X → Bool) (x : X) (b : Bool) → p x ≡ b → take_while p (x ∷ []) ≡ cond b (x ∷ []) []
taken_one p x b e = take_while-cons p x [] ∙ ap (λ (c : Bool). cond c (x ∷ []) []) e

one_by : (p : Image) (b : Bool) → flat_map (λ q. picture_text (i420 q)) (cond b (p ∷ []) []) ≡ text_if b (picture_text (i420 p))
one_by p true = append-nil (picture_text (i420 p))
one_by p false = refl

text_one : (form : Form) (head : IvfHead) (ps : List Image) (p : Image) → changes_size form ps ≡ false
    → text form (Some head) (ps ++ p ∷ []) ≡ text form (Some head) ps ++ one_text_in form (first_of form ps) head p
text_one I420 head ps p e = flat_map-append i420 ps (p ∷ []) ∙ ap (λ xs. flat_map i420 ps ++ xs) (append-nil (i420 p))
text_one Y4m head [] p e = ap (λ xs. header_text p.width p.height head.rate head.scale ++ xs) (append-nil (picture_text (i420 p)))
text_one Y4m head (q ∷ qs) p e =
    let all = not_false (list_all (same_size q) qs) e in
    let line = header_text q.width q.height head.rate head.scale in
    let each = λ (x : Image). picture_text (i420 x) in
    let whole : take_while (same_size q) qs ≡ qs = ap (take_while (same_size q)) (sym (append-nil qs)) ∙ (all_taken (same_size q) qs [] all ∙ append-nil qs) in
    let more : take_while (same_size q) (qs ++ p ∷ []) ≡ take_while (same_size q) qs ++ cond (same_size q p) (p ∷ []) [] =
    all_taken (same_size q) qs (p ∷ []) all ∙ (ap (λ zs. zs ++ take_while (same_size q) (p ∷ [])) (sym whole) ∙ ap (λ zs. take_while (same_size q) qs ++ zs) (taken_one (same_size q) p (same_size q p) refl)) in
    ap (λ zs. line ++ (each q ++ flat_map each zs)) more
    ∙ (ap (λ zs. line ++ (each q ++ zs)) (flat_map-append each (take_while (same_size q) qs) (cond (same_size q p) (p ∷ []) []) ∙ ap (λ zs. flat_map each (take_while (same_size q) qs) ++ zs) (one_by p (same_size q p)))
    ∙ (ap (λ zs. line ++ zs) (sym (append_assoc (each q) (flat_map each (take_while (same_size q) qs)) (text_if (same_size q p) (each p))))
    ∙ sym (append_assoc line (each q ++ flat_map each (take_while (same_size q) qs)) (text_if (same_size q p) (each p)))))

pub text_more : (form : Form) (head : IvfHead) (ps : List Image) (o : Option Image) → changes_size form ps ≡ false
    → text form (Some head) (ps ++ option_to_list o) ≡ text form (Some head) ps ++ shown_text (sized form ps) head o
text_more form head ps None e = ap (text form (Some head)) (append-nil ps) ∙ sym (append-nil (text form (Some head) ps))
text_more form head ps (Some p) e = text_one form head ps p e

-- ---- more pictures

pub change_stays : (form : Form) (ps qs : List Image) → changes_size form ps ≡ true → changes_size form (ps ++ qs) ≡ true
change_stays I420 ps qs e = e
change_stays Y4m [] qs e = cc
change_stays Y4m (p ∷ ps) qs e =
    let some = not_true (list_all (same_size p) ps) e in
    ap not (list_all-append (same_size p) ps qs ∙ ap (λ (a : Bool). a && list_all (same_size p) qs) some)

pub text_stays : (form : Form) (head : Option IvfHead) (ps qs : List Image) → changes_size form ps ≡ true → text form head (ps ++ qs) ≡ text form head ps
text_stays I420 head ps qs e = cc
text_stays Y4m head [] qs e = cc
text_stays Y4m head (p ∷ ps) qs e =
    ap (λ zs. y4m_header head p ++ (picture_text (i420 p) ++ flat_map (λ q. picture_text (i420 q)) zs)) (some_left (same_size p) ps qs (not_true (list_all (same_size p) ps) e))

text_grows : (head : Option IvfHead) (p : Image) (ps qs : List Image) (b : Bool) → list_all (same_size p) ps ≡ b
    → (back : List ℕ) × (text Y4m head (p ∷ (ps ++ qs)) ≡ text Y4m head (p ∷ ps) ++ back)
text_grows head p ps qs false e =
    ([], text_stays Y4m head (p ∷ ps) qs (ap not e) ∙ sym (append-nil (text Y4m head (p ∷ ps))))
text_grows head p ps qs true e =
    let line = y4m_header head p in
    let each = λ (x : Image). picture_text (i420 x) in
    let whole : take_while (same_size p) ps ≡ ps = ap (take_while (same_size p)) (sym (append-nil ps)) ∙ (all_taken (same_size p) ps [] e ∙ append-nil ps) in
    let more : take_while (same_size p) (ps ++ qs) ≡ take_while (same_size p) ps ++ take_while (same_size p) qs =
    all_taken (same_size p) ps qs e ∙ ap (λ zs. zs ++ take_while (same_size p) qs) (sym whole) in
    let back = flat_map each (take_while (same_size p) qs) in (
      back,
      ap (λ zs. line ++ (each p ++ flat_map each zs)) more
          ∙ (ap (λ zs. line ++ (each p ++ zs)) (flat_map-append each (take_while (same_size p) ps) (take_while (same_size p) qs))
          ∙ (ap (λ zs. line ++ zs) (sym (append_assoc (each p) (flat_map each (take_while (same_size p) ps)) back))
          ∙ sym (append_assoc line (each p ++ flat_map each (take_while (same_size p) ps)) back))),
    )

-- the text of a front is a front of the text
pub text_front : (form : Form) (head : Option IvfHead) (ps qs : List Image) → (back : List ℕ) × (text form head (ps ++ qs) ≡ text form head ps ++ back)
text_front I420 head ps qs = (flat_map i420 qs, flat_map-append i420 ps qs)
text_front Y4m head [] qs = (text Y4m head qs, refl)
text_front Y4m head (p ∷ ps) qs = text_grows head p ps qs (list_all (same_size p) ps) refl

-- a picture that has no place writes nothing
no_place : (size : Option (ℕ × ℕ)) (head : IvfHead) (p : Image) → has_size size p.width p.height ≡ false → line_before size head p.width p.height ++ text_if (has_size size p.width p.height) (picture_text (i420 p)) ≡ []
no_place None head p e = cc
no_place (Some size) head p e = ap (λ (b : Bool). text_if b (picture_text (i420 p))) e

no_place_in : (form : Form) (size : Option (ℕ × ℕ)) (head : IvfHead) (p : Image) → fits_in form size p ≡ false → one_text_in form size head p ≡ []
no_place_in I420 size head p e = cc
no_place_in Y4m size head p e = no_place size head p e

pub unfit : (s : PictureWriter) (head : IvfHead) (o : Option Image) → fits_shown s o ≡ false → shown_text s head o ≡ []
unfit s head None e = cc
unfit s head (Some p) e = no_place_in s.form s.size head p e

-- ---- the pictures of answers

one_answer : (a : Answer) → shown_in (a ∷ []) ≡ option_to_list (picture_in a)
one_answer (Shown p) = refl
one_answer Hidden = refl
one_answer (Fault f) = refl

pub shown_more : (answers : List Answer) (a : Answer) → shown_in (answers ++ a ∷ []) ≡ shown_in answers ++ option_to_list (picture_in a)
shown_more answers a = filter_map-append picture_in answers (a ∷ []) ∙ ap (λ ps. shown_in answers ++ ps) (one_answer a)
