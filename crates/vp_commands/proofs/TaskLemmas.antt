-- Pictures are written or summed up, and files are listed, as the flags say.
use Rattle.std.proofs.Common.{◌≡◌, ◌⊎◌, ◌∙◌, ℕ, Bool, true, false, List, [], ◌∷◌, inl, inr, refl, sym, subst}
use Rattle.std.proofs.Common.{not-suc-le-zero}
use Rattle.std.specs.Prelude.{Result, Ok, Err, MatchBool, is_err, is_ok, length, slice_index_or, ◌<◌}
use Rattle.std.specs.Borrow.{Bor}
use Rattle.clap.specs.Walk.{texts}
use Rattle.vp_stream.specs.declared.fault.DecodeFault.{DecodeFault}
use Rattle.vp_stream.specs.declared.fault.DecodeFault.TheVariants.{Device, Memory}
use Rattle.vp_args.specs.declared.decode_args.DecodeArgs.{DecodeArgs}
use Rattle.vp_args.specs.declared.decode_args.DecodeRangeArgs.{DecodeRangeArgs}
use Rattle.vp_args.specs.declared.info_args.InfoArgs.{InfoArgs}
use Rattle.vp_lines.specs.Sums.{PrintsSums}
use Rattle.vp_frames.specs.declared.report.RangeReport.{RangeReport}
use Rattle.vp_stream.specs.declared.report.Report.{Report}
use Rattle.vp_commands.specs.Status.{status_of}
use Rattle.vp_commands.specs.Commands.{ChecksEach, DoesDecode, DoesDecodeRange, DoesInfo, IsFileDecoded}
use Rattle.vp_commands.specs.Commands.{IsFileRangeDecoded, IsUnwritten, ListsFile, PrintsSum, Side, SumsPictures}
use Rattle.vp_commands.specs.Commands.{SumsRange, WorksFrom, WritesPictures, WritesRange}
use Rattle.vp_commands.specs.Commands.{first_name, form_by, info_style, is_plain, is_summed, is_y4m, status_by_range}
use Rattle.vp_commands.proofs.WorkLemmas.{summed_up}

-- ---- one of two

when : (A B : Type 0) (b : Bool) → b ≡ true → A → MatchBool b A B
when A B b e a = subst (λ x. MatchBool x A B) (sym e) a

unless : (A B : Type 0) (b : Bool) → b ≡ false → B → MatchBool b A B
unless A B b e x = subst (λ y. MatchBool y A B) (sym e) x

pub summed_pictures : (d : DecodeArgs) (status : ℕ) (i i' o o' : Side) → is_summed d ≡ true
    → SumsPictures d status i i' o o' → DoesDecode d status i i' o o'
summed_pictures d status i i' o o' e h = when _ _ (is_summed d) e h

pub written_pictures : (d : DecodeArgs) (status : ℕ) (i i' o o' : Side) → is_summed d ≡ false
    → WritesPictures d status i i' o o' → DoesDecode d status i i' o o'
written_pictures d status i i' o o' e h = unless _ _ (is_summed d) e h

pub summed_range : (r : DecodeRangeArgs) (status : ℕ) (i i' o o' : Side) → is_summed r.decoding ≡ true
    → SumsRange r status i i' o o' → DoesDecodeRange r status i i' o o'
summed_range r status i i' o o' e h = when _ _ (is_summed r.decoding) e h

pub written_range : (r : DecodeRangeArgs) (status : ℕ) (i i' o o' : Side) → is_summed r.decoding ≡ false
    → WritesRange r status i i' o o' → DoesDecodeRange r status i i' o o'
written_range r status i i' o o' e h = unless _ _ (is_summed r.decoding) e h

pub listed_file : (w : InfoArgs) (from : List ℕ) (status : ℕ) (i i' o o' : Side) → is_plain w ≡ true
    → from ≡ first_name (texts w.files.items)
    → ListsFile w.limits from status i i' o o' → DoesInfo w status i i' o o'
listed_file w from status i i' o o' e f h =
    when _ _ (is_plain w) e (subst (λ n. ListsFile w.limits n status i i' o o') f h)

pub listed_files : (w : InfoArgs) (status : ℕ) (i i' o o' : Side) → is_plain w ≡ false
    → ChecksEach w.limits (info_style w) (texts w.files.items) status i i' o o' → DoesInfo w status i i' o o'
listed_files w status i i' o o' e h = unless _ _ (is_plain w) e h

-- the first name
pub first_of_some : (files : List (Bor (List ℕ))) (d : Bor (List ℕ)) → 0 < length files
    → (slice_index_or files 0 d).now ≡ first_name (texts files)
first_of_some [] d some = absurd (not-suc-le-zero some)
first_of_some (x ∷ xs) d some = refl

pub first_of_none : (files : List (Bor (List ℕ))) (name : List ℕ) → length files ≡ 0 → name ≡ []
    → name ≡ first_name (texts files)
first_of_none [] name none is = is
first_of_none (x ∷ xs) name none is = cc

-- ---- sums

y4m_by : (y4m : Bool) → is_y4m (form_by y4m) ≡ y4m
y4m_by false = refl
y4m_by true = refl

-- the sums are told, with the status of the work
told : {T : Type 0} (each : Bool) (good : Result T DecodeFault → ℕ) (done : Result T DecodeFault) (name : List ℕ)
    (own status : ℕ) (o o' : Side) → is_ok done ≡ true → own ≡ good done
    → ((status ≡ own) × PrintsSums each name o.bytes o'.bytes) ⊎ IsUnwritten status o o'
    → PrintsSum each done name (good done) status o o'
told each good (Ok report) name own status o o' well own_is (inl h) = inl (h.0 ∙ own_is, h.1)
told each good (Ok report) name own status o o' well own_is (inr h) = inr h
told each good (Err fault) name own status o o' well own_is h = cc

-- a fault has the status 1
untold : {T : Type 0} (each : Bool) (good : Result T DecodeFault → ℕ) (done : Result T DecodeFault) (name : List ℕ)
    (own : ℕ) (o : Side) → is_err done ≡ true → own ≡ good done → ((fault : DecodeFault) → good (Err fault) ≡ 1)
    → PrintsSum each done name (good done) own o o
untold each good (Ok report) name own o ill own_is one = cc
untold each good (Err fault) name own o ill own_is one = (own_is ∙ one fault, refl)

pub sums_told : (d : DecodeArgs) (done : Result Report DecodeFault) (own status : ℕ) (i i' a b o o' : Side)
    → is_ok done ≡ true → own ≡ status_of done
    → WorksFrom Device Memory d.input.now (IsFileDecoded d.limits (form_by d.y4m)) done i i' a b
    → ((status ≡ own) × PrintsSums d.md5_each d.output.now o.bytes o'.bytes) ⊎ IsUnwritten status o o'
    → SumsPictures d status i i' o o'
sums_told d done own status i i' a b o o' well own_is work h =
    let summed = summed_up (IsFileDecoded d.limits (form_by d.y4m)) d.input.now done i i' a b work in
    let printed = told d.md5_each status_of done d.output.now own status o o' well own_is h in
    (form_by d.y4m, done, y4m_by d.y4m, summed, printed)

pub sums_untold : (d : DecodeArgs) (done : Result Report DecodeFault) (own : ℕ) (i i' a b o : Side)
    → is_err done ≡ true → own ≡ status_of done
    → WorksFrom Device Memory d.input.now (IsFileDecoded d.limits (form_by d.y4m)) done i i' a b
    → SumsPictures d own i i' o o
sums_untold d done own i i' a b o ill own_is work =
    let summed = summed_up (IsFileDecoded d.limits (form_by d.y4m)) d.input.now done i i' a b work in
    let printed = untold d.md5_each status_of done d.output.now own o ill own_is (λ fault. refl) in
    (form_by d.y4m, done, y4m_by d.y4m, summed, printed)

-- the packets of a range are decoded
abbrev IsDecoded : DecodeRangeArgs → Result RangeReport DecodeFault → Side → Side → Side → Side → Type 0
IsDecoded r = IsFileRangeDecoded r.decoding.limits (form_by r.decoding.y4m) r.first r.last

pub range_told : (r : DecodeRangeArgs) (done : Result RangeReport DecodeFault) (own status : ℕ) (i i' a b o o' : Side)
    → is_ok done ≡ true → own ≡ status_by_range r.last done
    → WorksFrom Device Memory r.decoding.input.now (IsDecoded r) done i i' a b
    → ((status ≡ own) × PrintsSums r.decoding.md5_each r.decoding.output.now o.bytes o'.bytes) ⊎ IsUnwritten status o o'
    → SumsRange r status i i' o o'
range_told r done own status i i' a b o o' well own_is work h =
    let d = r.decoding in
    let summed = summed_up (IsDecoded r) d.input.now done i i' a b work in
    let printed = told d.md5_each (status_by_range r.last) done d.output.now own status o o' well own_is h in
    (form_by d.y4m, done, y4m_by d.y4m, summed, printed)

pub range_untold : (r : DecodeRangeArgs) (done : Result RangeReport DecodeFault) (own : ℕ) (i i' a b o : Side)
    → is_err done ≡ true → own ≡ status_by_range r.last done
    → WorksFrom Device Memory r.decoding.input.now (IsDecoded r) done i i' a b → SumsRange r own i i' o o
range_untold r done own i i' a b o ill own_is work =
    let d = r.decoding in
    let summed = summed_up (IsDecoded r) d.input.now done i i' a b work in
    let printed = untold d.md5_each (status_by_range r.last) done d.output.now own o ill own_is (λ fault. refl) in
    (form_by d.y4m, done, y4m_by d.y4m, summed, printed)
