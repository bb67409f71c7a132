-- Files are checked, and what is found is printed, one after another.
use Rattle.std.proofs.Common.{◌≡◌, ℕ, ◌+◌, ◌<◌, Bool, true, false, List, [], ◌∷◌, ◌++◌, length, take, drop, get_or, Option, refl, sym, ap, subst, ◌∙◌, inl, inr, append_assoc, arith}
use Rattle.std.specs.Prelude.{Result, ◌&&◌, if◌then◌else◌}
use Rattle.std.specs.List.{list_all}
use Rattle.std.specs.Borrow.{Bor}
use Rattle.std.specs.Io.KnownBytes.{Appends}
use Rattle.std.proofs.lemmas.List.{append-nil, length-append, length-map, map-append, take_more, take-append-drop}
use Rattle.std.proofs.lemmas.List.Folds.{list_all-append}
use Rattle.clap.specs.Walk.{texts}
use Rattle.vp_base.proofs.Writes.{appends_none, appends_both}
use Rattle.vp_stream.specs.declared.fault.DecodeFault.{DecodeFault}
use Rattle.vp_args.specs.declared.file_limits.FileLimits.{FileLimits}
use Rattle.vp_check.specs.declared.checked.Checked.{Checked}
use Rattle.vp_lines.specs.declared.styles.LineStyle.{LineStyle}
use Rattle.vp_lines.specs.declared.counts.Counts.{Counts}
use Rattle.vp_lines.specs.CheckLines.{both_counts, checks_text, counts_of, file_text, files_text, is_well, no_counts, total_from}
use Rattle.vp_commands.specs.Commands.{AreFilesChecked, ChecksEach, ChecksFile, PrintsChecks, Side}

-- ---- one file after another

one_more : (most : FileLimits) (ns : List (List ℕ)) (ds : List (Result Checked DecodeFault)) (n : List ℕ) (d : Result Checked DecodeFault) (i m j : Side) → length ds ≡ length ns
    → AreFilesChecked most ns ds i m → ChecksFile most n d m j → AreFilesChecked most (ns ++ n ∷ []) (ds ++ d ∷ []) i j
one_more most [] [] n d i m j long done next = (j, subst (λ s. ChecksFile most n d s j) done next, refl)
one_more most [] (x ∷ ds) n d i m j long done next = absurd done
one_more most (x ∷ ns) [] n d i m j long done next = absurd (omega (arith, long))
one_more most (x ∷ ns) (y ∷ ds) n d i m j long done next = (done.0, done.1, one_more most ns ds n d done.0 m j (omega (arith, long)) done.2 next)

-- the first files of some are the first ones of more
first_of_more : (most : FileLimits) (ns rest : List (List ℕ)) (ds : List (Result Checked DecodeFault)) (i j : Side) → AreFilesChecked most ns ds i j → AreFilesChecked most (ns ++ rest) ds i j
first_of_more most [] [] [] i j done = done
first_of_more most [] (x ∷ rest) [] i j done = done
first_of_more most [] rest (d ∷ ds) i j done = absurd done
first_of_more most (n ∷ ns) rest [] i j done = done
first_of_more most (n ∷ ns) rest (d ∷ ds) i j done = (done.0, done.1, first_of_more most ns rest ds done.0 j done.2)

text_more : (style : LineStyle) (ns : List (List ℕ)) (ds : List (Result Checked DecodeFault)) (n : List ℕ) (d : Result Checked DecodeFault) → length ds ≡ length ns
    → files_text style (ns ++ n ∷ []) (ds ++ d ∷ []) ≡ files_text style ns ds ++ file_text style n d
text_more style [] [] n d long = append-nil (file_text style n d)
text_more style [] (y ∷ ds) n d long = absurd (omega (arith, long))
text_more style (x ∷ ns) [] n d long = absurd (omega (arith, long))
text_more style (x ∷ ns) (y ∷ ds) n d long =
    ap (λ xs. file_text style x y ++ xs) (text_more style ns ds n d (omega (arith, long)))
    ∙ sym (append_assoc (file_text style x y) (files_text style ns ds) (file_text style n d))

total_more : (a : Counts) (ds : List (Result Checked DecodeFault)) (d : Result Checked DecodeFault) → total_from a (ds ++ d ∷ []) ≡ both_counts (total_from a ds) (counts_of d)
total_more a [] d = refl
total_more a (x ∷ ds) d = total_more (both_counts a (counts_of x)) ds d

and_true : (b : Bool) → (b && true) ≡ b
and_true true = refl
and_true false = refl

well_more : (style : LineStyle) (ds : List (Result Checked DecodeFault)) (d : Result Checked DecodeFault) → list_all (is_well style) (ds ++ d ∷ []) ≡ (list_all (is_well style) ds && is_well style d)
well_more style ds d = list_all-append (is_well style) ds (d ∷ []) ∙ ap (λ b. list_all (is_well style) ds && b) (and_true (is_well style d))

-- the files so far are checked, and their lines are printed
pub record AreDone (most : FileLimits) (style : LineStyle) (names : List (List ℕ)) (dones : List (Result Checked DecodeFault)) (total : Counts) (well : Bool) (i j : Side) (a b : Option (List ℕ)) : Type 0 where
  pub long : length dones ≡ length names
  pub checked : AreFilesChecked most names dones i j
  pub total_is : total ≡ total_from no_counts dones
  pub well_is : well ≡ list_all (is_well style) dones
  pub printed : Appends a b (files_text style names dones)

pub none_done : (most : FileLimits) (style : LineStyle) (i : Side) (a : Option (List ℕ)) → AreDone most style [] [] no_counts true i i a a
none_done most style i a = record { long = refl; checked = refl; total_is = refl; well_is = refl; printed = appends_none a }

names_more : (names : List (Bor (List ℕ))) (k : ℕ) (d : Bor (List ℕ)) → k < length names → texts (take (k + 1) names) ≡ texts (take k names) ++ (get_or names k d).now ∷ []
names_more names k d lt = ap texts (take_more names k d lt) ∙ map-append (λ (s : Bor (List ℕ)). s.now) (take k names) (get_or names k d ∷ [])

pub one_done : (most : FileLimits) (style : LineStyle) (names : List (Bor (List ℕ))) (k : ℕ) (d : Bor (List ℕ)) (dones : List (Result Checked DecodeFault)) (done : Result Checked DecodeFault)
    (total total' counts : Counts) (well well' sound : Bool) (i m j : Side) (a b c : Option (List ℕ)) → k < length names
    → AreDone most style (texts (take k names)) dones total well i m a b → ChecksFile most (get_or names k d).now done m j
    → Appends b c (file_text style (get_or names k d).now done) → counts ≡ counts_of done → sound ≡ is_well style done
    → total' ≡ both_counts total counts → well' ≡ (well && sound)
    → AreDone most style (texts (take (k + 1) names)) (dones ++ done ∷ []) total' well' i j a c
one_done most style names k d dones done total total' counts well well' sound i m j a b c lt h checked printed counts_is sound_is total_is well_is =
    let name = (get_or names k d).now in
    let before = texts (take k names) in
    rw (names_more names k d lt) (record {
      long = let e = h.long in omega (arith, length-append dones (done ∷ []), length-append before (name ∷ []));
      checked = one_more most before dones name done i m j h.long h.checked checked;
      total_is = total_is ∙ (ap (λ t. both_counts t counts) h.total_is ∙ (ap (λ t. both_counts (total_from no_counts dones) t) counts_is ∙ sym (total_more no_counts dones done)));
      well_is = well_is ∙ (ap (λ w. w && sound) h.well_is ∙ (ap (λ w. list_all (is_well style) dones && w) sound_is ∙ sym (well_more style dones done)));
      printed = rw (text_more style before dones name done h.long) (appends_both a b c _ _ h.printed printed);
    })

take_drop : {X : Type 0} (xs : List X) (k : ℕ) → xs ≡ take k xs ++ drop k xs
take_drop xs k = sym (take-append-drop k xs)

-- work that stops after the next file
pub stopped : (most : FileLimits) (style : LineStyle) (names : List (Bor (List ℕ))) (k : ℕ) (d : Bor (List ℕ)) (dones : List (Result Checked DecodeFault)) (done : Result Checked DecodeFault)
    (total : Counts) (well : Bool) (i m j : Side) (a b : Option (List ℕ)) → k < length names
    → AreDone most style (texts (take k names)) dones total well i m a b → ChecksFile most (get_or names k d).now done m j → AreFilesChecked most (texts names) (dones ++ done ∷ []) i j
stopped most style names k d dones done total well i m j a b lt h checked =
    let now = one_more most (texts (take k names)) dones (get_or names k d).now done i m j h.long h.checked checked in
    let some = subst (λ ns. AreFilesChecked most ns (dones ++ done ∷ []) i j) (sym (names_more names k d lt)) now in
    let more = first_of_more most (texts (take (k + 1) names)) (texts (drop (k + 1) names)) (dones ++ done ∷ []) i j some in
    let whole : texts names ≡ texts (take (k + 1) names) ++ texts (drop (k + 1) names) =
    ap texts (take_drop names (k + 1)) ∙ map-append (λ (s : Bor (List ℕ)). s.now) (take (k + 1) names) (drop (k + 1) names) in
    subst (λ ns. AreFilesChecked most ns (dones ++ done ∷ []) i j) (sym whole) more

-- all files are checked, and all lines are printed
pub all_told : (most : FileLimits) (style : LineStyle) (names : List (Bor (List ℕ))) (well : Bool) (status : ℕ) (i j o p : Side) → status ≡ (if well then 0 else 1)
    → (dones : List (Result Checked DecodeFault)) × AreFilesChecked most (texts names) dones i j
    × ((length dones ≡ length names) × (well ≡ list_all (is_well style) dones) × Appends o.bytes p.bytes (checks_text style (texts names) dones))
    → ChecksEach most style (texts names) status i j o p
all_told most style names well status i j o p status_is (dones, checked, (long, well_is, w)) =
    (dones, checked, inl (long ∙ sym (length-map names (λ (s : Bor (List ℕ)). s.now)), status_is ∙ ap (λ b. if b then 0 else 1) well_is, w))

-- ---- the laws

zero_status : (b : Bool) (status : ℕ) → status ≡ 0 → status ≡ (if b then 0 else 1) → b ≡ true
zero_status true status none e = refl
zero_status false status none e = absurd (omega (arith, none, e))

pub nothing_wrong : (style : LineStyle) (names : List (List ℕ)) (dones : List (Result Checked DecodeFault)) (b a : Side) → PrintsChecks style names dones 0 b a
    → (length dones ≡ length names) × (list_all (is_well style) dones ≡ true) × Appends b.bytes a.bytes (checks_text style names dones)
nothing_wrong style names dones b a (inl (long, e, w)) = (long, zero_status (list_all (is_well style) dones) 0 refl e, w)
nothing_wrong style names dones b a (inr (e, f)) = absurd (omega (arith, e))
