-- One more file, and one more connection.
use Rattle.std.proofs.Common.{◌≡◌, ◌<◌, ◌++◌, ◌+◌, ℕ, List, [], ◌∷◌, Option, Result, refl, ap, sym, subst, Bool, true, false, length, take, get_or, arith}
use Rattle.std.specs.Prelude.{◌&&◌, Ok, Err, IfOk, codes, is_ok, MatchBool}
use Rattle.std.specs.Str.{bytes_eq}
use Rattle.std.proofs.lemmas.List.{take_more}
use Rattle.std.specs.Io.KnownBytes.{Consumes}
use Rattle.vp_app.specs.declared.service.ServiceFault.{ServiceFault}
use Rattle.vp_app.specs.Feeding.{IsFed}
use Rattle.std.specs.List.{list_all}
use Rattle.vp_hub.specs.declared.session.ServeFault.{ServeFault}
use Rattle.vp_hub.specs.Hub.{HubState}
use Rattle.vp_args.specs.declared.serve_args.NamedFile.{NamedFile}
use Rattle.vp_app.specs.Serving.{AreFilesFed, AreServed, IsFileFed, IsServed}

pub files_more : (streams : List NamedFile) (s : NamedFile) (old mid new : HubState) (before between after : Option (List ℕ))
    → AreFilesFed streams old mid before between → IsFileFed s mid new between after → AreFilesFed (streams ++ s ∷ []) old new before after
files_more [] s old mid new before between after h fed =
    (new, after, subst (λ x. IsFileFed s x new before after) h.0 (subst (λ x. IsFileFed s mid new x after) h.1 fed), (refl, refl))
files_more (x ∷ streams) s old mid new before between after h fed =
    (h.0, h.1, h.2, files_more streams s h.0 mid new h.1 between after h.3 fed)

pub files_next : (streams : List NamedFile) (i : ℕ) (d : NamedFile) (old mid new : HubState) (before between after : Option (List ℕ)) → i < length streams
    → AreFilesFed (take i streams) old mid before between → IsFileFed (get_or streams i d) mid new between after → AreFilesFed (take (i + 1) streams) old new before after
files_next streams i d old mid new before between after lt h fed = subst (λ l. AreFilesFed l old new before after) (sym (take_more streams i d lt))
    (files_more (take i streams) (get_or streams i d) old mid new before between after h fed)

pub served_more : (os : List (Result (Unit {0}) ServeFault)) (number : ℕ) (s : HubState) (o : Result (Unit {0}) ServeFault)
    → AreServed number s os → IsServed (number + length os) s o → AreServed number s (os ++ o ∷ [])
served_more [] number s o h one = (subst (λ n. IsServed n s o) (omega arith) one, tt)
served_more (x ∷ os) number s o h one = (h.0, served_more os (number + 1) s o h.1 (subst (λ n. IsServed n s o) (omega arith) one))

-- whether all are well, where one more isn't, and where it is
pub well_no_more : (os : List (Result (Unit {0}) ServeFault)) (o : Result (Unit {0}) ServeFault) → is_ok o ≡ false → false ≡ list_all is_ok (os ++ o ∷ [])
well_no_more [] o h = rw h refl
well_no_more (x ∷ os) o h = no (is_ok x) (list_all is_ok (os ++ o ∷ [])) (well_no_more os o h)
  where
    no : (a b : Bool) → false ≡ b → false ≡ (a && b)
    no true b e = e
    no false b e = refl

pub well_more : (os : List (Result (Unit {0}) ServeFault)) (o : Result (Unit {0}) ServeFault) → is_ok o ≡ true → list_all is_ok os ≡ list_all is_ok (os ++ o ∷ [])
well_more [] o h = rw h refl
well_more (x ∷ os) o h = ap (λ b. is_ok x && b) (well_more os o h)

pub from_input : (s : NamedFile) (old new : HubState) (before after : Option (List ℕ)) (r : Result (Unit {0}) ServiceFault) → bytes_eq s.file.now (codes "-") ≡ true
    → IfOk r (λ _. (file : List ℕ) × Consumes before after file × IsFed s.name.now old new file after) → IfOk r (λ _. IsFileFed s old new before after)
from_input s old new before after (Ok u) e h = (
  h.0,
  subst (λ b. MatchBool b (Consumes before after h.0 × IsFed s.name.now old new h.0 after)
      ((after ≡ before) × ((left : Option (List ℕ)) × IsFed s.name.now old new h.0 left))) (sym e) (h.1, h.2),
)
from_input s old new before after (Err f) e h = h

pub from_file : (s : NamedFile) (old new : HubState) (before first left : Option (List ℕ)) (r : Result (Unit {0}) ServiceFault) → bytes_eq s.file.now (codes "-") ≡ false
    → IfOk r (λ _. (file : List ℕ) × Consumes first left file × IsFed s.name.now old new file left) → IfOk r (λ _. IsFileFed s old new before before)
from_file s old new before first left (Ok u) e h = (
  h.0,
  subst (λ b. MatchBool b (Consumes before before h.0 × IsFed s.name.now old new h.0 before)
      ((before ≡ before) × ((left : Option (List ℕ)) × IsFed s.name.now old new h.0 left))) (sym e) (refl, (left, h.2)),
)
from_file s old new before first left (Err f) e h = h
