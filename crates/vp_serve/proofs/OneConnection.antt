-- One connection along a trace.
use Rattle.std.proofs.Common.{◌≡◌, ◌==◌, ◌++◌, ◌∷◌, ◌≤◌, ◌∙◌, [], ℕ, List, Bool, true, false, ◌||◌, Option, Some, None, cond, refl, ap, sym, append_assoc, append-nil, arith, flat_map}
use Rattle.std.proofs.lemmas.List.Concat.{flat_map-append}
use Rattle.vp_serve.specs.Connection.{Connection}
use Rattle.vp_serve.specs.Connections.{connection_of}
use Rattle.vp_serve.specs.ServerLoop.{LoopState, Action}
use Rattle.vp_serve.specs.Transfer.{Transfer}
use Rattle.vp_serve.specs.Transport.{transfers_of}
use Rattle.vp_serve.specs.Laws.{read_in, written_in, submitted_in, replied_in, received_from, written_to, submitted_for, replied_to, has_ended, ends_in}

pub record Holds (c : ℕ) (xs : List Action) (d : LoopState) : Type 0 where
  pub unsubmitted : List ℕ
  pub unsent : List ℕ
  pub read : received_from c xs ≡ submitted_for c xs ++ unsubmitted
  pub replied : replied_to c xs ≡ written_to c xs ++ unsent
  pub open_now : (t : Connection) → connection_of c d.connections ≡ Some t → (t.unsubmitted ≡ unsubmitted) × (t.unsent ≡ unsent)
  pub ended : has_ended c xs ≡ true → unsent ≡ []
  pub later : d.next ≤ c → (connection_of c d.connections ≡ None) × (unsubmitted ≡ []) × (unsent ≡ []) × (has_ended c xs ≡ false)
  pub gone : has_ended c xs ≡ true → connection_of c d.connections ≡ None

pub none_some : (t : Connection) → None ≡ Some t → ⊥
none_some t h = cc

pub no_some : (o : Option Connection) (t : Connection) → o ≡ None → o ≡ Some t → ⊥
no_some o t a b = none_some t (sym a ∙ b)

pub true_false : true ≡ false → ⊥
true_false e = cc

pub same_some : (t u : Connection) → Some t ≡ Some u → t ≡ u
same_some t u e = cc

pub number_of : (c : ℕ) (t : Connection) (xs : List Connection) → connection_of c xs ≡ Some t → (t.number == c) ≡ true
number_of c t [] h = absurd (none_some t h)
number_of c t (x ∷ xs) h = at (number_of c t xs) (x.number == c) refl h
  where
    at : (connection_of c xs ≡ Some t → (t.number == c) ≡ true) → (b : Bool) → (x.number == c) ≡ b → cond b (Some x) (connection_of c xs) ≡ Some t → (t.number == c) ≡ true
    at more true e h = ap (λ (y : Connection). y.number == c) (sym (same_some x t h)) ∙ e
    at more false e h = more h

-- ---- what one more action adds

twice : (f : Transfer → List ℕ) (xs : List Action) (h : Action)
    → flat_map f (flat_map transfers_of (xs ++ h ∷ [])) ≡ flat_map f (flat_map transfers_of xs) ++ flat_map f (transfers_of h ++ [])
twice f xs h = ap (flat_map f) (flat_map-append transfers_of xs (h ∷ [])) ∙ flat_map-append f (flat_map transfers_of xs) (transfers_of h ++ [])

pub ended_more : (c : ℕ) (xs : List Action) (h : Action) → has_ended c (xs ++ h ∷ []) ≡ has_ended c xs || ends_in c h
ended_more c [] h = at (ends_in c h)
  where
    at : (b : Bool) → b || false ≡ false || b
    at true = refl
    at false = refl
ended_more c (k ∷ xs) h = ap (λ b. ends_in c k || b) (ended_more c xs h) ∙ at (ends_in c k)
  where
    at : (b : Bool) → b || (has_ended c xs || ends_in c h) ≡ (b || has_ended c xs) || ends_in c h
    at true = refl
    at false = refl

balance : (a b r x y z w : List ℕ) → a ≡ b ++ r → r ++ x ≡ y ++ z → w ≡ a ++ x → w ≡ (b ++ y) ++ z
balance a b r x y z w h k e = e ∙ ap (λ (l : List ℕ). l ++ x) h ∙ append_assoc b r x ∙ ap (λ (l : List ℕ). b ++ l) k ∙ sym (append_assoc b y z)

pub more_read : (c : ℕ) (xs : List Action) (h : Action) (unsubmitted rest : List ℕ) → received_from c xs ≡ submitted_for c xs ++ unsubmitted
    → unsubmitted ++ flat_map (read_in c) (transfers_of h ++ []) ≡ (submitted_in c h ++ []) ++ rest
    → received_from c (xs ++ h ∷ []) ≡ submitted_for c (xs ++ h ∷ []) ++ rest
more_read c xs h unsubmitted rest e k =
    balance (received_from c xs) (submitted_for c xs) unsubmitted (flat_map (read_in c) (transfers_of h ++ [])) (submitted_in c h ++ []) rest (received_from c (xs ++ h ∷ [])) e k (twice (read_in c) xs h)
    ∙ ap (λ (l : List ℕ). l ++ rest) (sym (flat_map-append (submitted_in c) xs (h ∷ [])))

pub more_replied : (c : ℕ) (xs : List Action) (h : Action) (unsent rest : List ℕ) → replied_to c xs ≡ written_to c xs ++ unsent
    → unsent ++ (replied_in c h ++ []) ≡ flat_map (written_in c) (transfers_of h ++ []) ++ rest
    → replied_to c (xs ++ h ∷ []) ≡ written_to c (xs ++ h ∷ []) ++ rest
more_replied c xs h unsent rest e k =
    balance (replied_to c xs) (written_to c xs) unsent (replied_in c h ++ []) (flat_map (written_in c) (transfers_of h ++ [])) rest (replied_to c (xs ++ h ∷ [])) e k (flat_map-append (replied_in c) xs (h ∷ []))
    ∙ ap (λ (l : List ℕ). l ++ rest) (sym (twice (written_in c) xs h))

-- nothing of the connection's own
pub record IsApart (c : ℕ) (h : Action) (d e : LoopState) : Type 0 where
  pub reads : flat_map (read_in c) (transfers_of h ++ []) ≡ []
  pub writes : flat_map (written_in c) (transfers_of h ++ []) ≡ []
  pub submits : submitted_in c h ≡ []
  pub replies : replied_in c h ≡ []
  pub ends : ends_in c h ≡ false
  pub same : connection_of c e.connections ≡ connection_of c d.connections
  pub next : d.next ≤ e.next

or_false : (a b : Bool) → b ≡ false → a || b ≡ true → a ≡ true
or_false true b h k = refl
or_false false b h k = sym h ∙ k

or_false_too : (a b : Bool) → b ≡ false → a ≡ false → a || b ≡ false
or_false_too a b h k = ap (λ t. t || b) k ∙ h

pub apart : (c : ℕ) (xs : List Action) (h : Action) (d e : LoopState) → Holds c xs d → IsApart c h d e → Holds c (xs ++ h ∷ []) e
apart c xs h d e holds a =
    let before : has_ended c (xs ++ h ∷ []) ≡ true → has_ended c xs ≡ true = λ k. or_false (has_ended c xs) (ends_in c h) a.ends (sym (ended_more c xs h) ∙ k) in
    record {
      unsubmitted = holds.unsubmitted;
      unsent = holds.unsent;
      read = more_read c xs h holds.unsubmitted holds.unsubmitted holds.read (ap (λ (l : List ℕ). holds.unsubmitted ++ l) a.reads ∙ append-nil holds.unsubmitted ∙ sym (ap (λ (l : List ℕ). (l ++ []) ++ holds.unsubmitted) a.submits));
      replied = more_replied c xs h holds.unsent holds.unsent holds.replied (ap (λ (l : List ℕ). holds.unsent ++ (l ++ [])) a.replies ∙ append-nil holds.unsent ∙ sym (ap (λ (l : List ℕ). l ++ holds.unsent) a.writes));
      open_now = λ t k. holds.open_now t (sym a.same ∙ k);
      ended = λ k. holds.ended (before k);
      later = λ k.
          let l = holds.later (omega (arith, a.next, k)) in (a.same ∙ l.0, l.1, l.2, ended_more c xs h ∙ or_false_too (has_ended c xs) (ends_in c h) a.ends l.3);
      gone = λ k. a.same ∙ holds.gone (before k);
    }

-- ---- the connection's own, while it is open

-- it has this now
pub record IsOwn (c : ℕ) (h : Action) (d e : LoopState) (t u : Connection) : Type 0 where
  pub there : connection_of c d.connections ≡ Some t
  pub then : connection_of c e.connections ≡ Some u
  pub reads : t.unsubmitted ++ flat_map (read_in c) (transfers_of h ++ []) ≡ (submitted_in c h ++ []) ++ u.unsubmitted
  pub replies : t.unsent ++ (replied_in c h ++ []) ≡ flat_map (written_in c) (transfers_of h ++ []) ++ u.unsent
  pub ends : ends_in c h ≡ false
  pub next : e.next ≡ d.next

pub moves : (c : ℕ) (xs : List Action) (h : Action) (d e : LoopState) (t u : Connection) → Holds c xs d → IsOwn c h d e t u → Holds c (xs ++ h ∷ []) e
moves c xs h d e t u holds a =
    let had = holds.open_now t a.there in
    let before : has_ended c (xs ++ h ∷ []) ≡ true → has_ended c xs ≡ true = λ k. or_false (has_ended c xs) (ends_in c h) a.ends (sym (ended_more c xs h) ∙ k) in
    let never : has_ended c (xs ++ h ∷ []) ≡ true → ⊥ = λ k. no_some (connection_of c d.connections) t (holds.gone (before k)) a.there in
    record {
      unsubmitted = u.unsubmitted;
      unsent = u.unsent;
      read = more_read c xs h holds.unsubmitted u.unsubmitted holds.read (ap (λ (l : List ℕ). l ++ flat_map (read_in c) (transfers_of h ++ [])) (sym had.0) ∙ a.reads);
      replied = more_replied c xs h holds.unsent u.unsent holds.replied (ap (λ (l : List ℕ). l ++ (replied_in c h ++ [])) (sym had.1) ∙ a.replies);
      open_now = λ v k.
          let same = same_some u v (sym a.then ∙ k) in (ap (λ (x : Connection). x.unsubmitted) (sym same), ap (λ (x : Connection). x.unsent) (sym same));
      ended = λ k. absurd (never k);
      later = λ k. absurd (no_some (connection_of c d.connections) t (holds.later (omega (arith, a.next, k))).0 a.there);
      gone = λ k. absurd (never k);
    }
