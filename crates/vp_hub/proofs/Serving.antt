-- A connection that is closed takes no bytes; the bytes of a piece have one outcome.
use Rattle.std.proofs.Common.{◌≡◌, ◌++◌, ◌+◌, ◌<◌, ◌≤◌, ◌∷◌, ℕ, take, drop, arith, List, [], true, false, Bool, length, nat_lt, refl, sym, ap, subst, ◌∙◌}
use Rattle.std.specs.Prelude.{if◌then◌else◌}
use Rattle.vp_hub.specs.Pages.{Streams, IsReply}
use Rattle.vp_hub.specs.declared.connection.ConnectionState.{ConnectionState}
use Rattle.vp_heads.specs.Replies.{too_long}
use Rattle.vp_hub.specs.declared.event.Event.{Event}
use Rattle.vp_hub.specs.Hub.{Chosen, Outcome, ends_head, Settles, TakesByte, Serves, IsStep}
use Rattle.vp_hub.specs.declared.picture_cache.Pictures.{Pictures}
use Rattle.std.specs.Prelude.{Result, Ok, Err, OnErr, slice_index}
use Rattle.std.proofs.lemmas.List.{take-append-drop, take_all, drop_more}
use Rattle.vp_stream.specs.Seeking.{saturating_count}
use Rattle.vp_hub.proofs.WithoutStills.{reply_unique}
use Rattle.vp_hub.specs.Work.{CostsByte, CostsByteAtMost, Costs, CostsAtMost, Hub, IsWorked, IsWorkedRun}

chosen_true : (t : Bool) (A B : Type 0) → t ≡ true → A → Chosen t A B
chosen_true true A B h a = a
chosen_true false A B h a = cc

pub serves-closed : (ss : Streams) (bs : List ℕ) (v : ConnectionState × List ℕ) → v.0.closed ≡ true → Serves ss bs v v
serves-closed ss [] v h = refl
serves-closed ss (b ∷ bs) v h = (v, chosen_true v.0.closed _ _ h refl, serves-closed ss bs v h)

chosen_of_true : (t : Bool) (A B : Type 0) → t ≡ true → Chosen t A B → A
chosen_of_true true A B h a = a
chosen_of_true false A B h b = cc

-- bytes change nothing for a connection that is closed
pub closed_stays : (ss : Streams) (bs : List ℕ) (v w : ConnectionState × List ℕ) → v.0.closed ≡ true → Serves ss bs v w → w ≡ v
closed_stays ss [] v w h s = s
closed_stays ss (b ∷ bs) v w h s =
    let same : s.0 ≡ v = chosen_of_true v.0.closed _ _ h s.1 in
    closed_stays ss bs v w h (subst (λ m. Serves ss bs m w) same s.2)

-- a choice has one outcome if each side has
pub chosen_unique : {X : Type 0} (t : Bool) (A B : X → Type 0) (x y : X) → ((x y : X) → A x → A y → x ≡ y) → ((x y : X) → B x → B y → x ≡ y) → Chosen t (A x) (B x) → Chosen t (A y) (B y) → x ≡ y
chosen_unique true A B x y f g a b = f x y a b
chosen_unique false A B x y f g a b = g x y a b

takes_unique : (ss : Streams) (b : ℕ) (v x y : ConnectionState × List ℕ) → ss.webp ≡ false → TakesByte ss b v x → TakesByte ss b v y → x ≡ y
takes_unique ss b v x y off = chosen_unique v.0.closed (λ w. w ≡ v) (Settles ss (v.0.pending ++ b ∷ []) v.1) x y (λ x y a b. a ∙ sym b)
    (λ x y. chosen_unique (ends_head (v.0.pending ++ b ∷ []))
    (λ w. (r : List ℕ × Bool) × IsReply ss (v.0.pending ++ b ∷ []) r × (w ≡ (record { pending = []; closed = r.1 }, v.1 ++ r.0)))
    (λ w. w ≡ (if nat_lt (length (v.0.pending ++ b ∷ [])) 8192 then (record { pending = v.0.pending ++ b ∷ []; closed = false }, v.1) else (record { pending = []; closed = true }, v.1 ++ too_long)))
    x y
    (λ x y a c. a.2 ∙ ap (λ (r : List ℕ × Bool). (record { pending = []; closed = r.1 }, v.1 ++ r.0)) (reply_unique ss (v.0.pending ++ b ∷ []) a.0 c.0 off a.1 c.1) ∙ sym c.2)
    (λ x y a c. a ∙ sym c))

pub serves_unique : (ss : Streams) (bs : List ℕ) (v x y : ConnectionState × List ℕ) → ss.webp ≡ false → Serves ss bs v x → Serves ss bs v y → x ≡ y
serves_unique ss [] v x y off a b = a ∙ sym b
serves_unique ss (b ∷ bs) v x y off a c =
    serves_unique ss bs a.0 x y off a.2 (subst (λ m. Serves ss bs m y) (takes_unique ss b v c.0 a.0 off c.1 a.1) c.2)

-- ---- what the bytes cost

pub costs-push : (ss : Streams) (bs : List ℕ) (b : ℕ) (v w x : ConnectionState × List ℕ) (c d e : Pictures) (n k : ℕ)
    → Costs ss bs v w c d n → TakesByte ss b w x → CostsByte ss b w.0 d e k → Costs ss (bs ++ b ∷ []) v x c e (n + k)
costs-push ss [] b v w x c d e n k h takes costs = (
  x,
  e,
  k,
  0,
  subst (λ u. TakesByte ss b u x) h.0 takes,
  subst (λ (u : ConnectionState × List ℕ). CostsByte ss b u.0 c e k) h.0 (subst (λ y. CostsByte ss b w.0 y e k) h.1 costs),
  (refl, refl, refl),
  omega (arith, h.2),
)
costs-push ss (a ∷ bs) b v w x c d e n k (mid, pictures, first, rest, takes, costs, more, is) then_takes then_costs =
    (mid, pictures, first, rest + k, takes, costs, costs-push ss bs b mid w x pictures d e rest k more then_takes then_costs, omega (arith, is))

-- nothing, for a connection that is closed
pub costs-closed : (ss : Streams) (bs : List ℕ) (v : ConnectionState × List ℕ) (c : Pictures) → v.0.closed ≡ true → Costs ss bs v v c c 0
costs-closed ss [] v c h = (refl, refl, refl)
costs-closed ss (b ∷ bs) v c h =
    (v, c, 0, 0, chosen_true v.0.closed _ _ h refl, chosen_true v.0.closed _ _ h (refl, refl), costs-closed ss bs v c h, refl)

pub costs-append : (ss : Streams) (xs ys : List ℕ) (v w x : ConnectionState × List ℕ) (c d e : Pictures) (n k : ℕ)
    → Costs ss xs v w c d n → Costs ss ys w x d e k → Costs ss (xs ++ ys) v x c e (n + k)
costs-append ss [] ys v w x c d e n k h more =
    subst (λ m. Costs ss ys v x c e m) (omega (arith, h.2)) (subst (λ u. Costs ss ys u x c e k) h.0 (subst (λ y. Costs ss ys w x y e k) h.1 more))
costs-append ss (b ∷ xs) ys v w x c d e n k (mid, pictures, first, rest, takes, costs, later, is) more =
    (mid, pictures, first, rest + k, takes, costs, costs-append ss xs ys mid w x pictures d e rest k later more, omega (arith, is))

-- bytes that cost something are served
pub costs_served : (ss : Streams) (bs : List ℕ) (v w : ConnectionState × List ℕ) (c d : Pictures) (n : ℕ) → Costs ss bs v w c d n → Serves ss bs v w
costs_served ss [] v w c d n h = h.0
costs_served ss (b ∷ bs) v w c d n (mid, pictures, first, rest, takes, costs, more, is) = (mid, takes, costs_served ss bs mid w pictures d rest more)

pub counted_more : (n k work old : ℕ) → old ≡ saturating_count 0 n → work ≡ saturating_count old k → work ≡ saturating_count 0 (n + k)
counted_more n k work old first more = omega (arith, first, more)

at_least_of : (n work old : ℕ) → old ≡ saturating_count 0 n → old ≤ work → saturating_count 0 n ≤ work
at_least_of n work old first more = omega (arith, first, more)

at_most_of : (n k work old : ℕ) → old ≡ saturating_count 0 n → work ≤ saturating_count old k → work ≤ saturating_count 0 (n + k)
at_most_of n k work old first more = omega (arith, first, more)

-- memory was refused at a byte
pub at_most : {X Y : Type 0} (r : Result X Y) (ss : Streams) (piece : List ℕ) (i : ℕ) (v w : ConnectionState × List ℕ) (c d e : Pictures) (n work old : ℕ) → i < length piece
    → Costs ss (take i piece) v w c d n → old ≡ saturating_count 0 n
    → ((k : ℕ) × CostsByteAtMost ss (slice_index piece i) w.0 d e k × (old ≤ work) × (work ≤ saturating_count old k))
    → OnErr r (CostsAtMost ss piece v c e work)
at_most (Ok x) ss piece i v w c d e n work old at h first most = tt
at_most (Err y) ss piece i v w c d e n work old at h first (k, ends, least, most) = record {
  front = take i piece;
  byte = slice_index piece i;
  back = drop (i + 1) piece;
  mid = w;
  pictures = d;
  before = n;
  last = k;
  piece_is = sym (take-append-drop i piece) ∙ ap (λ ys. take i piece ++ ys) (drop_more piece i 0 at);
  costs = h;
  ends = ends;
  least = at_least_of n work old first least;
  most = at_most_of n k work old first most;
}

-- behind the place where a connection was closed, nothing more is taken
pub costs_to_end : (ss : Streams) (piece : List ℕ) (i : ℕ) (v w : ConnectionState × List ℕ) (c d : Pictures) (n : ℕ) → w.0.closed ≡ true
    → Costs ss (take i piece) v w c d n → Costs ss piece v w c d n
costs_to_end ss piece i v w c d n closed h =
    subst (λ xs. Costs ss xs v w c d n) (take-append-drop i piece)
    (subst (λ m. Costs ss (take i piece ++ drop i piece) v w c d m) (sum n)
    (costs-append ss (take i piece) (drop i piece) v w w c d d n 0 h (costs-closed ss (drop i piece) w d closed)))
  where
    sum : (n : ℕ) → n + 0 ≡ n
    sum n = omega arith

-- ---- a run goes on by one step

pub worked_more : (s : Hub) (es : List Event) (os : List Outcome) (mid : Hub) (e : Event) (o : Outcome) (new : Hub)
    → IsWorkedRun s es os mid → IsStep mid.state e o new.state → IsWorked mid e o new → IsWorkedRun s (es ++ e ∷ []) (os ++ o ∷ []) new
worked_more s [] [] mid e o new run step work =
    (new, subst (λ (x : Hub). IsStep x.state e o new.state) run step, subst (λ x. IsWorked x e o new) run work, refl)
worked_more s (d ∷ es) (p ∷ os) mid e o new run step work = (run.0, run.1, run.2, worked_more run.0 es os mid e o new run.3 step work)
worked_more s [] (p ∷ os) mid e o new run step work = absurd run
worked_more s (d ∷ es) [] mid e o new run step work = absurd run

pub worked_joined : (s : Hub) (es : List Event) (os : List Outcome) (mid : Hub) (fs : List Event) (ps : List Outcome) (new : Hub)
    → IsWorkedRun s es os mid → IsWorkedRun mid fs ps new → IsWorkedRun s (es ++ fs) (os ++ ps) new
worked_joined s [] [] mid fs ps new run more = subst (λ (x : Hub). IsWorkedRun x fs ps new) run more
worked_joined s (d ∷ es) (p ∷ os) mid fs ps new run more = (run.0, run.1, run.2, worked_joined run.0 es os mid fs ps new run.3 more)
worked_joined s [] (p ∷ os) mid fs ps new run more = absurd run
worked_joined s (d ∷ es) [] mid fs ps new run more = absurd run

pub worked_joined_at_end : (s : Hub) (es : List Event) (os : List Outcome) (mid : Hub) (fs : List Event) (ps : List Outcome) (new : Hub) (i : ℕ)
    → length fs ≤ i → IsWorkedRun s es os mid → IsWorkedRun mid (take i fs) ps new → IsWorkedRun s (es ++ fs) (os ++ ps) new
worked_joined_at_end s es os mid fs ps new i h run more =
    worked_joined s es os mid fs ps new run (subst (λ xs. IsWorkedRun mid xs ps new) (take_all i fs h) more)
