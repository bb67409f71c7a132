-- What is read and replied while one connection is served.
use Rattle.std.proofs.Common.{◌≡◌, ◌≢◌, ◌⊎◌, ◌==◌, ◌++◌, ◌+◌, ◌-◌, ◌^◌, ◌<◌, ◌≤◌, ℕ, List, [], ◌∷◌, Option, Some, None, Result, Ok, Err, cond, refl, ap, sym, subst, ◌∙◌, append_assoc, append-nil, arith, Bool, true, false, nat_lt, length, take, drop, option_map, inl, inr, not}
use Rattle.std.specs.Prelude.{All}
use Rattle.std.specs.List.{concat}
use Rattle.std.specs.Option.{option_to_list}
use Rattle.std.specs.Io.KnownBytes.{Appends, IsAtEnd}
use Rattle.std.proofs.lemmas.Bool.{eqb-true}
use Rattle.std.proofs.lemmas.Bool.Decides.{nat_tests}
use Rattle.std.proofs.lemmas.List.{length_push, length-append, length-drop, take-append-drop, take_rest}
use Rattle.std.proofs.lemmas.List.Elements.{All-push}
use Rattle.std.proofs.lemmas.List.Folds.{concat-append}
use Rattle.vp_base.specs.Counted.{one_more, AppendsPrefix, HasRisenBy}
use Rattle.vp_base.proofs.Writes.{appends_none, appends_both, front_second}
use Rattle.vp_stream.specs.Seeking.{saturating_count}
use Rattle.vp_heads.specs.Replies.{too_long}
use Rattle.vp_hub.specs.declared.event.Event.{Event}
use Rattle.vp_hub.specs.declared.event.Event.TheVariants.{Open, Bytes, Shut}
use Rattle.vp_hub.specs.declared.event.HubFault.{HubFault}
use Rattle.vp_hub.specs.declared.event.HubFault.TheVariants.{Memory, Failed, AlreadyOpen, TooMany}
use Rattle.vp_hub.specs.declared.event.Reply.{Reply}
use Rattle.vp_hub.specs.declared.connection.ConnectionState.{ConnectionState}
use Rattle.vp_hub.specs.declared.connection.Connection.{Connection}
use Rattle.vp_hub.specs.declared.picture_cache.Pictures.{Pictures}
use Rattle.vp_hub.specs.declared.session.ServeFault.{ServeFault}
use Rattle.vp_hub.specs.declared.session.ServeFault.TheVariants as serve_fault
use Rattle.vp_hub.specs.Pages.{Streams, IsReply}
use Rattle.vp_hub.specs.Hub.{Outcome, HubState, IsStep, Chosen, Settles, TakesByte, Serves, Asks, ends_head, no_bytes, new_connection_state, connection_state_of, with_connection_state, without_connection, with_connections, opened, shut}
use Rattle.vp_hub.specs.View.{is_memory}
use Rattle.vp_hub.specs.Work.{Hub, IsWorked, IsWorkedRun}
use Rattle.vp_hub.specs.Lines.{IsLine}
use Rattle.vp_hub.specs.Sessions.{IsPiece, byte_events, reply_bytes, replies, StaysOpen, AreAnswered, EndsBy, WritesBy, AnsweredBy, IsReadIn, IsWorkedStep, GoInTurn, IsOpenSession, IsUnchangedApart, AnswersLine, GoesOn, StopsIn, Exchanges}
use Rattle.vp_hub.proofs.Cutting.{cut_into_heads, no_bytes_yet}
use Rattle.vp_hub.proofs.ConnectionStateLemmas.{link_of-with_link, link_of-push, first_of}
use Rattle.vp_hub.proofs.Isolation.{memory_is, memory_isn't}
use Rattle.vp_hub.proofs.Serving.{worked_more}
use Rattle.vp_hub.proofs.InTurn.{in_turn_push}

-- ---- the bytes of a connection, one piece behind the other

chosen_map : (t : Bool) (A B C D : Type 0) → (A → C) → (B → D) → Chosen t A B → Chosen t C D
chosen_map true A B C D f g h = f h
chosen_map false A B C D f g h = g h

abbrev pub behind : List ℕ → ConnectionState × List ℕ → ConnectionState × List ℕ
behind out v = (v.0, out ++ v.1)

behind_cond : (t : Bool) (out : List ℕ) (a b : ConnectionState) (xs ys : List ℕ) (w : ConnectionState × List ℕ) → w ≡ cond t (a, xs) (b, xs ++ ys)
    → behind out w ≡ cond t (a, out ++ xs) (b, (out ++ xs) ++ ys)
behind_cond true out a b xs ys w h = ap (behind out) h
behind_cond false out a b xs ys w h = ap (behind out) h ∙ ap (λ (zs : List ℕ). (b, zs)) (sym (append_assoc out xs ys))

takes_behind : (ss : Streams) (b : ℕ) (out : List ℕ) (v w : ConnectionState × List ℕ) → TakesByte ss b v w → TakesByte ss b (behind out v) (behind out w)
takes_behind ss b out v w =
    let pending = v.0.pending ++ b ∷ [] in
    chosen_map v.0.closed (w ≡ v) (Settles ss pending v.1 w) (behind out w ≡ behind out v) (Settles ss pending (out ++ v.1) (behind out w))
    (λ h. ap (behind out) h)
    (chosen_map (ends_head pending)
    ((r : List ℕ × Bool) × IsReply ss pending r × (w ≡ (record { pending = []; closed = r.1 }, v.1 ++ r.0)))
    (w ≡ cond (nat_lt (length pending) 8192) (record { pending = pending; closed = false }, v.1) (record { pending = []; closed = true }, v.1 ++ too_long))
    ((r : List ℕ × Bool) × IsReply ss pending r × (behind out w ≡ (record { pending = []; closed = r.1 }, (out ++ v.1) ++ r.0)))
    (behind out w ≡ cond (nat_lt (length pending) 8192) (record { pending = pending; closed = false }, out ++ v.1) (record { pending = []; closed = true }, (out ++ v.1) ++ too_long))
    (λ h. (h.0, h.1, ap (behind out) h.2 ∙ ap (λ (zs : List ℕ). (record { pending = []; closed = h.0.1 }, zs)) (sym (append_assoc out v.1 h.0.0))))
    (λ h. behind_cond (nat_lt (length pending) 8192) out (record { pending = pending; closed = false }) (record { pending = []; closed = true }) v.1 too_long w h))

-- what was written before stays in front
serves_behind : (ss : Streams) (bs out : List ℕ) (v w : ConnectionState × List ℕ) → Serves ss bs v w → Serves ss bs (behind out v) (behind out w)
serves_behind ss [] out v w h = ap (behind out) h
serves_behind ss (b ∷ bs) out v w (mid, takes, more) = (behind out mid, takes_behind ss b out v mid takes, serves_behind ss bs out mid w more)

serves-append : (ss : Streams) (xs ys : List ℕ) (u v w : ConnectionState × List ℕ) → Serves ss xs u v → Serves ss ys v w → Serves ss (xs ++ ys) u w
serves-append ss [] ys u v w h more = subst (λ (x : ConnectionState × List ℕ). Serves ss ys x w) h more
serves-append ss (b ∷ xs) ys u v w (mid, takes, first) more = (mid, takes, serves-append ss xs ys mid v w first more)

serves_more : (ss : Streams) (xs ys : List ℕ) (u : ConnectionState × List ℕ) (state_of_connection : ConnectionState) (out : List ℕ) (w : ConnectionState × List ℕ)
    → Serves ss xs u (state_of_connection, out) → Serves ss ys (state_of_connection, []) w → Serves ss (xs ++ ys) u (w.0, out ++ w.1)
serves_more ss xs ys u state_of_connection out w first more =
    serves-append ss xs ys u (state_of_connection, out) (w.0, out ++ w.1) first
    (subst (λ (zs : List ℕ). Serves ss ys (state_of_connection, zs) (w.0, out ++ w.1)) (append-nil out) (serves_behind ss ys out (state_of_connection, []) w more))

-- a closed connection takes no more bytes
serves_closed : (ss : Streams) (bs : List ℕ) (v : ConnectionState × List ℕ) → v.0.closed ≡ true → Serves ss bs v v
serves_closed ss [] v h = refl
serves_closed ss (b ∷ bs) v h = (v, subst (λ t. Chosen t (v ≡ v) (Settles ss (v.0.pending ++ b ∷ []) v.1 v)) (sym h) refl, serves_closed ss bs v h)

-- ---- the connection's place

pub with_link-same : (c : ℕ) (state_of_connection : ConnectionState) (xs : List Connection) → connection_state_of c xs ≡ Some state_of_connection → with_connection_state c state_of_connection xs ≡ xs
with_link-same c state_of_connection [] h = refl
with_link-same c state_of_connection (x ∷ xs) h = at (with_link-same c state_of_connection xs) (x.number == c) refl h
  where
    one : (a b : ConnectionState) → Some a ≡ Some b → a ≡ b
    one a b e = cc

    same : (n : ℕ) (l : ConnectionState) → n ≡ c → l ≡ state_of_connection → ◌≡◌ {A = Connection} (record { number = c; state_of_connection = state_of_connection }) (record { number = n; state_of_connection = l })
    same n l e f = ap (λ (m : ℕ). record { number = m; state_of_connection = state_of_connection }) (sym e) ∙ ap (λ (m : ConnectionState). record { number = n; state_of_connection = m }) (sym f)

    at : (connection_state_of c xs ≡ Some state_of_connection → with_connection_state c state_of_connection xs ≡ xs) → (t : Bool) → (x.number == c) ≡ t → cond t (Some x.state_of_connection) (connection_state_of c xs) ≡ Some state_of_connection
        → cond t (record { number = c; state_of_connection = state_of_connection } ∷ xs) (x ∷ with_connection_state c state_of_connection xs) ≡ x ∷ xs
    at more true e h = ap (λ (y : Connection). y ∷ xs) (same x.number x.state_of_connection (eqb-true x.number c e) (one x.state_of_connection state_of_connection h))
    at more false e h = ap (λ (ys : List Connection). x ∷ ys) (more h)

pub with_link-twice : (c : ℕ) (a b : ConnectionState) (xs : List Connection) → with_connection_state c a (with_connection_state c b xs) ≡ with_connection_state c a xs
with_link-twice c a b [] = refl
with_link-twice c a b (x ∷ xs) = grind (arith, nat_tests, with_link-twice c a b xs)

-- ---- one piece

-- the reply is what is served to the piece
pub record IsServed (ss : Streams) (c : ℕ) (piece : List ℕ) (state_of_connection : ConnectionState) (xs : List Connection) (reply : Reply) (new : HubState) : Type 0 where
  pub w : ConnectionState × List ℕ
  pub serves : Serves ss piece (state_of_connection, []) w
  pub bytes : reply.bytes ≡ w.1
  pub close : reply.close ≡ w.0.closed
  pub new_is : new ≡ record { streams = ss; connections = with_connection_state c w.0 xs }

-- the state in which a connection speaks
abbrev pub speaking : Streams → ℕ → ConnectionState → List Connection → HubState
speaking ss c state_of_connection xs = record { streams = ss; connections = with_connection_state c state_of_connection xs }

ok_same : (a b : Reply) → ◌≡◌ {A = Outcome} (Ok a) (Ok b) → a ≡ b
ok_same a b e = cc

link_there : (c : ℕ) (state_of_connection old : ConnectionState) (xs : List Connection) → connection_state_of c xs ≡ Some old → connection_state_of c (with_connection_state c state_of_connection xs) ≡ Some state_of_connection
link_there c state_of_connection old xs h = link_of-with_link c state_of_connection xs ∙ ap (option_map (λ _. state_of_connection)) h

got : (ss : Streams) (c : ℕ) (piece : List ℕ) (state_of_connection old : ConnectionState) (xs : List Connection) (o : Outcome) (new : HubState) → state_of_connection.closed ≡ false → connection_state_of c xs ≡ Some old
    → o ≢ Err Memory → IsStep (speaking ss c state_of_connection xs) (Bytes c piece) o new
    → (w : ConnectionState × List ℕ) × Serves ss piece (state_of_connection, []) w × (o ≡ Ok (record { bytes = w.1; close = w.0.closed })) × (new ≡ speaking ss c w.0 xs)
got ss c piece state_of_connection old xs o new unclosed there not step =
    let conns = with_connection_state c state_of_connection xs in
    let h = step.1 not in
    let asked : Asks ss c piece conns (Some state_of_connection) (new.connections, o) = subst (λ l. Asks ss c piece conns l (new.connections, o)) (link_there c state_of_connection old xs there) h.0 in
    let g : ConnectionState × Outcome = asked.0 in
    let gets = subst (λ t. Chosen t (g ≡ (state_of_connection, Err Failed)) ((w : ConnectionState × List ℕ) × Serves ss piece (state_of_connection, []) w × (g ≡ (w.0, Ok (record { bytes = w.1; close = w.0.closed }))))) unclosed asked.1 in (
      gets.0,
      gets.1,
      ap (λ (x : List Connection × Outcome). x.1) asked.2 ∙ ap (λ (x : ConnectionState × Outcome). x.1) gets.2,
      ap (λ (s : Streams). record { streams = s; connections = new.connections }) h.1
          ∙ ap (λ (ys : List Connection). record { streams = ss; connections = ys })
          (ap (λ (x : List Connection × Outcome). x.0) asked.2 ∙ (ap (λ (x : ConnectionState × Outcome). with_connection_state c x.0 conns) gets.2 ∙ with_link-twice c gets.0.0 state_of_connection xs)),
    )

served : (ss : Streams) (c : ℕ) (piece : List ℕ) (state_of_connection old : ConnectionState) (xs : List Connection) (reply : Reply) (new : HubState) → state_of_connection.closed ≡ false → connection_state_of c xs ≡ Some old
    → IsStep (speaking ss c state_of_connection xs) (Bytes c piece) (Ok reply) new → IsServed ss c piece state_of_connection xs reply new
served ss c piece state_of_connection old xs reply new unclosed there step =
    let h = got ss c piece state_of_connection old xs (Ok reply) new unclosed there (λ e. cc) step in
    let same = ok_same reply (record { bytes = h.0.1; close = h.0.0.closed }) h.2 in
    record { w = h.0; serves = h.1; bytes = ap (λ (r : Reply). r.bytes) same; close = ap (λ (r : Reply). r.close) same; new_is = h.3 }

-- where the hub has a fault, memory was refused
refused_apart : (ss : Streams) (c : ℕ) (piece : List ℕ) (state_of_connection old : ConnectionState) (xs : List Connection) (fault : HubFault) (new : HubState) → state_of_connection.closed ≡ false → connection_state_of c xs ≡ Some old
    → IsStep (speaking ss c state_of_connection xs) (Bytes c piece) (Err fault) new → (l : ConnectionState) × (new ≡ speaking ss c l xs)
refused_apart ss c piece state_of_connection old xs fault new unclosed there step = by_memory (is_memory (Err fault)) refl
  where
    lost : ConnectionState
    lost = record { pending = []; closed = true }

    never : (r : Reply) → ◌≡◌ {A = Outcome} (Err fault) (Ok r) → ⊥
    never r e = cc

    by_memory : (t : Bool) → is_memory (Err fault) ≡ t → (l : ConnectionState) × (new ≡ speaking ss c l xs)
    by_memory true h = (
      record { pending = []; closed = true },
      (step.0 (memory_is (Err fault) h)).after ∙ ap (λ (ys : List Connection). record { streams = ss; connections = ys }) (with_link-twice c (record { pending = []; closed = true }) state_of_connection xs),
    )
    by_memory false h =
        let g = got ss c piece state_of_connection old xs (Err fault) new unclosed there (memory_isn't (Err fault) h) step in
        absurd (never (record { bytes = g.0.1; close = g.0.0.closed }) g.2)

-- ---- all pieces so far

brought_push : (c : ℕ) (pieces : List (List ℕ)) (piece : List ℕ) → byte_events c (pieces ++ piece ∷ []) ≡ byte_events c pieces ++ Bytes c piece ∷ []
brought_push c [] piece = refl
brought_push c (p ∷ pieces) piece = ap (λ (es : List Event). Bytes c p ∷ es) (brought_push c pieces piece)

replies_push : (os : List Outcome) (o : Outcome) → replies (os ++ o ∷ []) ≡ replies os ++ reply_bytes o
replies_push [] o = append-nil (reply_bytes o)
replies_push (p ∷ os) o = ap (λ (xs : List ℕ). reply_bytes p ++ xs) (replies_push os o) ∙ sym (append_assoc (reply_bytes p) (replies os) (reply_bytes o))

concat_push : (pieces : List (List ℕ)) (piece : List ℕ) → concat (pieces ++ piece ∷ []) ≡ concat pieces ++ piece
concat_push pieces piece = concat-append pieces (piece ∷ []) ∙ ap (λ (xs : List ℕ). concat pieces ++ xs) (append-nil piece)

-- what was handed in so far was served, each reply goes on, and all was written; it was `reads` lines at least
pub record IsSpeaking (c : ℕ) (old now : Hub) (handed_in : List ℕ) (before after : Option (List ℕ)) (reads : ℕ) : Type 0 where
  pub pieces : List (List ℕ)
  pub results : List Outcome
  pub state_of_connection : ConnectionState
  pub handed_in_is : handed_in ≡ concat pieces
  pub small : All IsPiece pieces
  pub lines : All IsLine pieces
  pub run : IsWorkedRun old (byte_events c pieces) results now
  pub goes_on : All StaysOpen results
  pub now_is : now.state ≡ speaking old.state.streams c state_of_connection old.state.connections
  pub unclosed : state_of_connection.closed ≡ false
  pub serves : Serves old.state.streams handed_in (new_connection_state, []) (state_of_connection, replies results)
  pub writes : Appends before after (replies results)
  pub in_turn : GoInTurn c pieces results old now before after
  pub count : reads ≤ length pieces

none_yet : {X : Type 0} (P : X → Type 0) → All P []
none_yet P k d lt = absurd (omega (arith, lt))

at_first : (c : ℕ) (old : Hub) (before : Option (List ℕ)) → connection_state_of c old.state.connections ≡ Some new_connection_state → IsSpeaking c old old [] before before 0
at_first c old before there = record {
  pieces = [];
  results = [];
  state_of_connection = new_connection_state;
  handed_in_is = refl;
  small = none_yet IsPiece;
  lines = none_yet IsLine;
  run = refl;
  goes_on = none_yet StaysOpen;
  now_is = ap (λ (ys : List Connection). record { streams = old.state.streams; connections = ys }) (sym (with_link-same c new_connection_state old.state.connections there));
  unclosed = refl;
  serves = refl;
  writes = appends_none before;
  in_turn = (refl, refl);
  count = omega arith;
}

answered_by_heads : (ss : Streams) (bytes text : List ℕ) (state_of_connection : ConnectionState) → Serves ss bytes (new_connection_state, []) (state_of_connection, text) → AreAnswered ss bytes text
answered_by_heads ss bytes text state_of_connection h =
    let a = cut_into_heads ss [] bytes (state_of_connection, text) no_bytes_yet h in
    (a.0, state_of_connection, a.1)

module _ (c : ℕ) (old now : Hub) (there : connection_state_of c old.state.connections ≡ Some new_connection_state) (handed_in : List ℕ) (before after : Option (List ℕ)) (reads : ℕ)
    (h : IsSpeaking c old now handed_in before after reads) where
  step_there : (e : Event) (o : Outcome) (new : Hub) → IsStep now.state e o new.state → IsStep (speaking old.state.streams c h.state_of_connection old.state.connections) e o new.state
  step_there e o new step = subst (λ (s : HubState). IsStep s e o new.state) h.now_is step

  apart : IsUnchangedApart c old.state now.state
  apart = (h.state_of_connection, h.now_is)

  fewer : (most : ℕ) → most ≤ reads → IsSpeaking c old now handed_in before after most
  fewer most le = record {
    pieces = h.pieces;
    results = h.results;
    state_of_connection = h.state_of_connection;
    handed_in_is = h.handed_in_is;
    small = h.small;
    lines = h.lines;
    run = h.run;
    goes_on = h.goes_on;
    now_is = h.now_is;
    unclosed = h.unclosed;
    serves = h.serves;
    writes = h.writes;
    in_turn = h.in_turn;
    count = omega (arith, h.count);
  }

  -- nothing more is handed in
  same_results : h.results ≡ h.results ++ option_to_list None
  same_results = sym (append-nil h.results)

  text_none : replies h.results ≡ replies (h.results ++ option_to_list None)
  text_none = ap replies same_results

  no_more : (pieces_read : List (List ℕ)) → IsReadIn pieces_read handed_in → length pieces_read ≤ reads → (o : Result (Unit {0}) ServeFault) (left : Option (List ℕ)) (failed : Type 0)
      → EndsBy o None (length pieces_read) left
      → (Appends before after (replies h.results) → WritesBy o failed (replies h.results) before after)
      → (AreAnswered old.state.streams handed_in (replies h.results) → AnsweredBy o old.state.streams handed_in handed_in (replies h.results))
      → IsOpenSession c old now o handed_in left before after failed
  no_more pieces_read read_in le o left failed ends writes answers = record {
    reads = pieces_read;
    pieces = h.pieces;
    rest = [];
    going = h.results;
    last = None;
    read_in = read_in;
    read_is = h.handed_in_is ∙ sym (append-nil (concat h.pieces));
    left_over = refl;
    small = h.small;
    lines = h.lines;
    each_read = omega (arith, h.count, le);
    run = subst (λ (os : List Outcome). IsWorkedRun old (byte_events c h.pieces) os now) same_results h.run;
    goes_on = h.goes_on;
    ends = ends;
    writes = subst (λ (text : List ℕ). WritesBy o failed text before after) text_none (writes h.writes);
    in_turn = record { front = h.pieces; final = None; mid = now; between = after; lines_are = sym (append-nil h.pieces); goes_on = h.in_turn; ends = (refl, refl) };
    answered = subst (λ (text : List ℕ). AnsweredBy o old.state.streams handed_in (concat h.pieces) text) text_none
        (subst (λ (bytes : List ℕ). AnsweredBy o old.state.streams handed_in bytes (replies h.results)) h.handed_in_is
        (answers (answered_by_heads old.state.streams handed_in (replies h.results) h.state_of_connection h.serves)));
  }

  module _ (line : List ℕ) (new : Hub) (small : IsPiece line) (is_line : IsLine line) where
    run_on : (o : Outcome) → IsWorkedStep now (Bytes c line) o new → IsWorkedRun old (byte_events c (h.pieces ++ line ∷ [])) (h.results ++ o ∷ []) new
    run_on o step = subst (λ (es : List Event). IsWorkedRun old es (h.results ++ o ∷ []) new) (sym (brought_push c h.pieces line))
        (worked_more old (byte_events c h.pieces) h.results now (Bytes c line) o new h.run step.0 step.1)

    handed_in_on : handed_in ++ line ≡ concat (h.pieces ++ line ∷ [])
    handed_in_on = ap (λ (xs : List ℕ). xs ++ line) h.handed_in_is ∙ sym (concat_push h.pieces line)

    more_pieces : reads + 1 ≤ length (h.pieces ++ line ∷ [])
    more_pieces = omega (arith, h.count, length_push h.pieces line)

    module _ (reply : Reply) (step : IsWorkedStep now (Bytes c line) (Ok reply) new) where
      one : IsServed old.state.streams c line h.state_of_connection old.state.connections reply new.state
      one = served old.state.streams c line h.state_of_connection new_connection_state old.state.connections reply new.state h.unclosed there (step_there (Bytes c line) (Ok reply) new step.0)

      text_on : replies (h.results ++ Ok reply ∷ []) ≡ replies h.results ++ reply.bytes
      text_on = replies_push h.results (Ok reply)

      apart_on : IsUnchangedApart c old.state new.state
      apart_on = (one.w.0, one.new_is)

      serves_on : Serves old.state.streams (handed_in ++ line) (new_connection_state, []) (one.w.0, replies (h.results ++ Ok reply ∷ []))
      serves_on = subst (λ (text : List ℕ). Serves old.state.streams (handed_in ++ line) (new_connection_state, []) (one.w.0, text))
          (sym (text_on ∙ ap (λ (xs : List ℕ). replies h.results ++ xs) one.bytes))
          (serves_more old.state.streams handed_in line (new_connection_state, []) h.state_of_connection (replies h.results) one.w h.serves one.serves)

      goes_on : (then : Option (List ℕ)) → reply.close ≡ false → Appends after then reply.bytes → IsSpeaking c old new (handed_in ++ line) before then (reads + 1)
      goes_on then close w = record {
        pieces = h.pieces ++ line ∷ [];
        results = h.results ++ Ok reply ∷ [];
        state_of_connection = one.w.0;
        handed_in_is = handed_in_on;
        small = All-push IsPiece h.pieces line h.small small;
        lines = All-push IsLine h.pieces line h.lines is_line;
        run = run_on (Ok reply) step;
        goes_on = All-push StaysOpen h.results (Ok reply) h.goes_on close;
        now_is = one.new_is;
        unclosed = sym one.close ∙ close;
        serves = serves_on;
        writes = subst (λ (text : List ℕ). Appends before then text) (sym text_on) (appends_both before after then (replies h.results) reply.bytes h.writes w);
        in_turn = in_turn_push c h.pieces h.results line (Ok reply) old now new before after then h.in_turn step w;
        count = more_pieces;
      }

      -- the bytes that are not handed in after a reply that closes are answered by nothing
      answered_past : (rest : List ℕ) → reply.close ≡ true → AreAnswered old.state.streams ((handed_in ++ line) ++ rest) (replies (h.results ++ Ok reply ∷ []))
      answered_past rest close =
          answered_by_heads old.state.streams ((handed_in ++ line) ++ rest) (replies (h.results ++ Ok reply ∷ [])) one.w.0
          (serves-append old.state.streams (handed_in ++ line) rest (new_connection_state, []) (one.w.0, replies (h.results ++ Ok reply ∷ [])) (one.w.0, replies (h.results ++ Ok reply ∷ []))
          serves_on (serves_closed old.state.streams rest (one.w.0, replies (h.results ++ Ok reply ∷ [])) (sym one.close ∙ close)))

      answered_so_far : AreAnswered old.state.streams (concat (h.pieces ++ line ∷ [])) (replies (h.results ++ Ok reply ∷ []))
      answered_so_far = subst (λ (bytes : List ℕ). AreAnswered old.state.streams bytes (replies (h.results ++ Ok reply ∷ []))) handed_in_on
          (answered_by_heads old.state.streams (handed_in ++ line) (replies (h.results ++ Ok reply ∷ [])) one.w.0 serves_on)

    -- the last line, which ends the session, and what is left of its piece
    module _ (pieces_read : List (List ℕ)) (read rest : List ℕ) (read_in : IsReadIn pieces_read read) (le : length pieces_read ≤ reads + 1) (is : read ≡ (handed_in ++ line) ++ rest)
        (over : length rest < 4096) where
      read_on : read ≡ concat (h.pieces ++ line ∷ []) ++ rest
      read_on = is ∙ ap (λ (xs : List ℕ). xs ++ rest) handed_in_on

      -- the last reply closes, or a write failed
      last : (reply : Reply) (step : IsWorkedStep now (Bytes c line) (Ok reply) new) (o : Result (Unit {0}) ServeFault) (left then : Option (List ℕ)) (failed : Type 0)
          → EndsBy o (Some (Ok reply)) (length pieces_read) left
          → WritesBy o failed reply.bytes after then
          → WritesBy o failed (replies h.results ++ reply.bytes) before then
          → AnsweredBy o old.state.streams read (concat (h.pieces ++ line ∷ [])) (replies (h.results ++ Ok reply ∷ []))
          → IsOpenSession c old new o read left before then failed
      last reply step o left then failed ends written writes answered = record {
        reads = pieces_read;
        pieces = h.pieces ++ line ∷ [];
        rest = rest;
        going = h.results;
        last = Some (Ok reply);
        read_in = read_in;
        read_is = read_on;
        left_over = over;
        small = All-push IsPiece h.pieces line h.small small;
        lines = All-push IsLine h.pieces line h.lines is_line;
        each_read = omega (arith, more_pieces, le);
        run = run_on (Ok reply) step;
        goes_on = h.goes_on;
        ends = ends;
        writes = subst (λ (text : List ℕ). WritesBy o failed text before then) (sym (replies_push h.results (Ok reply))) writes;
        in_turn = record { front = h.pieces; final = Some line; mid = now; between = after; lines_are = refl; goes_on = h.in_turn; ends = (step, written) };
        answered = answered;
      }

      closing : (reply : Reply) (step : IsWorkedStep now (Bytes c line) (Ok reply) new) (left then : Option (List ℕ)) (failed : Type 0) → reply.close ≡ true → Appends after then reply.bytes
          → IsOpenSession c old new (Ok tt) read left before then failed
      closing reply step left then failed close w =
          last reply step (Ok tt) left then failed close w (appends_both before after then (replies h.results) reply.bytes h.writes w)
          (subst (λ (bytes : List ℕ). AreAnswered old.state.streams bytes (replies (h.results ++ Ok reply ∷ []))) (sym is) (answered_past reply step rest close))

      unwritten : (reply : Reply) (step : IsWorkedStep now (Bytes c line) (Ok reply) new) (left then : Option (List ℕ)) (failed : Type 0) → failed → AppendsPrefix after then reply.bytes
          → IsOpenSession c old new (Err serve_fault.Device) read left before then failed
      unwritten reply step left then failed fails w =
          last reply step (Err serve_fault.Device) left then failed refl (inr (fails, w)) (inr (fails, front_second before after then (replies h.results) reply.bytes h.writes w)) (answered_so_far reply step)

      module _ (fault : HubFault) (step : IsWorkedStep now (Bytes c line) (Err fault) new) where
        refused_stands : IsUnchangedApart c old.state new.state
        refused_stands = refused_apart old.state.streams c line h.state_of_connection new_connection_state old.state.connections fault new.state h.unclosed there (step_there (Bytes c line) (Err fault) new step.0)

        text_kept : replies h.results ≡ replies (h.results ++ Err fault ∷ [])
        text_kept = sym (replies_push h.results (Err fault) ∙ append-nil (replies h.results))

        refused : (left : Option (List ℕ)) (failed : Type 0) → IsOpenSession c old new (Err (serve_fault.Hub fault)) read left before after failed
        refused left failed = record {
          reads = pieces_read;
          pieces = h.pieces ++ line ∷ [];
          rest = rest;
          going = h.results;
          last = Some (Err fault);
          read_in = read_in;
          read_is = read_on;
          left_over = over;
          small = All-push IsPiece h.pieces line h.small small;
          lines = All-push IsLine h.pieces line h.lines is_line;
          each_read = omega (arith, more_pieces, le);
          run = run_on (Err fault) step;
          goes_on = h.goes_on;
          ends = refl;
          writes = subst (λ (text : List ℕ). Appends before after text) text_kept h.writes;
          in_turn = record { front = h.pieces; final = Some line; mid = now; between = after; lines_are = refl; goes_on = h.in_turn; ends = (step, appends_none after) };
          answered = (handed_in, line, sym handed_in_on, subst (λ (text : List ℕ). AreAnswered old.state.streams handed_in text) text_kept (answered_by_heads old.state.streams handed_in (replies h.results) h.state_of_connection h.serves));
        }

-- ---- the lines of a piece

-- the lines handed in so far, and one more
pub goes_on_more : (c : ℕ) (lines : List (List ℕ)) (line : List ℕ) (old now new : Hub) (before after then : Option (List ℕ)) → GoesOn c lines old now before after
    → AnswersLine c now new (Ok true) line after then ⊥ → GoesOn c (lines ++ line ∷ []) old new before then
goes_on_more c [] line old now new before after then h answers =
    (new, then, subst (λ (s : Hub). AnswersLine c s new (Ok true) line before then ⊥) h.0 (subst (λ (b : Option (List ℕ)). AnswersLine c now new (Ok true) line b then ⊥) h.1 answers), (refl, refl))
goes_on_more c (first ∷ lines) line old now new before after then h answers = (h.0, h.1, h.2, goes_on_more c lines line h.0 now new h.1 after then h.3 answers)

pub answers_on : (c : ℕ) (old new : Hub) (line : List ℕ) (before after : Option (List ℕ)) (failed : Type 0) (b : Bool) → b ≡ true → AnswersLine c old new (Ok b) line before after failed
    → AnswersLine c old new (Ok true) line before after ⊥
answers_on c old new line before after failed true is h = h
answers_on c old new line before after failed false is h = absurd (differ is)
  where
    differ : false ≡ true → ⊥
    differ e = cc

pub answers_last : (c : ℕ) (old new : Hub) (line : List ℕ) (before after : Option (List ℕ)) (failed other : Type 0) (b : Bool) → b ≡ false → AnswersLine c old new (Ok b) line before after failed
    → AnswersLine c old new (Ok false) line before after other
answers_last c old new line before after failed other false is h = h
answers_last c old new line before after failed other true is h = absurd (differ is)
  where
    differ : true ≡ false → ⊥
    differ e = cc

-- the lines so far, and the next one
pub lines_push : (lines : List (List ℕ)) (piece rest : List ℕ) (n : ℕ) → piece ≡ concat lines ++ rest → piece ≡ concat (lines ++ take n rest ∷ []) ++ take (length rest - n) (drop n rest)
lines_push lines piece rest n h =
    rw take_rest
    (h ∙ (ap (λ (xs : List ℕ). concat lines ++ xs) (sym (take-append-drop n rest))
    ∙ (sym (append_assoc (concat lines) (take n rest) (drop n rest)) ∙ ap (λ (xs : List ℕ). xs ++ drop n rest) (sym (concat_push lines (take n rest))))))

pub rest_fits : (rest : List ℕ) (n : ℕ) → length rest ≤ 4096 → length (take (length rest - n) (drop n rest)) ≤ 4096
rest_fits rest n h = rw take_rest (omega (arith, length-drop n rest))

pub stops_in : (c : ℕ) (old mid new : Hub) (o : Result Bool ServeFault) (lines : List (List ℕ)) (piece rest : List ℕ) (n : ℕ) (before between after : Option (List ℕ)) (failed : Type 0)
    → piece ≡ concat lines ++ rest → GoesOn c lines old mid before between → AnswersLine c mid new o (take n rest) between after failed → StopsIn c old new o piece before after failed
stops_in c old mid new o lines piece rest n before between after failed h goes stops = record {
  front = lines;
  line = take n rest;
  rest = drop n rest;
  mid = mid;
  between = between;
  piece_is = h ∙ ap (λ (xs : List ℕ). concat lines ++ xs) (sym (take-append-drop n rest));
  goes_on = goes;
  stops = stops;
}

-- they are served one by one
lines_on : (c : ℕ) (old now new : Hub) (there : connection_state_of c old.state.connections ≡ Some new_connection_state) (handed_in : List ℕ) (lines : List (List ℕ)) (before after then : Option (List ℕ)) (reads : ℕ)
    → IsSpeaking c old now handed_in before after reads → GoesOn c lines now new after then → IsSpeaking c old new (handed_in ++ concat lines) before then (reads + length lines)
lines_on c old now new there handed_in [] before after then reads h (same, kept) =
    let P : Hub → List ℕ → Option (List ℕ) → ℕ → Type 0 = λ s bytes b n. IsSpeaking c old s bytes before b n in
    let zero : reads ≡ reads + 0 = omega arith in
    subst (λ (s : Hub). P s (handed_in ++ []) then (reads + 0)) (sym same) (subst (λ (b : Option (List ℕ)). P now (handed_in ++ []) b (reads + 0)) (sym kept)
    (subst (λ (bytes : List ℕ). P now bytes after (reads + 0)) (sym (append-nil handed_in)) (subst (λ (n : ℕ). P now handed_in after n) zero h)))
lines_on c old now new there handed_in (line ∷ lines) before after then reads h (mid, between, one, more) =
    let spoke = goes_on c old now there handed_in before after reads h line mid one.1.0 one.1.1 one.0 one.1.2 between one.2 one.3 in
    let spoken = lines_on c old mid new there (handed_in ++ line) lines before between then (reads + 1) spoke more in
    let P : List ℕ → ℕ → Type 0 = λ bytes n. IsSpeaking c old new bytes before then n in
    let sum : (reads + 1) + length lines ≡ reads + length (line ∷ lines) = omega arith in
    subst (λ (n : ℕ). P (handed_in ++ (line ++ concat lines)) n) sum (subst (λ (bytes : List ℕ). P bytes ((reads + 1) + length lines)) (append_assoc handed_in line (concat lines)) spoken)

some_lines : (lines : List (List ℕ)) (piece : List ℕ) → piece ≡ concat lines → 0 < length piece → 0 < length lines
some_lines [] piece h some = absurd (omega (arith, ap length h, some))
some_lines (line ∷ lines) piece h some = omega arith

-- ---- all reads so far

-- what was read, piece by piece, was served line by line
pub record IsTalking (c : ℕ) (old now : Hub) (read : List ℕ) (before after : Option (List ℕ)) (reads : ℕ) : Type 0 where
  pub pieces_read : List (List ℕ)
  pub read_in : IsReadIn pieces_read read
  pub count : length pieces_read ≡ reads
  pub speaks : IsSpeaking c old now read before after reads

pub begins_talking : (c : ℕ) (old : Hub) (before : Option (List ℕ)) → connection_state_of c old.state.connections ≡ Some new_connection_state → IsTalking c old old [] before before 0
begins_talking c old before there = record {
  pieces_read = [];
  read_in = record { read_is = refl; small = none_yet IsPiece };
  count = refl;
  speaks = at_first c old before there;
}

-- one more piece is read
read_more : (pieces_read : List (List ℕ)) (read piece : List ℕ) → IsReadIn pieces_read read → IsPiece piece → IsReadIn (pieces_read ++ piece ∷ []) (read ++ piece)
read_more pieces_read read piece h small = record {
  read_is = ap (λ (xs : List ℕ). xs ++ piece) h.read_is ∙ sym (concat_push pieces_read piece);
  small = All-push IsPiece pieces_read piece h.small small;
}

-- what is left of a piece
left_over : (piece front line rest : List ℕ) → piece ≡ front ++ (line ++ rest) → IsPiece piece → IsPiece line → length rest < 4096
left_over piece front line rest is (some, most) (here, fits) =
    omega (arith, ap length is, length-append front (line ++ rest), length-append line rest)

-- ---- the ends

-- what is the same in all ends within a piece
module _ (c : ℕ) (old now new : Hub) (there : connection_state_of c old.state.connections ≡ Some new_connection_state) (read piece : List ℕ) (before after then left : Option (List ℕ)) (reads : ℕ) (failed : Type 0)
    (h : IsTalking c old now read before after reads) (small : IsPiece piece) where
  module _ (o : Result Bool ServeFault) (s : StopsIn c now new o piece after then failed) where
    spoke : IsSpeaking c old s.mid (read ++ concat s.front) before s.between (reads + length s.front)
    spoke = lines_on c old now s.mid there read s.front before after s.between reads h.speaks s.goes_on

    as_read : IsReadIn (h.pieces_read ++ piece ∷ []) (read ++ piece)
    as_read = read_more h.pieces_read read piece h.read_in small

    count_on : length (h.pieces_read ++ piece ∷ []) ≤ (reads + length s.front) + 1
    count_on = omega (arith, h.count, length_push h.pieces_read piece)

    all_read : read ++ piece ≡ ((read ++ concat s.front) ++ s.line) ++ s.rest
    all_read = ap (λ (xs : List ℕ). read ++ xs) s.piece_is ∙ (sym (append_assoc read (concat s.front) (s.line ++ s.rest)) ∙ sym (append_assoc (read ++ concat s.front) s.line s.rest))

  stops_closing : (s : StopsIn c now new (Ok false) piece after then failed) → IsOpenSession c old new (Ok tt) (read ++ piece) left before then failed × IsUnchangedApart c old.state new.state
  stops_closing s =
      let sp = spoke (Ok false) s in
      let x = s.stops in (
        closing c old s.mid there (read ++ concat s.front) before s.between (reads + length s.front) sp s.line new x.1.0 x.1.1 (h.pieces_read ++ piece ∷ []) (read ++ piece) s.rest
            (as_read (Ok false) s) (count_on (Ok false) s) (all_read (Ok false) s) (left_over piece (concat s.front) s.line s.rest s.piece_is small x.1.0) x.0 x.1.2 left then failed x.2 x.3,
        apart_on c old s.mid there (read ++ concat s.front) before s.between (reads + length s.front) sp s.line new x.1.0 x.1.1 x.0 x.1.2,
      )

  stops_unwritten : (s : StopsIn c now new (Err serve_fault.Device) piece after then failed) → IsOpenSession c old new (Err serve_fault.Device) (read ++ piece) left before then failed × IsUnchangedApart c old.state new.state
  stops_unwritten s =
      let sp = spoke (Err serve_fault.Device) s in
      let x = s.stops in (
        unwritten c old s.mid there (read ++ concat s.front) before s.between (reads + length s.front) sp s.line new x.1.0 x.1.1 (h.pieces_read ++ piece ∷ []) (read ++ piece) s.rest
            (as_read (Err serve_fault.Device) s) (count_on (Err serve_fault.Device) s) (all_read (Err serve_fault.Device) s) (left_over piece (concat s.front) s.line s.rest s.piece_is small x.1.0) x.0 x.1.2 left then failed x.2 x.3,
        apart_on c old s.mid there (read ++ concat s.front) before s.between (reads + length s.front) sp s.line new x.1.0 x.1.1 x.0 x.1.2,
      )

  stops_refused : (fault : HubFault) (s : StopsIn c now new (Err (serve_fault.Hub fault)) piece after then failed)
      → IsOpenSession c old new (Err (serve_fault.Hub fault)) (read ++ piece) left before then failed × IsUnchangedApart c old.state new.state
  stops_refused fault s =
      let sp = spoke (Err (serve_fault.Hub fault)) s in
      let x = s.stops in
      let over = left_over piece (concat s.front) s.line s.rest s.piece_is small x.0.0 in
      let P : Option (List ℕ) → Type 0 = λ b. IsOpenSession c old new (Err (serve_fault.Hub fault)) (read ++ piece) left before b failed in (
        subst P (sym x.1) (refused c old s.mid there (read ++ concat s.front) before s.between (reads + length s.front) sp s.line new x.0.0 x.0.1 (h.pieces_read ++ piece ∷ []) (read ++ piece) s.rest
            (as_read (Err (serve_fault.Hub fault)) s) (count_on (Err (serve_fault.Hub fault)) s) (all_read (Err (serve_fault.Hub fault)) s) over fault x.0.2 left failed),
        refused_stands c old s.mid there (read ++ concat s.front) before s.between (reads + length s.front) sp s.line new x.0.0 x.0.1 (h.pieces_read ++ piece ∷ []) (read ++ piece) s.rest
            (as_read (Err (serve_fault.Hub fault)) s) (count_on (Err (serve_fault.Hub fault)) s) (all_read (Err (serve_fault.Hub fault)) s) over fault x.0.2,
      )

-- nothing is read: the talk ends
ends_unread : (c : ℕ) (old now new : Hub) (there : connection_state_of c old.state.connections ≡ Some new_connection_state) (read piece : List ℕ) (before after then left : Option (List ℕ)) (reads : ℕ) (failed : Type 0)
    → IsTalking c old now read before after reads → piece ≡ [] → new ≡ now → then ≡ after → (o : Result (Unit {0}) ServeFault) → ((n : ℕ) → EndsBy o None n left)
    → ((text : List ℕ) → Appends before after text → WritesBy o failed text before after) → ((text : List ℕ) → AreAnswered old.state.streams read text → AnsweredBy o old.state.streams read read text)
    → IsOpenSession c old new o (read ++ piece) left before then failed × IsUnchangedApart c old.state new.state
ends_unread c old now new there read piece before after then left reads failed h none same kept o ends writes answers =
    let P : Hub → List ℕ → Option (List ℕ) → Type 0 = λ s bytes b. IsOpenSession c old s o bytes left before b failed in
    let Q : Hub → Type 0 = λ s. IsUnchangedApart c old.state s.state in
    let all : read ≡ read ++ piece = sym (ap (λ (xs : List ℕ). read ++ xs) none ∙ append-nil read) in
    let le : length h.pieces_read ≤ reads = omega (arith, h.count) in (
      subst (λ (s : Hub). P s (read ++ piece) then) (sym same) (subst (λ (xs : List ℕ). P now xs then) all (subst (λ (b : Option (List ℕ)). P now read b) (sym kept)
          (no_more c old now there read before after reads h.speaks h.pieces_read h.read_in le o left failed (ends (length h.pieces_read)) (writes (replies h.speaks.results)) (answers (replies h.speaks.results))))),
      subst Q (sym same) (apart c old now there read before after reads h.speaks),
    )

-- one more exchange ends the talk by a fault
pub ends_faulty : (c : ℕ) (old now new : Hub) (there : connection_state_of c old.state.connections ≡ Some new_connection_state) (read piece : List ℕ) (before after then left : Option (List ℕ)) (reads : ℕ) (failed : Type 0)
    → IsTalking c old now read before after reads → (fault : ServeFault) → Exchanges c now new (Err fault) piece left after then failed
    → IsOpenSession c old new (Err fault) (read ++ piece) left before then failed × IsUnchangedApart c old.state new.state
ends_faulty c old now new there read piece before after then left reads failed h (serve_fault.Hub fault) (inl x) = absurd (no_fault x.3)
  where
    no_fault : (◌≡◌ {A = Result Bool ServeFault} (Err (serve_fault.Hub fault)) (Err serve_fault.Device) ⊎ (◌≡◌ {A = Result Bool ServeFault} (Err (serve_fault.Hub fault)) (Ok false) × IsAtEnd left)) → ⊥
    no_fault (inl e) = cc
    no_fault (inr e) = let f = e.0 in cc
ends_faulty c old now new there read piece before after then left reads failed h (serve_fault.Hub fault) (inr x) =
    stops_refused c old now new there read piece before after then left reads failed h x.0 fault x.1
ends_faulty c old now new there read piece before after then left reads failed h serve_fault.Device (inl x) =
    ends_unread c old now new there read piece before after then left reads failed h x.0 x.1 x.2 (Err serve_fault.Device) (λ n. tt) (λ text w. inl w) (λ text a. a)
ends_faulty c old now new there read piece before after then left reads failed h serve_fault.Device (inr x) =
    stops_unwritten c old now new there read piece before after then left reads failed h x.0 x.1
ends_faulty c old now new there read piece before after then left reads failed h serve_fault.ReadTurns (inl x) = absurd (no_turns x.3)
  where
    no_turns : (◌≡◌ {A = Result Bool ServeFault} (Err serve_fault.ReadTurns) (Err serve_fault.Device) ⊎ (◌≡◌ {A = Result Bool ServeFault} (Err serve_fault.ReadTurns) (Ok false) × IsAtEnd left)) → ⊥
    no_turns (inl e) = cc
    no_turns (inr e) = let f = e.0 in cc
ends_faulty c old now new there read piece before after then left reads failed h serve_fault.ReadTurns (inr x) = absurd x.1.stops

-- or well
pub ends_well : (c : ℕ) (old now new : Hub) (there : connection_state_of c old.state.connections ≡ Some new_connection_state) (read piece : List ℕ) (before after then left : Option (List ℕ)) (reads : ℕ) (failed : Type 0)
    → IsTalking c old now read before after reads → (b : Bool) → b ≡ false → Exchanges c now new (Ok b) piece left after then failed
    → IsOpenSession c old new (Ok tt) (read ++ piece) left before then failed × IsUnchangedApart c old.state new.state
ends_well c old now new there read piece before after then left reads failed h true is x = absurd (differ is)
  where
    differ : true ≡ false → ⊥
    differ e = cc
ends_well c old now new there read piece before after then left reads failed h false is (inl x) =
    let end = at_end x.3 in
    ends_unread c old now new there read piece before after then left reads failed h x.0 x.1 x.2 (Ok tt) (λ n. end) (λ text w. w) (λ text a. a)
  where
    at_end : (◌≡◌ {A = Result Bool ServeFault} (Ok false) (Err serve_fault.Device) ⊎ (◌≡◌ {A = Result Bool ServeFault} (Ok false) (Ok false) × IsAtEnd left)) → IsAtEnd left
    at_end (inl e) = absurd cc
    at_end (inr e) = e.1
ends_well c old now new there read piece before after then left reads failed h false is (inr x) = stops_closing c old now new there read piece before after then left reads failed h x.0 x.1

-- the reads ran out
pub runs_out : (c : ℕ) (old now : Hub) (there : connection_state_of c old.state.connections ≡ Some new_connection_state) (read : List ℕ) (before after left : Option (List ℕ)) (reads : ℕ) (failed : Type 0)
    → IsTalking c old now read before after reads → reads ≡ 2 ^ 20 → IsOpenSession c old now (Err serve_fault.ReadTurns) read left before after failed
runs_out c old now there read before after left reads failed h most =
    let le : length h.pieces_read ≤ reads = omega (arith, h.count) in
    no_more c old now there read before after reads h.speaks h.pieces_read h.read_in le (Err serve_fault.ReadTurns) left failed (refl, h.count ∙ most) (λ w. w) (λ a. a)

-- the talk goes on
pub talks_on : (c : ℕ) (old now new : Hub) (there : connection_state_of c old.state.connections ≡ Some new_connection_state) (read piece : List ℕ) (before after then left : Option (List ℕ)) (reads : ℕ) (failed : Type 0)
    → IsTalking c old now read before after reads → (b : Bool) → b ≡ true → Exchanges c now new (Ok b) piece left after then failed
    → IsTalking c old new (read ++ piece) before then (reads + 1)
talks_on c old now new there read piece before after then left reads failed h true is (inl x) = absurd (goes x.3)
  where
    goes : (◌≡◌ {A = Result Bool ServeFault} (Ok true) (Err serve_fault.Device) ⊎ (◌≡◌ {A = Result Bool ServeFault} (Ok true) (Ok false) × IsAtEnd left)) → ⊥
    goes (inl e) = cc
    goes (inr e) = let f = e.0 in cc
talks_on c old now new there read piece before after then left reads failed h true is (inr x) =
    let lines : List (List ℕ) = x.1.0 in
    let all : piece ≡ concat lines = x.1.1 in
    let some : 0 < length lines = some_lines lines piece all x.0.0 in
    let spoken = lines_on c old now new there read lines before after then reads h.speaks x.1.2 in
    let le : reads + 1 ≤ reads + length lines = omega (arith, some) in
    record {
      pieces_read = h.pieces_read ++ piece ∷ [];
      read_in = read_more h.pieces_read read piece h.read_in x.0;
      count = length_push h.pieces_read piece ∙ ap (λ n. n + 1) h.count;
      speaks = subst (λ (bytes : List ℕ). IsSpeaking c old new (read ++ bytes) before then (reads + 1)) (sym all)
          (fewer c old new there (read ++ concat lines) before then (reads + length lines) spoken (reads + 1) le);
    }
talks_on c old now new there read piece before after then left reads failed h false is x = absurd (differ is)
  where
    differ : false ≡ true → ⊥
    differ e = cc

-- ---- the coming and the going

-- another connection's coming and going
pub without-push : (c : ℕ) (state_of_connection : ConnectionState) (xs : List Connection) → connection_state_of c xs ≡ None → without_connection c (xs ++ record { number = c; state_of_connection = state_of_connection } ∷ []) ≡ xs
without-push c state_of_connection [] h = here (c == c) (same c)
  where
    same : (n : ℕ) → (n == n) ≡ true
    same n = grind (arith, nat_tests)

    here : (t : Bool) → t ≡ true → cond {A = List Connection} (not t) (record { number = c; state_of_connection = state_of_connection } ∷ []) [] ≡ []
    here true e = refl
    here false e = absurd (differ e)
      where
        differ : false ≡ true → ⊥
        differ e = cc
without-push c state_of_connection (x ∷ xs) h = at (without-push c state_of_connection xs) (x.number == c) h
  where
    never : (l : ConnectionState) → Some l ≡ None → ⊥
    never l e = cc

    at : (connection_state_of c xs ≡ None → without_connection c (xs ++ record { number = c; state_of_connection = state_of_connection } ∷ []) ≡ xs) → (t : Bool) → cond t (Some x.state_of_connection) (connection_state_of c xs) ≡ None
        → cond (not t) (x ∷ without_connection c (xs ++ record { number = c; state_of_connection = state_of_connection } ∷ [])) (without_connection c (xs ++ record { number = c; state_of_connection = state_of_connection } ∷ [])) ≡ x ∷ xs
    at more true h = absurd (never x.state_of_connection h)
    at more false h = ap (λ (ys : List Connection). x ∷ ys) (more h)

without-with_link : (c : ℕ) (state_of_connection : ConnectionState) (xs : List Connection) → without_connection c (with_connection_state c state_of_connection xs) ≡ without_connection c xs
without-with_link c state_of_connection [] = refl
without-with_link c state_of_connection (x ∷ xs) = grind (arith, nat_tests, without-with_link c state_of_connection xs)

there_after_push : (c : ℕ) (state_of_connection : ConnectionState) (xs : List Connection) → connection_state_of c xs ≡ None → connection_state_of c (xs ++ record { number = c; state_of_connection = state_of_connection } ∷ []) ≡ Some state_of_connection
there_after_push c state_of_connection xs h = link_of-push c c state_of_connection xs ∙ (ap (λ l. first_of l (cond (c == c) (Some state_of_connection) None)) h ∙ ap (λ t. cond t (Some state_of_connection) None) (same c))
  where
    same : (n : ℕ) → (n == n) ≡ true
    same n = grind (arith, nat_tests)

-- an accepted coming
pub record IsCome (c : ℕ) (old new : HubState) (reply : Reply) : Type 0 where
  pub reply_is : ◌≡◌ {A = Outcome} (Ok reply) (Ok no_bytes)
  pub absent : connection_state_of c old.connections ≡ None
  pub new_is : new ≡ record { streams = old.streams; connections = old.connections ++ record { number = c; state_of_connection = new_connection_state } ∷ [] }

pub come : (c : ℕ) (old new : HubState) (reply : Reply) → IsStep old (Open c) (Ok reply) new → IsCome c old new reply
come c old new reply step = at (connection_state_of c old.connections) refl (step.1 (λ e. cc))
  where
    never : (f : HubFault) → ◌≡◌ {A = Outcome} (Ok reply) (Err f) → ⊥
    never f e = cc

    by_room : (t : Bool) → connection_state_of c old.connections ≡ None
        → (new, Ok reply) ≡ with_connections old (cond t (old.connections ++ record { number = c; state_of_connection = new_connection_state } ∷ [], Ok no_bytes) (old.connections, Err TooMany)) → IsCome c old new reply
    by_room true none h = record { reply_is = ap (λ (r : HubState × Outcome). r.1) h; absent = none; new_is = ap (λ (r : HubState × Outcome). r.0) h }
    by_room false none h = absurd (never TooMany (ap (λ (r : HubState × Outcome). r.1) h))

    at : (l : Option ConnectionState) → connection_state_of c old.connections ≡ l → (new, Ok reply) ≡ with_connections old (opened c old.connections l) → IsCome c old new reply
    at (Some state_of_connection) is h = absurd (never AlreadyOpen (ap (λ (r : HubState × Outcome). r.1) h))
    at None is h = by_room (nat_lt (length old.connections) 64) is h

pub come_there : (c : ℕ) (old new : HubState) (reply : Reply) → IsCome c old new reply → connection_state_of c new.connections ≡ Some new_connection_state
come_there c old new reply h = ap (λ (s : HubState). connection_state_of c s.connections) h.new_is ∙ there_after_push c new_connection_state old.connections h.absent

-- an opening decodes nothing
pub idle_opening : (c : ℕ) (old new : Hub) (o : Outcome) → IsWorked old (Open c) o new → (new.cache ≡ old.cache) × (new.cursors ≡ old.cursors) × (new.work ≡ 0)
idle_opening c old new o h = by_memory (is_memory o) refl
  where
    by_memory : (t : Bool) → is_memory o ≡ t → (new.cache ≡ old.cache) × (new.cursors ≡ old.cursors) × (new.work ≡ 0)
    by_memory true e = let m = h.most (memory_is o e) in (ap (λ (p : Pictures). p.cache) m.0, ap (λ (p : Pictures). p.cursors) m.0, m.1)
    by_memory false e =
        let w = h.work (memory_isn't o e) in
        (ap (λ (p : Pictures). p.cache) w.1.0, ap (λ (p : Pictures). p.cursors) w.1.0, w.2 ∙ ap (λ (n : ℕ). saturating_count 0 n) w.1.1)

-- the going of a connection that came
pub gone : (c : ℕ) (old first last new : HubState) (reply : Reply) (o : Outcome) → IsCome c old first reply → IsUnchangedApart c first last → IsStep last (Shut c) o new
    → (o ≡ Ok no_bytes) × (new ≡ old)
gone c old first last new reply o h apart step =
    let is : (connection_state_of c last.connections) ≡ Some apart.0 = ap (λ (s : HubState). connection_state_of c s.connections) apart.1
    ∙ (link_of-with_link c apart.0 first.connections ∙ ap (option_map (λ _. apart.0)) (come_there c old first reply h)) in
    let went = step.1 (λ e. (step.0 e).fine) in
    let shuts = went ∙ ap (λ l. with_connections last (shut c last.connections l)) is in
    let left : without_connection c last.connections ≡ old.connections = ap (λ (s : HubState). without_connection c s.connections) apart.1
    ∙ (without-with_link c apart.0 first.connections
    ∙ (ap (λ (s : HubState). without_connection c s.connections) h.new_is ∙ without-push c new_connection_state old.connections h.absent)) in
    let streams : last.streams ≡ old.streams = ap (λ (s : HubState). s.streams) apart.1 ∙ ap (λ (s : HubState). s.streams) h.new_is in (
      ap (λ (r : HubState × Outcome). r.1) shuts,
      ap (λ (r : HubState × Outcome). r.0) shuts
          ∙ (ap (λ (ss : Streams). record { streams = ss; connections = without_connection c last.connections }) streams
          ∙ ap (λ (ys : List Connection). record { streams = old.streams; connections = ys }) left),
    )

-- ---- the reads

pub risen_at_most : (n old new : ℕ) → HasRisenBy n old new → new ≤ old + n
risen_at_most n old new (inl e) = omega arith
risen_at_most n old new (inr e) =
    let first = e.0 in
    let second = e.1 in
    omega arith

-- fewer than all, and one more
pub one_read_more : (n most old mid new : ℕ) → n < most → HasRisenBy n old mid → new ≡ one_more mid → new ≤ old + most
one_read_more n most old mid new few risen once =
    let before = risen_at_most n old mid risen in
    omega arith
