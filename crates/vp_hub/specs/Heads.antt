-- The bytes of a connection as a list of request heads and a rest, and the statement of the law `cut_into_heads`.
use Rattle.std.specs.Prelude.{◌≡◌, ◌<◌, ◌≤◌, ◌⊎◌, ℕ, true, false, List, [], ◌∷◌, ◌++◌, length, take, Option, Some}
use Rattle.vp_heads.specs.Replies.{too_long}
use Rattle.vp_hub.specs.Pages.{Streams, IsReply}
use Rattle.vp_hub.specs.declared.connection.ConnectionState.{ConnectionState}
use Rattle.vp_hub.specs.Hub.{ends_head, Serves, HubState, connection_state_of}

-- no prefix of the bytes ends as a request head does
abbrev pub HasNoEnd : List ℕ → Type 0
HasNoEnd bytes = (k : ℕ) → k ≤ length bytes → ends_head (take k bytes) ≡ false

-- a request head: the bytes up to the first end of a head
pub record IsRequestHead (h : List ℕ) : Type 0 where
  pub ends : ends_head h ≡ true
  pub first : (k : ℕ) → k < length h → ends_head (take k h) ≡ false
  pub short : length h ≤ 8192

-- an incomplete head
pub record IsPartial (bytes : List ℕ) : Type 0 where
  pub none : HasNoEnd bytes
  pub short : length bytes < 8192

-- 8,192 bytes without the end of a head
pub record IsLong (bytes : List ℕ) : Type 0 where
  pub none : HasNoEnd bytes
  pub long : length bytes ≡ 8192

-- the state of a connection that the hub has closed
abbrev pub gone : ConnectionState
gone = record { pending = []; closed = true }

-- The bytes are these heads, followed by an incomplete or an overlong one. The pair is the connection's state and the
-- response to them; the bytes after a head that closes are dropped.
abbrev pub AnswersHeads : Streams → List (List ℕ) → List ℕ → ConnectionState × List ℕ → Type 0
AnswersHeads streams [] bytes v =
    (IsPartial bytes × (v ≡ (record { pending = bytes; closed = false }, [])))
    ⊎ ((front : List ℕ) × (back : List ℕ) × IsLong front × (bytes ≡ front ++ back) × (v ≡ (gone, too_long)))
AnswersHeads streams (h ∷ hs) bytes v =
    (rest : List ℕ) × (reply : List ℕ) × IsRequestHead h × (bytes ≡ h ++ rest)
    × ((IsReply streams h (reply, true) × (hs ≡ []) × (v ≡ (gone, reply)))
    ⊎ (IsReply streams h (reply, false) × (w : ConnectionState × List ℕ) × AnswersHeads streams hs rest w
    × (v ≡ (w.0, reply ++ w.1))))

-- the response to a piece, after an incomplete head, is the response to the heads in both together
abbrev pub IsCutIntoHeads : Type 0
IsCutIntoHeads = (streams : Streams) (pending piece : List ℕ) (v : ConnectionState × List ℕ) → IsPartial pending
    → Serves streams piece (record { pending = pending; closed = false }, []) v
    → (hs : List (List ℕ)) × AnswersHeads streams hs (pending ++ piece) v

-- the bytes of an open connection that are not answered yet are an incomplete head
abbrev pub KeepsPartial : Option ConnectionState → Type 0
KeepsPartial l = (state_of_connection : ConnectionState) → l ≡ Some state_of_connection
    → state_of_connection.closed ≡ false → IsPartial state_of_connection.pending

-- this holds for all connections
abbrev pub AllKeepPartial : HubState → Type 0
AllKeepPartial s = (c : ℕ) → KeepsPartial (connection_state_of c s.connections)
