-- The common forms of calls: a value is returned, a handle is opened, or a closed handle is refused. Pinned by the
-- tests `a_packet_is_handed_out` and `nothing_to_give`.
use Rattle.std.specs.Prelude.{◌≡◌, ◌≢◌, ◌⊎◌, ◌↔◌, ◌≤◌, ℕ, List, length, Some, None, IsSome, Result, Ok, Err}
use Rattle.vp_base.specs.Image.{Image}
use Rattle.vp8_c.specs.declared.status.TheConstants.{BUFFER, CLOSED, OK, OPEN}
use Rattle.vp8_c.specs.declared.handle_value.HandleValue.{HandleValue}
use Rattle.vp8_c.specs.declared.handle.Handle.{Handle}
use Rattle.vp8_c.specs.Bytes.{BeginsWith}
use Rattle.vp8_c.specs.Handle.{handle_value_in}
use Rattle.vp8_c.specs.Planes.{AllFit, HoldPicture, Planes}
use Rattle.vp8_c.specs.Slot.{MaybeHandleValue}

-- f of the value, if there is one
abbrev pub result_map : {A B E : Type 0} → (A → B) → Result A E → Result B E
result_map f (Ok a) = Ok (f a)
result_map f (Err e) = Err e

-- ---- a value, or the status of a call without one

-- a closed handle returns CLOSED
abbrev pub given_of : {A : Type 0} → (HandleValue → Result A ℕ) → MaybeHandleValue → Result A ℕ
given_of f None = Err CLOSED
given_of f (Some held) = f held

-- the value of a handle has this to return
abbrev pub given_in : {A : Type 0} → (HandleValue → Result A ℕ) → Handle → Result A ℕ
given_in f h = given_of f (handle_value_in h)

-- the value is returned as P says; or the status says why there is none, and the caller's memory is unchanged
abbrev pub GivesOrFails : {A B : Type 0} → (A → ℕ → B → B → Type 0) → Result A ℕ → ℕ → B → B → Type 0
GivesOrFails P (Ok value) status before after = P value status before after
GivesOrFails P (Err why) status before after = (status ≡ why) × (after ≡ before)

-- ---- how a value is returned

-- width and height in pixels
pub record Size : Type 0 where
  pub width : ℕ
  pub height : ℕ

-- a size with this width and height
abbrev pub size_of : ℕ → ℕ → Size
size_of width height = record { width = width; height = height }

-- the value is written to the caller's variable
abbrev pub Puts : {A : Type 0} → A → ℕ → A → A → Type 0
Puts value status before after = (status ≡ OK) × (after ≡ value)

-- the bytes are copied to the beginning of the caller's buffer if they fit; else nothing is written
pub record CopiesBytes (bytes : List ℕ) (status : ℕ) (before after : List ℕ) : Type 0 where
  pub answer : (status ≡ OK) ⊎ (status ≡ BUFFER)
  pub fits : (status ≡ OK) ↔ (length bytes ≤ length before)
  pub copied : status ≡ OK → BeginsWith bytes before after
  pub unchanged : status ≢ OK → after ≡ before

-- a picture's shown pixels are copied to the caller's planes if they fit; else nothing is written
pub record CopiesPicture (p : Image) (status : ℕ) (before after : Planes) : Type 0 where
  pub answer : (status ≡ OK) ⊎ (status ≡ BUFFER)
  pub fits : (status ≡ OK) ↔ AllFit p.width p.height before
  pub copied : status ≡ OK → HoldPicture p before after
  pub unchanged : status ≢ OK → after ≡ before

-- ---- the effect on a handle

-- an open handle is refused; a handle that is opened satisfies P; otherwise the handle is unchanged
pub record Opens (P : Handle → Type 0) (status : ℕ) (old new : Handle) : Type 0 where
  pub open_already : (status ≡ OPEN) ↔ IsSome (handle_value_in old)
  pub opened : status ≡ OK → P new
  pub refused : status ≢ OK → handle_value_in new ≡ handle_value_in old

-- the call is refused because the handle has no value of this kind, and nothing changes
abbrev pub IsClosed : ℕ → Handle → Handle → Type 0
IsClosed status old new = (status ≡ CLOSED) × (handle_value_in new ≡ handle_value_in old)
