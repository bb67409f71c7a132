-- When the idle timeouts are checked, and the files are read.
use Rattle.std.specs.Prelude.{◌≡◌, ◌≤◌, ◌<◌, ◌+◌, ◌^◌, ℕ, Bool, true, false, List, Some}
use Rattle.vp_serve.specs.declared.schedule.Schedule.{Schedule}
use Rattle.vp_serve.specs.Connection.{Connection}
use Rattle.vp_serve.specs.Connections.{connection_of}
use Rattle.vp_serve.specs.ServerLoop.{LoopState}

-- the next check is at most a second after the last turn, and at most a second after the end of each idle timeout
pub record IsScheduled (schedule : Schedule) (d : LoopState) : Type 0 where
  pub soon : schedule.next_check ≤ schedule.time + 1000
  pub timeouts : (c : ℕ) (t : Connection) → connection_of c d.connections ≡ Some t
      → schedule.next_check ≤ t.last_active + d.options.idle_timeout + 1000

-- A turn counts the time that passed by the clock since the last one, but a quarter of a second at most, and just that
-- if it took longer.
pub record IsCounted (old new : Schedule) : Type 0 where
  pub forward : old.time ≤ new.time
  pub most : new.time ≤ old.time + 250
  pub counts : old.clock ≤ new.clock → new.clock ≤ old.clock + 250 → old.time + new.clock < 2 ^ 64
      → new.time + old.clock ≡ old.time + new.clock
  pub long : old.clock + 250 ≤ new.clock → old.time + 250 < 2 ^ 64 → new.time ≡ old.time + 250

-- The next poll of the files stays until the clock reaches it, and as long as they grow. Else it is an interval after
-- the clock.
pub record IsPolled (interval : ℕ) (grew : Bool) (old new : Schedule) : Type 0 where
  pub waits : new.clock < old.next_poll → new.next_poll ≡ old.next_poll
  pub stays : grew ≡ true → new.next_poll ≡ old.next_poll
  pub soon : old.next_poll ≤ new.clock → new.next_poll ≤ new.clock + interval
  pub rests : old.next_poll ≤ new.clock → grew ≡ false → new.clock + interval < 2 ^ 64
      → new.next_poll ≡ new.clock + interval

-- no connection is open a second after its idle timeout
abbrev pub IsTimely : ℕ → LoopState → Type 0
IsTimely now d = (c : ℕ) (t : Connection) → connection_of c d.connections ≡ Some t
    → now < t.last_active + d.options.idle_timeout + 1000

-- no idle timeout is over
abbrev pub IsNoneIdle : ℕ → LoopState → Type 0
IsNoneIdle now d = (c : ℕ) (t : Connection) → connection_of c d.connections ≡ Some t
    → now < t.last_active + d.options.idle_timeout

-- each connection that is open now was open before, as it is now
abbrev pub AreStillOpen : List Connection → List Connection → Type 0
AreStillOpen old new = (c : ℕ) (t : Connection) → connection_of c new ≡ Some t → connection_of c old ≡ Some t
