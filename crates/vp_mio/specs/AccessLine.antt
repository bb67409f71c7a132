-- A line of the access log.
use Rattle.std.specs.Prelude.{◌≡◌, ◌<◌, ◌≤◌, ◌++◌, ◌∷◌, [], ℕ, List, Option, Some, None, length, flat_map, slice_range}
use Rattle.std.specs.Prelude.{codes, decimal, nat_lt, if◌then◌else◌}
use Rattle.std.specs.Net.Text.{socket_text}
use Rattle.std.specs.declared.net.socket_addr.SocketAddr.{SocketAddr}
use Rattle.httpdate.specs.Date.{unix_secs, date_text}
use Rattle.httpdate.specs.declared.date.HttpDate.{HttpDate}
use Rattle.vp_mio.specs.declared.access_log.Access.{Access}
use Rattle.vp_mio.specs.Lines.{printed, quotation}

-- the time as HTTP writes it, and nothing after the year 9999
abbrev pub IsTimeText : ℕ → List ℕ → Type 0
IsTimeText seconds text =
    (seconds < 253402300800 → (date : HttpDate) × (unix_secs date ≡ seconds) × (text ≡ date_text date))
    × (253402300800 ≤ seconds → text ≡ [])

-- the number of a connection, and its peer
abbrev pub peer_text : ℕ → Option SocketAddr → List ℕ
peer_text number None = codes "] " ++ (decimal number ++ codes " - ")
peer_text number (Some peer) = codes "] " ++ (decimal number ++ (codes " " ++ (socket_text peer ++ codes " ")))

-- the three digits of the status, if there are any
abbrev pub status_text : List ℕ → List ℕ
status_text reply = if nat_lt (length reply) 12 then codes "-" else slice_range reply 9 12

-- the number of bytes after the head, and that of the packets
abbrev pub numbers_text : ℕ → ℕ → List ℕ
numbers_text count packets = codes " " ++ (decimal count ++ (codes " " ++ decimal packets))

-- The time, the number of the connection and its peer, the line of the request between quotation marks, the status, the
-- number of bytes after the head, which is no more than the reply has, and that of the packets
abbrev pub IsAccessLine : Access → List ℕ → Type 0
IsAccessLine access line =
    (time : List ℕ) × (count : ℕ) × IsTimeText access.seconds time × (count ≤ length access.reply.now)
    × (line ≡ codes "[" ++ (flat_map printed time ++ (flat_map printed (peer_text access.number access.peer)
    ++ (quotation access.request.now ++ (codes " " ++ (flat_map printed (status_text access.reply.now)
    ++ (flat_map printed (numbers_text count access.packets) ++ 10 ∷ [])))))))
