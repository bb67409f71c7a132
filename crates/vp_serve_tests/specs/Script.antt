-- The log of a transport in memory.
use Rattle.std.specs.Prelude.{List, map}
use Rattle.vp_serve.specs.Transfer.{Transfer, Accepts, Reads, Writes, PeerEnds, Fails, Closes, Grows, Waits}
use Rattle.vp_serve_tests.specs.declared.entry.Entry.{Entry}
use Rattle.vp_serve_tests.specs.declared.entry.Entry.TheVariants as entry

abbrev pub transfer_of : Entry → Transfer
transfer_of (entry.Accepts c) = Accepts c
transfer_of (entry.Reads c bytes) = Reads c bytes
transfer_of (entry.Writes c bytes) = Writes c bytes
transfer_of (entry.PeerEnds c) = PeerEnds c
transfer_of (entry.Fails c) = Fails c
transfer_of (entry.Closes c reason) = Closes c reason
transfer_of (entry.Grows place name bytes) = Grows place name bytes
transfer_of (entry.Waits busy clock) = Waits busy clock

abbrev pub transfers : List Entry → List Transfer
transfers entries = map transfer_of entries
