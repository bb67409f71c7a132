-- Bytes that are added change nothing that was cut.
use Rattle.std.proofs.Common.{◌≡◌, ◌∙◌, ℕ, List, [], ◌++◌, Option, Some, None, refl, sym, ap}
use Rattle.std.proofs.lemmas.List.{append-nil}
use Rattle.vp_ivf.specs.declared.packet.Packet.{Packet}
use Rattle.vp_ivf.specs.declared.packet.IvfHead.{IvfHead}
use Rattle.vp_ivf.specs.declared.fault.FileFault.{FileFault}
use Rattle.vp_ivf.specs.Ivf.{Contents, read_file, read_from, resume_at}
use Rattle.vp_ivf.specs.Laws.{IsReadInPieces, KeepsPackets, KeepsHead, KeepsFault}
use Rattle.vp_ivf.proofs.Append.{read-append}
use Rattle.vp_ivf.proofs.Few.{cuts-head}

pub reads_in_pieces : IsReadInPieces
reads_in_pieces = read-append

-- what goes on from a reading begins with its packets
later_packets : (max : ℕ) (f : Option FileFault) (r : Contents) (more : List ℕ) → (later : List Packet) × ((resume_at f max r more).packets ≡ r.packets ++ later)
later_packets max None r more = ((read_from r.head max r.left (r.rest ++ more)).packets, refl)
later_packets max (Some f) r more = ([], sym (append-nil r.packets))

pub keeps_packets : KeepsPackets
keeps_packets max n b more =
    let whole = read_file max n b in
    let next = later_packets max whole.fault whole more in
    (next.0, ap (λ (r : Contents). r.packets) (read-append max n b more) ∙ next.1)

later_head : (max left : ℕ) (rest : List ℕ) (head : Option IvfHead) (h : IvfHead) → head ≡ Some h → (read_from head max left rest).head ≡ Some h
later_head max left rest None h e = cc
later_head max left rest (Some g) h e = cuts-head (Some g) max left rest ∙ e

kept_head : (max : ℕ) (f : Option FileFault) (r : Contents) (more : List ℕ) (h : IvfHead) → r.head ≡ Some h → (resume_at f max r more).head ≡ Some h
kept_head max None r more h e = later_head max r.left (r.rest ++ more) r.head h e
kept_head max (Some f) r more h e = e

pub keeps_head : KeepsHead
keeps_head max n b more h e =
    let whole = read_file max n b in
    ap (λ (r : Contents). r.head) (read-append max n b more) ∙ kept_head max whole.fault whole more h e

pub keeps_fault : KeepsFault
keeps_fault max n b more f e =
    let whole = read_file max n b in
    read-append max n b more ∙ ap (λ (g : Option FileFault). resume_at g max whole more) e
