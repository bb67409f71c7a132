-- What a reader stands for after a call.
use Rattle.std.proofs.Common.{◌≡◌, ℕ, ◌+◌, ◌/◌, ◌≤◌, Bool, false, List, [], ◌++◌, length, drop, Option, Some, None, refl, sym, ap, subst, ◌∙◌, arith}
use Rattle.std.proofs.lemmas.List.{length-append, drop-append-le}
use Rattle.vp_ivf.specs.declared.packet.Packet.{Packet}
use Rattle.vp_ivf.specs.declared.packet.IvfHead.{IvfHead}
use Rattle.vp_ivf.specs.declared.fault.FileFault.{FileFault}
use Rattle.vp_ivf.specs.declared.cutting.Cutting.{Cutting}
use Rattle.vp_ivf.specs.Ivf.{Contents, read_file, read_from, with_prefix, resume, resume_at, next_head, stop}
use Rattle.vp_ivf.specs.Cutting.{contents_of_cutting}
use Rattle.vp_ivf.specs.Reader.{ReaderState, ReaderHistory, IsReaderAfter, without_packets, with_reader_piece, empty_reader_history, refusal, refusal_at, IsSettled}
use Rattle.vp_ivf.proofs.Append.{read-append}
use Rattle.vp_ivf.proofs.Few.{few, read_from-settled}

pub stands_first : (max limit : ℕ) → IsReaderAfter (record { max = max; limit = limit; reading = record { head = None; packets = []; left = limit; fault = None; rest = [] }; ended = false }) empty_reader_history
unfolding read_file next_head
stands_first max limit = record { taken = omega arith; reading = refl; ended = refl }

-- packets that were taken make no difference to how reading goes on
without-resume_at : (max t : ℕ) (f : Option FileFault) (r : Contents) (more : List ℕ) → t ≤ length r.packets → resume_at f max (without_packets t r) more ≡ without_packets t (resume_at f max r more)
without-resume_at max t None r more le = rw (drop-append-le t r.packets (read_from r.head max r.left (r.rest ++ more)).packets le) refl
without-resume_at max t (Some f) r more le = refl

packets-resume_at : (max : ℕ) (f : Option FileFault) (r : Contents) (more : List ℕ) → length r.packets ≤ length (resume_at f max r more).packets
packets-resume_at max None r more = simp length-append (omega arith)
packets-resume_at max (Some f) r more = omega arith

pub stands_fed : (max limit : ℕ) (r new : Contents) (ended : Bool) (h : ReaderHistory) (piece : List ℕ)
    → new ≡ resume max r piece
    → IsReaderAfter (record { max = max; limit = limit; reading = r; ended = ended }) h
    → IsReaderAfter (record { max = max; limit = limit; reading = new; ended = ended }) (with_reader_piece h piece)
stands_fed max limit r new ended h piece e s =
    let whole = read_file max limit h.fed in
    let le : h.taken ≤ length whole.packets = s.taken in
    let more : length whole.packets ≤ length (resume max whole piece).packets = packets-resume_at max whole.fault whole piece in
    record {
      taken = rw read-append (omega arith);
      reading = rw (read-append max limit h.fed piece) (e ∙ (ap (λ x. resume max x piece) s.reading ∙ without-resume_at max h.taken whole.fault whole piece le));
      ended = s.ended;
    }

-- what feeding leaves
pub fed_reading : (head : Option IvfHead) (max left : ℕ) (packets newer : List Packet) (rest piece all kept : List ℕ) (c : Cutting)
    → all ≡ rest ++ piece → kept ≡ drop c.used all
    → newer ≡ packets ++ c.packets.items
    → contents_of_cutting c all ≡ read_from head max left all
    → record { head = c.head; packets = newer; left = c.left; fault = c.fault; rest = kept } ≡ resume_at None max (record { head = head; packets = packets; left = left; fault = None; rest = rest }) piece
fed_reading head max left packets newer rest piece all kept c is_all k n r =
    rw (k, n) (ap (λ x. with_prefix packets x) r ∙ rw is_all refl)

pub no_fault : (f : Option FileFault) (ended : Bool) → refusal_at f ended ≡ None → f ≡ None
no_fault None ended e = refl
no_fault (Some f) ended e = cc

pub reading_taken : (old : ReaderState) (max limit : ℕ) (r new : Contents) (ended : Bool) (piece : List ℕ)
    → record { max = max; limit = limit; reading = r; ended = ended } ≡ old
    → refusal old ≡ None
    → new ≡ resume_at None max r piece
    → record { max = max; limit = limit; reading = new; ended = ended } ≡ record old { reading = resume old.max old.reading piece }
reading_taken old max limit r new ended piece is calm e =
    let calm_here = rw (← is) at calm in
    let none = no_fault r.fault ended calm_here in
    rw (← is) (ap (λ (x : Contents). record { max = max; limit = limit; reading = x; ended = ended }) (e ∙ sym (ap (λ f. resume_at f max r piece) none)))

pub stands_resumed : (old new : ReaderState) (h : ReaderHistory) (piece : List ℕ)
    → new ≡ record old { reading = resume old.max old.reading piece }
    → IsReaderAfter old h → IsReaderAfter new (with_reader_piece h piece)
stands_resumed old new h piece e s = rw e (stands_fed old.max old.limit old.reading (resume old.max old.reading piece) old.ended h piece refl s)

-- what feeding leaves is settled
pub fed_settled : (head : Option IvfHead) (max left : ℕ) (all kept : List ℕ) (c : Cutting)
    → kept ≡ drop c.used all
    → contents_of_cutting c all ≡ read_from head max left all
    → IsSettled max (record { head = c.head; packets = []; left = c.left; fault = c.fault; rest = kept })
fed_settled head max left all kept c k r = λ none.
    rw k (let P : Contents → Type 0 = λ x. IsSettled max x in subst P (sym r) (read_from-settled head max left all) none)

pub settled_first : (max limit : ℕ) → read_file max limit [] ≡ stop None limit None []
unfolding read_file next_head
settled_first max limit = refl

-- what feeding adds
pub fed_few : (head : Option IvfHead) (max left : ℕ) (old newer : List Packet) (rest piece all : List ℕ) (c : Cutting)
    → read_from head max left rest ≡ stop head left None rest
    → all ≡ rest ++ piece
    → newer ≡ old ++ c.packets.items
    → contents_of_cutting c all ≡ read_from head max left all
    → length newer ≤ length old + length piece / 12 + 1
fed_few head max left old newer rest piece all c idle is_all n r =
    let bound = few head max left rest piece idle in
    let e : length c.packets.items ≡ length (read_from head max left (rest ++ piece)).packets = ap (λ (x : Contents). length x.packets) r ∙ rw is_all refl in
    rw n (omega (arith, length-append old c.packets.items))
