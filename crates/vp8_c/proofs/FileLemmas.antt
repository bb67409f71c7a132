-- A file whose bytes are fed at once, and whose end is marked.
use Rattle.std.proofs.Common.{◌≡◌, ◌∙◌, ℕ, List, ap, subst, sym}
use Rattle.std.specs.Prelude.{◌≢◌}
use Rattle.vp_base.specs.declared.limits.Limits.{Limits}
use Rattle.vp_ivf.specs.Ivf.{Contents}
use Rattle.vp_ivf.specs.Reader.{finish_answer}
use Rattle.vp_stream.specs.Answers.{reading_of}
use Rattle.vp_stream.specs.Seeking.{answer_value}
use Rattle.vp_stream.specs.Stream.{Stream, StreamHistory, IsStreamAfter, empty_stream_history, stream_refusal, with_end, with_piece}
use Rattle.vp8_c.specs.declared.status.TheConstants.{MEMORY}
use Rattle.vp8_c.specs.declared.file_handle.FileHandle.{FileHandle}
use Rattle.vp8_c.specs.declared.stream_handle.StreamHandle.{StreamHandle}
use Rattle.vp8_c.specs.FileHandle.{Feeds, Finishes, IsFile, TakesPiece}
use Rattle.vp8_c.specs.StreamHandle.{IsEmpty}

pub fed_whole : (bytes : List ℕ) (status last : ℕ) (a : StreamHandle) (b c : FileHandle) → IsEmpty a → Feeds bytes status a.file b → status ≢ MEMORY
    → Finishes last b c → IsFile bytes c
fed_whole bytes status last a b c fresh fed well ended =
    let took : TakesPiece bytes status a.file b = fed.taken (ap (λ (s : Stream). stream_refusal s) fresh.stream) well in
    let whole : StreamHistory = with_piece empty_stream_history bytes in
    let of_b : IsStreamAfter b.stream whole = took.history empty_stream_history fresh.history in
    let of_c : IsStreamAfter c.stream (with_end whole b.stream.reading.fault) = ended.history whole of_b in
    let same : c.stream.limits ≡ b.stream.limits = ap (λ (s : Stream). s.limits) ended.stream in
    let usual : c.stream.limits ≡ a.file.stream.limits = same ∙ ap (λ (s : Stream). s.limits) took.stream in
    let read : c.stream.reading ≡ b.stream.reading = ap (λ (s : Stream). s.reading) ended.stream in
    let Ends : Contents → Type 0 = λ r. IsStreamAfter c.stream (with_end whole r.fault) in
    record {
      pixels = ap (λ (l : Limits). l.pixels) usual ∙ fresh.pixels;
      packet_bytes = ap (λ (l : Limits). l.packet_bytes) usual ∙ fresh.packet_bytes;
      packets = ap (λ (l : Limits). l.packets) usual ∙ fresh.packets;
      reading = of_c.reading;
      ended = ended.ended ∙ ap (λ (r : Contents). finish_answer r) of_b.reading ∙ ap (λ (l : Limits). finish_answer (reading_of l bytes)) (sym same);
      history = subst Ends (sym read) of_c;
      answer = ap answer_value ended.answer ∙ ap answer_value took.answer ∙ fresh.answer;
    }
