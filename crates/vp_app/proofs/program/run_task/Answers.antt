use Rattle.std.proofs.Common.{rules, ap}
use Rattle.vp_commands.specs.Commands.{read_side, written_side}
use Rattle.vp_app.proofs.ProgramLemmas.{does_check, does_decode, does_decode_range, does_encode, does_nothing, does_picture, does_serve, does_serve_many, does_tell}
use Rattle.vp_app.proofs.program.run_task.Goals as goal

pub returns-in-Decode-clause-does : goal.returns-in-Decode-clause-does
returns-in-Decode-clause-does g c = λ asked h.
    does_decode asked c.args.task.now c.in-Decode.decoding c.run_decode.result
    (read_side g.R.Read.remaining c.args.input.now) (read_side g.R.Read.remaining c.run_decode.new.input)
    (written_side g.W.Write.contents c.args.output.now) (written_side g.W.Write.contents c.run_decode.new.output)
    (search rules) h c.run_decode.ensures.does

pub returns-in-DecodeRange-clause-does : goal.returns-in-DecodeRange-clause-does
returns-in-DecodeRange-clause-does g c = λ asked h.
    does_decode_range asked c.args.task.now c.in-DecodeRange.wanted c.run_range.result
    (read_side g.R.Read.remaining c.args.input.now) (read_side g.R.Read.remaining c.run_range.new.input)
    (written_side g.W.Write.contents c.args.output.now) (written_side g.W.Write.contents c.run_range.new.output)
    (search rules) h c.run_range.ensures.does

pub returns-in-Encode-clause-does : goal.returns-in-Encode-clause-does
returns-in-Encode-clause-does g c = λ asked h.
    let done = c.run_encode.ensures.does in
    does_encode asked c.args.task.now c.in-Encode.encoding done.0 c.run_encode.result
    (read_side g.R.Read.remaining c.args.input.now) (read_side g.R.Read.remaining c.run_encode.new.input)
    (written_side g.W.Write.contents c.args.output.now) (written_side g.W.Write.contents c.run_encode.new.output)
    (search rules) h done.1 done.2

pub returns-in-Info-clause-does : goal.returns-in-Info-clause-does
returns-in-Info-clause-does g c = λ asked h.
    does_tell asked c.args.task.now c.in-Info.wanted c.run_info.result
    (read_side g.R.Read.remaining c.args.input.now) (read_side g.R.Read.remaining c.run_info.new.input)
    (written_side g.W.Write.contents c.args.output.now) (written_side g.W.Write.contents c.run_info.new.output)
    (search rules) h c.run_info.ensures.does

pub returns-in-Check-clause-does : goal.returns-in-Check-clause-does
returns-in-Check-clause-does g c = λ asked h.
    does_check asked c.args.task.now c.in-Check.wanted c.run_check.result
    (read_side g.R.Read.remaining c.args.input.now) (read_side g.R.Read.remaining c.run_check.new.input)
    (written_side g.W.Write.contents c.args.output.now) (written_side g.W.Write.contents c.run_check.new.output)
    (search rules) h c.run_check.ensures.does

pub returns-in-Picture-clause-does : goal.returns-in-Picture-clause-does
returns-in-Picture-clause-does g c = λ asked h.
    let done = c.run_picture.ensures.does in
    does_picture asked c.args.task.now c.in-Picture.wanted done.0 c.run_picture.result
    (read_side g.R.Read.remaining c.args.input.now) (read_side g.R.Read.remaining c.run_picture.new.input)
    (written_side g.W.Write.contents c.args.output.now)
    (search rules) h done.1 done.2

pub returns-in-Serve-clause-does : goal.returns-in-Serve-clause-does
returns-in-Serve-clause-does g c = λ asked h.
    does_serve asked c.args.task.now c.in-Serve.service c.serve-done.result c.report_serve.result
    (read_side g.R.Read.remaining c.args.input.now) (read_side g.R.Read.remaining c.serve-done.new.input)
    (written_side g.W.Write.contents c.args.output.now) (written_side g.W.Write.contents c.serve-done.new.output)
    (search rules) h c.report_serve.ensures.by c.serve-done.ensures.served
    (λ e. ap (λ w. written_side g.W.Write.contents w) (c.serve-done.ensures.quiet e))

pub returns-in-ServeMany-clause-does : goal.returns-in-ServeMany-clause-does
returns-in-ServeMany-clause-does g c = λ asked h.
    does_serve_many asked c.args.task.now c.in-ServeMany.many c.serve_many-done.result c.report_serve_many.result
    (read_side g.R.Read.remaining c.args.input.now) (read_side g.R.Read.remaining c.serve_many-done.new.input)
    (written_side g.W.Write.contents c.args.output.now) (written_side g.W.Write.contents c.serve_many-done.new.output)
    (search rules) h c.report_serve_many.ensures.by c.serve_many-done.ensures.served
    (λ e. ap (λ w. written_side g.W.Write.contents w) (c.serve_many-done.ensures.quiet e))

pub returns-in-Nothing-clause-does : goal.returns-in-Nothing-clause-does
returns-in-Nothing-clause-does g c = λ asked h.
    does_nothing asked c.args.task.now (read_side g.R.Read.remaining c.args.input.now)
    (written_side g.W.Write.contents c.args.output.now) (search rules) h
