use Rattle.std.proofs.Common.{◌≡◌, ◌∙◌, Ok, Err, [], true, refl, sym, ap, subst, rules}
use Rattle.std.proofs.lemmas.Result.{err_from_is_err_and}
use Rattle.vp_base.specs.Counted.{counted_contents, counted_failures}
use Rattle.vp_y4m.specs.Shown.{head_model}
use Rattle.vp_y4m.proofs.ReadLemmas.{one_at_most, reads_more, reads_most, reads_then}
use Rattle.vp_encode.proofs.FileLemmas.{ok_is_no_error, none_at_most, one_is_most, within_limits}
use Rattle.vp_encode.specs.declared.report.EncodeReport.{EncodeReport}
use Rattle.vp_encode.specs.File.{frames_report}
use Rattle.vp_live.specs.Live.{IsLiveReported}
use Rattle.vp_live.specs.Progress.{LiveProgress, IsLiveAt}
use Rattle.vp_live.proofs.LiveLemmas.{at_start}
use Rattle.vp_live.proofs.AnswerLemmas.{begun_with, live_ends, head_over, settings_over, write_over, ended_over, reported_over}
use Rattle.vp_live.proofs.encoding.encode_live.Given as given
use Rattle.vp_live.proofs.encoding.encode_live.Goals.{In_ok-encoder}
use Rattle.vp_live.proofs.encoding.encode_live.Goals as goal

-- the head's line is read, and nothing behind it
begun : (g : given.Over) (c : In_ok-encoder g) → IsLiveAt c.args.settings (head_model c.in_ok-head.head) c.in_ok-head.ensures.ok.taken [] (begun_with c.args.limits c.in_ok-encoder.encoder)
begun g c = at_start _ _ _ c.in_ok-head.head.dim _ c.in_ok-encoder.ensures.allowed refl refl c.in_ok-encoder.ensures.ok refl refl refl c.in_ok-head.ensures.ok.shown

pub returns-in_err-head : goal.returns-in_err-head
returns-in_err-head g c =
    let p = err_from_is_err_and c.from_residual.result c.from_residual.ensures.1 in
    let s = c.in_err-head.ensures in
    let reads = reads_more _ 1 _ _ _ _ (one_at_most c.in_err-head.field-0.0) s.reads in
    record {
      answer = head_over _ _ _ _ _ _ _ _ _ c.in_err-head.field-0.0 (p.1 ∙ ap Err p.2) s.err s.device s.quiet;
      reads = reads;
      within = search rules;
      most = reads_most 1 _ _ _ _ one_is_most reads;
    }

pub returns-in_err-encoder : goal.returns-in_err-encoder
returns-in_err-encoder g c =
    let p = err_from_is_err_and c.from_residual-in_err-encoder.result c.from_residual-in_err-encoder.ensures.1 in
    let s = c.in_ok-head.ensures in
    let reads = reads_more 0 1 _ _ _ _ none_at_most s.reads in
    record {
      answer = settings_over _ _ _ _ _ _ _ _ _ (head_model c.in_ok-head.head) (p.1 ∙ ap Err p.2) s.ok (c.in_err-encoder.ensures.settings (refl {a = true})) (s.quiet ok_is_no_error);
      reads = reads;
      within = search rules;
      most = reads_most 1 _ _ _ _ one_is_most reads;
    }

pub returns-in_err-write_head : goal.returns-in_err-write_head
returns-in_err-write_head g c =
    let p = err_from_is_err_and c.from_residual-in_err-write_head.result c.from_residual-in_err-write_head.ensures.1 in
    let s = c.in_ok-head.ensures in
    let reads = reads_more 0 1 _ _ _ _ none_at_most s.reads in
    record {
      answer = write_over _ _ _ _ _ _ _ _ _ _ (head_model c.in_ok-head.head) c.in_ok-encoder.encoder (p.1 ∙ ap Err p.2) s.ok (begun g (goal.at.returns-in_err-write_head g c).In_ok-encoder)
          c.in_err-write_head.ensures.prefix c.in_err-write_head.ensures.device;
      reads = reads;
      within = search rules;
      most = reads_most 1 _ _ _ _ one_is_most reads;
    }

pub returns-in_err-encode_pictures : goal.returns-in_err-encode_pictures
returns-in_err-encode_pictures g c =
    let p = err_from_is_err_and c.from_residual-in_err-encode_pictures.result c.from_residual-in_err-encode_pictures.ensures.1 in
    let s = c.in_ok-head.ensures in
    let e = c.in_err-encode_pictures.ensures in
    let read : counted_failures c.read.new.reader ≡ counted_failures c.args.reader.now = s.quiet ok_is_no_error in
    let written : counted_failures c.write_head.new.writer ≡ counted_failures c.args.writer.now = c.in_ok-write_head.ensures.quiet in
    let k = live_ends _ _ _ _ c.encode_pictures.new.run _ (g.T.Watcher.told c.encode_pictures.new.watcher) _ _ _ _ _ _ _ (Err c.in_err-encode_pictures.field-0.0)
    c.new-run.ensures s.ok (begun g (goal.at.returns-in_err-encode_pictures g c).In_ok-encoder) c.in_ok-write_head.ensures.ok e.ends in
    let reads = reads_then 1 _ _ _ _ _ _ s.reads e.reads in
    record {
      answer = ended_over _ _ _ _ _ _ _ _ _ _ _ c.in_err-encode_pictures.field-0.0 (p.1 ∙ ap Err p.2) k.1 k.3 k.0 k.2 k.4.0 k.4.1 (λ t. e.torn (ap Err t))
          (λ d. rw (← read, ← written) (e.device (ap Err d))) (λ n. let q = e.quiet (λ d. n cc) in (q.0 ∙ read, q.1 ∙ written));
      reads = reads;
      within = within_limits _ _ (head_model c.in_ok-head.head) _ _ _ (ap (λ (r : LiveProgress). r.limits) c.new-run.ensures) s.small s.within e.within;
      most = reads_most 1 _ _ _ _ one_is_most reads;
    }

pub returns : goal.returns
returns g c =
    let s = c.in_ok-head.ensures in
    let e = c.in_ok-encode_pictures.ensures in
    let k = live_ends _ _ _ _ c.encode_pictures.new.run _ (g.T.Watcher.told c.encode_pictures.new.watcher) _ _ _ _ _ _ _ (Ok c.in_ok-encode_pictures.field-0)
    c.new-run.ensures s.ok (begun g (goal.at.returns g c).In_ok-encoder) c.in_ok-write_head.ensures.ok e.ends in
    let q = e.quiet ok_is_no_error in
    let P : EncodeReport → Type 0 = λ r. (r ≡ frames_report k.1)
    × IsLiveReported c.args.limits c.args.settings r k.0 (counted_contents g.W.Write.contents c.args.writer.now) (counted_contents g.W.Write.contents c.encode_pictures.new.writer) in
    let done = subst P (sym c.report.ensures) (k.4.1, k.4.2) in
    let reads = reads_then 1 _ _ _ _ _ _ s.reads e.reads in
    record {
      answer = reported_over _ _ _ _ _ _ _ _ _ _ _ c.report.result refl k.1 k.3 k.0 k.2 k.4.0 done.0 done.1 e.end (q.0 ∙ s.quiet ok_is_no_error) (q.1 ∙ c.in_ok-write_head.ensures.quiet);
      reads = reads;
      within = within_limits _ _ (head_model c.in_ok-head.head) _ _ _ (ap (λ (r : LiveProgress). r.limits) c.new-run.ensures) s.small s.within e.within;
      most = reads_most 1 _ _ _ _ one_is_most reads;
    }
