use Rattle.std.proofs.Common.{◌≡◌, ◌∙◌, true, Ok, Err, [], inl, inr, refl, ap, subst, ℕ, rules}
use Rattle.std.proofs.lemmas.Result.{err_from_is_err_and}
use Rattle.vp_base.specs.Counted.{HasFailed, counted_contents, counted_failures}
use Rattle.vp_y4m.specs.Shown.{head_model}
use Rattle.vp_encode.specs.EncodeProgress.{EncodeProgress}
use Rattle.vp_y4m.proofs.ReadLemmas.{one_at_most, reads_more, reads_most, reads_then}
use Rattle.vp_encode.proofs.FileLemmas.{ok_is_no_error, none_at_most, one_is_most, told_none, settings_refused, within_limits, head_failed, work_ends, all_small, all_frames, written_front, written_whole, reported_whole, head_end, head_device, head_quiet, failed, finished}
use Rattle.vp_encode.proofs.encoding.encode_all_watched.Goals as goal

pub returns-in_err-head : goal.returns-in_err-head
returns-in_err-head g c =
    let p = err_from_is_err_and c.from_residual.result c.from_residual.ensures.1 in
    let s = c.in_err-head.ensures in
    let e = head_failed c.args.limits c.args.settings c.in_err-head.field-0.0 _ _ s.err in
    let told = g.T.Watcher.told c.args.watcher.now in
    let both = failed g.R.Read.remaining g.W.Write.contents _ _ _ c.args.reader.now c.read.new.reader c.args.writer.now c.args.writer.now told told _ (p.1 ∙ ap Err p.2) [] (told_none told) e.0 e.1 (inl refl) (e.2 _)
    (λ n. refl) (head_end _ _ _ _ s.err) (λ d. inl (head_device _ _ _ s.device d)) (head_quiet _ _ _ s.quiet) in
    let reads = reads_more _ 1 _ _ _ _ (one_at_most c.in_err-head.field-0.0) s.reads in
    record { answer = both.0; watched = both.1; reads = reads; within = search rules; most = reads_most 1 _ _ _ _ one_is_most reads }

pub returns-in_err-encoder : goal.returns-in_err-encoder
returns-in_err-encoder g c =
    let p = err_from_is_err_and c.from_residual-in_err-encoder.result c.from_residual-in_err-encoder.ensures.1 in
    let s = c.in_ok-head.ensures in
    let refused = settings_refused c.args.limits c.args.settings (head_model c.in_ok-head.head) _ _ (counted_contents g.W.Write.contents c.args.writer.now) s.ok (c.in_err-encoder.ensures.settings (refl {a = true})) in
    let told = g.T.Watcher.told c.args.watcher.now in
    let both = failed g.R.Read.remaining g.W.Write.contents _ _ _ c.args.reader.now c.read.new.reader c.args.writer.now c.args.writer.now told told _ (p.1 ∙ ap Err p.2) [] (told_none told) s.ok.taken s.ok.consumed (inl refl) refused
    (λ n. refl) (λ t. cc) (λ d. cc) (λ n. s.quiet ok_is_no_error) in
    let reads = reads_more 0 1 _ _ _ _ none_at_most s.reads in
    record { answer = both.0; watched = both.1; reads = reads; within = search rules; most = reads_most 1 _ _ _ _ one_is_most reads }

pub returns-in_err-encode_pictures : goal.returns-in_err-encode_pictures
returns-in_err-encode_pictures g c =
    let p = err_from_is_err_and c.from_residual-in_err-encode_pictures.result c.from_residual-in_err-encode_pictures.ensures.1 in
    let s = c.in_err-encode_pictures.ensures in
    let k = work_ends _ _ _ _ _ c.encode_pictures.new.run _ (g.T.Watcher.told c.encode_pictures.new.watcher) _ _ _ _ (Err c.in_err-encode_pictures.field-0.0) c.new-run.ensures c.in_ok-encoder.ensures.ok c.in_ok-head.ensures.ok s.ends in
    let quiet : counted_failures c.read.new.reader ≡ counted_failures c.args.reader.now = c.in_ok-head.ensures.quiet ok_is_no_error in
    let both = failed g.R.Read.remaining g.W.Write.contents _ _ _ c.args.reader.now c.encode_pictures.new.reader c.args.writer.now c.args.writer.now (g.T.Watcher.told c.args.watcher.now) (g.T.Watcher.told c.encode_pictures.new.watcher)
    _ (p.1 ∙ ap Err p.2) k.1 k.3 k.0 k.2 k.4.0 (k.4.1 (counted_contents g.W.Write.contents c.args.writer.now)) (λ n. refl) (λ t. s.torn (ap Err t))
    (λ d. inl (subst (λ (n : ℕ). HasFailed n (counted_failures c.encode_pictures.new.reader)) quiet (s.device (ap Err d)))) (λ n. s.quiet (λ e. n cc) ∙ quiet) in
    let reads = reads_then 1 _ _ _ _ _ _ c.in_ok-head.ensures.reads s.reads in
    record {
      answer = both.0;
      watched = both.1;
      reads = reads;
      within = within_limits _ _ (head_model c.in_ok-head.head) _ _ _ (ap (λ (r : EncodeProgress). r.limits) c.new-run.ensures) c.in_ok-head.ensures.small c.in_ok-head.ensures.within s.within;
      most = reads_most 1 _ _ _ _ one_is_most reads;
    }

pub write_file-requires-clause-small : goal.write_file-requires-clause-small
write_file-requires-clause-small g c =
    let k = work_ends _ _ _ _ _ c.encode_pictures.new.run _ (g.T.Watcher.told c.encode_pictures.new.watcher) _ _ _ _ (Ok c.in_ok-encode_pictures.field-0) c.new-run.ensures c.in_ok-encoder.ensures.ok c.in_ok-head.ensures.ok c.in_ok-encode_pictures.ensures.ends in
    all_small _ _ (head_model c.in_ok-head.head) _ _ c.encode_pictures.new.run _ c.packets.ensures k.4

pub returns-in_err-write_file : goal.returns-in_err-write_file
returns-in_err-write_file g c =
    let p = err_from_is_err_and c.from_residual-in_err-write_file.result c.from_residual-in_err-write_file.ensures.1 in
    let s = c.in_ok-encode_pictures.ensures in
    let k = work_ends _ _ _ _ _ c.encode_pictures.new.run _ (g.T.Watcher.told c.encode_pictures.new.watcher) _ _ _ _ (Ok c.in_ok-encode_pictures.field-0) c.new-run.ensures c.in_ok-encoder.ensures.ok c.in_ok-head.ensures.ok s.ends in
    let front = written_front _ _ (head_model c.in_ok-head.head) _ _ c.encode_pictures.new.run _ c.packets.ensures k.4 _ _ c.in_err-write_file.ensures.prefix in
    let both = failed g.R.Read.remaining g.W.Write.contents _ _ _ c.args.reader.now c.encode_pictures.new.reader c.args.writer.now c.write_file.new.writer (g.T.Watcher.told c.args.watcher.now) (g.T.Watcher.told c.encode_pictures.new.watcher)
    _ (p.1 ∙ ap Err p.2) k.1 k.3 k.0 k.2 (all_frames _ _ (head_model c.in_ok-head.head) _ _ c.encode_pictures.new.run _ c.packets.ensures k.4) front
    (λ n. absurd (n refl)) (λ t. cc) (λ d. inr c.in_err-write_file.ensures.device) (λ n. absurd (n refl)) in
    let reads = reads_then 1 _ _ _ _ _ _ c.in_ok-head.ensures.reads s.reads in
    record {
      answer = both.0;
      watched = both.1;
      reads = reads;
      within = within_limits _ _ (head_model c.in_ok-head.head) _ _ _ (ap (λ (r : EncodeProgress). r.limits) c.new-run.ensures) c.in_ok-head.ensures.small c.in_ok-head.ensures.within s.within;
      most = reads_most 1 _ _ _ _ one_is_most reads;
    }

pub returns : goal.returns
returns g c =
    let s = c.in_ok-encode_pictures.ensures in
    let k = work_ends _ _ _ _ _ c.encode_pictures.new.run _ (g.T.Watcher.told c.encode_pictures.new.watcher) _ _ _ _ (Ok c.in_ok-encode_pictures.field-0) c.new-run.ensures c.in_ok-encoder.ensures.ok c.in_ok-head.ensures.ok s.ends in
    let head = head_model c.in_ok-head.head in
    let run = c.encode_pictures.new.run in
    let both = finished g.R.Read.remaining g.W.Write.contents _ _ (Ok c.report.result) c.args.reader.now c.encode_pictures.new.reader c.args.writer.now c.write_file.new.writer (g.T.Watcher.told c.args.watcher.now) (g.T.Watcher.told c.encode_pictures.new.watcher)
    c.report.result refl k.1 k.3 k.0 k.2 (all_frames _ _ head _ _ run _ c.packets.ensures k.4) (written_whole _ _ head _ _ run _ c.packets.ensures k.4 _ _ c.report.result c.report.ensures c.in_ok-write_file.ensures.ok)
    (reported_whole _ _ head _ _ run _ c.packets.ensures k.4 c.report.result c.report.ensures) s.end (s.quiet ok_is_no_error ∙ c.in_ok-head.ensures.quiet ok_is_no_error) c.in_ok-write_file.ensures.quiet in
    let reads = reads_then 1 _ _ _ _ _ _ c.in_ok-head.ensures.reads s.reads in
    record {
      answer = both.0;
      watched = both.1;
      reads = reads;
      within = within_limits _ _ head _ _ _ (ap (λ (r : EncodeProgress). r.limits) c.new-run.ensures) c.in_ok-head.ensures.small c.in_ok-head.ensures.within s.within;
      most = reads_most 1 _ _ _ _ one_is_most reads;
    }
