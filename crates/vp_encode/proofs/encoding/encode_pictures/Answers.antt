use Rattle.std.proofs.Common.{◌++◌, ◌∷◌, [], Ok, Err, refl, ap, ◌∙◌, rules}
use Rattle.std.proofs.lemmas.Result.{err_from_is_err_and}
use Rattle.std.proofs.KnownBytes.{Consumes-nil, Consumes-trans}
use Rattle.vp_base.specs.Counted.{counted_remaining}
use Rattle.vp_y4m.specs.Shown.{head_model}
use Rattle.vp_y4m.specs.Source.{bytes_left, head_of, progress_after}
use Rattle.vp_y4m.specs.Frames.{GivesPicture}
use Rattle.vp_y4m.proofs.ReadLemmas.{no_reads, one_at_most, one_at_an_answer, reads_more, reads_then}
use Rattle.vp_encode.specs.EncodeProgress.{IsBegun}
use Rattle.vp_encode.proofs.FileLemmas.{ok_is_no_error, none_at_most, no_fewer, at_start, next_failed, refused_behind, ended, faulty_answer, given_answer, end_answer, at_next, told_none, told_more, so_far_at, few_now, within_next, within_more}
use Rattle.vp_encode.proofs.encoding.encode_pictures.Given as given
use Rattle.vp_encode.proofs.encoding.encode_pictures.Goals.{In-Some}
use Rattle.vp_encode.proofs.encoding.encode_pictures.Goals as goal

-- the picture that is read
shows : (g : given.Over) (c : In-Some g)
    → GivesPicture (head_model c.args.head).w (head_model c.args.head).h c.in-Some.picture (bytes_left g.R.Read.remaining c.loop-picture.source) (bytes_left g.R.Read.remaining c.next_picture.new.self)
shows g c = given_answer _ _ _ _ _ _ c.loop-picture.invariant.5 c.in-Some.is (c.in_ok-picture.ensures.answer c.loop-picture.invariant.6 ok_is_no_error)

pub loop-picture-init : goal.loop-picture-init
loop-picture-init g c = let o = c.open-source.ensures in (
  [],
  [],
  rw o.bytes (Consumes-nil (counted_remaining g.R.Read.remaining c.args.reader.now)),
  at_start (head_model c.args.head) c.args.run.now c.requires.start,
  refl,
  o.head,
  o.open,
  o.failures,
  told_none (g.T.Watcher.told c.args.watcher.now),
  rw (o.bytes, o.reads) (no_reads 0 _ _),
  rw o.reads (no_fewer _ _),
)

pub returns-in_err-picture-clause-ends : goal.returns-in_err-picture-clause-ends
returns-in_err-picture-clause-ends g c = λ front line.
    let inv = c.loop-picture.invariant in
    let b : IsBegun front (head_model c.args.head) c.args.run.now = record { line = line; first = c.requires.start; allowed = c.requires.allowed; width = c.requires.width; height = c.requires.height } in
    let p = err_from_is_err_and c.from_residual.result c.from_residual.ensures.1 in
    let e = next_failed _ _ _ _ _ _ b inv.3 c.in_err-picture.field-0.0 _ _ (faulty_answer _ _ _ _ _ inv.5 (c.in_err-picture.ensures.answer inv.6))
    (λ e. ap (bytes_left g.R.Read.remaining) (c.in_err-picture.ensures.memory inv.6 (ap Err e))) in
    let all = Consumes-trans _ _ _ inv.0 e.0 inv.2 e.1 in
    rw (p.1, p.2) (inv.0 ++ e.0, inv.1, search (rules, all), inv.8, e.2)

pub returns-in_err-encode-clause-ends : goal.returns-in_err-encode-clause-ends
returns-in_err-encode-clause-ends g c = λ front line.
    let inv = c.loop-picture.invariant in
    let b : IsBegun front (head_model c.args.head) c.args.run.now = record { line = line; first = c.requires.start; allowed = c.requires.allowed; width = c.requires.width; height = c.requires.height } in
    let p = err_from_is_err_and c.from_residual-in_err-encode.result c.from_residual-in_err-encode.ensures.1 in
    let s = shows g (goal.at.returns-in_err-encode-clause-ends g c).In-Some in
    let all = Consumes-trans _ _ _ inv.0 s.shown.taken inv.2 s.shown.consumed in
    rw (p.1, p.2) (
      inv.0 ++ s.shown.taken,
      inv.1,
      search (rules, all),
      inv.8,
      refused_behind _ _ _ _ _ _ b inv.3 _ _ _ s c.in_err-encode.field-0.0 c.in_err-encode.ensures.0,
    )

pub loop-picture-preserved : goal.loop-picture-preserved
loop-picture-preserved g c =
    let inv = c.loop-picture.invariant in
    let s = shows g (goal.at.loop-picture-preserved g c).In-Some in
    let f = c.in_ok-encode.ensures in
    let next = at_next _ _ _ _ _ _ _ _ _ inv.3 s f.0 f.1 f.2 in (
      inv.0 ++ s.shown.taken,
      inv.1 ++ f.0 ∷ [],
      Consumes-trans _ _ _ inv.0 s.shown.taken inv.2 s.shown.consumed,
      next,
      c.in_ok-picture.ensures.same_reference ∙ inv.4,
      c.in_ok-picture.ensures.head ∙ inv.5,
      c.in_ok-picture.ensures.progress inv.6 ok_is_no_error ∙ ap progress_after (ap Ok c.in-Some.is),
      c.in_ok-picture.ensures.quiet inv.6 ok_is_no_error ∙ inv.7,
      told_more (g.T.Watcher.told c.args.watcher.now) (g.T.Watcher.told c.loop-picture.watcher) (g.T.Watcher.told c.encoded.new.self) inv.1 f.0 c.so_far.result inv.8
          (so_far_at _ _ _ _ _ next c.so_far.result c.so_far.ensures) c.encoded.ensures,
      reads_then 0 _ _ _ _ _ _ inv.9 (rw c.in-Some.is at c.in_ok-picture.ensures.reads),
      within_next (head_model c.args.head) (head_of c.loop-picture.source) _ _ _ c.loop-picture.run c.encode.new.self f.0 inv.5 f.2 inv.10 c.in_ok-picture.ensures.within,
    )

pub returns-clause-ends : goal.returns-clause-ends
returns-clause-ends g c = λ front line.
    let inv = c.loop-picture.invariant in
    let b : IsBegun front (head_model c.args.head) c.args.run.now = record { line = line; first = c.requires.start; allowed = c.requires.allowed; width = c.requires.width; height = c.requires.height } in
    let e = ended _ _ _ _ _ _ b inv.3 _ _ (end_answer _ _ _ _ _ inv.5 c.in_default.is (c.in_ok-picture.ensures.answer inv.6 ok_is_no_error)) in
    let all = Consumes-trans _ _ _ inv.0 e.0 inv.2 e.1 in
    (inv.0 ++ e.0, inv.1, search (rules, all), inv.8, e.3)

pub returns-in_err-picture-clause-reads : goal.returns-in_err-picture-clause-reads
returns-in_err-picture-clause-reads g c =
    let r = reads_then 1 _ _ _ _ _ _ c.loop-picture.invariant.9 (reads_more _ 1 _ _ _ _ (one_at_most c.in_err-picture.field-0.0) c.in_err-picture.ensures.reads) in
    (r.0, search (rules, r.1), search (rules, r.2))

pub returns-in_err-picture-clause-within : goal.returns-in_err-picture-clause-within
returns-in_err-picture-clause-within g c =
    let inv = c.loop-picture.invariant in
    let w = within_more _ c.args.run.now.limits.packets (head_model c.args.head) (head_of c.loop-picture.source) _ _ _ (few_now _ _ _ _ _ inv.3) inv.5 inv.10 c.in_err-picture.ensures.within in
    search (rules, w)

pub returns-in_err-encode-clause-reads : goal.returns-in_err-encode-clause-reads
returns-in_err-encode-clause-reads g c =
    let r = reads_then 1 _ _ _ _ _ _ c.loop-picture.invariant.9 (reads_more 0 1 _ _ _ _ none_at_most (rw c.in-Some.is at c.in_ok-picture.ensures.reads)) in
    (r.0, search (rules, r.1), search (rules, r.2))

pub returns-in_err-encode-clause-within : goal.returns-in_err-encode-clause-within
returns-in_err-encode-clause-within g c =
    let inv = c.loop-picture.invariant in
    let w = within_more _ c.args.run.now.limits.packets (head_model c.args.head) (head_of c.loop-picture.source) _ _ _ (few_now _ _ _ _ _ inv.3) inv.5 inv.10 c.in_ok-picture.ensures.within in
    search (rules, w)

pub returns-clause-reads : goal.returns-clause-reads
returns-clause-reads g c =
    let r = reads_then 1 _ _ _ _ _ _ c.loop-picture.invariant.9 (reads_more _ 1 _ _ _ _ (one_at_an_answer c.in_ok-picture.field-0) c.in_ok-picture.ensures.reads) in
    (r.0, search (rules, r.1), search (rules, r.2))

pub returns-clause-within : goal.returns-clause-within
returns-clause-within g c =
    let inv = c.loop-picture.invariant in
    let w = within_more _ c.args.run.now.limits.packets (head_model c.args.head) (head_of c.loop-picture.source) _ _ _ (few_now _ _ _ _ _ inv.3) inv.5 inv.10 c.in_ok-picture.ensures.within in
    search (rules, w)
