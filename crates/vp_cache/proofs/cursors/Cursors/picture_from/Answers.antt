use Rattle.std.proofs.Common.{◌≡◌, ◌≤◌, ℕ, ap, sym, subst, ◌∙◌, arith}
use Rattle.std.specs.Prelude.{OnOk, OnErr}
use Rattle.std.specs.Option.{unwrap_or}
use Rattle.vp_stream.specs.Seeking.{seek_start, saturating_count}
use Rattle.vp_stream.specs.Stream.{packets_of}
use Rattle.vp_stream.proofs.AnswerLemmas.{no_answer}
use Rattle.vp_cache.specs.Cursors.{Cursors, AreCursorsOf}
use Rattle.vp_cache.proofs.CursorLemmas.{least_none, used_work, chosen_stands, front_is, front_kept, front_others, after_used}
use Rattle.vp_cache.proofs.cursors.Cursors.picture_from.Goals as goal

pub returns-then-n-count-clause-answer : goal.returns-then-n-count-clause-answer
returns-then-n-count-clause-answer c = sym (no_answer c.args.stream.now.limits c.args.stream.now.reading.packets c.args.n (omega arith))

pub returns-then-n-count-clause-stands : goal.returns-then-n-count-clause-stands
returns-then-n-count-clause-stands c h after =
    let count = c.count.ensures.packets h after in
    sym (no_answer c.args.stream.now.limits (packets_of c.args.stream.now h) c.args.n (omega arith))

pub returns-then-n-count-clause-work : goal.returns-then-n-count-clause-work
returns-then-n-count-clause-work c =
    omega (arith, least_none c.args.stream_no c.args.stream.now.reading.packets c.args.n c.args.self.now.entries (omega arith))

pub picture_from-answer-requires : goal.picture_from-answer-requires
picture_from-answer-requires c =
    chosen_stands c.self.inside.limits c.args.stream_no c.args.stream.now _ c.args.self.now.entries c.self.inside.entries.items c.take_or_new-cursor.result
    (c.requires.limits ∙ sym (ap (λ (o : Cursors). o.limits) c.self.view_is)) (ap (λ (o : Cursors). o.entries) c.self.view_is) c.requires.cursors c.take_or_new-cursor.ensures.cursor

pub returns-clause-work : goal.returns-clause-work
returns-clause-work c =
    let start : c.unwrap_or-start.result ≡ seek_start c.args.stream.now.reading.packets c.args.n = c.unwrap_or-start.ensures ∙ ap (λ o. unwrap_or o c.args.n) c.key_before.ensures.value in
    subst (λ (m : ℕ). OnOk c.picture_from-answer.result (c.picture_from-answer.new.work ≡ saturating_count c.args.work.now m))
    (used_work c.self.inside.limits c.args.stream_no c.args.stream.now.reading.packets c.args.n c.unwrap_or-start.result c.args.self.now.entries c.self.inside.entries.items c.take_or_new-cursor.result
    (omega arith) start (ap (λ (o : Cursors). o.entries) c.self.view_is) c.take_or_new-cursor.ensures.cursor)
    c.picture_from-answer.ensures.work

pub returns-clause-most : goal.returns-clause-most
returns-clause-most c =
    let start : c.unwrap_or-start.result ≡ seek_start c.args.stream.now.reading.packets c.args.n = c.unwrap_or-start.ensures ∙ ap (λ o. unwrap_or o c.args.n) c.key_before.ensures.value in
    subst (λ (m : ℕ). OnErr c.picture_from-answer.result ((c.args.work.now ≤ c.picture_from-answer.new.work) × (c.picture_from-answer.new.work ≤ saturating_count c.args.work.now m)))
    (used_work c.self.inside.limits c.args.stream_no c.args.stream.now.reading.packets c.args.n c.unwrap_or-start.result c.args.self.now.entries c.self.inside.entries.items c.take_or_new-cursor.result
    (omega arith) start (ap (λ (o : Cursors). o.entries) c.self.view_is) c.take_or_new-cursor.ensures.cursor)
    c.picture_from-answer.ensures.most

pub returns-clause-entries : goal.returns-clause-entries
returns-clause-entries c =
    let start : c.unwrap_or-start.result ≡ seek_start c.args.stream.now.reading.packets c.args.n = c.unwrap_or-start.ensures ∙ ap (λ o. unwrap_or o c.args.n) c.key_before.ensures.value in
    let front = front_is c.args.self.now c.self.inside.entries.items c.take_or_new-cursor.new.entries.items c.put.new.entries.items c.self.inside.capacity c.self.inside.limits c.args.stream_no
    c.args.stream.now.reading.packets c.args.n c.unwrap_or-start.result c.picture_from-answer.new.cursor c.self.view_is start c.take_or_new-cursor.ensures.entries c.put.ensures.items in
    after_used c.picture_from-answer.result c.args.self.now _ c.args.stream_no c.args.stream.now c.args.n c.take_or_new-cursor.result.next c.picture_from-answer.new.cursor
    (omega arith) front c.picture_from-answer.ensures.cursor c.picture_from-answer.ensures.next

pub returns-clause-kept : goal.returns-clause-kept
returns-clause-kept c =
    let start : c.unwrap_or-start.result ≡ seek_start c.args.stream.now.reading.packets c.args.n = c.unwrap_or-start.ensures ∙ ap (λ o. unwrap_or o c.args.n) c.key_before.ensures.value in
    let front = front_is c.args.self.now c.self.inside.entries.items c.take_or_new-cursor.new.entries.items c.put.new.entries.items c.self.inside.capacity c.self.inside.limits c.args.stream_no
    c.args.stream.now.reading.packets c.args.n c.unwrap_or-start.result c.picture_from-answer.new.cursor c.self.view_is start c.take_or_new-cursor.ensures.entries c.put.ensures.items in
    subst (λ (o : Cursors). AreCursorsOf c.args.stream_no c.args.stream.now o.entries) (sym front)
    (front_kept c.args.self.now c.args.stream_no c.args.stream.now c.args.stream.now.reading.packets c.args.n c.picture_from-answer.new.cursor c.picture_from-answer.ensures.cursor c.requires.cursors)

pub returns-clause-others : goal.returns-clause-others
returns-clause-others c other s apart kept =
    let start : c.unwrap_or-start.result ≡ seek_start c.args.stream.now.reading.packets c.args.n = c.unwrap_or-start.ensures ∙ ap (λ o. unwrap_or o c.args.n) c.key_before.ensures.value in
    let front = front_is c.args.self.now c.self.inside.entries.items c.take_or_new-cursor.new.entries.items c.put.new.entries.items c.self.inside.capacity c.self.inside.limits c.args.stream_no
    c.args.stream.now.reading.packets c.args.n c.unwrap_or-start.result c.picture_from-answer.new.cursor c.self.view_is start c.take_or_new-cursor.ensures.entries c.put.ensures.items in
    subst (λ (o : Cursors). AreCursorsOf other s o.entries) (sym front)
    (front_others c.args.self.now c.args.stream_no c.args.stream.now.reading.packets c.args.n c.picture_from-answer.new.cursor other s apart kept)
