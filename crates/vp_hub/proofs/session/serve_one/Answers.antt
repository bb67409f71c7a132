use Rattle.std.proofs.Common.{Err, refl, subst, inl, inr}
use Rattle.vp_hub.specs.declared.event.Event.TheVariants.{Open, Shut}
use Rattle.vp_hub.specs.Sessions.{IsWorkedStep}
use Rattle.vp_hub.proofs.Visiting.{come, come_there, gone, idle_opening}
use Rattle.vp_hub.proofs.session.serve_one.Goals as goal

pub serve_open-served-requires : goal.serve_open-served-requires
serve_open-served-requires g c =
    let opened = c.in_default.ensures.opened in
    come_there c.args.conn c.args.hub.now.state c.open_connection.new.hub.state opened.0
    (come c.args.conn c.args.hub.now.state c.open_connection.new.hub.state opened.0 opened.1)

pub returns-in-Err-clause-served : goal.returns-in-Err-clause-served
returns-in-Err-clause-served g c =
    let refused = c.in-Err.ensures.refused in
    let idle = idle_opening c.args.conn c.args.hub.now c.open_connection.new.hub (Err c.in-Err.fault) refused.1 in
    inl ((c.in-Err.fault, refused.0, refl), idle.0, idle.1, refl, refl, idle.2)

pub returns-clause-served : goal.returns-clause-served
returns-clause-served g c =
    let old = c.args.hub.now in
    let first = c.open_connection.new.hub in
    let last = c.serve_open-served.new.hub in
    let new = c.shut_connection.new.hub in
    let opened = c.in_default.ensures.opened in
    let shut = c.shut_connection.ensures in
    let came = come c.args.conn old.state first.state opened.0 opened.1 in
    let went = gone c.args.conn old.state first.state last.state new.state opened.0 shut.0 came c.serve_open-served.ensures.apart shut.1 in
    let t = c.serve_open-served.ensures.talked in
    inr (
      t.0,
      t.1,
      record {
        first = first;
        last = last;
        comes = subst (λ o. IsWorkedStep old (Open c.args.conn) o first) came.reply_is (opened.1, opened.2);
        talks = t.2;
        goes = subst (λ o. IsWorkedStep last (Shut c.args.conn) o new) went.0 (shut.1, shut.2);
      },
    )

pub returns-clause-stays : goal.returns-clause-stays
returns-clause-stays g c =
    let old = c.args.hub.now.state in
    let first = c.open_connection.new.hub.state in
    let opened = c.in_default.ensures.opened in
    let shut = c.shut_connection.ensures in
    (gone c.args.conn old first c.serve_open-served.new.hub.state c.shut_connection.new.hub.state opened.0 shut.0
    (come c.args.conn old first opened.0 opened.1) c.serve_open-served.ensures.apart shut.1).1
