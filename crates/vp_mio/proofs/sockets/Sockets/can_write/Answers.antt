use Rattle.std.proofs.Common.{◌≡◌, ◌∙◌, List, Some, None, ap, sym}
use Rattle.std.specs.List.{position}
use Rattle.vp_serve.specs.Readiness.{Readiness}
use Rattle.vp_mio.specs.Sockets.{OpenSocket, readiness_of}
use Rattle.vp_mio.proofs.OpenSockets.{is_of, found-ready, place-none}
use Rattle.vp_mio.proofs.sockets.Sockets.can_write.Goals as goal

pub returns-in-Some : goal.returns-in-Some
returns-in-Some c =
    let xs = c.self.inside.connected.items in
    let place : Some c.in-Some.place ≡ position (is_of c.args.number) xs = sym c.in-Some.is ∙ c.place_of.ensures.place ∙ ap (position (is_of c.args.number)) c.deref.ensures.value in
    c.can_write.ensures ∙ sym (ap (λ (r : Readiness). r.write) (found-ready c.args.number c.in-Some.place xs c.index.result.now place c.index.ensures))
    ∙ ap (λ (ys : List OpenSocket). (readiness_of ys c.args.number).write) c.self.view_is

pub returns-in-None : goal.returns-in-None
returns-in-None c =
    let xs = c.self.inside.connected.items in
    let none : None ≡ position (is_of c.args.number) xs = sym c.in-None.is ∙ c.place_of.ensures.place ∙ ap (position (is_of c.args.number)) c.deref.ensures.value in
    sym (ap (λ (r : Readiness). r.write) (place-none c.args.number xs none)) ∙ ap (λ (ys : List OpenSocket). (readiness_of ys c.args.number).write) c.self.view_is
