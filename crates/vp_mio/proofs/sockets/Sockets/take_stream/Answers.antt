use Rattle.std.proofs.Common.{◌≡◌, ◌∙◌, List, Some, None, false, ap, sym, subst, arith}
use Rattle.std.specs.List.{position}
use Rattle.vp_serve.specs.Readiness.{AreNoReadier}
use Rattle.vp_mio.specs.Sockets.{OpenSocket, AreDistinct, OthersStay, has_socket, readiness_of}
use Rattle.vp_mio.proofs.OpenSockets.{is_of, remove-no_readier, remove-distinct}
use Rattle.vp_mio.proofs.OtherSockets.{has_none, remove-gone, remove-others}
use Rattle.vp_mio.proofs.sockets.Sockets.take_stream.Goals as goal

pub invariant_of-self : goal.invariant_of-self
invariant_of-self c =
    let xs = c.self.inside.connected.items in
    let place : Some c.in_ok-place.place ≡ position (is_of c.args.number) xs = sym c.in_ok-place.was ∙ c.place_of.ensures.place ∙ ap (position (is_of c.args.number)) c.deref.ensures.value in (
      omega (arith, c.remove.ensures.len, c.self.invariant.0),
      c.self.invariant.1,
      subst AreDistinct (sym c.remove.ensures.items) (remove-distinct c.args.number c.in_ok-place.place xs place c.self.invariant.2),
    )

pub returns-clause-no_readier : goal.returns-clause-no_readier
returns-clause-no_readier c =
    let xs = c.self.inside.connected.items in
    let place : Some c.in_ok-place.place ≡ position (is_of c.args.number) xs = sym c.in_ok-place.was ∙ c.place_of.ensures.place ∙ ap (position (is_of c.args.number)) c.deref.ensures.value in
    subst (λ (ys : List OpenSocket). AreNoReadier (readiness_of ys) (readiness_of c.remove.new.self.items)) c.self.view_is
    (subst (λ (ys : List OpenSocket). AreNoReadier (readiness_of xs) (readiness_of ys)) (sym c.remove.ensures.items)
    (remove-no_readier c.args.number c.in_ok-place.place xs place c.self.invariant.2))

pub returns-clause-gone : goal.returns-clause-gone
returns-clause-gone c =
    let xs = c.self.inside.connected.items in
    let place : Some c.in_ok-place.place ≡ position (is_of c.args.number) xs = sym c.in_ok-place.was ∙ c.place_of.ensures.place ∙ ap (position (is_of c.args.number)) c.deref.ensures.value in
    subst (λ (ys : List OpenSocket). has_socket c.args.number ys ≡ false) (sym c.remove.ensures.items)
    (remove-gone c.args.number c.in_ok-place.place xs place c.self.invariant.2)

pub returns-clause-others : goal.returns-clause-others
returns-clause-others c =
    let xs = c.self.inside.connected.items in
    let place : Some c.in_ok-place.place ≡ position (is_of c.args.number) xs = sym c.in_ok-place.was ∙ c.place_of.ensures.place ∙ ap (position (is_of c.args.number)) c.deref.ensures.value in
    subst (λ (ys : List OpenSocket). OthersStay c.args.number ys c.remove.new.self.items) c.self.view_is
    (subst (λ (ys : List OpenSocket). OthersStay c.args.number xs ys) (sym c.remove.ensures.items)
    (remove-others c.args.number c.in_ok-place.place xs place))

pub returns-in_err-place-clause-gone : goal.returns-in_err-place-clause-gone
returns-in_err-place-clause-gone c =
    let xs = c.self.inside.connected.items in
    let place : None ≡ position (is_of c.args.number) xs = sym c.in_err-place.was ∙ c.place_of.ensures.place ∙ ap (position (is_of c.args.number)) c.deref.ensures.value in
    sym (ap (has_socket c.args.number) c.self.view_is) ∙ has_none c.args.number xs place
