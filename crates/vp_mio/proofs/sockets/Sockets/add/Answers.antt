use Rattle.std.proofs.Common.{◌≡◌, ◌∙◌, ℕ, List, true, false, ap, sym, subst, arith}
use Rattle.std.specs.Result.{is_ok}
use Rattle.vp_mio.specs.Sockets.{OpenSocket, AreDistinct, OthersStay, has_socket, readiness_of}
use Rattle.vp_mio.proofs.OpenSockets.{pushed-distinct}
use Rattle.vp_mio.proofs.OtherSockets.{pushed-own, pushed-others}
use Rattle.vp_mio.proofs.sockets.Sockets.add.Goals as goal

pub invariant_of-self : goal.invariant_of-self
invariant_of-self c =
    let xs = c.self.inside.connected.items in
    let none : has_socket c.args.socket.number xs ≡ false =
    ap (λ (ys : List OpenSocket). has_socket c.args.socket.number ys) (sym c.deref.ensures.value) ∙ ap (λ (n : ℕ). has_socket n c.deref.result.now) (sym c.number.ensures)
    ∙ sym c.has_socket.ensures ∙ c.if-has_socket.false in (
      omega (arith, c.push.ensures.upper_bound, c.if-len-ge-MAX_OPEN.false, c.len.ensures),
      c.self.invariant.1,
      subst AreDistinct (sym c.push.ensures.items) (pushed-distinct (is_ok c.push.result) c.args.socket xs none c.self.invariant.2),
    )

pub returns-clause-added : goal.returns-clause-added
returns-clause-added c added =
    let xs = c.self.inside.connected.items in
    let none : has_socket c.args.socket.number xs ≡ false =
    ap (λ (ys : List OpenSocket). has_socket c.args.socket.number ys) (sym c.deref.ensures.value) ∙ ap (λ (n : ℕ). has_socket n c.deref.result.now) (sym c.number.ensures)
    ∙ sym c.has_socket.ensures ∙ c.if-has_socket.false in
    subst (λ (ys : List OpenSocket). (has_socket c.args.socket.number ys ≡ true) × (readiness_of ys c.args.socket.number ≡ c.args.socket.ready)) (sym c.push.ensures.items)
    (pushed-own (is_ok c.push.result) c.args.socket xs none (sym c.is_ok.ensures.value ∙ added))

pub returns-clause-others : goal.returns-clause-others
returns-clause-others c =
    let xs = c.self.inside.connected.items in
    subst (λ (ys : List OpenSocket). OthersStay c.args.socket.number ys c.push.new.self.items) c.self.view_is
    (subst (λ (ys : List OpenSocket). OthersStay c.args.socket.number xs ys) (sym c.push.ensures.items) (pushed-others (is_ok c.push.result) c.args.socket xs))
