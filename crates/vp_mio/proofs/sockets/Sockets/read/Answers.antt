use Rattle.std.proofs.Common.{◌≡◌, ◌∙◌, List, Some, ap, sym, subst, arith}
use Rattle.std.specs.List.{position}
use Rattle.std.proofs.lemmas.List.{length-set}
use Rattle.std.specs.Prelude.{slice_set}
use Rattle.vp_serve.specs.Readiness.{Readiness, AreNoReadier}
use Rattle.vp_mio.specs.Sockets.{OpenSocket, AreAsOpen, OthersStay, readiness_of}
use Rattle.vp_mio.proofs.OpenSockets.{is_of, set-ready, set-no_readier, set-distinct}
use Rattle.vp_mio.proofs.OtherSockets.{set-open, set-others}
use Rattle.vp_mio.proofs.sockets.Sockets.read.Goals as goal

pub invariant_of-self : goal.invariant_of-self
invariant_of-self c =
    let xs = c.self.inside.connected.items in
    let place : Some c.in-Some.place ≡ position (is_of c.args.number) xs = sym c.in-Some.is ∙ c.place_of.ensures.place ∙ ap (position (is_of c.args.number)) c.deref.ensures.value in (
      omega (arith, length-set xs c.in-Some.place c.read.new.self, c.self.invariant.0),
      c.self.invariant.1,
      set-distinct c.args.number c.in-Some.place xs c.index_mut.result.now c.read.new.self place c.index_mut.ensures.value c.read.ensures.number c.self.invariant.2,
    )

pub returns-in-Some-clause-no_readier : goal.returns-in-Some-clause-no_readier
returns-in-Some-clause-no_readier c =
    let xs = c.self.inside.connected.items in
    let place : Some c.in-Some.place ≡ position (is_of c.args.number) xs = sym c.in-Some.is ∙ c.place_of.ensures.place ∙ ap (position (is_of c.args.number)) c.deref.ensures.value in
    subst (λ (ys : List OpenSocket). AreNoReadier (readiness_of ys) (readiness_of (slice_set xs c.in-Some.place c.read.new.self))) c.self.view_is
    (set-no_readier c.args.number c.in-Some.place xs c.index_mut.result.now c.read.new.self place c.index_mut.ensures.value c.read.ensures.number c.read.ensures.no_readier)

pub returns-in-Some-clause-blocks : goal.returns-in-Some-clause-blocks
returns-in-Some-clause-blocks c blocked =
    let xs = c.self.inside.connected.items in
    let place : Some c.in-Some.place ≡ position (is_of c.args.number) xs = sym c.in-Some.is ∙ c.place_of.ensures.place ∙ ap (position (is_of c.args.number)) c.deref.ensures.value in
    ap (λ (r : Readiness). r.read) (set-ready c.args.number c.in-Some.place xs c.index_mut.result.now c.read.new.self place c.index_mut.ensures.value c.read.ensures.number) ∙ c.read.ensures.blocks blocked

pub returns-in-Some-clause-others : goal.returns-in-Some-clause-others
returns-in-Some-clause-others c =
    let xs = c.self.inside.connected.items in
    let place : Some c.in-Some.place ≡ position (is_of c.args.number) xs = sym c.in-Some.is ∙ c.place_of.ensures.place ∙ ap (position (is_of c.args.number)) c.deref.ensures.value in
    subst (λ (ys : List OpenSocket). OthersStay c.args.number ys (slice_set xs c.in-Some.place c.read.new.self)) c.self.view_is
    (set-others c.args.number c.in-Some.place xs c.index_mut.result.now c.read.new.self place c.index_mut.ensures.value c.read.ensures.number)

pub returns-in-Some-clause-as_open : goal.returns-in-Some-clause-as_open
returns-in-Some-clause-as_open c =
    let xs = c.self.inside.connected.items in
    let place : Some c.in-Some.place ≡ position (is_of c.args.number) xs = sym c.in-Some.is ∙ c.place_of.ensures.place ∙ ap (position (is_of c.args.number)) c.deref.ensures.value in
    subst (λ (ys : List OpenSocket). AreAsOpen ys (slice_set xs c.in-Some.place c.read.new.self)) c.self.view_is
    (set-open c.args.number c.in-Some.place xs c.index_mut.result.now c.read.new.self place c.index_mut.ensures.value c.read.ensures.number)
