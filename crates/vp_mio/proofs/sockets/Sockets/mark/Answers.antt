use Rattle.std.proofs.Common.{◌≡◌, ◌∙◌, List, Some, None, true, false, ap, sym, subst, arith}
use Rattle.std.specs.List.{position}
use Rattle.std.proofs.lemmas.List.{length-set}
use Rattle.std.specs.Prelude.{slice_set}
use Rattle.vp_serve.specs.Readiness.{Readiness}
use Rattle.vp_mio.specs.Sockets.{OpenSocket, AreAsOpen, OthersStay, gains, has_socket, readiness_of}
use Rattle.vp_mio.proofs.OpenSockets.{true_false, is_of, found-ready, set-ready, set-distinct}
use Rattle.vp_mio.proofs.OtherSockets.{has_one, has_none, set-open, set-others}
use Rattle.vp_mio.proofs.sockets.Sockets.mark.Goals as goal

pub invariant_of-self : goal.invariant_of-self
invariant_of-self c =
    let xs = c.self.inside.connected.items in
    let place : Some c.in-Some.place ≡ position (is_of c.args.number) xs = sym c.in-Some.is ∙ c.place_of.ensures.place ∙ ap (position (is_of c.args.number)) c.deref.ensures.value in (
      omega (arith, length-set xs c.in-Some.place c.mark.new.self, c.self.invariant.0),
      c.self.invariant.1,
      set-distinct c.args.number c.in-Some.place xs c.index_mut.result.now c.mark.new.self place c.index_mut.ensures.value c.mark.ensures.number c.self.invariant.2,
    )

pub returns-in-Some-clause-own : goal.returns-in-Some-clause-own
returns-in-Some-clause-own c has =
    let xs = c.self.inside.connected.items in
    let place : Some c.in-Some.place ≡ position (is_of c.args.number) xs = sym c.in-Some.is ∙ c.place_of.ensures.place ∙ ap (position (is_of c.args.number)) c.deref.ensures.value in
    set-ready c.args.number c.in-Some.place xs c.index_mut.result.now c.mark.new.self place c.index_mut.ensures.value c.mark.ensures.number
    ∙ c.mark.ensures.ready
    ∙ ap (λ (r : Readiness). gains r c.args.found.read c.args.found.write) (sym (found-ready c.args.number c.in-Some.place xs c.index_mut.result.now place c.index_mut.ensures.value))
    ∙ ap (λ (ys : List OpenSocket). gains (readiness_of ys c.args.number) c.args.found.read c.args.found.write) c.self.view_is

pub returns-in-Some-clause-others : goal.returns-in-Some-clause-others
returns-in-Some-clause-others c =
    let xs = c.self.inside.connected.items in
    let place : Some c.in-Some.place ≡ position (is_of c.args.number) xs = sym c.in-Some.is ∙ c.place_of.ensures.place ∙ ap (position (is_of c.args.number)) c.deref.ensures.value in
    subst (λ (ys : List OpenSocket). OthersStay c.args.number ys (slice_set xs c.in-Some.place c.mark.new.self)) c.self.view_is
    (set-others c.args.number c.in-Some.place xs c.index_mut.result.now c.mark.new.self place c.index_mut.ensures.value c.mark.ensures.number)

pub returns-in-Some-clause-as_open : goal.returns-in-Some-clause-as_open
returns-in-Some-clause-as_open c =
    let xs = c.self.inside.connected.items in
    let place : Some c.in-Some.place ≡ position (is_of c.args.number) xs = sym c.in-Some.is ∙ c.place_of.ensures.place ∙ ap (position (is_of c.args.number)) c.deref.ensures.value in
    subst (λ (ys : List OpenSocket). AreAsOpen ys (slice_set xs c.in-Some.place c.mark.new.self)) c.self.view_is
    (set-open c.args.number c.in-Some.place xs c.index_mut.result.now c.mark.new.self place c.index_mut.ensures.value c.mark.ensures.number)

pub returns-in-Some-clause-none : goal.returns-in-Some-clause-none
returns-in-Some-clause-none c none =
    let xs = c.self.inside.connected.items in
    let place : Some c.in-Some.place ≡ position (is_of c.args.number) xs = sym c.in-Some.is ∙ c.place_of.ensures.place ∙ ap (position (is_of c.args.number)) c.deref.ensures.value in
    let has : true ≡ has_socket c.args.number c.args.self.now = sym (has_one c.args.number c.in-Some.place xs place) ∙ ap (has_socket c.args.number) c.self.view_is in
    absurd (true_false (has ∙ none))

pub returns-in-None-clause-own : goal.returns-in-None-clause-own
returns-in-None-clause-own c has =
    let xs = c.self.inside.connected.items in
    let place : None ≡ position (is_of c.args.number) xs = sym c.in-None.is ∙ c.place_of.ensures.place ∙ ap (position (is_of c.args.number)) c.deref.ensures.value in
    let none : false ≡ has_socket c.args.number c.args.self.now = sym (has_none c.args.number xs place) ∙ ap (has_socket c.args.number) c.self.view_is in
    absurd (true_false (sym (none ∙ has)))
