use Rattle.std.proofs.Common.{◌≡◌, ◌||◌, Bool}
use Rattle.vp_refs.specs.References.{copied_by}
use Rattle.vp_refs.proofs.OneLemmas.{by_key, by_other, one_of}
use Rattle.vp_refs.proofs.refs.Refs.update.Goals as goal
use Rattle.vp_refs.proofs.refs.Refs.update.Goals.{then-header-2, else-header-2, then-header-3, else-header-3}

pub invariant_of-self : goal.invariant_of-self
invariant_of-self c on =
    let old = c.self.inside in
    let key : Bool = c.args.header.now.key in
    let with_golden : Bool = c.args.header.now.updates.refresh_golden in
    let with_last : Bool = c.args.header.now.updates.refresh_last in
    let golden : c.if-header-2.refreshed ≡ (key || with_golden) = elim c.if-header-2.branch [
      | then-header-2 w ↦ by_key key with_golden c.if-header-2.refreshed w.if-header-2.true w.refreshed-is
      | else-header-2 w ↦ by_other key with_golden c.if-header-2.refreshed w.if-header-2.false w.refreshed-is
    ] in
    let last : c.if-header-3.refreshed ≡ (key || with_last) = elim c.if-header-3.branch [
      | then-header-3 w ↦ by_key key with_last c.if-header-3.refreshed w.if-header-3.true w.refreshed-is
      | else-header-3 w ↦ by_other key with_last c.if-header-3.refreshed w.if-header-3.false w.refreshed-is
    ] in
    one_of c.if-header-2.refreshed (key || with_golden) c.if-header-3.refreshed (key || with_last) c.args.newest.value
    old.last.value c.in_ok-golden.golden.value
    (copied_by c.args.header.now.updates.copy_to_golden old.last.value c.in_ok-alt.alt.value old.golden.value)
    c.in_ok-last.last.value c.in_ok-golden-2.golden.value golden last c.in_ok-golden.ensures c.in_ok-golden-2.ensures
    c.in_ok-last.ensures
    (c.makes_one-self-inside.ensures c.args.newest.value old.last.value old.golden.value c.in_ok-alt.alt.value c.self.invariant on)
