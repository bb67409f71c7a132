use Rattle.std.proofs.Common.{◌≡◌, ◌∙◌, ℕ, ◌+◌, ◌-◌, ◌*◌, get_or, ap, arith}
use Rattle.vp_search.specs.declared.window.TheConstants.{WINDOW_WIDTH}
use Rattle.vp_search.proofs.SquareLemmas.{square_moved}
use Rattle.vp_search.proofs.kept.Kept.moved_to.Goals as goal

pub returns-clause-kept : goal.returns-clause-kept
returns-clause-kept c p range sums coarse kept =
    let moved : ℕ = 16 * (c.args.place.column - c.args.self.place.column) in
    let few = kept.few in
    record {
      few = omega arith;
      room = omega arith;
      size = kept.size;
      coarse_size = kept.coarse_size;
      coarse_are = kept.coarse_are;
      are = λ y x h k.
          let e : c.args.self.start + moved + (y * WINDOW_WIDTH + x) ≡ c.args.self.start + (y * WINDOW_WIDTH + (x + moved)) = omega arith in
          ap (λ (i : ℕ). get_or sums i 0) e
          ∙ kept.are y (x + moved) h (omega arith)
          ∙ square_moved p c.args.self.place c.args.place range y x moved (omega arith) (omega arith);
    }
