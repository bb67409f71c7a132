use Rattle.std.proofs.Common.{sym, subst, rules}
use Rattle.std.specs.Io.KnownBytes.{Consumes}
use Rattle.std.proofs.KnownBytes.{Consumes-trans}
use Rattle.vp_base.specs.Counted.{counted_remaining}
use Rattle.vp_commands.proofs.picture.read_file.Goals as goal
use Rattle.vp_commands.proofs.picture.read_file.Goals.{then-not-more-via-then-not-more, then-not-more-via-else-not-more+then-is_foreign}

pub returns-then-not-more-clause-file : goal.returns-then-not-more-clause-file
returns-then-not-more-clause-file g c =
    let left = counted_remaining g.R.Read.remaining in
    let now = c.in_ok-more.ensures.piece in record {
      consumed = subst (Consumes (left c.args.input.now) (left c.read_piece.new.input)) (sym now.1)
          (Consumes-trans (left c.args.input.now) (left c.loop-turn.input) (left c.read_piece.new.input) c.loop-turn.file.items now.0 c.loop-turn.invariant now.2);
      end = elim c.then-not-more.branch [
        | then-not-more-via-then-not-more w ↦ λ _. c.in_ok-more.ensures.end (search rules)
        | then-not-more-via-else-not-more+then-is_foreign w ↦ λ known. cc
      ];
    }
