use Rattle.std.proofs.Common.{[]}
use Rattle.vp_decode.proofs.Words.{◌≡◌, ◌∙◌, ℕ, ◌+◌, ◌*◌, List, length, sym, ap, arith, rows-more, rows-none, Gives, gives, row_read, maps_read, maps_so_far, MacroblockReader, maps_before, modes_before}
use Rattle.vp_decode.proofs.MacroblockLists.{none-ahead, then-ahead, nothing-read, all-read, kept-length}
use Rattle.vp_decode.proofs.macroblock_reader.MacroblockReader.read.Goals as goal
use Rattle.vp_decode.proofs.macroblock_reader.MacroblockReader.read.Goals.{After-of}

nothing : (n : ℕ) → 0 ≡ 0 * n
nothing n = omega arith

from-none : {A : Type 0} (xs : List A) (n : ℕ) → xs ≡ [] → length xs + n ≡ n
from-none xs n e = ap (λ ys. length ys + n) e ∙ omega arith

pub loop-row-init : goal.loop-row-init
loop-row-init c = record { so_far = rows-none _ _ _; ahead = rw (← nothing c.args.self.columns) (none-ahead c.args.self) }

pub read_row-requires-clause-row : goal.read_row-requires-clause-row
read_row-requires-clause-row c = omega (arith, c.loop-row-test.true, c.rows-row-end.ensures.value, c.loop-row.invariant.ahead.rows)

pub read_row-requires-clause-next : goal.read_row-requires-clause-next
read_row-requires-clause-next c =
    let ahead = c.loop-row.invariant.ahead in
    ahead.read ∙ from-none c.args.self.read (c.loop-row.row * c.args.self.columns) c.requires ∙ ap (λ n. c.loop-row.row * n) (sym ahead.columns)

pub loop-row-preserved : goal.loop-row-preserved
loop-row-preserved c =
    let made = c.loop-row.invariant in
    let next = c.read_row.ensures in
    record {
      so_far = rows-more c.loop-row.row (row_read c.args.header.now c.args.self.columns) _ _ _ _ _ _ made.so_far (rw (← made.ahead.columns) (λ i. (sym next.maps i, sym next.rest i)));
      ahead = then-ahead c.args.self c.loop-row.reader c.read_row.new.self (c.loop-row.row * c.args.self.columns) c.loop-row.reader.columns _ made.ahead next.ahead
          (ap (λ n. c.loop-row.row * c.args.self.columns + n) made.ahead.columns ∙ omega arith);
    }

-- all rows are read
all_rows : (c : After-of) → c.loop-row.row ≡ c.args.self.rows
all_rows c = omega (arith, c.loop-row-test.false, c.loop-row.auto.row-end, c.rows-row-end.ensures.value)

ended : (c : After-of) → Gives (maps_read c.args.header.now (maps_before (modes_before c.args.self)) c.args.d.now) (maps_so_far c.loop-row.reader) c.loop-row.d
unfolding maps_read
ended c = rw (← nothing-read c.args.self c.requires) (gives _ _ _ (rw (all_rows c) at c.loop-row.invariant.so_far))

pub returns-clause-value : goal.returns-clause-value
returns-clause-value c =
    let ahead = c.loop-row.invariant.ahead in
    let last = c.reader-2 in
    let read : length c.loop-row.reader.read ≡ c.loop-row.reader.rows * c.loop-row.reader.columns =
    ahead.read ∙ from-none c.args.self.read (c.loop-row.row * c.args.self.columns) c.requires
    ∙ (λ i. (all_rows c ∙ sym ahead.rows) i * sym ahead.columns i) in
    let whole = all-read _ (kept-length last.inside.columns last.inside.rows last.inside.kept_segments last.invariant.2) (rw (← last.view_is) at read) in
    c.of.ensures ∙ whole ∙ ap (λ (r : MacroblockReader). maps_so_far r) last.view_is ∙ (ended c).value

pub returns-clause-rest : goal.returns-clause-rest
returns-clause-rest c = (ended c).rest
