use Rattle.std.proofs.Common.{◌≡◌, ℕ, ℤ, pos, ◌+◌, ◌-◌, min, List, length, get_or, sym, ap, ◌∙◌, inl, inr, arith}
use Rattle.std.specs.Prelude.{unsigned_abs}
use Rattle.std.specs.Int.{int_min, int_max}
use Rattle.std.proofs.lemmas.Int.{ints, clamps}
use Rattle.std.proofs.lemmas.Bool.{cases_lt}
use Rattle.vp_search.proofs.CutLemmas.{Cut, before_line, in_line, behind_line, part_at, part_long}
use Rattle.vp_search.proofs.window.cut_row.Goals as goal

pub returns-clause-here : goal.returns-clause-here
returns-clause-here c x h =
    let line : List ℕ = c.args.line.now in let left : ℤ = c.args.left in let at : ℕ = c.args.at in
    let outside : ℕ = c.min-outside.result in let start : ℕ = c.min-start.result in let inside : ℕ = c.min-inside.result in
    let o : outside ≡ min (unsigned_abs (int_min left (pos 0))) c.args.side = omega (arith, ints, clamps) in
    let s : start ≡ min (unsigned_abs (int_max left (pos 0))) (length line) = omega (arith, ints, clamps) in
    let i : inside ≡ min (length line - start) (c.args.side - outside) = c.min-inside.ensures in
    let cut : Cut (length line) c.args.side left outside start inside = record { some = c.requires.some; outside_is = o; start_is = s; inside_is = i } in
    let read : (m n : ℕ) → m ≡ n → get_or line m 0 ≡ get_or line n 0 = λ m n e. ap (λ (k : ℕ). get_or line k 0) e in
    elim (cases_lt x outside) [
      | inl less ↦
          c.put_same-2.ensures.before (at + x) (omega arith) ∙ c.put_part.ensures.before (at + x) (omega arith)
          ∙ c.put_same.ensures.here x less ∙ read 0 _ (sym (before_line cut x less))
      | inr more ↦ elim (cases_lt x (outside + inside)) [
        | inl less ↦
            let e : at + x ≡ at + outside + (x - outside) = omega arith in
            c.put_same-2.ensures.before (at + x) (omega arith) ∙ ap (λ (k : ℕ). get_or c.put_part.new.window k 0) e
            ∙ c.put_part.ensures.here (x - outside) (part_long line start inside (x - outside) (omega arith) (omega arith)) ∙ part_at line start inside (x - outside) (omega arith) ∙ read (start + (x - outside)) _ (sym (in_line cut x more less))
        | inr behind ↦
            let e : at + x ≡ at + outside + inside + (x - outside - inside) = omega arith in
            ap (λ (k : ℕ). get_or c.put_same-2.new.window k 0) e
            ∙ c.put_same-2.ensures.here (x - outside - inside) (omega arith)
            ∙ read (length line - 1) _ (sym (behind_line cut x behind h))
      ]
    ]
