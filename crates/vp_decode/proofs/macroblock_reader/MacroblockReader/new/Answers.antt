use Rattle.vp_decode.proofs.Words.{◌≡◌, ◌∙◌, ◌*◌, length, arith, refl, sym, IfSome, intra}
use Rattle.vp_decode.proofs.macroblock_reader.MacroblockReader.new.Goals as goal
use Rattle.vp_decode.proofs.macroblock_reader.MacroblockReader.new.Goals.{Joined-context, in-Some, in-None}

whole : (c : Joined-context) → IfSome c.match-context.kept_segments (λ s. length s.now ≡ c.from-rows.result * c.from-columns.result)
whole c = elim c.match-context.branch [
  | in-Some w ↦
      let rows = (rw w.in-Some.is at c.context.invariant.rows) ∙ sym (c.from-rows.ensures ∙ c.mb_rows.ensures.value) in
      let columns = (rw w.in-Some.is at c.context.invariant.columns) ∙ sym (c.from-columns.ensures ∙ c.mb_cols.ensures.value) in
      rw w.kept_segments-is (w.as_slice.ensures.whole ∙ (λ i. rows i * columns i))
  | in-None w ↦ rw w.kept_segments-is tt
]

pub invariant_of-result-3 : goal.invariant_of-result-3
unfolding intra
invariant_of-result-3 c =
    let memory = c.in_ok-reserve.ensures.ok in
    let none = c.truncate.ensures.len in (
      omega (arith, c.from-columns.ensures, c.mb_cols.ensures.bound),
      omega (arith, c.from-rows.ensures, c.mb_rows.ensures.bound),
      whole (goal.at.invariant_of-result-3 c).Joined-context,
      omega (arith, memory, none),
      refl,
    )
