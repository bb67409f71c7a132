use Rattle.std.proofs.Common.{◌≡◌, ◌∙◌, ◌<◌, ℕ, [], ◌∷◌, get_or, ap, arith}
use Rattle.vp_loop.specs.declared.level_table.SegmentLevels.{SegmentLevels}
use Rattle.vp_loop.specs.LevelTable.{reference_index, class_index, level_if, no_levels}
use Rattle.vp_loop.proofs.LevelLemmas.{one_segment}
use Rattle.vp_loop.proofs.level_table.LevelTable.of.Goals as goal

four_alike : (x none : SegmentLevels) (k : ℕ) → k < 4 → get_or (x ∷ x ∷ x ∷ x ∷ []) k none ≡ x
four_alike x none k below = grind arith

pub returns-else-header : goal.returns-else-header
returns-else-header c segment below reference class coded =
    ap (λ (s : SegmentLevels). level_if coded (get_or (get_or s.references (reference_index reference) (record { classes = [] })).classes (class_index class) no_levels))
    (four_alike c.segment_levels-first.result (record { references = [] }) segment below)
    ∙ c.segment_levels-first.ensures.value reference class coded
    ∙ one_segment c.args.header.now 0 segment (record { reference = reference; prediction = class; coded = coded }) c.if-header.false
