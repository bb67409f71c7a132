use Rattle.std.proofs.Common.{◌≡◌, ◌<◌, ℕ, [], Bool, get_or}
use Rattle.vp_loop.specs.declared.strength.Level.{Level}
use Rattle.vp_loop.specs.declared.strength.MacroblockKind.{MacroblockKind}
use Rattle.vp_loop.specs.declared.level_table.LevelTable.{LevelTable}
use Rattle.vp_head.specs.declared.fields.Header.{Header}
use Rattle.vp_loop.specs.Levels.{filter_level}
use Rattle.vp_loop.specs.LevelTable.{reference_index, class_index, level_if, no_levels, AreFrameLevels}
use Rattle.vp_loop.proofs.level_table.LevelTable.level.Goals as goal

abbrev entry : LevelTable → ℕ → ℕ → ℕ → Bool → Level
entry table s r m coded = level_if coded (get_or (get_or (get_or table.segments s (record { references = [] })).references r (record { classes = [] })).classes m no_levels)

found : (header : Header) (table : LevelTable) (segment s r m : ℕ) (coded : Bool) (kind : MacroblockKind) → AreFrameLevels header table → segment < 4
    → s ≡ segment → r ≡ reference_index kind.reference → m ≡ class_index kind.prediction → kind.coded ≡ coded
    → entry table s r m coded ≡ filter_level header segment kind
found header table segment s r m coded kind are below es er em ec =
    let own = are segment below kind.reference kind.prediction kind.coded in
    cc

pub returns-then-kind : goal.returns-then-kind
returns-then-kind c header are =
    found header c.args.self.now c.args.segment _ _ _ _ c.args.kind.now are c.requires c.from.ensures c.reference_index.ensures.value c.class_index.ensures.value c.if-kind.true

pub returns-else-kind : goal.returns-else-kind
returns-else-kind c header are =
    found header c.args.self.now c.args.segment _ _ _ _ c.args.kind.now are c.requires c.from.ensures c.reference_index.ensures.value c.class_index.ensures.value c.if-kind.false
