use Rattle.std.proofs.Common.{◌≡◌, ℕ, ◌+◌, ◌-◌, List, arith, ◌∙◌, ap, sym, take, drop, get_or}
use Rattle.std.specs.Prelude.{replicate}
use Rattle.std.proofs.lemmas.Slice.Eq.{slice_eq-Decides}
use Rattle.std.proofs.lemmas.Bool.Decides.{Decides-eqb}
use lib.Seq.{get_or-take, get_or-drop}
use Rattle.vp_head.proofs.TailLemmas.{all_rare}
use Rattle.vp_head.proofs.probabilities.has_rare_tail.Goals as goal

pub returns : goal.returns
returns c h i low high =
    let table : List ℕ = c.args.table.now in
    let same : take 8 (drop 3 table) ≡ replicate 8 255 = (slice_eq-Decides Decides-eqb (take 8 (drop 3 table)) (replicate 8 255) c.eq.result c.eq.ensures).0 h in
    let back : 3 + (i - 3) ≡ i = omega arith in
    let there : get_or (take 8 (drop 3 table)) (i - 3) 0 ≡ get_or table i 0 = get_or-take 8 (drop 3 table) (i - 3) 0 (omega arith) ∙ get_or-drop 3 table (i - 3) 0 ∙ ap (λ k. get_or table k 0) back in
    sym there ∙ ap (λ (l : List ℕ). get_or l (i - 3) 0) same ∙ all_rare 8 (i - 3) (omega arith)
