-- Names that differ.
use Rattle.std.proofs.Common.{◌≡◌, ◌∙◌, ◌&&◌, ℕ, List, [], ◌∷◌, true, false, not, length, refl, ap}
use Rattle.std.specs.List.{list_any}
use Rattle.std.specs.Str.{bytes_eq}
use Rattle.vp_hub.specs.Names.{are_distinct}

module _ (name : List ℕ) (rest more : List (List ℕ)) (is : rest ≡ name ∷ more) where
  pub distinct_more : list_any (λ x. bytes_eq x name) more ≡ false → are_distinct rest ≡ are_distinct more
  unfolding are_distinct
  distinct_more h = ap are_distinct is ∙ ap (λ b. not b && are_distinct more) h

  pub not_distinct : list_any (λ x. bytes_eq x name) more ≡ true → are_distinct rest ≡ false
  unfolding are_distinct
  not_distinct h = ap are_distinct is ∙ ap (λ b. not b && are_distinct more) h

pub none_distinct : (rest : List (List ℕ)) → length rest ≡ 0 → are_distinct rest ≡ true
unfolding are_distinct
none_distinct [] h = refl
none_distinct (x ∷ xs) h = cc
