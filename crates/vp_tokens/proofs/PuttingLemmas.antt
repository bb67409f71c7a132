-- Partitions that were put behind their table are cut out again.
use Rattle.std.proofs.Common.{◌≡◌, ◌∙◌, ℕ, zero, suc, ◌+◌, ◌-◌, ◌*◌, ◌<◌, ◌≤◌, List, [], ◌∷◌, ◌++◌, length, get_or, take, drop, refl, sym, ap, arith, add-one, inl, inr}
use Rattle.std.specs.Prelude.{Result, Ok, Vec}
use Rattle.std.specs.List.{flat_map}
use Rattle.std.proofs.lemmas.List.{get_or-map, flat_map_more, append_assoc, append-nil, drop_at, take_at, take_more, take_all, length-append, length-take-le, get_or-take, take-append-drop}
use Rattle.std.proofs.lemmas.List.Concat.{flat_map-append}
use Rattle.std.proofs.lemmas.Bool.{cases_lt}
use Rattle.byteorder.specs.Numbers.{little_number-reads_back}
use Rattle.vp_head.specs.declared.fault.PacketFault.{PacketFault}
use Rattle.vp_tokens.specs.Partitions.{partition_size, partition_start, end, partition, partitions, cut_of, lists, size_bytes, AreBelow24Bits}
use Rattle.vp_tokens.proofs.PartitionLemmas.{end-inner, end-last, cut_all}

abbrev pub joined : List (List ℕ) → List ℕ
joined parts = flat_map (λ p. p) parts

abbrev pub table : List (List ℕ) → List ℕ
table parts = flat_map size_bytes parts

length-table : (ps : List (List ℕ)) → length (table ps) ≡ 3 * length ps
length-table [] = refl
length-table (p ∷ ps) = let e = length-table ps in omega arith

-- what stands from the entry of part i on
table-from : (ps : List (List ℕ)) (rest : List ℕ) (i : ℕ) → i < length ps
    → drop (3 * i) (table ps ++ rest) ≡ size_bytes (get_or ps i []) ++ (table (drop (i + 1) ps) ++ rest)
table-from [] rest i h = absurd (omega arith)
table-from (p ∷ ps) rest zero h = append_assoc (size_bytes p) (table ps) rest
table-from (p ∷ ps) rest (suc i) h =
    let far : 3 * suc i ≡ suc (suc (suc (3 * i))) = omega arith in
    let more : suc i + 1 ≡ suc (i + 1) = omega arith in
    rw (far, more) (table-from ps rest i (omega arith))

size-is : (ps : List (List ℕ)) (rest : List ℕ) (i : ℕ) → AreBelow24Bits ps → i < length ps → partition_size (table ps ++ rest) i ≡ length (get_or ps i [])
unfolding partition_size
size-is ps rest i small h =
    let low = small i in
    rw (table-from ps rest i h) (little_number-reads_back 3 (length (get_or ps i [])) (table (drop (i + 1) ps) ++ rest) (omega arith))

length-more : (ps : List (List ℕ)) (i : ℕ) → i < length ps → length (joined (take (i + 1) ps)) ≡ length (joined (take i ps)) + length (get_or ps i [])
length-more ps i h =
    rw (take_more ps i [] h, flat_map-append (λ (p : List ℕ). p) (take i ps) (get_or ps i [] ∷ []), length-append (joined (take i ps)) (get_or ps i [] ++ []), append-nil (get_or ps i [])) refl

-- a part among the others
joined-split : (ps : List (List ℕ)) (i : ℕ) → i < length ps → joined ps ≡ joined (take i ps) ++ (get_or ps i [] ++ joined (drop (i + 1) ps))
joined-split [] i h = absurd (omega arith)
joined-split (p ∷ ps) zero h = refl
joined-split (p ∷ ps) (suc i) h =
    let more : suc i + 1 ≡ suc (i + 1) = omega arith in
    rw (more, append_assoc p (joined (take i ps)) (get_or ps i [] ++ joined (drop (i + 1) ps))) (ap (λ (l : List ℕ). p ++ l) (joined-split ps i (omega arith)))

between_is : (front part back : List ℕ) (from to : ℕ) → from ≡ length front → to ≡ length front + length part → take (to - from) (drop from (front ++ (part ++ back))) ≡ part
between_is front part back from to e f =
    let wide : to - from ≡ length part = omega arith in
    rw (wide, drop_at front (part ++ back) from (sym e)) (take_at part back (length part) refl)

module _ (ps : List (List ℕ)) (some : 0 < length ps) (small : AreBelow24Bits (take (length ps - 1) ps)) where
  abbrev sizes : List (List ℕ)
  sizes = take (length ps - 1) ps

  abbrev pub put : List ℕ
  put = table sizes ++ joined ps

  length-sizes : length sizes ≡ length ps - 1
  length-sizes = length-take-le (length ps - 1) ps (omega arith)

  start-is : (i : ℕ) → i < length ps → partition_start put (length ps) i ≡ length (table sizes) + length (joined (take i ps))
  unfolding partition_start
  start-is zero h = let e = length-table sizes in let f = length-sizes in omega arith
  start-is (suc i) h =
      let before = start-is i (omega arith) in
      let same : get_or sizes i [] ≡ get_or ps i [] = get_or-take (length ps - 1) ps i [] (omega arith) in
      let part = rw same at (size-is sizes (joined ps) i small (omega (arith, length-sizes))) in
      let longer = rw add-one at (length-more ps i (omega arith)) in
      omega (arith, before, part, longer)

  end-is : (i : ℕ) → i < length ps → end put (length ps) i ≡ length (table sizes) + length (joined (take (i + 1) ps))
  end-is i h = elim (cases_lt (i + 1) (length ps)) [
    | inl inner ↦ end-inner put (length ps) i inner ∙ start-is (i + 1) inner
    | inr last ↦ end-last put (length ps) i last ∙ length-append (table sizes) (joined ps) ∙ ap (λ (l : List (List ℕ)). length (table sizes) + length (joined l)) (sym (take_all (i + 1) ps last))
  ]

  partition-is : (i : ℕ) → i < length ps → partition put (length ps) i ≡ get_or ps i []
  unfolding partition
  partition-is i h =
      let front = table sizes ++ joined (take i ps) in
      let part = get_or ps i [] in
      let back = joined (drop (i + 1) ps) in
      let split : put ≡ front ++ (part ++ back) = ap (λ (l : List ℕ). table sizes ++ l) (joined-split ps i h) ∙ sym (append_assoc (table sizes) (joined (take i ps)) (part ++ back)) in
      let wide : length front ≡ length (table sizes) + length (joined (take i ps)) = length-append (table sizes) (joined (take i ps)) in
      let from : partition_start put (length ps) i ≡ length front = start-is i h ∙ sym wide in
      let to : end put (length ps) i ≡ length front + length part = end-is i h ∙ (let longer = length-more ps i h in omega arith) in
      ap (λ (b : List ℕ). take (end put (length ps) i - partition_start put (length ps) i) (drop (partition_start put (length ps) i) b)) split
      ∙ between_is front part back (partition_start put (length ps) i) (end put (length ps) i) from to

  partitions-are : (k : ℕ) → k ≤ length ps → partitions put (length ps) k ≡ take k ps
  unfolding partitions
  partitions-are zero h = refl
  partitions-are (suc k) h =
      (λ j. partitions-are k (omega arith) j ++ partition-is k (omega arith) j ∷ []) ∙ sym (take_more ps k [] (omega arith)) ∙ ap (λ n. take n ps) (add-one k)

  ends-within : (i : ℕ) → i < length ps → end put (length ps) i ≤ length put
  ends-within i h =
      let whole : length put ≡ length (table sizes) + length (joined ps) = length-append (table sizes) (joined ps) in
      let halves : joined ps ≡ joined (take (i + 1) ps) ++ joined (drop (i + 1) ps) = ap joined (sym (take-append-drop (i + 1) ps)) ∙ flat_map-append (λ (p : List ℕ). p) (take (i + 1) ps) (drop (i + 1) ps) in
      let longer : length (joined ps) ≡ length (joined (take (i + 1) ps)) + length (joined (drop (i + 1) ps)) = ap length halves ∙ length-append (joined (take (i + 1) ps)) (joined (drop (i + 1) ps)) in
      let to = end-is i h in
      omega arith

  -- What was put is cut into the same partitions.
  cut-put : cut_of put (length ps) ≡ Ok ps
  cut-put =
      let whole : length put ≡ length (table sizes) + length (joined ps) = length-append (table sizes) (joined ps) in
      let table_in : 3 * (length ps - 1) ≤ length put = (let e = length-table sizes in let f = length-sizes in omega arith) in
      sym (cut_all put (length ps) table_in ends-within)
      ∙ ap (λ (l : List (List ℕ)). let r : Result (List (List ℕ)) PacketFault = Ok l in r) (partitions-are (length ps) (omega arith) ∙ take_all (length ps) ps (omega arith))

pub put_is_cut : (ps : List (List ℕ)) (n : ℕ) (bytes : List ℕ) → length ps ≡ n → 0 < n → AreBelow24Bits (take (n - 1) ps) → bytes ≡ table (take (n - 1) ps) ++ joined ps
    → ◌≡◌ {A = Result (List (List ℕ)) PacketFault} (cut_of bytes n) (Ok ps)
put_is_cut ps n bytes e some small b =
    let some' : 0 < length ps = rw e some in
    let small' : AreBelow24Bits (take (length ps - 1) ps) = rw e small in
    rw (b, ← e) (cut-put ps some' small')

-- ---- one part more

pub list_at : {A : Type 0} (parts : List (Vec ℕ A)) (i : ℕ) (v : Vec ℕ A) → i < length parts → v ≡ get_or parts i v → get_or (lists parts) i [] ≡ v.items
list_at {A = A} parts i v h e = get_or-map (λ (w : Vec ℕ A). w.items) parts i v [] h ∙ ap (λ (w : Vec ℕ A). w.items) (sym e)

pub put_more : (f : List ℕ → List ℕ) (front now new : List ℕ) (ps : List (List ℕ)) (i : ℕ) → i < length ps → now ≡ front ++ flat_map f (take i ps) → new ≡ now ++ f (get_or ps i [])
    → new ≡ front ++ flat_map f (take (i + 1) ps)
put_more f front now new ps i h e more =
    more ∙ ap (λ (l : List ℕ). l ++ f (get_or ps i [])) e ∙ flat_map_more f front (take i ps) (get_or ps i [])
    ∙ ap (λ (l : List (List ℕ)). front ++ flat_map f l) (sym (take_more ps i [] h))
