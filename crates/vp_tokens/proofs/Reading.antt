-- What is read by flags is what the grid says.
use Rattle.std.proofs.Common.{◌≡◌, ◌∙◌, ℕ, zero, suc, ◌+◌, ◌<◌, Bool, true, false, cond, List, [], get_or, refl, ap, sym, arith, inl, inr}
use Rattle.std.specs.Prelude.{not}
use Rattle.std.proofs.lemmas.Bool.{cases_eq, le-ltb, eq-eqb, ne_eqb}
use Rattle.vp_base.specs.declared.place.Place.{Place}
use Rattle.vp_base.specs.Grid.{Grid}
use Rattle.vp_bool.specs.Bools.{State}
use Rattle.vp_bool.specs.Reader.{Reader, rows, bind, when}
use Rattle.vp_tokens.specs.declared.contexts.Tokens.{Tokens}
use Rattle.vp_tokens.specs.Block.{Block}
use Rattle.vp_tokens.specs.Levels.{Probabilities}
use Rattle.vp_tokens.specs.Blocks.{Blocks, context, block_at, no_blocks, without_tokens, macroblock}
use Rattle.vp_tokens.specs.Contexts.{had_of, Contexts, AreContextsAt, above_flags, left_flags}
use Rattle.vp_tokens.specs.Pieces.{all_blocks}
use Rattle.vp_tokens.specs.Flagged.{by_flags, left_at}
use Rattle.vp_tokens.proofs.Around.{above_is, left_is, left_flags-first}

pub pair_is : {A : Type 0} (x : A × State) (a : A) (s : State) → x.0 ≡ a → x.1 ≡ s → x ≡ (a, s)
pair_is x a s p q = λ i. (p i, q i)

-- the flags above the macroblock at p, and to its left
pub above_at-is : (g : Grid Blocks) (p : Place) (c : Contexts) → AreContextsAt g p c → p.column < g.columns → get_or c.above p.column [] ≡ above_flags g p
above_at-is g p c f b =
    f.above p.column b
    ∙ ap (above_flags g) (ap (λ (t : Bool). let q : Place = record { column = p.column; row = cond t (p.row + 1) p.row } in q) (le-ltb p.column p.column (omega arith)))

pub left_at-is : (g : Grid Blocks) (p : Place) (c : Contexts) → AreContextsAt g p c → left_at c p ≡ left_flags g p
left_at-is g p c f = elim (cases_eq p.column 0) [
  | inl z ↦ rw (eq-eqb p.column 0 z) (sym (left_flags-first g p [] z))
  | inr some ↦ rw (ne_eqb p.column 0 some) (f.left (omega arith))
]

rows-same : {A : Type 0} (n : ℕ) (f g : ℕ → A → Reader A) → ((k : ℕ) (a : A) (s : State) → k < n → f k a s ≡ g k a s) → (a : A) (s : State) → rows n f a s ≡ rows n g a s
unfolding rows bind
rows-same zero f g e a s = refl
rows-same {A = A} (suc n) f g e a s =
    ap (λ (z : A × State). f n z.0 z.1) (rows-same n f g (λ k b t l. e k b t (omega arith)) a s) ∙ e n (rows n g a s).0 (rows n g a s).1 (omega arith)

when-same : {A : Type 0} (b : Bool) (f g : Reader A) (a : A) (s : State) → f s ≡ g s → when b f a s ≡ when b g a s
when-same true f g a s e = e
when-same false f g a s e = refl

-- equal contexts, equal blocks
blocks-same : (p : Probabilities) (has_y2 skipped : Bool) (f g : List Bool → ℕ → ℕ) → ((found : List Bool) (k : ℕ) → k < 25 → f found k ≡ g found k) → (s : State)
    → all_blocks p has_y2 skipped f s ≡ all_blocks p has_y2 skipped g s
unfolding block_at
blocks-same p has_y2 skipped f g same s =
    when-same (not skipped) _ _ no_blocks s (rows-same 25 (block_at p has_y2 f) (block_at p has_y2 g)
    (λ k blocks t b. ap (λ (v : ℕ). block_at p has_y2 (λ (w : List Bool) (j : ℕ). v) k blocks t) (same (had_of blocks) k b)) no_blocks s)

pub all_read : (p : Probabilities) (has_y2 skipped : Bool) (f : List Bool → ℕ → ℕ) (s : State) (z : List Block × State) → skipped ≡ false → rows 25 (block_at p has_y2 f) no_blocks s ≡ z
    → all_blocks p has_y2 skipped f s ≡ z
all_read p has_y2 skipped f s z e r = rw e r

-- The contexts by flags are those by the grid.
pub macroblock-is : (p : Probabilities) (g : Grid Blocks) (at : Place) (has_y2 skipped : Bool) (above left : List Bool) → above ≡ above_flags g at → left ≡ left_flags g at → (s : State)
    → (let z = all_blocks p has_y2 skipped (by_flags above left) s in let t : Tokens × State = (record { blocks = z.0 }, z.1) in t) ≡ macroblock p g at has_y2 skipped s
unfolding macroblock bind
macroblock-is p g at has_y2 skipped above left a l s =
    ap (λ (z : List Block × State). let t : Tokens × State = (record { blocks = z.0 }, z.1) in t)
    (blocks-same p has_y2 skipped (by_flags above left) (context g at) (λ found k b. rw (a, l, above_is g at found k b, left_is g at found k b) refl) s)

-- Of a skipped macroblock nothing is read.
pub macroblock-skipped : (p : Probabilities) (g : Grid Blocks) (at : Place) (has_y2 : Bool) (s : State) → macroblock p g at has_y2 true s ≡ (without_tokens, s)
unfolding macroblock bind
macroblock-skipped p g at has_y2 s = refl
