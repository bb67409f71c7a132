-- Byte by byte is head by head.
use Rattle.std.proofs.Common.{zero, suc, append-nil, append_assoc, ◌≡◌, ◌≤◌, ◌++◌, ℕ, List, [], ◌∷◌, cond, refl, ap, sym, subst, ◌∙◌, arith, Bool, true, false, nat_lt, length, take, inl, inr}
use Rattle.std.proofs.lemmas.List.{take-append-le, take_all, length_push}
use Rattle.std.proofs.lemmas.Bool.Decides.{nat_tests}
use Rattle.vp_hub.specs.Pages.{Streams, IsReply}
use Rattle.vp_hub.specs.declared.connection.ConnectionState.{ConnectionState}
use Rattle.vp_heads.specs.Replies.{too_long}
use Rattle.vp_hub.specs.Hub.{ends_head, Chosen, Serves}
use Rattle.vp_hub.specs.Heads.{HasNoEnd, IsRequestHead, IsPartial, gone, AnswersHeads, IsCutIntoHeads}
use Rattle.vp_hub.proofs.Serving.{closed_stays}

take_shorter : (xs ys : List ℕ) (k : ℕ) → k ≤ length xs → take k (xs ++ ys) ≡ take k xs
take_shorter xs ys k h = take-append-le k xs ys h

none_at : (p : List ℕ) (b : ℕ) → HasNoEnd p → (k : ℕ) → k ≤ length p → ends_head (take k (p ++ b ∷ [])) ≡ false
none_at p b h k le = ap ends_head (take_shorter p (b ∷ []) k le) ∙ h k le

none_push : (p : List ℕ) (b : ℕ) → HasNoEnd p → ends_head (p ++ b ∷ []) ≡ false → HasNoEnd (p ++ b ∷ [])
none_push p b h e k le = by_last (nat_lt (length p) k) refl
  where
    by_last : (t : Bool) → nat_lt (length p) k ≡ t → ends_head (take k (p ++ b ∷ [])) ≡ false
    by_last true l = ap ends_head (take_all k (p ++ b ∷ []) (grind (arith, nat_tests, l, le, length_push p b))) ∙ e
    by_last false l = none_at p b h k (grind (arith, nat_tests, l))

no_end_yet : (k : ℕ) → ends_head (take k []) ≡ false
unfolding ends_head
no_end_yet zero = refl
no_end_yet (suc k) = refl

pub no_bytes_yet : IsPartial []
no_bytes_yet = record { none = λ k le. no_end_yet k; short = omega arith }

-- what is served to a piece behind these pending bytes and this output
abbrev pub Cut : Streams → List ℕ → List ℕ → List ℕ → ConnectionState × List ℕ → Type 0
Cut ss p piece out v = (hs : List (List ℕ)) × (w : ConnectionState × List ℕ) × AnswersHeads ss hs (p ++ piece) w × (v ≡ (w.0, out ++ w.1))

module _ (ss : Streams) (b : ℕ) (bs : List ℕ) (v : ConnectionState × List ℕ) (ih : (p out : List ℕ) → IsPartial p → Serves ss bs (record { pending = p; closed = false }, out) v → Cut ss p bs out v) (p out : List ℕ) (part : IsPartial p) where
  abbrev pub q : List ℕ
  q = p ++ b ∷ []

  split : p ++ b ∷ bs ≡ q ++ bs
  split = sym (append_assoc p (b ∷ []) bs)

  small : length q ≤ 8192
  small = omega (arith, length_push p b, part.short)

  head_is : ends_head q ≡ true → IsRequestHead q
  head_is h = record { ends = h; first = λ k lt. none_at p b part.none k (omega (arith, lt, length_push p b)); short = small }

  at_close : ends_head q ≡ true → (reply : List ℕ) (t : Bool) → IsReply ss q (reply, t) → Serves ss bs (record { pending = []; closed = t }, out ++ reply) v → Cut ss p (b ∷ bs) out v
  at_close h reply true r s = (q ∷ [], (gone, reply), (bs, reply, head_is h, split, inl (r, refl, refl)), closed_stays ss bs (gone, out ++ reply) v refl s)
  at_close h reply false r s =
      let c = ih [] (out ++ reply) no_bytes_yet s in
      (q ∷ c.0, (c.1.0, reply ++ c.1.1), (bs, reply, head_is h, split, inr (r, c.1, c.2, refl)), c.3 ∙ ap (λ o. (c.1.0, o)) (append_assoc out reply c.1.1))

  at_length : ends_head q ≡ false → (t : Bool) → nat_lt (length q) 8192 ≡ t
      → Serves ss bs (cond t (record { pending = q; closed = false }, out) (gone, out ++ too_long)) v → Cut ss p (b ∷ bs) out v
  at_length h true l s =
      let c = ih q out (record { none = none_push p b part.none h; short = grind (arith, nat_tests, l) }) s in
      (c.0, c.1, subst (λ xs. AnswersHeads ss c.0 xs c.1) (sym split) c.2, c.3)
  at_length h false l s = ([], (gone, too_long), inr (q, bs, record { none = none_push p b part.none h; long = grind (arith, nat_tests, l, small) }, split, refl), closed_stays ss bs (gone, out ++ too_long) v refl s)

  at_end : (t : Bool) → ends_head q ≡ t → (mid : ConnectionState × List ℕ)
      → Chosen t ((r : List ℕ × Bool) × IsReply ss q r × (mid ≡ (record { pending = []; closed = r.1 }, out ++ r.0)))
      (mid ≡ cond (nat_lt (length q) 8192) (record { pending = q; closed = false }, out) (gone, out ++ too_long))
      → Serves ss bs mid v → Cut ss p (b ∷ bs) out v
  at_end true h mid c s = at_close h c.0.0 c.0.1 c.1 (subst (λ m. Serves ss bs m v) c.2 s)
  at_end false h mid c s = at_length h (nat_lt (length q) 8192) refl (subst (λ m. Serves ss bs m v) c s)

  at_byte : Serves ss (b ∷ bs) (record { pending = p; closed = false }, out) v → Cut ss p (b ∷ bs) out v
  at_byte s = at_end (ends_head q) refl s.0 s.1 s.2

pub cut : (ss : Streams) (piece p out : List ℕ) (v : ConnectionState × List ℕ) → IsPartial p → Serves ss piece (record { pending = p; closed = false }, out) v → Cut ss p piece out v
cut ss [] p out v part s = ([], (record { pending = p; closed = false }, []), inl (subst IsPartial (sym (append-nil p)) part, ap (λ xs. (record { pending = xs; closed = false }, [])) (sym (append-nil p))), s ∙ ap (λ xs. (record { pending = p; closed = false }, xs)) (sym (append-nil out)))
cut ss (b ∷ bs) p out v part s = at_byte ss b bs v (λ p o h k. cut ss bs p o v h k) p out part s

pub cut_into_heads : IsCutIntoHeads
cut_into_heads ss p piece v part s =
    let r = cut ss piece p [] v part s in
    (r.0, subst (λ v. AnswersHeads ss r.0 (p ++ piece) v) (sym r.3) r.2)
