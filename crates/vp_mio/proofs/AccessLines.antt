-- A line of the access log is put together from its fields.
use Rattle.std.proofs.Common.{◌≡◌, ◌≤◌, ◌++◌, ◌∷◌, ◌∙◌, [], ℕ, List, true, ap, append_assoc, flat_map, length}
use Rattle.std.specs.Prelude.{codes}
use Rattle.vp_mio.specs.declared.access_log.Access.{Access}
use Rattle.vp_mio.specs.AccessLine.{IsAccessLine, IsTimeText, numbers_text, peer_text, status_text}
use Rattle.vp_mio.specs.Growth.{Draft, GrowsBy}
use Rattle.vp_mio.specs.Lines.{printed, quotation}

joined : (z a t p q s u v n b1 b2 b3 b4 b5 line : List ℕ) → z ≡ [] → b1 ≡ z ++ a → b2 ≡ b1 ++ t → b3 ≡ b2 ++ p → b4 ≡ b3 ++ q → b5 ≡ b4 ++ (s ++ (u ++ v)) → line ≡ b5 ++ n
    → line ≡ a ++ (t ++ (p ++ (q ++ (s ++ (u ++ (v ++ n))))))
joined z a t p q s u v n b1 b2 b3 b4 b5 line e0 e1 e2 e3 e4 e5 e6 =
    let c1 : b1 ≡ a = e1 ∙ ap (λ x. x ++ a) e0 in
    let c2 : b2 ≡ a ++ t = e2 ∙ ap (λ x. x ++ t) c1 in
    let c3 : b3 ≡ (a ++ t) ++ p = e3 ∙ ap (λ x. x ++ p) c2 in
    let c4 : b4 ≡ ((a ++ t) ++ p) ++ q = e4 ∙ ap (λ x. x ++ q) c3 in
    let c5 : b5 ≡ (((a ++ t) ++ p) ++ q) ++ (s ++ (u ++ v)) = e5 ∙ ap (λ x. x ++ (s ++ (u ++ v))) c4 in
    let c6 : line ≡ ((((a ++ t) ++ p) ++ q) ++ (s ++ (u ++ v))) ++ n = e6 ∙ ap (λ x. x ++ n) c5 in
    c6 ∙ simp append_assoc

pub whole_line : (access : Access) (z a t p q r : Draft) (time line : List ℕ) (count : ℕ) → z.bytes ≡ [] → GrowsBy z a (codes "[") → IsTimeText access.seconds time → GrowsBy a t (flat_map printed time)
    → GrowsBy t p (flat_map printed (peer_text access.number access.peer)) → GrowsBy p q (quotation access.request.now) → count ≤ length access.reply.now
    → GrowsBy q r (codes " " ++ (flat_map printed (status_text access.reply.now) ++ flat_map printed (numbers_text count access.packets)))
    → r.is_whole ≡ true → line ≡ r.bytes ++ 10 ∷ [] → IsAccessLine access line
whole_line access z a t p q r time line count empty bracket is_time timed peered quoted within replied whole ends =
    let e5 = replied whole in
    let e4 = quoted e5.0 in
    let e3 = peered e4.0 in
    let e2 = timed e3.0 in
    let e1 = bracket e2.0 in (
      time,
      count,
      is_time,
      within,
      joined z.bytes (codes "[") (flat_map printed time) (flat_map printed (peer_text access.number access.peer)) (quotation access.request.now)
          (codes " ") (flat_map printed (status_text access.reply.now)) (flat_map printed (numbers_text count access.packets)) (10 ∷ []) a.bytes t.bytes p.bytes q.bytes r.bytes line
          empty e1.1 e2.1 e3.1 e4.1 e5.1 ends,
    )
