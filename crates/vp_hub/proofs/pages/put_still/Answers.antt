use Rattle.std.proofs.Common.{◌≡◌, ◌≢◌, ◌++◌, ℕ, List, Option, Some, None, Result, Ok, Err, refl, sym, ap, inr, codes, ◌∙◌}
use Rattle.std.specs.Prelude.{OnOk}
use Rattle.vp_still.specs.declared.fault.StillFault.{StillFault}
use Rattle.vp_still.specs.declared.fault.StillFault.TheVariants.{TooLong, Memory}
use Rattle.vp_still.specs.Still.{kept_file}
use Rattle.vp_heads.specs.declared.request.Request.{Request}
use Rattle.vp_heads.specs.Replies.{Content, Faulted, reply_to}
use Rattle.vp_hub.specs.Forms.{Puts}
use Rattle.vp_hub.proofs.pages.put_still.Goals as goal

puts : {X Y : Type 0} (r : Result X Y) (P : Content → Type 0) (c : Content) (request : Request) (old new : List ℕ)
    → P c → OnOk r (new ≡ old ++ reply_to request c) → OnOk r (Puts P request old new)
puts (Ok x) P c request old new is put = record { content = c; content_is = is; put = put }
puts (Err e) P c request old new is put = tt

-- a packet that is kept is not too long
not_kept : (o : Option (List ℕ)) → (o ≢ None → TooLong ≡ Memory) → o ≡ None
not_kept None h = refl
not_kept (Some file) h = absurd (other (h (λ e. cc)))
  where
    other : TooLong ≡ Memory → ⊥
    other e = cc

pub returns-in-Err-TooLong : goal.returns-in-Err-TooLong
returns-in-Err-TooLong c =
    let shown = c.args.shown in
    let long : c.in-Err-TooLong.field-0 ≡ TooLong = c.in-Err-TooLong.field-0-is in
    puts c.put_faulted.result _ (Faulted (codes "TooLong")) c.args.request c.args.out.now c.put_faulted.new.out
    (inr (record {
      encoded = not_kept (kept_file c.args.scale shown.packet.now) (λ kept. sym long ∙ c.in-Err-TooLong.ensures.kept kept);
      long = c.in-Err-TooLong.ensures.too_long (ap (λ (fault : StillFault). Err fault) long);
      content = refl;
    }))
    c.put_faulted.ensures
