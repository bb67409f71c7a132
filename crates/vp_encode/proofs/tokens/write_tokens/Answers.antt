use Rattle.std.proofs.Common.{◌≡◌, ◌∙◌, ◌++◌, length, map, take, drop, refl, sym, ap, arith}
use Rattle.std.proofs.lemmas.List.{length-map, take_at}
use Rattle.vp_tokens.specs.Partitions.{lists}
use Rattle.vp_encode.specs.Written.{finished}
use Rattle.vp_encode.proofs.TokenLemmas.{frame_written}
use Rattle.vp_encode.proofs.tokens.write_tokens.Goals as goal

pub returns : goal.returns
returns c =
    let es = c.write_token_rows.new.encoders in
    let parts = c.in_ok-parts.parts.items in
    let long : c.in_ok-encoders.encoders.len ≡ length es = omega (arith, c.in_ok-encoders.encoders.ok.0, c.write_token_rows.auto.encoders, ap length c.deref_mut.ensures.value) in
    let same : take c.in_ok-encoders.encoders.len (es ++ drop (length es) c.in_ok-encoders.encoders.items) ≡ es = rw long (take_at es _ (length es) refl) in
    let are : lists parts ≡ map finished es = c.in_ok-parts.ensures ∙ ap (map finished) same in
    let count : length (lists parts) ≡ c.partition_count.result = ap length are ∙ length-map es finished ∙ sym long ∙ c.in_ok-encoders.encoders.ok.0 ∙ c.in_ok-encoders.ensures.count in
    let listed : length (lists parts) ≡ length parts = length-map parts (λ v. v.items) in
    record {
      parts = record { count = count ∙ c.partition_count.ensures.value; each = λ f plan. frame_written f c.args.coded.now c.write_token_rows.new.contexts es (lists parts) plan (c.in_ok-write_token_rows.ensures f plan) are };
      some = omega arith;
      few = omega arith;
    }
