use Rattle.std.proofs.Common.{◌≡◌, ◌∙◌, ◌++◌, ◌∷◌, List, [], map, sym, ap, append_assoc}
use Rattle.std.proofs.lemmas.List.{append-nil, map-append, nil_from_length}
use Rattle.vp_bool.specs.Intervals.{Interval}
use Rattle.vp_tokens.specs.Partitions.{lists}
use Rattle.vp_encode.specs.Written.{finished}
use Rattle.vp_encode.proofs.tokens.finish_all.Goals as goal

pub loop-encoder-preserved : goal.loop-encoder-preserved
loop-encoder-preserved c =
    let steps = c.in-Some.ensures.steps in
    let found = c.loop-encoder.parts.items in
    let part = c.in_ok-part.part in
    let here = c.loop-encoder.yielded in
    record {
      whole = c.loop-encoder.invariant.whole ∙ ap (λ (l : List Interval). here ++ l) steps.0 ∙ sym (append_assoc here (c.in-Some.encoder ∷ []) c.next.new.self.rest.items);
      so_far =
          ap lists c.in_ok-push.ensures.items
          ∙ map-append (λ v. v.items) found (part ∷ [])
          ∙ (λ i. c.loop-encoder.invariant.so_far i ++ c.in_ok-part.ensures i ∷ [])
          ∙ sym (map-append finished here (c.in-Some.encoder ∷ []));
    }

pub returns : goal.returns
returns c =
    let rest = c.loop-encoder.encoder-iterator.rest in
    let none : rest.items ≡ [] = nil_from_length rest.items (sym rest.ok.0 ∙ c.in-None.ensures.steps.0) in
    let all_of : c.args.encoders.items ≡ c.loop-encoder.yielded = c.loop-encoder.invariant.whole ∙ ap (λ (l : List Interval). c.loop-encoder.yielded ++ l) none ∙ append-nil c.loop-encoder.yielded in
    c.loop-encoder.invariant.so_far ∙ ap (map finished) (sym all_of)
