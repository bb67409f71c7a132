use Rattle.std.proofs.Common.{◌≡◌, ◌++◌, map}
use Rattle.vp_tokens.specs.Partitions.{lists}
use Rattle.vp_encode.specs.Written.{finished}
use Rattle.vp_encode.proofs.tokens.finish_all.Given as goal

abbrev pub invariant-loop-encoder : goal.invariant-loop-encoder
invariant-loop-encoder l = record {
  whole : l.fn.encoders.items ≡ l.yielded ++ l.encoder-iterator.rest.items;
  so_far : lists l.parts.items ≡ map finished l.yielded;
}
