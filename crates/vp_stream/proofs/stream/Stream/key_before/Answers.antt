use Rattle.std.proofs.Common.{◌≡◌, arith, ap, ◌∙◌, List, ℕ, Option}
use Rattle.std.proofs.lemmas.Grind.{common_steps}
use Rattle.vp_ivf.specs.declared.packet.Packet.{Packet}
use Rattle.vp_ivf.specs.Ivf.{Contents}
use Rattle.vp_stream.specs.Seeking.{IsKeyBefore, key_before}
use Rattle.vp_stream.proofs.KeyLemmas.{is_key_before}
use Rattle.vp_stream.proofs.stream.Stream.key_before.Goals as goal

greatest : (ps : List Packet) (n : ℕ) (o : Option ℕ) → o ≡ key_before ps n → IsKeyBefore ps n o
greatest ps n o e = rw e (is_key_before ps n)

pub returns-clause-greatest : goal.returns-clause-greatest
returns-clause-greatest c = greatest c.args.self.now.reading.packets c.args.n c.key_of.result (grind (arith, common_steps))

pub returns-clause-packets : goal.returns-clause-packets
returns-clause-packets c h stands =
    greatest _ c.args.n c.key_of.result
    (let e : c.key_of.result ≡ key_before c.args.self.now.reading.packets c.args.n = grind (arith, common_steps) in
    e ∙ ap (λ (r : Contents). key_before r.packets c.args.n) stands.reading)
