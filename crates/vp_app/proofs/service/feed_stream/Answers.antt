use Rattle.std.proofs.Common.{◌≡◌, true, false, rules}
use Rattle.std.specs.Prelude.{codes}
use Rattle.std.specs.Str.{bytes_eq}
use Rattle.vp_app.proofs.ServingLemmas.{from_input, from_file}
use Rattle.vp_app.proofs.service.feed_stream.Goals as goal

pub returns-then-eq-clause-fed : goal.returns-then-eq-clause-fed
returns-then-eq-clause-fed g c =
    let is : bytes_eq c.args.stream.now.file.now (codes "-") ≡ true = search rules in
    from_input c.args.stream.now c.args.hub.now.state c.feed.new.hub.state (g.R.Read.remaining c.args.input.now.inner) (g.R.Read.remaining c.feed.new.reader.inner) c.feed.result is c.feed.ensures.fed

pub returns-in-Ok-clause-fed : goal.returns-in-Ok-clause-fed
returns-in-Ok-clause-fed g c =
    let is : bytes_eq c.args.stream.now.file.now (codes "-") ≡ false = search rules in
    from_file c.args.stream.now c.args.hub.now.state _ _ _ _ c.feed-fed.result is c.feed-fed.ensures.fed
