use Rattle.std.proofs.Common.{map, string_bytes, refl}
use Rattle.std.specs.Prelude.{option_copied}
use Rattle.scripts.specs.Outside.{seen}
use Rattle.larch_cli.specs.Commands.{request_of}
use Rattle.larch_cli.proofs.Top.{answered, counts, few}
use Rattle.larch_cli.proofs.plain.larch_plain.Goals as goal

served : goal.returns-clause-serves
served g c = record {
  mid = seen (g.F.Files.told c.serve-ended.new.files) (g.S.Sink.told c.serve-ended.new.out) (g.S.Sink.told c.args.err.now);
  gives = c.serve-ended.result;
  calls = rw c.read_flags-flags.ensures at (c.serve-ended.ensures (g.S.Sink.told c.args.err.now));
  files = refl;
  out = refl;
  report = rw c.status_of.ensures at c.report.ensures;
}

pub returns-clause-serves : goal.returns-clause-serves
returns-clause-serves = served

pub returns-clause-answered : goal.returns-clause-answered
returns-clause-answered g c = answered (request_of (option_copied c.args.makeflags) (map string_bytes c.args.words.now)) _ _ _ (served g c)

pub returns-clause-counts : goal.returns-clause-counts
returns-clause-counts g c = (counts (request_of (option_copied c.args.makeflags) (map string_bytes c.args.words.now)) _ _ _ (served g c)).0

pub returns-clause-usage : goal.returns-clause-usage
returns-clause-usage g c = (counts (request_of (option_copied c.args.makeflags) (map string_bytes c.args.words.now)) _ _ _ (served g c)).1

pub returns-clause-unchanged : goal.returns-clause-unchanged
returns-clause-unchanged g c = (counts (request_of (option_copied c.args.makeflags) (map string_bytes c.args.words.now)) _ _ _ (served g c)).2

pub returns-clause-few : goal.returns-clause-few
returns-clause-few g c = few (request_of (option_copied c.args.makeflags) (map string_bytes c.args.words.now)) _ _ _ (served g c)
