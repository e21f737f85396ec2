-- `host::formats::format_from` meets its contract. Assumes nothing.
use borrow.Author.Rules.{rules}
use Rattle.host.specs.Formats.{format_from}
use Rattle.host.proofs.formats.format_from.Goals as goal

pub returns : goal.returns
unfolding format_from
returns c = search rules
