-- `known::known_format` meets its contract. Assumes nothing.
use Rattle.std.proofs.Common.{rules}
use Rattle.known.proofs.Formats.{looked_up}
use Rattle.known.proofs.known_format.Goals as goal

pub returns : goal.returns
returns c = search (rules, looked_up)
