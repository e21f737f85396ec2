-- A lookup's result in numbers meets its contract. Assumes nothing.
use Rattle.std.proofs.Common.{rules}
use Rattle.host.specs.Formats.{in_numbers}
use Rattle.host.proofs.FormatsInNumbers.{found-in_numbers}
use Rattle.host.proofs.formats.KnownFormatFromResultFormatRefusal.from.Goals as goal

pub returns-in-Ok : goal.returns-in-Ok
returns-in-Ok c = rw c.in-Ok.is (found-in_numbers c.in-Ok.format)

pub returns-in-Err : goal.returns-in-Err
unfolding in_numbers
returns-in-Err c = search rules
