-- Written by tools/proof-answers from proofs.map.
use Rattle.std.proofs.Common.{rules}
use Rattle.number_writer.specs.Code.{seven_laws}
use Rattle.number_writer.proofs.fits.Goals as goal

pub returns-then-left-lt64 : goal.returns-then-left-lt64
returns-then-left-lt64 c = search (seven_laws, rules)

pub returns-then-signed : goal.returns-then-signed
returns-then-signed c = search (seven_laws, rules)

pub returns : goal.returns
returns c = search (seven_laws, rules)
