-- Written by tools/proof-answers from proofs.map.
use Rattle.std.proofs.Common.{rules}
use Rattle.number_writer.specs.Code.{put_laws}
use Rattle.number_writer.proofs.put_bytes.Goals as goal

pub returns : goal.returns
returns c = search (put_laws, rules)
