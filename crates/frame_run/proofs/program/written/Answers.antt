use Rattle.std.proofs.Common.{Err, ap}
use Rattle.frame_run.proofs.ProgramLemmas.{refused_json, refused_shape}
use Rattle.frame_run.proofs.program.written.Goals as goal

pub returns-in-Err-Json-clause-refused : goal.returns-in-Err-Json-clause-refused
returns-in-Err-Json-clause-refused c fault e = refused_json c.args.bytes.now fault (c.in-Err-Json.ensures.json (ap Err c.in-Err-Json.field-0-is)) e

pub returns-in-Err-Shape-clause-refused : goal.returns-in-Err-Shape-clause-refused
returns-in-Err-Shape-clause-refused c fault e = refused_shape c.args.bytes.now _ _ fault (c.in-Err-Shape.ensures.shape _ _ (ap Err c.in-Err-Shape.field-0-is)) e
