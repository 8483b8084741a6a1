use Rattle.std.proofs.Common.{min, refl, arith, rules}
use Rattle.linear.specs.Rows.{most_numbers}
use Rattle.linear.proofs.Made.{filled_made}
use Rattle.voter.specs.declared.reading.Reading.{Reading}
use Rattle.format.specs.Recordings.{spoken}
use Rattle.format.proofs.recording.sensor_row.Goals as goal

pub returns : goal.returns
returns c =
    filled_made (λ (r : Reading). r.0) _ (min c.args.n most_numbers) most_numbers (spoken c.args.bytes.now c.args.c) refl (omega arith) c.from_fn.ensures.items (λ i y q l e. search rules)
