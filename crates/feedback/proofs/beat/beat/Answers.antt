use Rattle.feedback.proofs.beat.beat.Goals as goal

pub returns-in-Err-clause-taken : goal.returns-in-Err-clause-taken
returns-in-Err-clause-taken c x sound = cc (c.in-Err.ensures.succeeds x sound)
