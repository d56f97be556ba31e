use Rattle.trace_trial.proofs.numbers_of.Goals as goal

pub returns : goal.returns
returns c =
    rw (
      c.flag.ensures,
      c.flag-2.ensures,
      c.flag-3.ensures,
      c.flag-4.ensures,
    )
