use Rattle.bb8_types.specs.Settings.{settings_of}
use Rattle.bb8_tables.proofs.ReapWalks.{InBirths}
use Rattle.bb8_tables.proofs.records.Records.reap_aged.Given as goal

abbrev pub invariant-loop : goal.invariant-loop
invariant-loop g l = InBirths (settings_of l.config) l.now l.fn.self l.fn.closed l.fn.accesses l.end l.self-inside l.many l.at l.closed l.accesses l.counter
