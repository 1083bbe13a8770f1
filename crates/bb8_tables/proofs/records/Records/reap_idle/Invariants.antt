use Rattle.bb8_types.specs.Settings.{settings_of}
use Rattle.bb8_tables.proofs.ReapWalks.{InIdle}
use Rattle.bb8_tables.proofs.records.Records.reap_idle.Given as goal

abbrev pub invariant-loop-ended : goal.invariant-loop-ended
invariant-loop-ended g l = InIdle (settings_of l.config) l.now l.fn.self l.self l.ended l.fn.closed l.closed l.fn.accesses l.accesses
