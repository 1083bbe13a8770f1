-- The names that the definitions use from other modules.
pub use Rattle.std.specs.Str.{bytes_eq}
pub use Rattle.std.specs.Char.{is_ascii_graphic}
pub use Rattle.std.specs.Option.{option_or}
pub use Rattle.bb8_runner.specs.declared.threads.arguments.Mode.TheVariants.{Script, Threads}
pub use Rattle.std.specs.List.{slice_split, before_first, after_first, position_or_len, join_with_byte, sum_by, list_all, list_any}
pub use Rattle.bb8_core.specs.declared.replay.events.Act.{Act}
pub use Rattle.bb8_types.specs.declared.reasons.Reason.TheVariants.{TimedOut, Cancelled}
pub use Rattle.bb8_core.specs.declared.replay.events.Event.{Event}
pub use Rattle.bb8_types.specs.declared.api.configuration.QueueStrategy.{QueueStrategy}
pub use Rattle.bb8_types.specs.declared.api.configuration.QueueStrategy.TheVariants.{Fifo, Lifo}
pub use Rattle.bb8_types.specs.Settings.{Settings, default_settings, is_lawful, is_unset_or_above_zero, is_unset_or_at_most, settings_of}
pub use Rattle.bb8_ledger.specs.Ledger.{Ledger, figures, opening_with}
pub use Rattle.bb8_core.specs.Run.{IsRun}
pub use Rattle.bb8_core.specs.declared.replay.events.Answer.{Answer}
pub use Rattle.bb8_runner.specs.declared.verdict.Verdict.{Verdict}
pub use Rattle.bb8_runner.specs.declared.verdict.Verdict.TheVariants.{Ran, Bad}
pub use Rattle.bb8_types.specs.Figures.{Counts, Figures, figures_of}
pub use Rattle.bb8_journal.specs.History.{events_of, answers_of, Replays}
pub use Rattle.bb8_journal.specs.Notes.{steps_of, notes_of}
pub use Rattle.std.specs.Io.KnownBytes.{Appends}
