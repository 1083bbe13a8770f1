-- The words that the proofs speak with.
pub use Rattle.bb8_tasks.proofs.Words.{subst, ◌≡◌, ℕ, ◌+◌, ◌^◌, ◌<◌, ◌≤◌, length, Bool, true, false, Option, Some, None, refl, sym, ap, ◌∙◌, arith, fits, as_nanos}
pub use Rattle.bb8_types.specs.Settings.{Settings, settings_of, is_lawful}
pub use Rattle.bb8_ledger.specs.Ledger.{Ledger, Later, next, records, opening_with}
pub use Rattle.bb8_core.specs.StepAnswers.{answer_of_add}
pub use Rattle.bb8_core.specs.StepBounds.{out_of}
pub use Rattle.std.proofs.lemmas.Option.{IfSome_then}
pub use Rattle.bb8_lock.specs.Traces.{EndsAt, WaitsOnce}
