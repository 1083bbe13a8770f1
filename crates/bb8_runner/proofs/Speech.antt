-- The words that the proofs speak with.
pub use Rattle.bb8_ledger.proofs.Words.{◌≡◌, ℕ, List, arith, refl, Some, ap, Bool, true, false, None, ◌∙◌, [], ◌<◌, Option, ◌+◌, eqb, cond, subst, map, ◌∷◌, length, sym, ◌&&◌, ◌++◌, ◌≢◌, take, suc, zero, ◌≤◌, ltb, false≢true, option_map, is_lawful, Lifo, QueueStrategy, length-append, Fifo, not, Settings, length-map, length-take, drop, nat_tests, Figures, Counts, Grant, ◌⊎◌, inl, inr}
pub use Rattle.std.proofs.Common.{get_or, codes, ◌^◌, Bor, lit<, ◌/◌, ◌%◌, Result, Err, Ok, ◌||◌, unwrap_or, rules, tests}
pub use Rattle.std.proofs.lemmas.Bool.Decides.{Decides-eqb, Decides-ltb}
pub use Rattle.std.proofs.lemmas.Iterator.Consumers.{map_from_collect}
pub use Rattle.std.proofs.lemmas.Iterator.Splits.{YieldsList-from_str_split, YieldsList-from_slice_split}
pub use Rattle.std.proofs.lemmas.List.{get_or-map, take-map, at_drop_all, at_drop_more}
pub use Rattle.std.proofs.lemmas.List.Elements.{All-weaker, All-nil, All-append, All-cons, All-head, All-tail}
pub use Rattle.std.proofs.lemmas.Slice.Eq.{bytes_eq-Decides}
pub use Rattle.std.specs.Bool.{then_some, Decides}
pub use Rattle.std.specs.Fmt.{decimal, digit_glyph, digits_onto}
pub use Rattle.std.specs.List.{All, position_or_len, before_first, after_first, join_with_byte, list_any}
pub use Rattle.std.specs.Str.{bytes_eq, IsUtf8, IsAscii}
pub use Rattle.bb8_types.specs.Figures.{figures_of}
pub use Rattle.bb8_types.specs.declared.reasons.Reason.TheVariants.{TimedOut, Cancelled}
pub use Rattle.bb8_core.specs.declared.replay.events.Act.{Act}
pub use Rattle.bb8_core.specs.declared.replay.events.Event.{Event}
pub use Rattle.bb8_runner.specs.Grammar.{◌>>=◌, said, found, Message, fields_of, event_of, plain_acts, worded_act, numbered_acts, flagged_acts, number_of}
pub use Rattle.bb8_runner.specs.Script.{IsFirstNoEvent, Spells}
pub use Rattle.bb8_runner.specs.Spelling.{words_of, act_fields, args_of, strategy_text, made, all_made, setting_field, Check, TestAfter, AllFit, FitsLimit, name_of, AreDistinct, Strategy, value_of, Reaper, MinIdle, LacksName, Retry, MaxSize, Timeout, Idle, switch_text, Setting, Lifetime, limit_text, FitsSetting, SpellsSettings, FitsAct, SpellsEvent, flag, event_fields, FitsEvent, event_line}
pub use Rattle.bb8_runner.specs.Text.{answer_text, notifies_text, grant_text, state_text, gone_text, gets_text, connections_text, output_of, line}
pub use Rattle.bb8_runner.specs.Opening.{on_or_off, strategy_of, settings_of_fields, settings_of_line}
pub use Rattle.bb8_types.specs.Settings.{settings_of, default_settings}
pub use Rattle.bb8_core.proofs.Words.{IsRun, opening}
