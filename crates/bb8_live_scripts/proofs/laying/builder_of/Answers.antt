use Rattle.std.proofs.Common.{◌≡◌, true, ltb, arith}
use Rattle.std.proofs.lemmas.Bool.Decides.{nat_tests}
use Rattle.bb8_types.specs.Settings.{Settings, settings_of, is_unset_or_above_zero, is_unset_or_at_most}
use Rattle.bb8_types.proofs.Places.{and_right}
use Rattle.bb8_live_scripts.proofs.laying.builder_of.Goals as goal

pub connection_timeout-requires : goal.connection_timeout-requires
connection_timeout-requires c =
    let s : Settings = settings_of c.args.config in
    let idle = (and_right (ltb 0 s.max_size) _ c.requires).1 in
    let life = (and_right (is_unset_or_at_most s.min_idle s.max_size) _ idle).1 in
    let rest = (and_right (is_unset_or_above_zero s.max_lifetime) _ life).1 in
    let timeout = (and_right (is_unset_or_above_zero s.idle_timeout) _ rest).1 in
    let some : ltb 0 s.connection_timeout ≡ true = (and_right (ltb 0 s.connection_timeout) _ timeout).0 in
    grind (arith, nat_tests, some)
