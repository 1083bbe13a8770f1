-- The spelling of events and configurations: each line is one of these, and no other line is
-- accepted.
use Rattle.std.specs.Prelude.{◌≡◌, ℕ, ◌^◌, ◌<◌, List, [], ◌∷◌, ◌++◌, map, ⊤, Bool, true, false, Option, Some, None, IfSome, option_to_list, codes, decimal}
use Rattle.bb8_runner.specs.Words.{bytes_eq, join_with_byte, list_any, Act, TimedOut, Cancelled, Event, QueueStrategy, Fifo, Lifo, Settings, default_settings, is_lawful}
use Rattle.bb8_core.specs.declared.replay.events.Act.TheVariants as kind

-- the words of an act: a verb, a number if there is one, and whether `broken` or `claimed` follows
pub record Words : Type 0 where
  pub verb : List ℕ
  pub number : Option ℕ
  pub broken : Bool
  pub claimed : Bool

-- a verb alone
abbrev pub plain : List ℕ → Words
plain verb = record { verb = verb; number = None; broken = false; claimed = false }

-- a verb, and a number after it
abbrev pub numbered : List ℕ → ℕ → Words
numbered verb n = record { verb = verb; number = Some n; broken = false; claimed = false }

-- a verb and a number, and whether `broken` follows
abbrev pub flagged : List ℕ → ℕ → Bool → Words
flagged verb n broken = record { verb = verb; number = Some n; broken = broken; claimed = false }

-- the words of each act
abbrev pub words_of : Act → Words
words_of kind.Begin = plain (codes "begin")
words_of (kind.Try g) = numbered (codes "try") g
words_of (kind.CheckedOk g) = numbered (codes "ok") g
words_of (kind.CheckedErr g b) = flagged (codes "err") g b
words_of (kind.GiveUp g TimedOut b) = flagged (codes "timeout") g b
words_of (kind.GiveUp g Cancelled b) = flagged (codes "cancel") g b
words_of (kind.PutBack k b) = flagged (codes "return") k b
words_of (kind.Detach k) = numbered (codes "detach") k
words_of (kind.Evict k) = numbered (codes "evict") k
words_of (kind.Fill c) = record { verb = codes "fill"; number = None; broken = false; claimed = c }
words_of kind.Ask = plain (codes "ask")
words_of kind.Claim = plain (codes "claim")
words_of (kind.Opened a) = numbered (codes "open") a
words_of (kind.Failed a) = numbered (codes "fail") a
words_of (kind.Add b) = record { verb = codes "add"; number = None; broken = b; claimed = false }
words_of kind.Reap = plain (codes "reap")
words_of kind.Retire = plain (codes "retire")
words_of kind.State = plain (codes "state")
words_of kind.Join = plain (codes "join")
words_of kind.Leave = plain (codes "leave")
words_of kind.Close = plain (codes "close")
words_of kind.Look = plain (codes "look")

-- the word before others, if it is set
abbrev pub flag : List ℕ → Bool → List (List ℕ) → List (List ℕ)
flag word true others = word ∷ others
flag word false others = others

-- the fields after the verb
abbrev pub args_of : Words → List (List ℕ)
args_of w = map decimal (option_to_list w.number) ++ flag (codes "broken") w.broken (flag (codes "claimed") w.claimed [])

-- the verb and its arguments
abbrev pub act_fields : Act → List (List ℕ)
act_fields a = (words_of a).verb ∷ args_of (words_of a)

-- whether the number in an act is a u64
abbrev pub FitsAct : Act → Type 0
FitsAct a = IfSome (words_of a).number (λ n. n < 2 ^ 64)

-- whether the moment and the number in an event are u64
pub record FitsEvent (e : Event) : Type 0 where
  pub moment : e.at.0 < 2 ^ 64
  pub act : FitsAct e.act

-- the fields of an event's line: its moment, its verb and its arguments
abbrev pub event_fields : Event → List (List ℕ)
event_fields e = decimal e.at.0 ∷ act_fields e.act

-- whether the fields spell the event
pub record SpellsEvent (fields : List (List ℕ)) (e : Event) : Type 0 where
  pub fits : FitsEvent e
  pub spelled : fields ≡ event_fields e

-- the line of an event: its fields, separated by single spaces
abbrev pub event_line : Event → List ℕ
event_line e = join_with_byte 32 (event_fields e)

-- one setting of the first line
pub data Setting : Type 0 where
  MaxSize : ℕ → Setting
  MinIdle : Option ℕ → Setting
  Check : Bool → Setting
  TestAfter : ℕ → Setting
  Lifetime : Option ℕ → Setting
  Idle : Option ℕ → Setting
  Timeout : ℕ → Setting
  Reaper : ℕ → Setting
  Retry : Bool → Setting
  Strategy : QueueStrategy → Setting

-- the name before the `=`
abbrev pub name_of : Setting → List ℕ
name_of (MaxSize n) = codes "max_size"
name_of (MinIdle n) = codes "min_idle"
name_of (Check b) = codes "check"
name_of (TestAfter n) = codes "test_after"
name_of (Lifetime n) = codes "lifetime"
name_of (Idle n) = codes "idle"
name_of (Timeout n) = codes "timeout"
name_of (Reaper n) = codes "reaper"
name_of (Retry b) = codes "retry"
name_of (Strategy s) = codes "strategy"

-- a number, or `none`
abbrev pub limit_text : Option ℕ → List ℕ
limit_text (Some n) = decimal n
limit_text None = codes "none"

-- `on` or `off`
abbrev pub switch_text : Bool → List ℕ
switch_text true = codes "on"
switch_text false = codes "off"

-- `fifo` or `lifo`
abbrev pub strategy_text : QueueStrategy → List ℕ
strategy_text Fifo = codes "fifo"
strategy_text Lifo = codes "lifo"

-- the value after the `=`
abbrev pub value_of : Setting → List ℕ
value_of (MaxSize n) = decimal n
value_of (MinIdle n) = limit_text n
value_of (Check b) = switch_text b
value_of (TestAfter n) = decimal n
value_of (Lifetime n) = limit_text n
value_of (Idle n) = limit_text n
value_of (Timeout n) = decimal n
value_of (Reaper n) = decimal n
value_of (Retry b) = switch_text b
value_of (Strategy s) = strategy_text s

-- the field of a setting
abbrev pub setting_field : Setting → List ℕ
setting_field x = name_of x ++ 61 ∷ value_of x

-- whether a limit, if it is set, is below 2 ^ k
abbrev pub FitsLimit : ℕ → Option ℕ → Type 0
FitsLimit k (Some n) = n < 2 ^ k
FitsLimit k None = ⊤

-- whether the number in a setting is in the range of its type
abbrev pub FitsSetting : Setting → Type 0
FitsSetting (MaxSize n) = n < 2 ^ 32
FitsSetting (MinIdle n) = FitsLimit 32 n
FitsSetting (TestAfter n) = n < 2 ^ 64
FitsSetting (Lifetime n) = FitsLimit 64 n
FitsSetting (Idle n) = FitsLimit 64 n
FitsSetting (Timeout n) = n < 2 ^ 64
FitsSetting (Reaper n) = n < 2 ^ 64
FitsSetting _ = ⊤

-- whether each number in these settings is in the range of its type
abbrev pub AllFit : List Setting → Type 0
AllFit [] = ⊤
AllFit (x ∷ xs) = FitsSetting x × AllFit xs

-- whether no setting of the list has the name
abbrev pub LacksName : List ℕ → List Setting → Type 0
LacksName name xs = list_any (λ x. bytes_eq (name_of x) name) xs ≡ false

-- whether each of these settings, which come after others, has another name than those before it
abbrev pub AreDistinct : List Setting → List Setting → Type 0
AreDistinct before [] = ⊤
AreDistinct before (x ∷ xs) = LacksName (name_of x) before × AreDistinct (before ++ x ∷ []) xs

-- a configuration with one setting changed
abbrev pub made : Settings → Setting → Settings
made s (MaxSize n) = record s { max_size = n }
made s (MinIdle n) = record s { min_idle = n }
made s (Check b) = record s { test_on_check_out = b }
made s (TestAfter n) = record s { test_after = n }
made s (Lifetime n) = record s { max_lifetime = n }
made s (Idle n) = record s { idle_timeout = n }
made s (Timeout n) = record s { connection_timeout = n }
made s (Reaper n) = record s { reaper_rate = n }
made s (Retry b) = record s { retry_connection = b }
made s (Strategy q) = record s { queue_strategy = q }

-- a configuration with these settings changed
abbrev pub all_made : Settings → List Setting → Settings
all_made s [] = s
all_made s (x ∷ xs) = all_made (made s x) xs

-- The fields spell the configuration: the word `config`, and settings of different names in any
-- order. What is not set has its default, and a pool accepts the whole.
pub record SpellsSettings (fields : List (List ℕ)) (s : Settings) : Type 0 where
  pub chosen : List Setting
  pub fit : AllFit chosen
  pub distinct : AreDistinct [] chosen
  pub spelled : fields ≡ codes "config" ∷ map setting_field chosen
  pub settings : s ≡ all_made default_settings chosen
  pub lawful : is_lawful s ≡ true
