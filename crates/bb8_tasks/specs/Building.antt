-- The table of the polls of a build, for anything that makes the pool and its first tasks, and any
-- round of these.
use Rattle.std.specs.Prelude.{◌≡◌, Result, Ok, Err}
use Rattle.bb8_tasks.specs.Words.{Poll, Ready, Pending, Round}
use Rattle.bb8_types.specs.declared.api.errors.Memory.{Memory}
use Rattle.bb8_types.specs.declared.api.errors.RunError.{RunError}
use Rattle.bb8_types.specs.declared.api.errors.RunError.TheVariants as errors
use Rattle.bb8_tasks.specs.declared.building.BuildingStage.{BuildingStage}
use Rattle.bb8_tasks.specs.declared.building.BuildingStage.TheVariants.{Planned, Opening, Done}
use Rattle.bb8_tasks.specs.declared.rounds.Round.TheVariants.{Failed, Complete, Going}

module _ {I P T E : Type 0} (rounds : P → T → Round T E → Type 0) where
  -- After a round of the tasks: the first failure ends the build with its error; the pool is the
  -- result once no task is left.
  abbrev pub AfterFirstRound : Round T E → P → Poll (Result P (RunError E)) → BuildingStage I P T → Type 0
  AfterFirstRound (Failed e) p r s = (r ≡ Ready (Err (errors.User e))) × (s ≡ Done)
  AfterFirstRound Complete p r s = (r ≡ Ready (Ok p)) × (s ≡ Done)
  AfterFirstRound (Going ts) p r s = (r ≡ Pending) × (s ≡ Opening p ts)

  -- the remaining tasks are polled, each once
  abbrev pub Sweeps : P → T → Poll (Result P (RunError E)) → BuildingStage I P T → Type 0
  Sweeps p ts r s = (round : Round T E) × rounds p ts round × AfterFirstRound round p r s

module _ {I P T E : Type 0} (makes : I → Result (P × T) Memory → Type 0) (rounds : P → T → Round T E → Type 0) where
  -- after the pool was made, or memory was refused
  abbrev pub AfterMake : Result (P × T) Memory → Poll (Result P (RunError E)) → BuildingStage I P T → Type 0
  AfterMake (Ok made) r s = Sweeps rounds made.0 made.1 r s
  AfterMake (Err refused) r s = (r ≡ Ready (Err errors.Memory)) × (s ≡ Done)

  -- The whole poll: the first one makes the pool, and each polls the remaining tasks. After the
  -- result each poll is pending and changes nothing.
  abbrev pub BuildingPolls : BuildingStage I P T → Poll (Result P (RunError E)) → BuildingStage I P T → Type 0
  BuildingPolls (Planned i) r s = (made : Result (P × T) Memory) × makes i made × AfterMake made r s
  BuildingPolls (Opening p ts) r s = Sweeps rounds p ts r s
  BuildingPolls Done r s = (r ≡ Pending) × (s ≡ Done)
