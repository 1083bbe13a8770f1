use Rattle.bb8_tasks.proofs.Words.{inl, inr, as_nanos}
use Rattle.bb8_tasks.proofs.Ending.{ended}
use Rattle.bb8_tasks.proofs.tasks.Tasks.turn.Goals as goal

pub finish-requires : goal.finish-requires
finish-requires g c = ended g.X.Home g.X.Opener (as_nanos c.args.config.now.connection_timeout) c.args.config.now.retry_connection c.args.at _ _ _ _ _ _ c.in-Failed.is c.poll.ensures

pub finish-requires-in-Entered : goal.finish-requires-in-Entered
finish-requires-in-Entered g c =
    elim c.in-Entered.is [
      | inl entered ↦ ended g.X.Home g.X.Opener (as_nanos c.args.config.now.connection_timeout) c.args.config.now.retry_connection c.args.at _ _ _ _ _ _ entered c.poll.ensures
      | inr late ↦
          elim late [
            | inl late ↦ ended g.X.Home g.X.Opener (as_nanos c.args.config.now.connection_timeout) c.args.config.now.retry_connection c.args.at _ _ _ _ _ _ late c.poll.ensures
            | inr given_back ↦ ended g.X.Home g.X.Opener (as_nanos c.args.config.now.connection_timeout) c.args.config.now.retry_connection c.args.at _ _ _ _ _ _ given_back c.poll.ensures
          ]
    ]
