-- Functions that start jobs in threads of a starter.
use Rattle.std.specs.Prelude.{◌≡◌, Result, IfOk, IfErr}
use Rattle.std.specs.Fn.{Shared}
use denote.Ref.{MutBor}
use Rattle.std_environment.specs.Starters.{StarterView, Starts}

module _ {J K : Type 0} (job_of : K → J) where
  -- the job was started, or given back
  pub record StartsJob (job : J) (result : Result K J) (old new : StarterView) : Type 0 where
    pub ok : IfOk result (λ started. job_of started ≡ job)
    pub back : IfErr result (λ back. back ≡ job)
    pub starts : Starts result old new

  -- it may be called with every starter and every job, and starts the job
  pub record StartsJobs {F : Type 0}
      (calls : Shared F (MutBor StarterView × (J × Unit {0}))
      (Result K J × (MutBor StarterView × Unit {0})))
      (start : F) : Type 0 where
    pub takes : (threads : MutBor StarterView) (job : J) → calls.pre start (threads, (job, tt))
    pub does : (threads left : MutBor StarterView) (job : J) (result : Result K J)
        → calls.post start (threads, (job, tt)) (result, (left, tt))
        → StartsJob job result threads.now left.now
