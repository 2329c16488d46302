use Rattle.std.proofs.Common.{refl}
use Rattle.region_run.proofs.running.Running.step_live.Goals as goal

pub returns-clause-changed : goal.returns-clause-changed
returns-clause-changed g c = record {
  was = c.index_mut.result.now;
  is = c.step.new.self;
  stood = c.index_mut.ensures.value;
  stands = refl;
  how = record {
    next = c.step.ensures.next;
    asked = c.step.ensures.asked;
    row = c.step.ensures.same_row;
    finished = c.step.ensures.finished;
    others = c.step.ensures.others;
    stays = c.step.ensures.stays;
    belongs = c.step.ensures.is_of;
  };
}
