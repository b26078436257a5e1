use Rattle.lt_trace_show.specs.Phases.{request_phase, number_of_lane}
use Rattle.lt_trace_show.proofs.Followed.{first_at}
use Rattle.lt_trace_show.proofs.timeline.each_first_phase.Goals as goal

pub first_phase-requires : goal.first_phase-requires
first_phase-requires c = first_at (λ n. request_phase n c.args.state.now) number_of_lane c.args.lanes.now c.args.requests.now c.loop-index.index _ _ c.requires c.loop-index-test.true
