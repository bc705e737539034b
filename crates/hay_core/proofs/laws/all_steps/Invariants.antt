use Rattle.std.proofs.Common.{◌≡◌, ◌++◌, drop, take}
use Rattle.hay_core.specs.Transitions.{after_events, replies_to}
use Rattle.hay_core.proofs.laws.all_steps.Given as goal

abbrev pub invariant-loop-event : goal.invariant-loop-event
invariant-loop-event l = record {
  core_left : after_events l.core (drop l.event-index l.events) ≡ after_events l.initial.core l.events;
  replies_left : l.replies.items ++ replies_to l.core (drop l.event-index l.events) ≡ replies_to l.initial.core l.events;
  core_so_far : l.core ≡ after_events l.initial.core (take l.event-index l.events);
}
