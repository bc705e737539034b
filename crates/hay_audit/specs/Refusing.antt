-- A try that refuses.
use Rattle.std.specs.Prelude.{Bool, false, Option, Some, None}
use Rattle.hay_reply.specs.declared.Refused.{Refused}
use Rattle.hay_audit_steps.specs.Next.{same_refused}

-- and so
abbrev pub refuses : Option Refused → Refused → Bool
refuses (Some refusal) refused = same_refused refusal refused
refuses None refused = false
