-- How deletes are answered.
use Rattle.std.specs.Prelude.{◌≡◌, ◌⊎◌, ℕ, [], ◌∷◌}
use Rattle.hay_reply.specs.declared.Reply.{Reply}
use Rattle.hay_reply.specs.declared.Reply.TheVariants.{Absent, Damaged, Failed, ReadOnly, NoMem}
use Rattle.hay_logical.specs.declared.fault.LogicalFault.{LogicalFault}
use Rattle.hay_logical.specs.declared.fault.LogicalFault.TheVariants as refusal

-- volume v is closed by this machine, if there is memory to say so
abbrev pub IsReadOnly : ℕ → ℕ → Reply → Type 0
IsReadOnly v m reply = (reply ≡ ReadOnly (record { volume = v; machine = m } ∷ [])) ⊎ (reply ≡ NoMem)

-- how a delete is answered that volume v did not make
abbrev pub IsDeleteReply : ℕ → ℕ → LogicalFault → Reply → Type 0
IsDeleteReply v rows (refusal.Gone front) reply = reply ≡ Absent v front rows
IsDeleteReply v rows (refusal.Failed m f) reply = reply ≡ Failed v m f
IsDeleteReply v rows (refusal.ReadOnly m) reply = IsReadOnly v m reply
IsDeleteReply v rows refusal.NoMemory reply = reply ≡ NoMem
IsDeleteReply v rows (refusal.Full m end need capacity) reply = ⊥
IsDeleteReply v rows (refusal.Busy m generation) reply = ⊥
IsDeleteReply v rows (refusal.Worn m) reply = ⊥
IsDeleteReply v rows refusal.Idle reply = ⊥
IsDeleteReply v rows (refusal.Damaged m at) reply = reply ≡ Damaged v m at
