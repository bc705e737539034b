-- The laws of specs/Subject.antt, and where they are proved. Those on turns in which nothing failed are in proofs/Complete.antt.
pub mod Shown
pub mod Effects
pub mod Entries
pub mod Standing
pub mod Reopened
pub mod Waiting
pub mod Tidy
pub use Rattle.hay_legal.proofs.Subject.Shown.{shows_the_last_change}
pub use Rattle.hay_legal.proofs.Subject.Effects.{others_leave_the_logs}
pub use Rattle.hay_legal.proofs.Subject.Entries.{stored_is_the_last_entry, deleted_is_the_last_entry, logs_grow, is_of-fresh}
pub use Rattle.hay_legal.proofs.Subject.Standing.{stored_is_read, deleted_is_gone}
pub use Rattle.hay_legal.proofs.Subject.Reopened.{stored_is_read_behind_restarts, failed_put_is_pending, kept_is_read, kept_is_gone}
pub use Rattle.hay_legal.proofs.Subject.Waiting.{failed_put_that_was_kept_is_read}
pub use Rattle.hay_legal.proofs.Subject.Tidy.{is_tidy-fresh, deleted_is_gone_behind_restarts}
pub use Rattle.hay_legal.proofs.BlocksKeep.{tidy_stays}
