-- Where a store is opened nothing has happened, and no lane has done anything.
use Rattle.std.proofs.Common.{◌≡◌, ℕ, List, [], length, refl, sym, Some, slice_get}
use Rattle.hay_needle.specs.declared.settings.Settings.{Settings}
use Rattle.hay_legal.specs.declared.known.Known.{Known}
use Rattle.hay_legal.specs.Known.{disk_count}
use Rattle.hay_legal.specs.Subject.{IsOf}
use Rattle.hay_history.specs.Histories.{first_of, first_rows}
use Rattle.hay_history.specs.Commands.{IsRegular}
use Rattle.hay_meeting.specs.Acts.{Happened, Start, row_lock, volume_lock}
use Rattle.hay_meeting.specs.Chains.{BeginsAt, BeginsAtLock, StoreAt}
use Rattle.hay_meeting.specs.Locks.{Lock, LockSight}
use Rattle.hay_meeting.specs.Sights.{Sight}

abbrev pub opened_at : Settings → Known → Start
opened_at settings k = record { volumes = first_of settings k; directory = first_rows k }

abbrev pub nothing_yet : Happened
nothing_yet = record { volumes = λ v. []; directory = [] }

pub store_opens : (settings : Settings) (k : Known) → IsOf settings k → IsRegular settings k → length k.faults ≡ disk_count settings
    → StoreAt settings (opened_at settings k) k nothing_yet
store_opens settings k store regular disks = record {
  stands = record { volumes = λ v below. record { volume = refl; faults = λ j within. refl; fuses = λ j within. refl }; rows = refl };
  store = store;
  regular = regular;
  disks = disks;
  runs = λ v j run below within stands. refl;
}

begins_at_lock : {S E X T : Type 0} (lock : Lock S E X T) (at : Sight → LockSight E X) (lanes : ℕ) (sights : List Sight)
    → ((lane : ℕ) (s : Sight) → slice_get sights lane ≡ Some s → (at s).own ≡ []) → BeginsAtLock lock at lanes sights []
begins_at_lock lock at lanes sights none = record {
  seen = λ lane s there. ((at s).seen, refl);
  own = λ lane s there. sym (none lane s there);
  shown = λ lane s there. ((at s).shown, refl);
}

-- lanes that have done nothing may begin
pub lanes_begin : (sights : List Sight) → ((lane : ℕ) (s : Sight) → slice_get sights lane ≡ Some s → (v : ℕ) → (s.volumes v).own ≡ [])
    → ((lane : ℕ) (s : Sight) → slice_get sights lane ≡ Some s → (s.directory).own ≡ []) → BeginsAt (length sights) sights nothing_yet
lanes_begin sights none no_rows = record {
  many = refl;
  volumes = λ v. begins_at_lock volume_lock (λ s. s.volumes v) (length sights) sights (λ lane s there. none lane s there v);
  directory = begins_at_lock row_lock (λ s. s.directory) (length sights) sights no_rows;
}
