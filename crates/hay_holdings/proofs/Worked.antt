-- Worked lines on one volume, from their calls: a put adds the row of its pair while a compaction stands, the compaction of another lane finds
-- that a delete ended it, since a call of the disk failed, and a third lane reads a photo, and then cannot fetch it.
use Rattle.std.specs.Prelude.{◌≡◌, ◌≢◌, ℕ, zero, suc, ◌<◌, false, [], ◌∷◌, codes, refl, Some, None}
use Rattle.std.proofs.Common.{sym, lit<, lit≤, inl, inr, true}
use Rattle.hay_needle.specs.declared.needle.Outcome.{Outcome}
use Rattle.hay_needle.specs.declared.needle.Outcome.TheVariants as outcome
use Rattle.hay_needle.specs.Tables.{outcome_at}
use Rattle.hay_url.proofs.Cookies.{cookie_of-zero}
use Rattle.hay_core.specs.declared.entry.Entry.{Entry}
use Rattle.hay_core.specs.declared.entry.Entry.TheVariants as entry
use Rattle.hay_script.specs.declared.Command.TheVariants as command
use Rattle.hay_reply.specs.declared.Cause.TheVariants.{Arm}
use Rattle.hay_reply.specs.declared.Reply.TheVariants as reply
use Rattle.hay_legal.specs.declared.known.DirKnown.{DirKnown}
use Rattle.hay_legal.specs.declared.known.HomeRow.{HomeRow}
use Rattle.hay_legal.specs.declared.known.Known.{Known}
use Rattle.hay_legal.specs.declared.known.ReplicaKnown.{ReplicaKnown}
use Rattle.hay_legal.specs.Known.{empty_replica, empty_volume, fresh_unharmed}
use Rattle.hay_legal.proofs.Steps.{one, own, pair}
use Rattle.hay_history.proofs.Worked.{of_first, tag}
use Rattle.hay_meeting.specs.declared.act.DirAct.{DirAct}
use Rattle.hay_meeting.specs.declared.act.DirDid.TheVariants as did_row
use Rattle.hay_meeting.specs.declared.act.VolumeAct.{VolumeAct}
use Rattle.hay_meeting.specs.declared.act.VolumeDid.{VolumeDid}
use Rattle.hay_meeting.specs.declared.act.VolumeDid.TheVariants as did
use Rattle.hay_meeting.specs.Acts.{Start}
use Rattle.hay_meeting.specs.Facts.{table_shown}
use Rattle.hay_meeting.specs.Locks.{LockSight}
use Rattle.hay_meeting.specs.Sights.{Sight}
use Rattle.hay_meeting.proofs.Opening.{opened_at}
use Rattle.hay_holdings.specs.Lines.{IsAnswered, Looking}
use Rattle.hay_holdings.specs.Rows.{HomeShown, RowAdded}
use Rattle.hay_holdings.specs.Sights.{AtArm, AtDirectory, AtVolume}
use Rattle.hay_holdings.specs.Volumes.{Begun, PutStored, RoomFits, RunDeleted, ShownAt, Stepped}
use Rattle.hay_holdings.proofs.CompactAnswers.{compact_begins, compact_deleted, compact_steps}
use Rattle.hay_holdings.proofs.Ending.{ends_now}
use Rattle.hay_holdings.proofs.Finding.{sees}
use Rattle.hay_holdings.proofs.PutAnswers.{adds_row, put_stored, tries, try_takes}
use Rattle.hay_holdings.proofs.ReadAnswers.{look_fetches_fail, read_answered, read_looks, reads, shows_photo, shows_unreadable}

-- WHAT STANDS

-- the one replica has a photo of pair 1
abbrev first_replica : ReplicaKnown
first_replica = record empty_replica { base = (pair 1, record { cookie = own; bytes = codes "a" }) ∷ []; end = 120; cells = 1 }

abbrev one_row : DirKnown
one_row = record { rows = record { pair = pair 1; volume = 0 } ∷ []; frozen = false; pending = None }

abbrev before : Known
before = record (fresh_unharmed one) { volumes = record empty_volume { replicas = first_replica ∷ [] } ∷ []; directory = one_row }

abbrev start : Start
start = opened_at one before

-- THE ACTS, behind which so many calls of the replica's disk have failed

abbrev act : ℕ → ℕ → VolumeDid → ℕ → VolumeAct
act lane line what faults = record { seat = lane; tag = tag lane line; did = what; faults = faults ∷ []; fuses = 0 ∷ [] }

abbrev photo_b : Entry
photo_b = entry.Put (pair 2) own (codes "b")

abbrev begins : VolumeAct
begins = act 2 4 (did.Begins 0) 0

abbrev puts : VolumeAct
puts = act 0 2 (did.Entered photo_b []) 0

abbrev examines : VolumeAct
examines = act 2 4 (did.Examines 0 1) 0

abbrev deletes : VolumeAct
deletes = act 1 3 (did.Entered (entry.Del (pair 1)) (true ∷ [])) 1

abbrev new_row : HomeRow
new_row = record { pair = pair 2; volume = 0 }

abbrev adds : DirAct
adds = record { seat = 0; tag = tag 0 2; did = did_row.AddsRow new_row; faults = 0; fuses = 0 }

-- THE SIGHTS

abbrev nothing : {E X : Type 0} → LockSight E X
nothing = record { seen = []; own = []; shown = [] }

abbrev on_one : LockSight VolumeAct Entry → ℕ → LockSight VolumeAct Entry
on_one here zero = here
on_one here (suc v) = nothing

abbrev sight : LockSight VolumeAct Entry → LockSight DirAct HomeRow → Sight
sight volume directory = record { volumes = on_one volume; directory = directory; arm = 0 }

others : (a b : LockSight VolumeAct Entry) (u : ℕ) → u ≢ 0 → on_one a u ≡ on_one b u
others a b zero differs = absurd (differs refl)
others a b (suc u) differs = refl

-- a call at the one volume
abbrev at_volume : {Is : LockSight VolumeAct Entry → LockSight VolumeAct Entry → Type 0} {a b : LockSight VolumeAct Entry} (directory : LockSight DirAct HomeRow) → Is a b
    → AtVolume 0 Is (sight a directory) (sight b directory)
at_volume {Is} {a} {b} directory is = record { is = is; others = others b a; directory = refl; arm = refl }

-- A PUT

-- it met that a compaction had begun
abbrev met : LockSight VolumeAct Entry
met = record { seen = begins ∷ []; own = []; shown = [] }

abbrev with_row : LockSight DirAct HomeRow
with_row = record { seen = adds ∷ []; own = adds ∷ []; shown = new_row ∷ [] }

abbrev behind_put : LockSight VolumeAct Entry
behind_put = record { seen = begins ∷ puts ∷ []; own = puts ∷ []; shown = photo_b ∷ [] }

no_home : AtDirectory (HomeShown start (pair 2) 1 None) (sight nothing nothing) (sight nothing nothing)
no_home = record { is = record { looked = record { seen = refl; own = refl; shown = ([], refl) }; front = refl; is = refl }; volumes = λ v. refl; arm = refl }

fits : RoomFits one start 0 (tag 0 2) 1 nothing met
fits = record {
  held = begins ∷ [];
  made = None;
  holding = record { from = (_, refl); shown_from = ([], refl); seen = refl; own = refl; shown = refl; tags = tt; seats = tt };
  is = (refl, (refl, refl));
}

added : AtDirectory (RowAdded start (tag 0 2) (pair 2) 0 2) (sight met nothing) (sight met with_row)
added = record {
  is = record {
    held = [];
    made = Some adds;
    holding = record { from = ([], refl); shown_from = ([], refl); seen = refl; own = refl; shown = refl; tags = (refl, tt); seats = (refl, tt) };
    is = (refl, refl, refl);
  };
  volumes = λ v. refl;
  arm = refl;
}

stored : PutStored one start 0 (tag 0 2) (pair 2) own (codes "b") 1 met behind_put
stored = record {
  held = begins ∷ [];
  made = Some puts;
  holding = record { from = ([], refl); shown_from = ([], refl); seen = refl; own = refl; shown = refl; tags = (refl, tt); seats = (refl, tt) };
  is = (refl, (refl, refl), refl);
}

put_answered : IsAnswered one start (false ∷ []) (tag 0 2) (command.Put (pair 2) (codes "b")) (reply.Stored 0 1 2 own) (sight nothing nothing) (sight behind_put with_row)
put_answered =
    put_stored one start (false ∷ []) (tag 0 2) (codes "b")
    (adds_row one start (false ∷ []) (tag 0 2)
    (try_takes one start (false ∷ []) (tag 0 2) [] (lit< tt) refl refl (tries one start (false ∷ []) (tag 0 2) (sees one start (false ∷ []) (tag 0 2) no_home)) (at_volume nothing fits))
    added)
    (lit< tt) refl (sym cookie_of-zero) (at_volume with_row stored)

-- A COMPACTION

abbrev begun : LockSight VolumeAct Entry
begun = record { seen = begins ∷ []; own = begins ∷ []; shown = [] }

abbrev stepped : LockSight VolumeAct Entry
stepped = record { seen = begins ∷ puts ∷ examines ∷ []; own = begins ∷ examines ∷ []; shown = photo_b ∷ [] }

abbrev ended : LockSight VolumeAct Entry
ended = record { seen = begins ∷ puts ∷ examines ∷ deletes ∷ []; own = begins ∷ examines ∷ []; shown = photo_b ∷ entry.Del (pair 1) ∷ [] }

begin_call : Begun one start 0 (tag 2 4) 0 1 nothing begun
begin_call = record {
  held = [];
  made = Some begins;
  holding = record { from = ([], refl); shown_from = ([], refl); seen = refl; own = refl; shown = refl; tags = (refl, tt); seats = (refl, tt) };
  is = (refl, record { run = record { goal = 1; left = 1 }; stands = refl; begun = refl }, refl);
}

step_call : Stepped one start 0 (tag 2 4) 0 (tag 2 4) 1 (λ left. 1 < left) begun stepped
step_call = record {
  held = begins ∷ puts ∷ [];
  made = Some examines;
  holding = record { from = (_, refl); shown_from = (_, refl); seen = refl; own = refl; shown = refl; tags = (refl, tt); seats = (refl, tt) };
  is = (refl, (record { run = record { goal = 1; left = 2 }; stands = refl; begun = refl }, lit< tt));
}

end_call : RunDeleted one start 0 (tag 2 4) 0 (tag 2 4) 1 stepped ended
end_call = record {
  held = begins ∷ puts ∷ examines ∷ deletes ∷ [];
  made = None;
  holding = record { from = (_, refl); shown_from = (_, refl); seen = refl; own = refl; shown = refl; tags = tt; seats = tt };
  is = (
    refl,
    refl,
    (
      ends_now one start 0 0 (tag 2 4) (begins ∷ puts ∷ examines ∷ []) deletes (record { run = record { goal = 1; left = 1 }; stands = refl; begun = refl }) refl,
      refl,
      (lit< tt, inl (lit< tt), refl),
    ),
  );
}

compact_answered : IsAnswered one start (false ∷ []) (tag 2 4) (command.Compact 0 0) (reply.Failed 0 0 1) (sight nothing nothing) (sight ended nothing)
compact_answered =
    compact_deleted one start (false ∷ []) (tag 2 4) 0 0 0 refl (lit< tt)
    (compact_steps one start (false ∷ []) (tag 2 4) 0 0 (compact_begins one start (false ∷ []) (tag 2 4) 0 0 (at_volume nothing begin_call)) (λ left. 1 < left) (at_volume nothing step_call))
    (at_volume nothing end_call)

-- READS

abbrev photo_a : ℕ → Outcome
photo_a j = outcome.Photo (record { cookie = own; bytes = codes "a" })

abbrev at_start : Sight
at_start = sight nothing nothing

has_home : AtDirectory (HomeShown start (pair 1) 1 (Some 0)) at_start at_start
has_home = record { is = record { looked = record { seen = refl; own = refl; shown = ([], refl) }; front = refl; is = refl }; volumes = λ v. refl; arm = refl }

look_call : ShownAt one start 0 (pair 1) 0 photo_a nothing nothing
look_call = record { looked = record { seen = refl; own = refl; shown = ([], refl) }; front = refl; is = of_first (λ j. photo_a j ≡ outcome_at (table_shown start 0 j []) (pair 1)) refl }

-- the lane has looked
looking : Looking one start (false ∷ []) (tag 3 5) (pair 1) 1 0 0 photo_a [] [] at_start at_start
looking =
    read_looks one start (false ∷ []) (tag 3 5) (pair 1) 1 0
    (reads one start (false ∷ []) (tag 3 5) (pair 1) 1 0 (sees one start (false ∷ []) (tag 3 5) has_home)) (at_volume nothing look_call)

read_answered_so : IsAnswered one start (false ∷ []) (tag 3 5) (command.Read (pair 1) own) (reply.Photo 0 0 0 1 (codes "a")) at_start at_start
read_answered_so =
    read_answered one start (false ∷ []) (tag 3 5) (shows_photo one start (false ∷ []) (tag 3 5) (pair 1) 1 0 looking (lit< tt) {first = 0} {j = 0} [] (lit< tt) refl refl refl)

-- a fetch at its arm failed
abbrev arm_failed : Sight
arm_failed = record at_start { arm = 1 }

fetch : AtArm at_start arm_failed
fetch = record { volumes = λ v. refl; directory = refl; arm = lit≤ tt; most = inr (lit< tt) }

unreadable_so : IsAnswered one start (false ∷ []) (tag 3 5) (command.Read (pair 1) own) (reply.Unreadable 0 0 1 (record { machine = 0; cause = Arm 1 } ∷ [])) at_start arm_failed
unreadable_so =
    read_answered one start (false ∷ []) (tag 3 5)
    (shows_unreadable one start (false ∷ []) (tag 3 5) (pair 1) 1 0 {first = 0}
    (look_fetches_fail one start (false ∷ []) (tag 3 5) (pair 1) 1 0 (0 ∷ []) (Arm 1 ∷ []) refl ((inl (lit< tt), lit≤ tt), tt) (tt, tt) fetch (lit< tt) looking)
    (lit< tt) refl refl)
