-- How a load ends, by what was answered and by what the shelf has then.
use Rattle.std.proofs.Common.{◌≡◌, ◌≢◌, ◌⊎◌, inl, inr, ℕ, ◌≤◌, ◌<◌, List, [], ◌∷◌, ◌++◌, length, All, Option, Some, None, Result, Ok, Err, refl, sym, ap, subst, ◌∙◌, append_assoc, arith}
use Rattle.std.proofs.lemmas.List.{append-nil}
use Rattle.hay_needle.specs.declared.settings.Settings.{Settings}
use Rattle.hay_disk.specs.Counts.{Rose}
use Rattle.hay_disk.specs.Disk.{Files, MayLeave}
use Rattle.hay_disk.specs.Shelf.{HeldDisk}
use Rattle.hay_disk.specs.Streams.{Wrote, WrotePart}
use Rattle.hay_mount.specs.Mounts.{IsGivenDisk}
use Rattle.hay_reply.specs.Replies.{header_line}
use Rattle.hay_batch.specs.declared.photo.NewPhoto.{NewPhoto}
use Rattle.hay_batch.specs.declared.replica.LoadReplica.{LoadReplica}
use Rattle.hay_batch.specs.declared.store.LoadStore.{LoadStore}
use Rattle.hay_batch.specs.Batches.{batch_total}
use Rattle.hay_batch.specs.Homes.{home_among}
use Rattle.hay_batch.specs.Shelves.{EachDisk, MayLeaveDisks, OpensSlot, OpensStore, StandsAs, StoredStore, disk_count, reads_of, slot_of}
use Rattle.hay_batch.specs.Stores.{FailsAt, FailsReplica, IsFirstRoom, IsShaped, ReplicaAt}
use Rattle.hay_batch.proofs.Lists.{at_below}
use Rattle.hay_batch.proofs.Loading.{replica_there}
use Rattle.hay_batch.proofs.ShelfLaws.{slot_within}
use Rattle.hay_batch.proofs.StoredLaws.{stands_left}
use Rattle.hay_load.specs.declared.reply.LoadReply.{LoadReply}
use Rattle.hay_load.specs.declared.reply.LoadReply.TheVariants.{Other}
use Rattle.hay_load.specs.Answers.{AnswersAll, MayLoad, Remembered, SuitAll, remembered_of, reply_lines}
use Rattle.hay_load.specs.Gathering.{Batch, Group, key_of}
use Rattle.hay_load.specs.Loads.{IsFailed, LeavesFirst, Loads, Remembers}
use Rattle.hay_load.specs.Replies.{FitsLoad, load_line}
use Rattle.hay_load.proofs.Answering.{may_load, stands_remembers}
use Rattle.hay_load.proofs.Taking.{answers_more, fit_more, suit_more}
use Rattle.hay_loading.specs.declared.stops.Stop.{Stop}
use Rattle.hay_loading.specs.declared.stops.Stop.TheVariants as stop
use Rattle.hay_loading.specs.Endings.{AllStandIn, Answers, Begins, Breaks, CutsShort, Ends, Halts, HaltsAt, HaltsBehind, MayFailAt, ReadFront, ReadOver, ReadsTo, groups_before}
use Rattle.hay_loading.specs.Endings.{IsFront, LoadsAll, MayLeaveSlots, Wants, WroteBoth, WroteThen, load_text, script_groups}
use Rattle.hay_loading.specs.Lines.{FailsTold, Leaves, ServesAll, ServesUntil, Told}
use Rattle.hay_loading.proofs.Apart.{front_apart}
use Rattle.hay_loading.proofs.Showing.{all_stand, answers_same}
use Rattle.hay_loading.proofs.Sinks.{part_more, rose_since, wrote_more}

-- FRONTS

-- where nothing of the next groups is said
front_less : (groups next all : List Group) → IsFront (groups ++ next) all → IsFront (groups ++ []) all
front_less groups next all front = (next ++ front.0, front.1 ∙ append_assoc groups next front.0 ∙ ap (λ (l : List Group). l ++ (next ++ front.0)) (sym (append-nil groups)))

-- of the next groups the first is said
front_first : (groups next all behind : List Group) (one : Group) → next ≡ one ∷ behind → IsFront (groups ++ next) all → IsFront (groups ++ one ∷ []) all
front_first groups next all behind one is front = (
  behind ++ front.0,
  front.1 ∙ ap (λ (l : List Group). (groups ++ l) ++ front.0) is ∙ append_assoc groups (one ∷ behind) front.0 ∙ sym (append_assoc groups (one ∷ []) (behind ++ front.0)),
)

front_both : (groups next all : List Group) → IsFront (groups ++ next) all → IsFront ((groups ++ next) ++ []) all
front_both groups next all front = (front.0, front.1 ∙ ap (λ (l : List Group). l ++ front.0) (sym (append-nil (groups ++ next))))

-- so it is of the groups of what was read
reads_first : (settings : Settings) (script : List ℕ) (left : Option (List ℕ)) (groups next behind : List Group) (one : Group) → next ≡ one ∷ behind → ReadsTo settings script left (groups ++ next)
    → ReadsTo settings script left (groups ++ one ∷ [])
reads_first settings script left groups next behind one is reads = record {
  read = reads.read;
  bytes = reads.bytes;
  ends = elim reads.ends [
    | inl front ↦ inl (front_first groups next (groups_before settings reads.read) behind one is front)
    | inr whole ↦ inr (whole.0, front_first groups next (script_groups settings script) behind one is whole.1)
  ];
}

-- TEXTS

-- the lines of replies behind the header
lines_behind : {D : Type 0} (Tells : Type 0) (files : D → Files) (settings : Settings) (groups : List Group) (old new : LoadStore D) (text : List ℕ)
    (before mid after : Option (List ℕ)) (loads : Loads Tells files groups old new [] text)
    → Wrote before (header_line settings) mid → Wrote mid text after → Wrote before (load_text settings groups loads.replies) after
lines_behind Tells files settings groups old new text before mid after loads first second =
    let P : List ℕ → Type 0 = λ l. Wrote before (header_line settings ++ l) after in
    subst P loads.told (wrote_more before mid after (header_line settings) text first second)

-- WHAT IS GIVEN BACK

module _ {D : Type 0} (Tells : Type 0) (files : D → Files) (drawn : D → ℕ → ℕ) (faults fuses : D → ℕ) (settings : Settings) (new : ℕ → HeldDisk) (store' : LoadStore D)
    (same' : store'.settings ≡ settings) (shape' : IsShaped store') (given : EachDisk (λ slot disk. IsGivenDisk Tells files drawn faults fuses (new slot) disk) store') where
  replica_within : (v j : ℕ) (r : LoadReplica D) → ReplicaAt store' v j r → slot_of store'.settings v j < disk_count store'.settings
  replica_within v j r there =
      let volume : v < store'.settings.volumes = (let below = at_below store'.volumes.items v there.0 there.1 in let many = shape'.volumes in omega (arith, below, many)) in
      let replica : j < store'.settings.replicas = (let below = at_below there.0.replicas.items j r there.2 in let many = shape'.replicas v there.0 there.1 in omega (arith, below, many)) in
      slot_within store'.settings v j volume replica

  pub within_slots : (v j : ℕ) (r : LoadReplica D) → ReplicaAt store' v j r → slot_of store'.settings v j < disk_count settings
  within_slots v j r there = subst (λ (x : Settings). slot_of store'.settings v j < disk_count x) same' (replica_within v j r there)

  pub left_disks : Tells → (image : ℕ → ℕ → List ℕ) → MayLeaveSlots settings new image → MayLeaveDisks files store' image
  left_disks tells image leaves = record {
    directory = subst (λ (f : Files). MayLeave f (image 0)) (given.directory.files_are tells) (leaves 0 (omega arith));
    replicas = λ v j r there.
        subst (λ (f : Files). MayLeave f (image (slot_of store'.settings v j))) ((given.replicas v j r there).files_are tells) (leaves (slot_of store'.settings v j) (within_slots v j r there));
  }

  -- WHAT IS OPENED

  module _ (script : List ℕ) (old : ℕ → HeldDisk) (shelf shelf' : ℕ) (before begun after : Option (List ℕ)) (store : LoadStore D) (same : store.settings ≡ settings) (shape : IsShaped store)
      (opened : Tells → (s : StoredStore) → OpensStore settings (reads_of old) s → StandsAs files store s)
      (disks : EachDisk (λ slot disk. OpensSlot Tells slot (old slot) (files disk) (faults disk) (fuses disk)) store) (header : Wrote before (header_line settings) begun)
      (some : 0 < settings.volumes) (known : Remembered) (begins : Begins Tells settings (reads_of old) known) (was : Remembers store known) where
    both_by : (groups next : List Group) (replies : List LoadReply) (s t : StoredStore) (image : ℕ → ℕ → List ℕ) → IsFront (groups ++ next) (script_groups settings script)
        → AnswersAll settings s groups replies t → LeavesFirst settings next image t
        → LeavesFirst settings next image t × AllStandIn settings groups replies image
    both_by groups next replies s t image front answers left = (left, all_stand settings s t groups next replies image some (front_apart settings script groups next front) answers left)

    answers_by : (groups next : List Group) (mid : LoadStore D) (text : List ℕ) (loads : Loads Tells files groups store mid [] text) → mid.settings ≡ store.settings
        → IsFront (groups ++ next) (script_groups settings script)
        → Leaves Tells files next mid store' → Answers Tells settings script old new shelf shelf' before after groups loads.replies next
    answers_by groups next mid text loads kept front leaves = record {
      front = front;
      first = known;
      begins = begins;
      known = (loads.suited known was).known;
      suited = (let a = loads.suited known was in subst (λ (x : Settings). SuitAll x known groups loads.replies a.known) same a.suit);
      fit = loads.fit;
      answers = λ tells s opens.
          let a = loads.answers tells s (opened tells s opens) in (
            a.stored,
            subst (λ (x : Settings). AnswersAll x s groups loads.replies a.stored) same a.answers,
            λ image may. both_by groups next loads.replies s a.stored image front (subst (λ (x : Settings). AnswersAll x s groups loads.replies a.stored) same a.answers)
                (subst (λ (x : Settings). LeavesFirst x next image a.stored) (kept ∙ same) (leaves tells a.stored image a.stands (left_disks tells image may))),
          );
    }

    -- nothing is under way
    rests : (mid : LoadStore D) → store' ≡ mid → Leaves Tells files [] mid store'
    rests mid is = λ tells s image stands may.
        let at : LoadStore D → Type 0 = λ x. OpensStore x.settings image s in
        subst at is (stands_left files s store' image shape' (subst (λ (x : LoadStore D). StandsAs files x s) (sym is) stands) may)

    pub loads_all : ServesAll Tells files (Some script) store store' begun after → LoadsAll Tells settings script old new shelf shelf' before after
    loads_all serves =
        let loads = serves.told.loads in
        let all : serves.groups ≡ script_groups settings script = serves.all script refl ∙ ap (λ (x : Settings). script_groups x script) same in
        let front : IsFront (serves.groups ++ []) (script_groups settings script) = ([], sym all ∙ sym (append-nil serves.groups) ∙ sym (append-nil (serves.groups ++ []))) in
        let answers = answers_by serves.groups [] store' serves.told.text loads (same' ∙ sym same) front (rests store' refl) in
        let wrote = lines_behind Tells files settings serves.groups store store' serves.told.text before begun after loads header serves.told.wrote in
        record {
          replies = loads.replies;
          answers = subst (λ (l : List Group). Answers Tells settings script old new shelf shelf' before after l loads.replies []) all answers;
          wrote = subst (λ (l : List Group). Wrote before (load_text settings l loads.replies) after) all wrote;
        }

    module _ (why : Stop) (left' : Option (List ℕ)) (until : ServesUntil Tells files faults fuses why (Some script) left' store store' begun after) where
      front_of : IsFront (until.groups ++ until.next) (script_groups settings script)
      front_of = subst (λ (x : Settings). IsFront (until.groups ++ until.next) (script_groups x script)) same (until.front script refl)

      told_whole : Wrote before (load_text settings until.groups until.told.loads.replies) until.middle
      told_whole = lines_behind Tells files settings until.groups store until.mid until.told.text before begun until.middle until.told.loads header until.told.wrote

      -- what was read
      reads_same : (groups : List Group) → ReadsTo store.settings script left' groups → ReadsTo settings script left' groups
      reads_same groups reads = subst (λ (x : Settings). ReadsTo x script left' groups) same reads

      pub halts_at : store' ≡ until.mid → after ≡ until.middle → HaltsAt Tells settings script old new shelf shelf' before after until.groups
      halts_at is told = record {
        replies = until.told.loads.replies;
        answers = answers_by until.groups [] until.mid until.told.text until.told.loads until.settings
            (front_less until.groups until.next (script_groups settings script) front_of) (rests until.mid is);
        wrote = subst (λ (w : Option (List ℕ)). Wrote before (load_text settings until.groups until.told.loads.replies) w) (sym told) told_whole;
      }

      pub halts : store' ≡ until.mid → after ≡ until.middle → Halts Tells settings script old new shelf shelf' before after
      halts is told = (until.groups, halts_at is told)

      -- of just the groups that these bytes end
      pub halts_behind : (Read : List ℕ → Type 0) (read : List ℕ) → Read read → until.groups ≡ groups_before store.settings read → store' ≡ until.mid → after ≡ until.middle
          → HaltsBehind Tells settings script old new shelf shelf' before after Read
      halts_behind Read read bytes just is told = record {
        read = read;
        bytes = bytes;
        halts = subst (λ (l : List Group). HaltsAt Tells settings script old new shelf shelf' before after l) (just ∙ ap (λ (x : Settings). groups_before x read) same) (halts_at is told);
      }

      pub wants : ReadsTo store.settings script left' (until.groups ++ until.next) → Leaves Tells files until.next until.mid store' → after ≡ until.middle
          → Wants Tells settings script old new shelf shelf' before after left'
      wants reads leaves told = record {
        groups = until.groups;
        replies = until.told.loads.replies;
        next = until.next;
        reads = reads_same (until.groups ++ until.next) reads;
        answers = answers_by until.groups until.next until.mid until.told.text until.told.loads until.settings front_of leaves;
        wrote = subst (λ (w : Option (List ℕ)). Wrote before (load_text settings until.groups until.told.loads.replies) w) (sym told) told_whole;
      }

      pub cuts : ReadsTo store.settings script left' (until.groups ++ until.next) → until.next ≢ [] → Told Tells files WrotePart until.next until.mid store' until.middle after
          → CutsShort Tells settings script old new shelf shelf' before after left'
      cuts reads some last =
          let loads = last.loads in
          let first = until.told.loads in
          record {
            groups = until.groups;
            replies = first.replies;
            last = until.next;
            reads = reads_same (until.groups ++ until.next) reads;
            others = loads.replies;
            many = first.many;
            some = some;
            one = until.one;
            answers = record {
              front = front_both until.groups until.next (script_groups settings script) front_of;
              first = known;
              begins = begins;
              known = (let a = first.suited known was in (loads.suited a.known a.remembers).known);
              suited =
                  (let a = first.suited known was in
                  let b = loads.suited a.known a.remembers in
                  let front : SuitAll settings known until.groups first.replies a.known = subst (λ (x : Settings). SuitAll x known until.groups first.replies a.known) same a.suit in
                  let behind : SuitAll settings a.known until.next loads.replies b.known =
                  subst (λ (x : Settings). SuitAll x a.known until.next loads.replies b.known) (until.settings ∙ same) b.suit in
                  suit_more settings known a.known b.known until.groups until.next first.replies loads.replies front behind);
              fit = fit_more FitsLoad first.replies loads.replies first.fit loads.fit;
              answers = λ tells s opens.
                  let a = first.answers tells s (opened tells s opens) in
                  let b = loads.answers tells a.stored a.stands in
                  let all : AnswersAll settings s (until.groups ++ until.next) (first.replies ++ loads.replies) b.stored =
                  subst (λ (x : Settings). AnswersAll x s (until.groups ++ until.next) (first.replies ++ loads.replies) b.stored) same
                  (answers_more store.settings s a.stored b.stored until.groups until.next first.replies loads.replies a.answers
                  (subst (λ (x : Settings). AnswersAll x a.stored until.next loads.replies b.stored) until.settings b.answers)) in (
                    b.stored,
                    all,
                    λ image may. both_by (until.groups ++ until.next) [] (first.replies ++ loads.replies) s b.stored image
                        (front_both until.groups until.next (script_groups settings script) front_of) all
                        (subst (λ (x : Settings). LeavesFirst x [] image b.stored) same' (stands_left files b.stored store' image shape' b.stands (left_disks tells image may))),
                  );
            };
            wrote = part_more before until.middle after (load_text settings until.groups first.replies) (reply_lines until.next loads.replies) told_whole
                (subst (λ (l : List ℕ). WrotePart until.middle l after) loads.told last.wrote);
          }

      -- the count of a disk rose, that of the Directory or of a replica of the volume
      record Fell (volume slot count : ℕ) : Type 0 where
        is_within : slot < disk_count settings
        is_place : (slot ≡ 0) ⊎ ((j : ℕ) × (j < settings.replicas) × (slot ≡ slot_of settings volume j))
        is_rise : Rose (old slot).fault_count (new slot).fault_count
        is_count : count ≡ (new slot).fault_count

      fell_first : (volume slot count : ℕ) → slot ≡ 0 → Rose (faults until.mid.directory.disk) (faults store'.directory.disk) → count ≡ faults store'.directory.disk → Fell volume slot count
      fell_first volume slot count first rose is =
          let at : Fell volume 0 count = record {
            is_within = omega arith;
            is_place = inl refl;
            is_rise = (let opening = disks.directory.later in let later = until.counts.directory in
                subst (λ n. Rose (old 0).fault_count n) (sym given.directory.fault_count) (rose_since (old 0).fault_count (faults until.mid.directory.disk)
                (faults store'.directory.disk) (omega (arith, opening, later)) rose));
            is_count = is ∙ sym given.directory.fault_count;
          } in
          subst (λ n. Fell volume n count) (sym first) at

      fell_replica : (v slot count : ℕ) → FailsReplica faults v until.mid store' slot count → Fell v slot count
      fell_replica v slot count f =
          let volumes : until.mid.settings.volumes ≡ store.settings.volumes = ap (λ (x : Settings). x.volumes) until.settings in
          let replicas : until.mid.settings.replicas ≡ store.settings.replicas = ap (λ (x : Settings). x.replicas) until.settings in
          let volume : v < store.settings.volumes = (let below = at_below until.mid.volumes.items v f.was.0 f.was.1 in let many = until.shape.volumes in omega (arith, below, many, volumes)) in
          let replica : f.j < store.settings.replicas = (let below = at_below f.was.0.replicas.items f.j f.before f.was.2 in let many = until.shape.replicas v f.was.0 f.was.1 in
          omega (arith, below, many, replicas)) in
          let r = replica_there store v f.j shape volume replica in
          let back = given.replicas v f.j f.after f.is in
          let opening = (disks.replicas v f.j r.0 r.1).later in
          let later = until.counts.replicas v f.j r.0 f.before r.1 f.was in
          let at : ℕ = slot_of settings v f.j in
          let here : slot_of store.settings v f.j ≡ at = ap (λ (x : Settings). slot_of x v f.j) same in
          let there : slot_of store'.settings v f.j ≡ at = ap (λ (x : Settings). slot_of x v f.j) same' in
          let place : at ≡ slot = sym (f.place ∙ ap (λ (x : Settings). slot_of x v f.j) (until.settings ∙ same)) in
          let opening_here : (old at).fault_count ≤ faults r.0.disk = subst (λ n. (old n).fault_count ≤ faults r.0.disk) here opening in
          let back_here : (new at).fault_count ≡ faults f.after.disk = subst (λ n. (new n).fault_count ≡ faults f.after.disk) there back.fault_count in
          let fell : Fell v at count = record {
            is_within = subst (λ n. n < disk_count settings) there (within_slots v f.j f.after f.is);
            is_place = inr (f.j, subst (λ (x : Settings). f.j < x.replicas) same replica, refl);
            is_rise = subst (λ n. Rose (old at).fault_count n) (sym back_here) (rose_since (old at).fault_count (faults f.before.disk) (faults f.after.disk)
                (omega (arith, opening_here, later)) f.rose);
            is_count = f.count ∙ sym back_here;
          } in
          subst (λ n. Fell v n count) place fell

      fell : (volume slot count : ℕ) → FailsAt faults volume until.mid store' slot count → Fell volume slot count
      fell volume slot count (inl first) = fell_first volume slot count first.0 first.1 first.2
      fell volume slot count (inr f) = fell_replica volume slot count f

      -- where a disk may fail, by what is remembered
      may_fail_by : (photos : List NewPhoto) (volume slot count : ℕ) (now : Remembered) → Remembers until.mid now
          → All (λ (photo : NewPhoto). home_among until.mid.directory.homes photo.pair ≡ None) photos → IsFirstRoom until.mid (key_of photos) (batch_total photos) volume
          → Fell volume slot count → MayFailAt settings now photos slot
      may_fail_by photos volume slot count now remembers none room falls = record {
        volume = volume;
        loads = subst (λ (y : Settings). MayLoad y now photos volume) (until.settings ∙ same) (may_load now until.mid until.shape remembers photos volume none room);
        disk = falls.is_place;
      }

      breaks : (Behind : Option (List ℕ) → List ℕ → List ℕ → Option (List ℕ) → Type 0) (Writes : Option (List ℕ) → List ℕ → Option (List ℕ) → Type 0)
          → ((whole more : List ℕ) → Wrote before whole until.middle → Writes until.middle more after → Behind before whole more after)
          → ReadsTo store.settings script left' (until.groups ++ until.next) → FailsTold Tells files faults Writes until.next until.mid store' until.middle after
          → Breaks Tells settings script old new shelf shelf' before after left' Behind
      unfolding answers_by
      breaks Behind Writes join reads f =
          let x = f.fails in
          let one = Batch x.batch.line x.batch.photos in
          let count = fell x.fails.volume x.slot x.faults x.fails.fails in
          let first = until.told.loads in
          let leaves : Leaves Tells files (one ∷ []) until.mid store' = λ tells s image stands may.
          subst (λ (l : List Group). LeavesFirst until.mid.settings l image s) x.is (f.leaves tells s image stands may) in
          record {
            groups = until.groups;
            replies = until.told.loads.replies;
            line = x.batch.line;
            photos = x.batch.photos;
            reads = reads_first settings script left' until.groups until.next x.behind one x.is (reads_same (until.groups ++ until.next) reads);
            answers = answers_by until.groups (one ∷ []) until.mid until.told.text until.told.loads until.settings
                (front_first until.groups until.next (script_groups settings script) x.behind one x.is front_of) leaves;
            slot = x.slot;
            faults = x.faults;
            within = count.is_within;
            may = (let a = first.suited known was in may_fail_by x.batch.photos x.fails.volume x.slot x.faults a.known a.remembers x.fails.homeless x.fails.room count);
            may_stored = λ tells s t opens answers.
                let a = first.answers tells s (opened tells s opens) in
                let told : AnswersAll settings s until.groups first.replies a.stored = subst (λ (y : Settings). AnswersAll y s until.groups first.replies a.stored) same a.answers in
                subst (λ (u : StoredStore). MayFailAt settings (remembered_of u) x.batch.photos x.slot) (answers_same settings s a.stored t until.groups first.replies told answers)
                (may_fail_by x.batch.photos x.fails.volume x.slot x.faults (remembered_of a.stored) (stands_remembers files a.stored until.mid a.stands) x.fails.homeless x.fails.room count);
            rose = count.is_rise;
            count = count.is_count;
            reply = x.reply;
            fits = x.fits;
            failed = subst (λ (y : Settings). IsFailed y x.slot x.faults x.reply) (until.settings ∙ same) x.failed;
            wrote = join (load_text settings until.groups until.told.loads.replies) (load_line x.batch.line (Other x.reply)) told_whole
                (subst (λ (l : List ℕ). Writes until.middle l after) x.told f.wrote);
          }

      pub breaks_whole : ReadsTo store.settings script left' (until.groups ++ until.next) → FailsTold Tells files faults Wrote until.next until.mid store' until.middle after
          → Breaks Tells settings script old new shelf shelf' before after left' WroteBoth
      breaks_whole reads f = breaks WroteBoth Wrote (λ whole more first second. wrote_more before until.middle after whole more first second) reads f

      pub breaks_part : ReadsTo store.settings script left' (until.groups ++ until.next) → FailsTold Tells files faults WrotePart until.next until.mid store' until.middle after
          → Breaks Tells settings script old new shelf shelf' before after left' WroteThen
      breaks_part reads f = breaks WroteThen WrotePart (λ whole more first second. part_more before until.middle after whole more first second) reads f

    -- how a load ends whose source failed, or whose script is too long
    pub halts_input : (left' : Option (List ℕ)) → ServesUntil Tells files faults fuses stop.Input (Some script) left' store store' begun after
        → HaltsBehind Tells settings script old new shelf shelf' before after (λ read. ReadFront script read left')
    halts_input left' until =
        let broke = until.broke script refl in
        halts_behind stop.Input left' until (λ read. ReadFront script read left') broke.0 broke.1 broke.2 until.stops.0 until.stops.1

    pub halts_long : (left' : Option (List ℕ)) → ServesUntil Tells files faults fuses stop.TooLong (Some script) left' store store' begun after
        → HaltsBehind Tells settings script old new shelf shelf' before after (λ read. ReadOver script read left')
    halts_long left' until =
        let broke = until.broke script refl in
        halts_behind stop.TooLong left' until (λ read. ReadOver script read left') broke.0 broke.1 broke.2 until.stops.0 until.stops.1

    -- how a load ends whose store was opened
    pub ends_open : (left' : Option (List ℕ)) (result : Result (Unit {0}) Stop) → ((done : Unit {0}) → result ≡ Ok done → ServesAll Tells files (Some script) store store' begun after)
        → ((why : Stop) → result ≡ Err why → ServesUntil Tells files faults fuses why (Some script) left' store store' begun after)
        → Ends Tells settings script old new shelf shelf' before after left' result
    ends_open left' (Ok done) served stopped = loads_all (served done refl)
    ends_open left' (Err stop.Output) served stopped =
        let until = stopped stop.Output refl in
        elim until.stops [
          | inl told ↦ inr (inr (inl (cuts stop.Output left' until (until.broke script refl) told.1 told.0)))
          | inr fails ↦ inr (inr (inr (breaks_part stop.Output left' until (until.broke script refl) fails)))
        ]
    ends_open left' (Err stop.Input) served stopped = let until = stopped stop.Input refl in halts stop.Input left' until until.stops.0 until.stops.1
    ends_open left' (Err stop.NoMemory) served stopped = let until = stopped stop.NoMemory refl in inr (wants stop.NoMemory left' until (until.broke script refl) until.stops.0 until.stops.1)
    ends_open left' (Err stop.Store) served stopped = let until = stopped stop.Store refl in inr (breaks_whole stop.Store left' until (until.broke script refl) until.stops)
    ends_open left' (Err stop.TooLong) served stopped = let until = stopped stop.TooLong refl in halts stop.TooLong left' until until.stops.0 until.stops.1
