use Rattle.std.proofs.Common.{◌≡◌, ◌≤◌, ℕ, List, [], Some, length, map, refl, sym, ap, subst, inl, inr, ◌∙◌, arith}
use Rattle.std.specs.Prelude.{slice_get}
use Rattle.hay_needle.specs.declared.needle.Outcome.TheVariants as outcome
use Rattle.hay_needle.specs.declared.settings.Settings.{Settings}
use Rattle.hay_needle.specs.declared.total.TheConstants.{MAX_PHOTO}
use Rattle.hay_legal.specs.Known.{machine_of, volume_at}
use Rattle.hay_reader.specs.declared.causes.PassedReplica.{PassedReplica}
use Rattle.hay_cluster.specs.declared.reading.Found.{Found}
use Rattle.hay_cluster.specs.Passing.{IsOfPlace, IsSureArm}
use Rattle.hay_cluster.specs.Reads.{FoundPasses, FoundSays, NeverIn, counts_of, outcomes_of, passed_at, FoundSees}
use Rattle.hay_cluster.specs.Store.{IsBuilt, Open, contents_in, disks_of}
use Rattle.hay_cluster.proofs.Answering.{stays}
use Rattle.hay_cluster.proofs.Moves.{none_falls}
use Rattle.hay_cluster.proofs.Showing.{names_each, read_shown, read_unreadable, to_below}
use Rattle.hay_cluster.proofs.Sure.{same_sure}
use Rattle.hay_cluster.proofs.Suiting.{on_machine}
use Rattle.hay_cluster.proofs.Sighting.{keeps_photos, kept_home, looks_home}
use Rattle.hay_cluster.proofs.ReadSights.{sees_on}
use Rattle.hay_cluster.proofs.Passing.{passed_all, passed_to}
use Rattle.hay_cluster.specs.Seen.{home_seen, store_seen}
use Rattle.hay_cluster.proofs.Seeing.{keeps_all}
use Rattle.hay_cluster.specs.Sights.{IsAbsent}
use Rattle.hay_logical.specs.Sights.{IsLiveSight}
use Rattle.hay_cluster.proofs.Needling.{home_told}
use Rattle.hay_cluster.proofs.cluster.Cluster.show.Goals as goal

pub returns-in_default-clause-shown : goal.returns-in_default-clause-shown
returns-in_default-clause-shown g c = λ tells k stands home. record { known = k; legal = inl (stays k); stands = stands }

pub returns-in_default-clause-counts : goal.returns-in_default-clause-counts
returns-in_default-clause-counts g c = none_falls (map g.D.Disk.fault_count (disks_of c.args.self.now))

pub returns-in_default-clause-arm_counts : goal.returns-in_default-clause-arm_counts
returns-in_default-clause-arm_counts g c = none_falls (map g.A.Arm.fault_count (c.args.self.now).arms)

pub fetch-front-requires-clause-empty : goal.fetch-front-requires-clause-empty
fetch-front-requires-clause-empty g c = c.in-Ok.ensures.items

pub fetch-front-requires-clause-room : goal.fetch-front-requires-clause-room
fetch-front-requires-clause-room g c = omega (arith, c.in-Ok.ensures.exact)

pub returns-in-Photo-clause-shown : goal.returns-in-Photo-clause-shown
returns-in-Photo-clause-shown g c = λ tells k stands home.
    let same : c.self.inside.settings ≡ (c.args.self.now).settings = ap (λ (st : Open g.row.D.Denot g.row.D-Piece.Denot g.row.A.Denot). st.settings) c.self.view_is ∙ c.fetch-front.ensures.settings in
    let read = c.fetch-front.ensures.says tells k stands in
    let says = subst (λ (f : Found). FoundSays c.args.cookie (outcomes_of (c.args.self.now).settings (volume_at k c.args.volume) c.args.pair) c.fetch-front.new.photo.items f) c.in-Photo.is read.1 in
    let passes =
    subst (λ (f : Found). FoundPasses (NeverIn g.D.Disk.Tells g.D.Disk.files g.D.Piece.Piece.Tells g.D.Disk.fault_count g.D.Disk.fuse_count g.A.Arm.fault_count g.A.Arm.is_sure
    c.args.self.now c.args.tag.lane) (c.args.self.now).settings c.args.tag.lane c.args.volume c.args.start (counts_of g.D.Disk.fault_count g.A.Arm.fault_count c.args.self.now)
    (counts_of g.D.Disk.fault_count g.A.Arm.fault_count c.fetch-front.new.self) (IsOfPlace g.D.Disk.Tells (c.args.self.now).settings
    (contents_in g.D.Disk.files c.fetch-front.new.self) (store_seen c.fetch-front.new.self) c.args.volume c.args.pair) f) c.in-Photo.is c.fetch-front.ensures.passes in
    let here =
    subst (λ (bytes : List ℕ). slice_get (outcomes_of (c.args.self.now).settings (volume_at k c.args.volume) c.args.pair) c.in-Photo.replica
    ≡ Some (outcome.Photo (record { cookie = c.args.cookie; bytes = bytes }))) (sym c.bytes_of.ensures.is) says in
    let legal =
    read_shown g.D.Disk.Tells g.D.Disk.files g.D.Piece.Piece.Tells g.D.Disk.fault_count g.D.Disk.fuse_count g.A.Arm.fault_count g.A.Arm.is_sure c.args.self.now
    c.fetch-front.new.self (c.args.self.now).settings k c.args.tag c.args.start c.args.pair c.args.volume c.in-Photo.replica c.machine_of.result c.fetch-front.result.0
    c.rows-rows.result (outcome.Photo (record { cookie = c.args.cookie; bytes = c.bytes_of.result }))
    (IsOfPlace g.D.Disk.Tells (c.args.self.now).settings (contents_in g.D.Disk.files c.fetch-front.new.self) (store_seen c.fetch-front.new.self) c.args.volume c.args.pair) passes.0
    (subst (λ (s : Settings). IsBuilt s) same c.self.invariant.built) c.requires.volume home read.0 (c.rows-rows.ensures.known tells k stands)
    (c.machine_of.ensures.is ∙ ap (λ (s : Settings). machine_of s c.args.volume c.in-Photo.replica) same) (tells, k, stands) stands read.2 here passes.1 in
    record { known = (read.2).known; legal = legal; stands = (read.2).stands }

pub returns-in-Gone-clause-shown : goal.returns-in-Gone-clause-shown
returns-in-Gone-clause-shown g c = λ tells k stands home.
    let same : c.self.inside.settings ≡ (c.args.self.now).settings = ap (λ (st : Open g.row.D.Denot g.row.D-Piece.Denot g.row.A.Denot). st.settings) c.self.view_is ∙ c.fetch-front.ensures.settings in
    let read = c.fetch-front.ensures.says tells k stands in
    let says = subst (λ (f : Found). FoundSays c.args.cookie (outcomes_of (c.args.self.now).settings (volume_at k c.args.volume) c.args.pair) c.fetch-front.new.photo.items f) c.in-Gone.is read.1 in
    let passes =
    subst (λ (f : Found). FoundPasses (NeverIn g.D.Disk.Tells g.D.Disk.files g.D.Piece.Piece.Tells g.D.Disk.fault_count g.D.Disk.fuse_count g.A.Arm.fault_count g.A.Arm.is_sure
    c.args.self.now c.args.tag.lane) (c.args.self.now).settings c.args.tag.lane c.args.volume c.args.start (counts_of g.D.Disk.fault_count g.A.Arm.fault_count c.args.self.now)
    (counts_of g.D.Disk.fault_count g.A.Arm.fault_count c.fetch-front.new.self) (IsOfPlace g.D.Disk.Tells (c.args.self.now).settings
    (contents_in g.D.Disk.files c.fetch-front.new.self) (store_seen c.fetch-front.new.self) c.args.volume c.args.pair) f) c.in-Gone.is c.fetch-front.ensures.passes in
    let legal =
    read_shown g.D.Disk.Tells g.D.Disk.files g.D.Piece.Piece.Tells g.D.Disk.fault_count g.D.Disk.fuse_count g.A.Arm.fault_count g.A.Arm.is_sure c.args.self.now
    c.fetch-front.new.self (c.args.self.now).settings k c.args.tag c.args.start c.args.pair c.args.volume c.in-Gone.replica c.machine_of-in-Gone.result c.fetch-front.result.0
    c.rows-rows.result outcome.Nothing (IsOfPlace g.D.Disk.Tells (c.args.self.now).settings (contents_in g.D.Disk.files c.fetch-front.new.self)
    (store_seen c.fetch-front.new.self) c.args.volume c.args.pair) passes.0
    (subst (λ (s : Settings). IsBuilt s) same c.self.invariant.built) c.requires.volume home read.0 (c.rows-rows.ensures.known tells k stands)
    (c.machine_of-in-Gone.ensures.is ∙ ap (λ (s : Settings). machine_of s c.args.volume c.in-Gone.replica) same) (tells, k, stands) stands read.2 says passes.1 in
    record { known = (read.2).known; legal = legal; stands = (read.2).stands }

pub returns-in-WrongCookie-clause-shown : goal.returns-in-WrongCookie-clause-shown
returns-in-WrongCookie-clause-shown g c = λ tells k stands home.
    let same : c.self.inside.settings ≡ (c.args.self.now).settings = ap (λ (st : Open g.row.D.Denot g.row.D-Piece.Denot g.row.A.Denot). st.settings) c.self.view_is ∙ c.fetch-front.ensures.settings in
    let read = c.fetch-front.ensures.says tells k stands in
    let says =
    subst (λ (f : Found). FoundSays c.args.cookie (outcomes_of (c.args.self.now).settings (volume_at k c.args.volume) c.args.pair) c.fetch-front.new.photo.items f) c.in-WrongCookie.is read.1 in
    let passes =
    subst (λ (f : Found). FoundPasses (NeverIn g.D.Disk.Tells g.D.Disk.files g.D.Piece.Piece.Tells g.D.Disk.fault_count g.D.Disk.fuse_count g.A.Arm.fault_count g.A.Arm.is_sure
    c.args.self.now c.args.tag.lane) (c.args.self.now).settings c.args.tag.lane c.args.volume c.args.start (counts_of g.D.Disk.fault_count g.A.Arm.fault_count c.args.self.now)
    (counts_of g.D.Disk.fault_count g.A.Arm.fault_count c.fetch-front.new.self) (IsOfPlace g.D.Disk.Tells (c.args.self.now).settings
    (contents_in g.D.Disk.files c.fetch-front.new.self) (store_seen c.fetch-front.new.self) c.args.volume c.args.pair) f) c.in-WrongCookie.is c.fetch-front.ensures.passes in
    let legal =
    read_shown g.D.Disk.Tells g.D.Disk.files g.D.Piece.Piece.Tells g.D.Disk.fault_count g.D.Disk.fuse_count g.A.Arm.fault_count g.A.Arm.is_sure c.args.self.now
    c.fetch-front.new.self (c.args.self.now).settings k c.args.tag c.args.start c.args.pair c.args.volume c.in-WrongCookie.replica c.machine_of-in-WrongCookie.result
    c.fetch-front.result.0 c.rows-rows.result (outcome.Photo says.0) (IsOfPlace g.D.Disk.Tells (c.args.self.now).settings (contents_in g.D.Disk.files c.fetch-front.new.self)
    (store_seen c.fetch-front.new.self) c.args.volume c.args.pair) passes.0
    (subst (λ (s : Settings). IsBuilt s) same c.self.invariant.built) c.requires.volume home read.0 (c.rows-rows.ensures.known tells k stands)
    (c.machine_of-in-WrongCookie.ensures.is ∙ ap (λ (s : Settings). machine_of s c.args.volume c.in-WrongCookie.replica) same) (tells, k, stands) stands read.2 says.2 passes.1 in
    record { known = (read.2).known; legal = (says.0.cookie, says.0.bytes, says.1, legal); stands = (read.2).stands }

pub returns-in-Ok-passed_of-clause-shown : goal.returns-in-Ok-passed_of-clause-shown
returns-in-Ok-passed_of-clause-shown g c = λ tells k stands home.
    let same : c.self.inside.settings ≡ (c.args.self.now).settings = ap (λ (st : Open g.row.D.Denot g.row.D-Piece.Denot g.row.A.Denot). st.settings) c.self.view_is ∙ c.fetch-front.ensures.settings in
    let read = c.fetch-front.ensures.says tells k stands in
    let passes =
    subst (λ (f : Found). FoundPasses (NeverIn g.D.Disk.Tells g.D.Disk.files g.D.Piece.Piece.Tells g.D.Disk.fault_count g.D.Disk.fuse_count g.A.Arm.fault_count g.A.Arm.is_sure
    c.args.self.now c.args.tag.lane) (c.args.self.now).settings c.args.tag.lane c.args.volume c.args.start (counts_of g.D.Disk.fault_count g.A.Arm.fault_count c.args.self.now)
    (counts_of g.D.Disk.fault_count g.A.Arm.fault_count c.fetch-front.new.self) (IsOfPlace g.D.Disk.Tells (c.args.self.now).settings
    (contents_in g.D.Disk.files c.fetch-front.new.self) (store_seen c.fetch-front.new.self) c.args.volume c.args.pair) f) c.in-Unreadable.is c.fetch-front.ensures.passes in
    let is : c.in-Ok-passed_of.causes ≡ map (passed_at (c.args.self.now).settings c.args.volume) c.in-Unreadable.causes =
    c.in-Ok-passed_of.ensures.is ∙ ap (λ (over : List PassedReplica). map (passed_at c.self.inside.settings c.args.volume) over) c.as_slice.ensures.is
    ∙ ap (λ (s : Settings). map (passed_at s c.args.volume) c.in-Unreadable.causes) same in
    record {
      known = (read.2).known;
      legal =
          read_unreadable g.D.Disk.Tells g.D.Disk.files g.D.Piece.Piece.Tells g.D.Disk.fault_count g.D.Disk.fuse_count g.A.Arm.fault_count g.A.Arm.is_sure c.args.self.now
          c.fetch-front.new.self (c.args.self.now).settings k c.args.tag c.args.start c.args.pair c.args.volume c.fetch-front.result.0 c.rows-rows.result c.in-Unreadable.causes
          c.in-Ok-passed_of.causes
          home read.0 (c.rows-rows.ensures.known tells k stands) is (tells, k, stands) stands read.2 passes.passes passes.all;
      stands = (read.2).stands;
    }

pub passed_of-requires : goal.passed_of-requires
passed_of-requires g c = c.self.invariant.built

pub returns-in-Unreadable-clause-shown : goal.returns-in-Unreadable-clause-shown
returns-in-Unreadable-clause-shown g c = λ tells k stands home.
    let read = c.fetch-front.ensures.says tells k stands in
    record { known = (read.2).known; legal = inl (read.2).leaves; stands = (read.2).stands }

pub returns-clause-shown : goal.returns-clause-shown
returns-clause-shown g c = λ tells k stands home.
    let read = c.fetch-front.ensures.says tells k stands in
    record { known = (read.2).known; legal = inl (read.2).leaves; stands = (read.2).stands }

pub machine_of-requires : goal.machine_of-requires
machine_of-requires g c = (c.self.invariant.built).some_machines

pub machine_of-requires-in-Gone : goal.machine_of-requires-in-Gone
machine_of-requires-in-Gone g c = (c.self.invariant.built).some_machines

pub machine_of-requires-in-WrongCookie : goal.machine_of-requires-in-WrongCookie
machine_of-requires-in-WrongCookie g c = (c.self.invariant.built).some_machines

pub returns-in_default-clause-sure_arms : goal.returns-in_default-clause-sure_arms
returns-in_default-clause-sure_arms g c = same_sure g.A.Arm.is_sure g.A.Arm.fault_count (c.args.self.now).arms (c.args.self.now).arms refl

pub returns-in_default-clause-here : goal.returns-in_default-clause-here
returns-in_default-clause-here g c = inr refl

pub returns-in-Photo-clause-here : goal.returns-in-Photo-clause-here
returns-in-Photo-clause-here g c =
    let same : c.self.inside.settings ≡ (c.args.self.now).settings = ap (λ (st : Open g.row.D.Denot g.row.D-Piece.Denot g.row.A.Denot). st.settings) c.self.view_is ∙ c.fetch-front.ensures.settings in
    let passes =
    subst (λ (f : Found). FoundPasses (NeverIn g.D.Disk.Tells g.D.Disk.files g.D.Piece.Piece.Tells g.D.Disk.fault_count g.D.Disk.fuse_count g.A.Arm.fault_count g.A.Arm.is_sure
    c.args.self.now c.args.tag.lane) (c.args.self.now).settings c.args.tag.lane c.args.volume c.args.start (counts_of g.D.Disk.fault_count g.A.Arm.fault_count c.args.self.now)
    (counts_of g.D.Disk.fault_count g.A.Arm.fault_count c.fetch-front.new.self) (IsOfPlace g.D.Disk.Tells (c.args.self.now).settings
    (contents_in g.D.Disk.files c.fetch-front.new.self) (store_seen c.fetch-front.new.self) c.args.volume c.args.pair) f) c.in-Photo.is c.fetch-front.ensures.passes in
    let below =
    to_below (NeverIn g.D.Disk.Tells g.D.Disk.files g.D.Piece.Piece.Tells g.D.Disk.fault_count g.D.Disk.fuse_count g.A.Arm.fault_count g.A.Arm.is_sure c.args.self.now
    c.args.tag.lane) (c.args.self.now).settings c.args.tag.lane c.args.volume c.args.start (counts_of g.D.Disk.fault_count g.A.Arm.fault_count c.args.self.now)
    (counts_of g.D.Disk.fault_count g.A.Arm.fault_count c.fetch-front.new.self) (IsOfPlace g.D.Disk.Tells (c.args.self.now).settings
    (contents_in g.D.Disk.files c.fetch-front.new.self) (store_seen c.fetch-front.new.self) c.args.volume c.args.pair) [] passes.0 c.in-Photo.replica passes.1 in
    let on = on_machine (c.args.self.now).settings c.args.volume c.in-Photo.replica c.machine_of.result (subst (λ (s : Settings). IsBuilt s) same c.self.invariant.built) c.requires.volume below
    (c.machine_of.ensures.is ∙ ap (λ (s : Settings). machine_of s c.args.volume c.in-Photo.replica) same) in
    inl (inl (
      c.machine_of.result,
      c.fetch-front.result.0,
      c.rows-rows.result,
      c.bytes_of.result,
      on,
      subst (λ (bytes : List ℕ). length bytes ≤ MAX_PHOTO) (sym c.bytes_of.ensures.is) (c.fetch-front.ensures.bytes c.in-Photo.replica c.in-Photo.is),
      refl,
    ))

pub returns-in-Gone-clause-here : goal.returns-in-Gone-clause-here
returns-in-Gone-clause-here g c =
    let same : c.self.inside.settings ≡ (c.args.self.now).settings = ap (λ (st : Open g.row.D.Denot g.row.D-Piece.Denot g.row.A.Denot). st.settings) c.self.view_is ∙ c.fetch-front.ensures.settings in
    let passes =
    subst (λ (f : Found). FoundPasses (NeverIn g.D.Disk.Tells g.D.Disk.files g.D.Piece.Piece.Tells g.D.Disk.fault_count g.D.Disk.fuse_count g.A.Arm.fault_count g.A.Arm.is_sure
    c.args.self.now c.args.tag.lane) (c.args.self.now).settings c.args.tag.lane c.args.volume c.args.start (counts_of g.D.Disk.fault_count g.A.Arm.fault_count c.args.self.now)
    (counts_of g.D.Disk.fault_count g.A.Arm.fault_count c.fetch-front.new.self) (IsOfPlace g.D.Disk.Tells (c.args.self.now).settings
    (contents_in g.D.Disk.files c.fetch-front.new.self) (store_seen c.fetch-front.new.self) c.args.volume c.args.pair) f) c.in-Gone.is c.fetch-front.ensures.passes in
    let below =
    to_below (NeverIn g.D.Disk.Tells g.D.Disk.files g.D.Piece.Piece.Tells g.D.Disk.fault_count g.D.Disk.fuse_count g.A.Arm.fault_count g.A.Arm.is_sure c.args.self.now
    c.args.tag.lane) (c.args.self.now).settings c.args.tag.lane c.args.volume c.args.start (counts_of g.D.Disk.fault_count g.A.Arm.fault_count c.args.self.now)
    (counts_of g.D.Disk.fault_count g.A.Arm.fault_count c.fetch-front.new.self) (IsOfPlace g.D.Disk.Tells (c.args.self.now).settings
    (contents_in g.D.Disk.files c.fetch-front.new.self) (store_seen c.fetch-front.new.self) c.args.volume c.args.pair) [] passes.0 c.in-Gone.replica passes.1 in
    let on = on_machine (c.args.self.now).settings c.args.volume c.in-Gone.replica c.machine_of-in-Gone.result (subst (λ (s : Settings). IsBuilt s) same c.self.invariant.built) c.requires.volume below
    (c.machine_of-in-Gone.ensures.is ∙ ap (λ (s : Settings). machine_of s c.args.volume c.in-Gone.replica) same) in
    inl (inr (inl (c.machine_of-in-Gone.result, c.fetch-front.result.0, c.rows-rows.result, on, refl)))

pub returns-in-WrongCookie-clause-here : goal.returns-in-WrongCookie-clause-here
returns-in-WrongCookie-clause-here g c =
    let same : c.self.inside.settings ≡ (c.args.self.now).settings = ap (λ (st : Open g.row.D.Denot g.row.D-Piece.Denot g.row.A.Denot). st.settings) c.self.view_is ∙ c.fetch-front.ensures.settings in
    let passes =
    subst (λ (f : Found). FoundPasses (NeverIn g.D.Disk.Tells g.D.Disk.files g.D.Piece.Piece.Tells g.D.Disk.fault_count g.D.Disk.fuse_count g.A.Arm.fault_count g.A.Arm.is_sure
    c.args.self.now c.args.tag.lane) (c.args.self.now).settings c.args.tag.lane c.args.volume c.args.start (counts_of g.D.Disk.fault_count g.A.Arm.fault_count c.args.self.now)
    (counts_of g.D.Disk.fault_count g.A.Arm.fault_count c.fetch-front.new.self) (IsOfPlace g.D.Disk.Tells (c.args.self.now).settings
    (contents_in g.D.Disk.files c.fetch-front.new.self) (store_seen c.fetch-front.new.self) c.args.volume c.args.pair) f) c.in-WrongCookie.is c.fetch-front.ensures.passes in
    let below =
    to_below (NeverIn g.D.Disk.Tells g.D.Disk.files g.D.Piece.Piece.Tells g.D.Disk.fault_count g.D.Disk.fuse_count g.A.Arm.fault_count g.A.Arm.is_sure c.args.self.now
    c.args.tag.lane) (c.args.self.now).settings c.args.tag.lane c.args.volume c.args.start (counts_of g.D.Disk.fault_count g.A.Arm.fault_count c.args.self.now)
    (counts_of g.D.Disk.fault_count g.A.Arm.fault_count c.fetch-front.new.self) (IsOfPlace g.D.Disk.Tells (c.args.self.now).settings
    (contents_in g.D.Disk.files c.fetch-front.new.self) (store_seen c.fetch-front.new.self) c.args.volume c.args.pair) [] passes.0 c.in-WrongCookie.replica passes.1 in
    let on =
    on_machine (c.args.self.now).settings c.args.volume c.in-WrongCookie.replica c.machine_of-in-WrongCookie.result
    (subst (λ (s : Settings). IsBuilt s) same c.self.invariant.built) c.requires.volume below
    (c.machine_of-in-WrongCookie.ensures.is ∙ ap (λ (s : Settings). machine_of s c.args.volume c.in-WrongCookie.replica) same) in
    inl (inr (inr (inl (c.machine_of-in-WrongCookie.result, c.fetch-front.result.0, c.rows-rows.result, on, refl))))

pub returns-in-Ok-passed_of-clause-here : goal.returns-in-Ok-passed_of-clause-here
returns-in-Ok-passed_of-clause-here g c =
    let same : c.self.inside.settings ≡ (c.args.self.now).settings = ap (λ (st : Open g.row.D.Denot g.row.D-Piece.Denot g.row.A.Denot). st.settings) c.self.view_is ∙ c.fetch-front.ensures.settings in
    let passes =
    subst (λ (f : Found). FoundPasses (NeverIn g.D.Disk.Tells g.D.Disk.files g.D.Piece.Piece.Tells g.D.Disk.fault_count g.D.Disk.fuse_count g.A.Arm.fault_count g.A.Arm.is_sure
    c.args.self.now c.args.tag.lane) (c.args.self.now).settings c.args.tag.lane c.args.volume c.args.start (counts_of g.D.Disk.fault_count g.A.Arm.fault_count c.args.self.now)
    (counts_of g.D.Disk.fault_count g.A.Arm.fault_count c.fetch-front.new.self) (IsOfPlace g.D.Disk.Tells (c.args.self.now).settings
    (contents_in g.D.Disk.files c.fetch-front.new.self) (store_seen c.fetch-front.new.self) c.args.volume c.args.pair) f) c.in-Unreadable.is c.fetch-front.ensures.passes in
    let is : c.in-Ok-passed_of.causes ≡ map (passed_at (c.args.self.now).settings c.args.volume) c.in-Unreadable.causes =
    c.in-Ok-passed_of.ensures.is ∙ ap (λ (over : List PassedReplica). map (passed_at c.self.inside.settings c.args.volume) over) c.as_slice.ensures.is
    ∙ ap (λ (s : Settings). map (passed_at s c.args.volume) c.in-Unreadable.causes) same in
    let each = names_each (c.args.self.now).settings c.args.start c.args.volume c.in-Unreadable.causes c.in-Ok-passed_of.causes is passes.passes.order passes.all in
    inl (inr (inr (inr (c.fetch-front.result.0, c.rows-rows.result, c.in-Ok-passed_of.causes, each, refl))))

pub returns-in-Unreadable-clause-here : goal.returns-in-Unreadable-clause-here
returns-in-Unreadable-clause-here g c = inr refl

pub returns-clause-here : goal.returns-clause-here
returns-clause-here g c = inr refl

pub returns-in-Photo-clause-shows : goal.returns-in-Photo-clause-shows
returns-in-Photo-clause-shows g c = ((c.requires.home, c.rows-rows.ensures.count), c.fetch-front.ensures.front)

pub returns-in-Gone-clause-shows : goal.returns-in-Gone-clause-shows
returns-in-Gone-clause-shows g c = ((c.requires.home, c.rows-rows.ensures.count), c.fetch-front.ensures.front)

pub returns-in-WrongCookie-clause-shows : goal.returns-in-WrongCookie-clause-shows
returns-in-WrongCookie-clause-shows g c = ((c.requires.home, c.rows-rows.ensures.count), c.fetch-front.ensures.front)

pub returns-in-Ok-passed_of-clause-shows : goal.returns-in-Ok-passed_of-clause-shows
returns-in-Ok-passed_of-clause-shows g c = ((c.requires.home, c.rows-rows.ensures.count), c.fetch-front.ensures.front)

pub returns-in_default-clause-seen : goal.returns-in_default-clause-seen
returns-in_default-clause-seen g c =
    keeps_all (store_seen c.args.self.now)

pub returns-in_default-clause-sights : goal.returns-in_default-clause-sights
returns-in_default-clause-sights g c =
    kept_home c.args.pair (home_seen (store_seen c.args.self.now) c.args.pair) (store_seen c.args.self.now) (store_seen c.args.self.now) (keeps_photos (store_seen c.args.self.now))

pub returns-in-Photo-clause-sights : goal.returns-in-Photo-clause-sights
returns-in-Photo-clause-sights g c =
    let same : c.self.inside.settings ≡ (c.args.self.now).settings = ap (λ (st : Open g.row.D.Denot g.row.D-Piece.Denot g.row.A.Denot). st.settings) c.self.view_is ∙ c.fetch-front.ensures.settings in
    let passes =
    subst (λ (f : Found). FoundPasses (NeverIn g.D.Disk.Tells g.D.Disk.files g.D.Piece.Piece.Tells g.D.Disk.fault_count g.D.Disk.fuse_count g.A.Arm.fault_count g.A.Arm.is_sure
    c.args.self.now c.args.tag.lane) (c.args.self.now).settings c.args.tag.lane c.args.volume c.args.start (counts_of g.D.Disk.fault_count g.A.Arm.fault_count c.args.self.now)
    (counts_of g.D.Disk.fault_count g.A.Arm.fault_count c.fetch-front.new.self) (IsOfPlace g.D.Disk.Tells (c.args.self.now).settings
    (contents_in g.D.Disk.files c.fetch-front.new.self) (store_seen c.fetch-front.new.self) c.args.volume c.args.pair) f) c.in-Photo.is c.fetch-front.ensures.passes in
    let below =
    to_below (NeverIn g.D.Disk.Tells g.D.Disk.files g.D.Piece.Piece.Tells g.D.Disk.fault_count g.D.Disk.fuse_count g.A.Arm.fault_count g.A.Arm.is_sure c.args.self.now
    c.args.tag.lane) (c.args.self.now).settings c.args.tag.lane c.args.volume c.args.start (counts_of g.D.Disk.fault_count g.A.Arm.fault_count c.args.self.now)
    (counts_of g.D.Disk.fault_count g.A.Arm.fault_count c.fetch-front.new.self) (IsOfPlace g.D.Disk.Tells (c.args.self.now).settings
    (contents_in g.D.Disk.files c.fetch-front.new.self) (store_seen c.fetch-front.new.self) c.args.volume c.args.pair) [] passes.0 c.in-Photo.replica passes.1 in
    let seen = subst (λ (f : Found). FoundSees ((store_seen c.fetch-front.new.self).places c.args.volume c.args.pair) f) c.in-Photo.is c.fetch-front.ensures.sees in (
      c.fetch-front.ensures.looks,
      sees_on (c.args.self.now).settings c.args.volume c.args.pair (store_seen c.fetch-front.new.self) (subst (λ (s : Settings). IsBuilt s) same c.self.invariant.built)
          c.requires.volume IsLiveSight c.in-Photo.replica c.machine_of.result below
          (c.machine_of.ensures.is ∙ ap (λ (s : Settings). machine_of s c.args.volume c.in-Photo.replica) same) seen,
    )

pub returns-in-Gone-clause-sights : goal.returns-in-Gone-clause-sights
returns-in-Gone-clause-sights g c =
    let same : c.self.inside.settings ≡ (c.args.self.now).settings = ap (λ (st : Open g.row.D.Denot g.row.D-Piece.Denot g.row.A.Denot). st.settings) c.self.view_is ∙ c.fetch-front.ensures.settings in
    let passes =
    subst (λ (f : Found). FoundPasses (NeverIn g.D.Disk.Tells g.D.Disk.files g.D.Piece.Piece.Tells g.D.Disk.fault_count g.D.Disk.fuse_count g.A.Arm.fault_count g.A.Arm.is_sure
    c.args.self.now c.args.tag.lane) (c.args.self.now).settings c.args.tag.lane c.args.volume c.args.start (counts_of g.D.Disk.fault_count g.A.Arm.fault_count c.args.self.now)
    (counts_of g.D.Disk.fault_count g.A.Arm.fault_count c.fetch-front.new.self) (IsOfPlace g.D.Disk.Tells (c.args.self.now).settings
    (contents_in g.D.Disk.files c.fetch-front.new.self) (store_seen c.fetch-front.new.self) c.args.volume c.args.pair) f) c.in-Gone.is c.fetch-front.ensures.passes in
    let below =
    to_below (NeverIn g.D.Disk.Tells g.D.Disk.files g.D.Piece.Piece.Tells g.D.Disk.fault_count g.D.Disk.fuse_count g.A.Arm.fault_count g.A.Arm.is_sure c.args.self.now
    c.args.tag.lane) (c.args.self.now).settings c.args.tag.lane c.args.volume c.args.start (counts_of g.D.Disk.fault_count g.A.Arm.fault_count c.args.self.now)
    (counts_of g.D.Disk.fault_count g.A.Arm.fault_count c.fetch-front.new.self) (IsOfPlace g.D.Disk.Tells (c.args.self.now).settings
    (contents_in g.D.Disk.files c.fetch-front.new.self) (store_seen c.fetch-front.new.self) c.args.volume c.args.pair) [] passes.0 c.in-Gone.replica passes.1 in
    let seen = subst (λ (f : Found). FoundSees ((store_seen c.fetch-front.new.self).places c.args.volume c.args.pair) f) c.in-Gone.is c.fetch-front.ensures.sees in (
      c.fetch-front.ensures.looks,
      sees_on (c.args.self.now).settings c.args.volume c.args.pair (store_seen c.fetch-front.new.self) (subst (λ (s : Settings). IsBuilt s) same c.self.invariant.built)
          c.requires.volume IsAbsent c.in-Gone.replica c.machine_of-in-Gone.result below
          (c.machine_of-in-Gone.ensures.is ∙ ap (λ (s : Settings). machine_of s c.args.volume c.in-Gone.replica) same) seen,
    )

pub returns-in-WrongCookie-clause-sights : goal.returns-in-WrongCookie-clause-sights
returns-in-WrongCookie-clause-sights g c =
    let same : c.self.inside.settings ≡ (c.args.self.now).settings = ap (λ (st : Open g.row.D.Denot g.row.D-Piece.Denot g.row.A.Denot). st.settings) c.self.view_is ∙ c.fetch-front.ensures.settings in
    let passes =
    subst (λ (f : Found). FoundPasses (NeverIn g.D.Disk.Tells g.D.Disk.files g.D.Piece.Piece.Tells g.D.Disk.fault_count g.D.Disk.fuse_count g.A.Arm.fault_count g.A.Arm.is_sure
    c.args.self.now c.args.tag.lane) (c.args.self.now).settings c.args.tag.lane c.args.volume c.args.start (counts_of g.D.Disk.fault_count g.A.Arm.fault_count c.args.self.now)
    (counts_of g.D.Disk.fault_count g.A.Arm.fault_count c.fetch-front.new.self) (IsOfPlace g.D.Disk.Tells (c.args.self.now).settings
    (contents_in g.D.Disk.files c.fetch-front.new.self) (store_seen c.fetch-front.new.self) c.args.volume c.args.pair) f) c.in-WrongCookie.is c.fetch-front.ensures.passes in
    let below =
    to_below (NeverIn g.D.Disk.Tells g.D.Disk.files g.D.Piece.Piece.Tells g.D.Disk.fault_count g.D.Disk.fuse_count g.A.Arm.fault_count g.A.Arm.is_sure c.args.self.now
    c.args.tag.lane) (c.args.self.now).settings c.args.tag.lane c.args.volume c.args.start (counts_of g.D.Disk.fault_count g.A.Arm.fault_count c.args.self.now)
    (counts_of g.D.Disk.fault_count g.A.Arm.fault_count c.fetch-front.new.self) (IsOfPlace g.D.Disk.Tells (c.args.self.now).settings
    (contents_in g.D.Disk.files c.fetch-front.new.self) (store_seen c.fetch-front.new.self) c.args.volume c.args.pair) [] passes.0 c.in-WrongCookie.replica passes.1 in
    let seen = subst (λ (f : Found). FoundSees ((store_seen c.fetch-front.new.self).places c.args.volume c.args.pair) f) c.in-WrongCookie.is c.fetch-front.ensures.sees in (
      c.fetch-front.ensures.looks,
      sees_on (c.args.self.now).settings c.args.volume c.args.pair (store_seen c.fetch-front.new.self) (subst (λ (s : Settings). IsBuilt s) same c.self.invariant.built)
          c.requires.volume IsLiveSight c.in-WrongCookie.replica c.machine_of-in-WrongCookie.result below
          (c.machine_of-in-WrongCookie.ensures.is ∙ ap (λ (s : Settings). machine_of s c.args.volume c.in-WrongCookie.replica) same) seen,
    )

pub returns-in-Ok-passed_of-clause-sights : goal.returns-in-Ok-passed_of-clause-sights
returns-in-Ok-passed_of-clause-sights g c = c.fetch-front.ensures.looks

pub returns-in-Unreadable-clause-sights : goal.returns-in-Unreadable-clause-sights
returns-in-Unreadable-clause-sights g c =
    looks_home c.args.pair c.args.volume (store_seen c.args.self.now) (store_seen c.fetch-front.new.self) c.requires.home c.fetch-front.ensures.looks

pub returns-clause-sights : goal.returns-clause-sights
returns-clause-sights g c =
    looks_home c.args.pair c.args.volume (store_seen c.args.self.now) (store_seen c.fetch-front.new.self) c.requires.home c.fetch-front.ensures.looks

pub returns-in-Photo-clause-passes : goal.returns-in-Photo-clause-passes
returns-in-Photo-clause-passes g c =
    let same : c.self.inside.settings ≡ (c.args.self.now).settings = ap (λ (st : Open g.row.D.Denot g.row.D-Piece.Denot g.row.A.Denot). st.settings) c.self.view_is ∙ c.fetch-front.ensures.settings in
    let passes =
    subst (λ (f : Found). FoundPasses (NeverIn g.D.Disk.Tells g.D.Disk.files g.D.Piece.Piece.Tells g.D.Disk.fault_count g.D.Disk.fuse_count g.A.Arm.fault_count g.A.Arm.is_sure
    c.args.self.now c.args.tag.lane) (c.args.self.now).settings c.args.tag.lane c.args.volume c.args.start (counts_of g.D.Disk.fault_count g.A.Arm.fault_count c.args.self.now)
    (counts_of g.D.Disk.fault_count g.A.Arm.fault_count c.fetch-front.new.self) (IsOfPlace g.D.Disk.Tells (c.args.self.now).settings
    (contents_in g.D.Disk.files c.fetch-front.new.self) (store_seen c.fetch-front.new.self) c.args.volume c.args.pair) f) c.in-Photo.is c.fetch-front.ensures.passes in
    passed_to g.D.Disk.Tells (NeverIn g.D.Disk.Tells g.D.Disk.files g.D.Piece.Piece.Tells g.D.Disk.fault_count g.D.Disk.fuse_count g.A.Arm.fault_count g.A.Arm.is_sure
    c.args.self.now c.args.tag.lane) (IsSureArm g.A.Arm.is_sure (c.args.self.now).arms c.args.tag.lane) (λ f sure. sure) (c.args.self.now).settings c.args.tag.lane
    c.args.volume c.args.start (counts_of g.D.Disk.fault_count g.A.Arm.fault_count c.args.self.now) (counts_of g.D.Disk.fault_count g.A.Arm.fault_count c.fetch-front.new.self)
    (subst (λ (s : Settings). IsBuilt s) same c.self.invariant.built) c.requires.volume
    (contents_in g.D.Disk.files c.fetch-front.new.self) c.args.pair (store_seen c.fetch-front.new.self) passes.0 c.in-Photo.replica c.machine_of.result
    (c.machine_of.ensures.is ∙ ap (λ (s : Settings). machine_of s c.args.volume c.in-Photo.replica) same) passes.1

pub returns-in-Gone-clause-passes : goal.returns-in-Gone-clause-passes
returns-in-Gone-clause-passes g c =
    let same : c.self.inside.settings ≡ (c.args.self.now).settings = ap (λ (st : Open g.row.D.Denot g.row.D-Piece.Denot g.row.A.Denot). st.settings) c.self.view_is ∙ c.fetch-front.ensures.settings in
    let passes =
    subst (λ (f : Found). FoundPasses (NeverIn g.D.Disk.Tells g.D.Disk.files g.D.Piece.Piece.Tells g.D.Disk.fault_count g.D.Disk.fuse_count g.A.Arm.fault_count g.A.Arm.is_sure
    c.args.self.now c.args.tag.lane) (c.args.self.now).settings c.args.tag.lane c.args.volume c.args.start (counts_of g.D.Disk.fault_count g.A.Arm.fault_count c.args.self.now)
    (counts_of g.D.Disk.fault_count g.A.Arm.fault_count c.fetch-front.new.self) (IsOfPlace g.D.Disk.Tells (c.args.self.now).settings
    (contents_in g.D.Disk.files c.fetch-front.new.self) (store_seen c.fetch-front.new.self) c.args.volume c.args.pair) f) c.in-Gone.is c.fetch-front.ensures.passes in
    passed_to g.D.Disk.Tells (NeverIn g.D.Disk.Tells g.D.Disk.files g.D.Piece.Piece.Tells g.D.Disk.fault_count g.D.Disk.fuse_count g.A.Arm.fault_count g.A.Arm.is_sure
    c.args.self.now c.args.tag.lane) (IsSureArm g.A.Arm.is_sure (c.args.self.now).arms c.args.tag.lane) (λ f sure. sure) (c.args.self.now).settings c.args.tag.lane
    c.args.volume c.args.start (counts_of g.D.Disk.fault_count g.A.Arm.fault_count c.args.self.now) (counts_of g.D.Disk.fault_count g.A.Arm.fault_count c.fetch-front.new.self)
    (subst (λ (s : Settings). IsBuilt s) same c.self.invariant.built) c.requires.volume
    (contents_in g.D.Disk.files c.fetch-front.new.self) c.args.pair (store_seen c.fetch-front.new.self) passes.0 c.in-Gone.replica c.machine_of-in-Gone.result
    (c.machine_of-in-Gone.ensures.is ∙ ap (λ (s : Settings). machine_of s c.args.volume c.in-Gone.replica) same) passes.1

pub returns-in-WrongCookie-clause-passes : goal.returns-in-WrongCookie-clause-passes
returns-in-WrongCookie-clause-passes g c =
    let same : c.self.inside.settings ≡ (c.args.self.now).settings = ap (λ (st : Open g.row.D.Denot g.row.D-Piece.Denot g.row.A.Denot). st.settings) c.self.view_is ∙ c.fetch-front.ensures.settings in
    let passes =
    subst (λ (f : Found). FoundPasses (NeverIn g.D.Disk.Tells g.D.Disk.files g.D.Piece.Piece.Tells g.D.Disk.fault_count g.D.Disk.fuse_count g.A.Arm.fault_count g.A.Arm.is_sure
    c.args.self.now c.args.tag.lane) (c.args.self.now).settings c.args.tag.lane c.args.volume c.args.start (counts_of g.D.Disk.fault_count g.A.Arm.fault_count c.args.self.now)
    (counts_of g.D.Disk.fault_count g.A.Arm.fault_count c.fetch-front.new.self) (IsOfPlace g.D.Disk.Tells (c.args.self.now).settings
    (contents_in g.D.Disk.files c.fetch-front.new.self) (store_seen c.fetch-front.new.self) c.args.volume c.args.pair) f) c.in-WrongCookie.is c.fetch-front.ensures.passes in
    passed_to g.D.Disk.Tells (NeverIn g.D.Disk.Tells g.D.Disk.files g.D.Piece.Piece.Tells g.D.Disk.fault_count g.D.Disk.fuse_count g.A.Arm.fault_count g.A.Arm.is_sure
    c.args.self.now c.args.tag.lane) (IsSureArm g.A.Arm.is_sure (c.args.self.now).arms c.args.tag.lane) (λ f sure. sure) (c.args.self.now).settings c.args.tag.lane
    c.args.volume c.args.start (counts_of g.D.Disk.fault_count g.A.Arm.fault_count c.args.self.now) (counts_of g.D.Disk.fault_count g.A.Arm.fault_count c.fetch-front.new.self)
    (subst (λ (s : Settings). IsBuilt s) same c.self.invariant.built) c.requires.volume
    (contents_in g.D.Disk.files c.fetch-front.new.self) c.args.pair (store_seen c.fetch-front.new.self) passes.0 c.in-WrongCookie.replica c.machine_of-in-WrongCookie.result
    (c.machine_of-in-WrongCookie.ensures.is ∙ ap (λ (s : Settings). machine_of s c.args.volume c.in-WrongCookie.replica) same) passes.1

pub returns-in-Ok-passed_of-clause-passes : goal.returns-in-Ok-passed_of-clause-passes
returns-in-Ok-passed_of-clause-passes g c =
    let same : c.self.inside.settings ≡ (c.args.self.now).settings = ap (λ (st : Open g.row.D.Denot g.row.D-Piece.Denot g.row.A.Denot). st.settings) c.self.view_is ∙ c.fetch-front.ensures.settings in
    let passes =
    subst (λ (f : Found). FoundPasses (NeverIn g.D.Disk.Tells g.D.Disk.files g.D.Piece.Piece.Tells g.D.Disk.fault_count g.D.Disk.fuse_count g.A.Arm.fault_count g.A.Arm.is_sure
    c.args.self.now c.args.tag.lane) (c.args.self.now).settings c.args.tag.lane c.args.volume c.args.start (counts_of g.D.Disk.fault_count g.A.Arm.fault_count c.args.self.now)
    (counts_of g.D.Disk.fault_count g.A.Arm.fault_count c.fetch-front.new.self) (IsOfPlace g.D.Disk.Tells (c.args.self.now).settings
    (contents_in g.D.Disk.files c.fetch-front.new.self) (store_seen c.fetch-front.new.self) c.args.volume c.args.pair) f) c.in-Unreadable.is c.fetch-front.ensures.passes in
    let is : c.in-Ok-passed_of.causes ≡ map (passed_at (c.args.self.now).settings c.args.volume) c.in-Unreadable.causes =
    c.in-Ok-passed_of.ensures.is ∙ ap (λ (over : List PassedReplica). map (passed_at c.self.inside.settings c.args.volume) over) c.as_slice.ensures.is
    ∙ ap (λ (s : Settings). map (passed_at s c.args.volume) c.in-Unreadable.causes) same in
    passed_all g.D.Disk.Tells (NeverIn g.D.Disk.Tells g.D.Disk.files g.D.Piece.Piece.Tells g.D.Disk.fault_count g.D.Disk.fuse_count g.A.Arm.fault_count g.A.Arm.is_sure
    c.args.self.now c.args.tag.lane) (IsSureArm g.A.Arm.is_sure (c.args.self.now).arms c.args.tag.lane) (λ f sure. sure) (c.args.self.now).settings c.args.tag.lane
    c.args.volume c.args.start (counts_of g.D.Disk.fault_count g.A.Arm.fault_count c.args.self.now) (counts_of g.D.Disk.fault_count g.A.Arm.fault_count c.fetch-front.new.self)
    (subst (λ (s : Settings). IsBuilt s) same c.self.invariant.built) c.requires.volume
    (contents_in g.D.Disk.files c.fetch-front.new.self) c.args.pair (store_seen c.fetch-front.new.self) c.in-Unreadable.causes c.in-Ok-passed_of.causes is passes

pub returns-in_default-clause-told : goal.returns-in_default-clause-told
returns-in_default-clause-told g c = λ tells. inl (keeps_photos (store_seen c.args.self.now))

pub returns-in-Unreadable-clause-told : goal.returns-in-Unreadable-clause-told
returns-in-Unreadable-clause-told g c =
    λ tells. inr (home_told (c.args.self.now).settings (contents_in g.D.Disk.files c.args.self.now) (store_seen c.args.self.now) (store_seen c.fetch-front.new.self) c.args.pair
    c.args.volume c.requires.home (c.fetch-front.ensures.told tells))

pub returns-clause-told : goal.returns-clause-told
returns-clause-told g c =
    λ tells. inr (home_told (c.args.self.now).settings (contents_in g.D.Disk.files c.args.self.now) (store_seen c.args.self.now) (store_seen c.fetch-front.new.self) c.args.pair
    c.args.volume c.requires.home (c.fetch-front.ensures.told tells))

pub returns-in-Photo-clause-told : goal.returns-in-Photo-clause-told
returns-in-Photo-clause-told g c = c.fetch-front.ensures.told

pub returns-in-Gone-clause-told : goal.returns-in-Gone-clause-told
returns-in-Gone-clause-told g c = c.fetch-front.ensures.told

pub returns-in-WrongCookie-clause-told : goal.returns-in-WrongCookie-clause-told
returns-in-WrongCookie-clause-told g c = c.fetch-front.ensures.told

pub returns-in-Ok-passed_of-clause-told : goal.returns-in-Ok-passed_of-clause-told
returns-in-Ok-passed_of-clause-told g c = c.fetch-front.ensures.told
