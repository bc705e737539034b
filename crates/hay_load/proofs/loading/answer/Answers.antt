use Rattle.std.proofs.Common.{◌≡◌, ◌∙◌, inl, inr, ℕ, Err, ap, subst, sym}
use Rattle.hay_batch.specs.declared.fault.LoadFault.{LoadFault}
use Rattle.hay_batch.specs.Directories.{IsFirstHome}
use Rattle.hay_load.specs.Gathering.{key_of}
use Rattle.hay_load.specs.Replies as texts
use Rattle.hay_load.proofs.Answering.{full_answer, full_suits, known_suits, left_new, loaded_answer, loaded_suits}
use Rattle.hay_load.proofs.Taking.{full_is_none, kept_known}
use Rattle.hay_load.proofs.loading.answer.Goals as goal

pub load_batch-requires-clause-key : goal.load_batch-requires-clause-key
load_batch-requires-clause-key g c = (key_of c.args.photos.now, c.requires.gathered.key)

pub returns-in-Ok-clause-answered : goal.returns-in-Ok-clause-answered
returns-in-Ok-clause-answered g c = λ tells s stands. elim c.in-Ok.ensures.homes [
  | inl known ↦ absurd (let both = known.1 in cc)
  | inr none ↦ loaded_answer g.D.Disk.files s c.args.photos.now c.args.store.now c.load_batch.new.self c.requires.shape stands c.in-Ok.field-0.volume c.in-Ok.field-0.rows none.1
      (c.in-Ok.ensures.room (key_of c.args.photos.now) c.requires.gathered.key) c.in-Ok.ensures.rows (c.in-Ok.ensures.stored tells s stands)
]

pub returns-in-Ok-full_reply-clause-answered : goal.returns-in-Ok-full_reply-clause-answered
returns-in-Ok-full_reply-clause-answered g c = λ tells s stands.
    let told = c.in-Err-Full.ensures in
    let tries = c.in-Err-Full.tries in
    let is = c.in-Err-Full.field-0-is in
    elim told.homes [
      | inl known ↦ absurd (let both : c.in-Err-Full.field-0 ≡ LoadFault.Known known.0 = (let e = known.1 in cc) in let apart : LoadFault.Full tries ≡ LoadFault.Known known.0 = sym is ∙ both in cc)
      | inr none ↦ full_answer g.D.Disk.files s c.args.photos.now c.args.store.now c.load_batch.new.self c.requires.shape stands tries c.in-Ok-full_reply.reply
          (told.kept (full_is_none c.in-Err-Full.field-0 tries is)) none.1
          (told.full tries is (key_of c.args.photos.now) c.requires.gathered.key) (c.in-Ok-full_reply.ensures.is ∙ ap texts.full_reply c.as_slice.ensures)
    ]

pub returns-in-Ok-clause-left : goal.returns-in-Ok-clause-left
returns-in-Ok-clause-left g c = λ tells s image stands leaves.
    let told = c.load_batch.ensures in
    left_new g.D.Disk.files s c.args.photos.now c.args.store.now c.load_batch.new.self image c.load_batch.result c.requires.shape stands leaves told.homes told.kept
    c.requires.gathered.key (told.left_stored tells s image stands leaves)

pub returns-in-Ok-full_reply-clause-left : goal.returns-in-Ok-full_reply-clause-left
returns-in-Ok-full_reply-clause-left g c = λ tells s image stands leaves.
    let told = c.load_batch.ensures in
    left_new g.D.Disk.files s c.args.photos.now c.args.store.now c.load_batch.new.self image c.load_batch.result c.requires.shape stands leaves told.homes told.kept
    c.requires.gathered.key (told.left_stored tells s image stands leaves)

pub returns-in-Err-Full-clause-left : goal.returns-in-Err-Full-clause-left
returns-in-Err-Full-clause-left g c = λ tells s image stands leaves.
    let told = c.load_batch.ensures in
    left_new g.D.Disk.files s c.args.photos.now c.args.store.now c.load_batch.new.self image c.load_batch.result c.requires.shape stands leaves told.homes told.kept
    c.requires.gathered.key (told.left_stored tells s image stands leaves)

pub returns-in-Err-Known-clause-left : goal.returns-in-Err-Known-clause-left
returns-in-Err-Known-clause-left g c = λ tells s image stands leaves.
    let told = c.load_batch.ensures in
    left_new g.D.Disk.files s c.args.photos.now c.args.store.now c.load_batch.new.self image c.load_batch.result c.requires.shape stands leaves told.homes told.kept
    c.requires.gathered.key (told.left_stored tells s image stands leaves)

pub returns-in-Err-Failed-clause-left : goal.returns-in-Err-Failed-clause-left
returns-in-Err-Failed-clause-left g c = λ tells s image stands leaves.
    let told = c.load_batch.ensures in
    left_new g.D.Disk.files s c.args.photos.now c.args.store.now c.load_batch.new.self image c.load_batch.result c.requires.shape stands leaves told.homes told.kept
    c.requires.gathered.key (told.left_stored tells s image stands leaves)

pub returns-clause-left : goal.returns-clause-left
returns-clause-left g c = λ tells s image stands leaves.
    let told = c.load_batch.ensures in
    left_new g.D.Disk.files s c.args.photos.now c.args.store.now c.load_batch.new.self image c.load_batch.result c.requires.shape stands leaves told.homes told.kept
    c.requires.gathered.key (told.left_stored tells s image stands leaves)

pub returns-in-Ok-clause-suited : goal.returns-in-Ok-clause-suited
returns-in-Ok-clause-suited g c = λ known was. elim c.in-Ok.ensures.homes [
  | inl home ↦ absurd (let both = home.1 in cc)
  | inr none ↦ loaded_suits known c.args.photos.now c.args.store.now c.load_batch.new.self c.requires.shape was c.load_batch.ensures.shape.1 c.load_batch.ensures.shape.0 c.in-Ok.field-0.volume
      c.in-Ok.ensures.ends c.in-Ok.field-0.rows none.1 (c.in-Ok.ensures.room (key_of c.args.photos.now) c.requires.gathered.key) c.in-Ok.ensures.rows c.in-Ok.ensures.settled
      c.in-Ok.ensures.counted
]

pub returns-in-Ok-full_reply-clause-suited : goal.returns-in-Ok-full_reply-clause-suited
returns-in-Ok-full_reply-clause-suited g c = λ known was.
    let told = c.in-Err-Full.ensures in
    let tries = c.in-Err-Full.tries in
    let is = c.in-Err-Full.field-0-is in
    elim told.homes [
      | inl home ↦ absurd (let both : c.in-Err-Full.field-0 ≡ LoadFault.Known home.0 = (let e = home.1 in cc) in let apart : LoadFault.Full tries ≡ LoadFault.Known home.0 = sym is ∙ both in cc)
      | inr none ↦ full_suits known c.args.photos.now c.args.store.now c.load_batch.new.self c.requires.shape was tries c.in-Ok-full_reply.reply
          (told.kept (full_is_none c.in-Err-Full.field-0 tries is)) none.1
          (told.full tries is (key_of c.args.photos.now) c.requires.gathered.key) (c.in-Ok-full_reply.ensures.is ∙ ap texts.full_reply c.as_slice.ensures)
    ]

pub returns-in-Err-Known-clause-suited : goal.returns-in-Err-Known-clause-suited
returns-in-Err-Known-clause-suited g c = λ known was.
    let told = c.load_batch.ensures in
    let volume = c.in-Err-Known.volume in
    let fault : c.load_batch.result ≡ Err (LoadFault.Known volume) = (let answer = c.in-Err-Known.is in let is = c.in-Err-Known.field-0-is in cc) in
    elim told.homes [
      | inl home ↦
          let same : home.0 ≡ volume = (let e = home.1 in cc) in
          known_suits known c.args.photos.now c.args.store.now c.load_batch.new.self c.requires.shape was volume
          (kept_known c.load_batch.result home.0 (c.load_batch.new.self ≡ c.args.store.now) home.1 told.kept)
          (subst (λ (v : ℕ). IsFirstHome c.args.store.now.directory.homes c.args.photos.now v) same home.2)
      | inr none ↦ absurd (none.0 volume fault)
    ]

pub returns-in-Err-Failed-clause-failed : goal.returns-in-Err-Failed-clause-failed
returns-in-Err-Failed-clause-failed g c = λ slot faults is.
    let told = c.in-Err-Failed.ensures in
    let failed : c.in-Err-Failed.field-0 ≡ LoadFault.Failed slot faults = (let is' = c.in-Err-Failed.field-0-is in cc) in
    let fails = told.failed slot faults failed in
    elim told.homes [
      | inl known ↦ absurd
          (let both : c.in-Err-Failed.field-0 ≡ LoadFault.Known known.0 = (let e = known.1 in cc) in
          let apart : LoadFault.Failed slot faults ≡ LoadFault.Known known.0 = sym failed ∙ both in
          cc)
      | inr none ↦ record { homeless = none.1; volume = fails.0; room = fails.1 (key_of c.args.photos.now) c.requires.gathered.key; fails = fails.2 }
    ]
