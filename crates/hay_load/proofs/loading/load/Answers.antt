use Rattle.std.proofs.Common.{List, [], refl, subst}
use Rattle.hay_needle.specs.declared.settings.Settings.{Settings}
use Rattle.hay_batch.specs.declared.photo.NewPhoto.{NewPhoto}
use Rattle.hay_load.specs.Loads.{Answered, FailsBatch, IsFailed, LeavesNew, Suited, batch_of}
use Rattle.hay_load.proofs.Taking.{loads_batch}
use Rattle.hay_load.proofs.loading.load.Goals as goal

pub returns-in_ok-load_line-in-Ok-clause-loads : goal.returns-in_ok-load_line-in-Ok-clause-loads
returns-in_ok-load_line-in-Ok-clause-loads g c =
    loads_batch g.D.Disk.Tells g.D.Disk.files c.args.batch.now.line c.args.batch.now.photos.items c.in-Ok.reply c.args.store.now c.answer.new.store c.args.out.now.items
    c.load_line.new.out.items
    c.in-Ok.ensures.fits
    (λ known was. subst (λ (l : List NewPhoto). Suited c.args.store.now.settings known l c.in-Ok.reply c.answer.new.store) c.as_slice.ensures.value (c.in-Ok.ensures.suited known was))
    c.in_ok-load_line-in-Ok.ensures.ok
    (λ tells s stands. subst (λ (l : List NewPhoto). Answered g.D.Disk.files c.args.store.now.settings s l c.in-Ok.reply c.answer.new.store) c.as_slice.ensures.value
    (c.in-Ok.ensures.answered tells s stands))

pub returns-in_ok-load_line-in-Err-Failed-clause-failed : goal.returns-in_ok-load_line-in-Err-Failed-clause-failed
returns-in_ok-load_line-in-Err-Failed-clause-failed g c = λ _. record {
  batch = batch_of c.args.batch.now;
  behind = [];
  is = refl;
  slot = c.in-Err-Failed.slot;
  faults = c.in-Err-Failed.faults;
  fails = subst (λ (l : List NewPhoto). FailsBatch g.D.Disk.fault_count l c.args.store.now c.answer.new.store c.in-Err-Failed.slot c.in-Err-Failed.faults) c.as_slice.ensures.value
      (c.in-Err-Failed.ensures.failed c.in-Err-Failed.slot c.in-Err-Failed.faults c.in-Err-Failed.field-0-is);
  reply = c.failed_reply-reply.result;
  fits = c.failed_reply-reply.ensures.fits;
  failed = subst (λ (x : Settings). IsFailed x c.in-Err-Failed.slot c.in-Err-Failed.faults c.failed_reply-reply.result) c.answer.ensures.shape.0
      (record { directory = c.failed_reply-reply.ensures.directory; replica = c.failed_reply-reply.ensures.replica });
  told = c.in_ok-load_line-in-Err-Failed.ensures.ok;
}

pub returns-in_err-load_line-in-Ok-clause-left : goal.returns-in_err-load_line-in-Ok-clause-left
returns-in_err-load_line-in-Ok-clause-left g c = λ tells s image stands leaves.
    subst (λ (l : List NewPhoto). LeavesNew c.args.store.now.settings l image s) c.as_slice.ensures.value (c.answer.ensures.left tells s image stands leaves)

pub returns-in_err-load_line-in-Err-Failed-clause-left : goal.returns-in_err-load_line-in-Err-Failed-clause-left
returns-in_err-load_line-in-Err-Failed-clause-left g c = λ tells s image stands leaves.
    subst (λ (l : List NewPhoto). LeavesNew c.args.store.now.settings l image s) c.as_slice.ensures.value (c.answer.ensures.left tells s image stands leaves)

pub returns-in_ok-load_line-in-Ok-clause-left : goal.returns-in_ok-load_line-in-Ok-clause-left
returns-in_ok-load_line-in-Ok-clause-left g c = λ tells s image stands leaves.
    subst (λ (l : List NewPhoto). LeavesNew c.args.store.now.settings l image s) c.as_slice.ensures.value (c.answer.ensures.left tells s image stands leaves)

pub returns-in_ok-load_line-in-Err-Failed-clause-left : goal.returns-in_ok-load_line-in-Err-Failed-clause-left
returns-in_ok-load_line-in-Err-Failed-clause-left g c = λ tells s image stands leaves.
    subst (λ (l : List NewPhoto). LeavesNew c.args.store.now.settings l image s) c.as_slice.ensures.value (c.answer.ensures.left tells s image stands leaves)
