-- The rows of a put.
use Rattle.std.proofs.Common.{◌≡◌, ◌≢◌, ℕ, ◌+◌, ◌<◌, ◌≤◌, true, false, List, length, Option, Some, None, refl, sym, ap, subst, ◌∙◌, inl, inr, arith}
use Rattle.std.specs.Prelude.{not, ◌==◌, map, is_none, is_some, nat_lt, slice_set, slice_index}
use Rattle.std.specs.List.{list_any}
use Rattle.std.specs.Bool.{Decides}
use Rattle.std.proofs.lemmas.Bool.Decides.{Decides-eqb, Decides-and, Decides-ltb}
use Rattle.hay_needle.specs.declared.needle.Pair.{Pair}
use Rattle.hay_needle.specs.declared.needle.Cookie.{Cookie}
use Rattle.hay_needle.specs.declared.settings.Settings.{Settings}
use Rattle.hay_url.specs.Url.{cookie_of}
use Rattle.hay_disk.specs.Counts.{Rose}
use Rattle.hay_core.specs.declared.entry.CoreTag.{CoreTag}
use Rattle.hay_reply.specs.declared.Reply.{Reply}
use Rattle.hay_reply.specs.declared.Reply.TheVariants as reply
use Rattle.hay_legal.specs.declared.known.Known.{Known}
use Rattle.hay_legal.specs.declared.known.DirKnown.{DirKnown}
use Rattle.hay_legal.specs.Known.{Leaves, NoneFalls, home_of, volume_at, taker_of, settled, slot_of, replica_on, refusal_of, tries_of, fault_count}
use Rattle.hay_legal.specs.Plain.{LegalPut, DirectoryOpen, as_closed, wants_room, put_frozen, row_pending}
use Rattle.hay_audit_steps.specs.CheckerSteps.{Below, IsStep, with_counts}
use Rattle.hay_audit_steps.specs.Next.{is_at, cookie_eq, refuse_so, is_dir_open, stored, with_fault, is_least, rises_to, put_failed_by, row_failed_by, next_put}
use Rattle.hay_audit_steps.proofs.Counts.{falls_refl, falls_set, falls_at, falls_length, falls_raised, index_set, index_there}
use Rattle.hay_audit_steps.proofs.Rows.{IsRow, stays, comes, kept, never, calm}
use Rattle.hay_audit_steps.proofs.Tests.{tells_at, tells_cookie, tells_none, tells_flag, tells_unset, tells_rise, tells_refusals, tells_open}

abbrev pub put_row : Settings → CoreTag → Pair → List ℕ → Reply → Known → Known → Type 0
put_row settings tag pair bytes r k t = LegalPut settings k tag pair bytes r t

-- what a put needs to be stored
abbrev NeedsStored : Settings → Known → Pair → List ℕ → ℕ → ℕ → ℕ → Cookie → Type 0
NeedsStored settings b pair bytes v p d c =
    (taker_of settings b pair (length bytes) ≡ Some v) × (DirectoryOpen b pair × ((c ≡ cookie_of settings.secret pair.key)
    × ((p ≡ length (volume_at b v).log + 1) × (d ≡ length (settled b.directory.rows pair v)))))

stored_row : (settings : Settings) (b : Known) (tag : CoreTag) (pair : Pair) (bytes : List ℕ) (v p d : ℕ) (c : Cookie)
    → IsRow (put_row settings tag pair bytes (reply.Stored v p d c)) b (stored b tag pair bytes v c) (NeedsStored settings b pair bytes v p d c)
stored_row settings b tag pair bytes v p d c = record {
  yes = λ needs. record {
    taker = needs.0;
    directory = needs.1.0;
    own = needs.1.1.0;
    position = needs.1.1.1.0;
    rows = needs.1.1.1.1;
    leaves = stays b (stored b tag pair bytes v c) refl refl;
  };
  back = λ faults arms fuses t f a r. (
    (r.taker, (r.directory, (r.own, (r.position, r.rows ∙ ap (λ (dir : DirKnown). length dir.rows) (r.leaves).directory)))),
    comes (stored b tag pair bytes v c) (with_counts b faults arms fuses) (stored (with_counts b faults arms fuses) tag pair bytes v c) t refl refl refl f a r.leaves,
  );
}

-- A COUNT THAT ROSE TO WHAT WAS PRINTED

-- a disk's count that may have risen to f
pub record MayRise (b : Known) (slot f : ℕ) : Type 0 where
  pub there : slot < length b.faults
  pub least : fault_count b slot ≤ f
  pub rose : Rose (fault_count b slot) f

pub tells_rises_to : (b : Known) (slot f : ℕ) → Decides (rises_to b slot f) (MayRise b slot f)
tells_rises_to b slot f =
    let all = Decides-and (nat_lt slot (length b.faults)) _ (Decides-ltb slot (length b.faults))
    (Decides-and (is_least (fault_count b slot) f) _ (Decides-ltb (fault_count b slot) (f + 1)) (tells_rise (fault_count b slot) f)) in (
      λ h. (let parts = all.0 h in record { there = parts.0; least = omega (arith, parts.1.0); rose = parts.1.1 }),
      λ h. all.1 (h.there, (omega (arith, h.least), h.rose)),
    )

-- what a printed count needs
pub rose_needs : (b : Known) (slot f : ℕ) (faults : List ℕ) (t : Known)
    → NoneFalls b.faults faults → NoneFalls faults t.faults → fault_count t slot ≡ f → Rose (slice_index faults slot) f
    → MayRise b slot f
rose_needs b slot f faults t first then count rose =
    let before : fault_count b slot ≤ slice_index faults slot = falls_at b.faults faults slot first in
    let later : slice_index faults slot ≤ fault_count t slot = falls_at faults t.faults slot then in
    let some : 0 < fault_count t slot = elim rose [ inl more ↦ omega (arith, more, count) | inr top ↦ omega (arith, top, count) ] in
    let there : slot < length t.faults = index_there t.faults slot some in
    record {
      there = omega (arith, there, falls_length b.faults faults first, falls_length faults t.faults then);
      least = omega (arith, before, later, count);
      rose = elim rose [ inl more ↦ inl (omega (arith, more, before)) | inr top ↦ inr top ];
    }

-- what is left where a count is printed
pub rose_leaves : (b e : Known) (slot f : ℕ) → e.faults ≡ b.faults → e.arms ≡ b.arms → MayRise b slot f → Leaves b e (with_fault e slot f)
rose_leaves b e slot f faults arms may = record {
  volumes = refl;
  directory = refl;
  drained = refl;
  fuses = refl;
  faults = subst (λ (xs : List ℕ). NoneFalls b.faults (slice_set xs slot f)) (sym faults) (falls_raised b.faults slot f may.least);
  arms = subst (λ (xs : List ℕ). NoneFalls b.arms xs) (sym arms) (falls_refl b.arms);
}

-- what comes where a count was printed is as expected, with that count at least
pub rose_comes : (b e k expected t : Known) (slot f : ℕ) → expected.volumes ≡ e.volumes → expected.directory ≡ e.directory → expected.drained ≡ e.drained
    → NoneFalls e.faults k.faults → NoneFalls e.arms k.arms → fault_count t slot ≡ f → Leaves k expected t → Below (with_fault e slot f) t
rose_comes b e k expected t slot f volumes directory drained faults arms count leaves =
    let plain : Below e t = comes e k expected t volumes directory drained faults arms leaves in
    record {
      volumes = plain.volumes;
      directory = plain.directory;
      drained = plain.drained;
      faults = falls_set e.faults t.faults slot f plain.faults (omega (arith, count));
      arms = plain.arms;
    }

-- EACH REPLY

abbrev NeedsFailed : Settings → Known → Pair → List ℕ → ℕ → ℕ → ℕ → Type 0
NeedsFailed settings b pair bytes v f j =
    (taker_of settings b pair (length bytes) ≡ Some v) × (DirectoryOpen b pair × MayRise b (slot_of settings v j) f)

same_some : (a b : ℕ) → Some a ≡ Some b → a ≡ b
same_some a b e = cc

failed_row : (settings : Settings) (b : Known) (tag : CoreTag) (pair : Pair) (bytes : List ℕ) (v m f j : ℕ) → replica_on settings v m ≡ Some j
    → IsRow (put_row settings tag pair bytes (reply.Failed v m f)) b (with_fault (put_frozen settings b tag pair bytes v m true) (slot_of settings v j) f) (NeedsFailed settings b pair bytes v f j)
failed_row settings b tag pair bytes v m f j on = record {
  yes = λ needs. record {
    taker = needs.0;
    directory = needs.1.0;
    replica = j;
    there = on;
    rose = record { count = index_set b.faults (slot_of settings v j) f needs.1.1.there; rose = needs.1.1.rose };
    leaves = rose_leaves b (put_frozen settings b tag pair bytes v m true) (slot_of settings v j) f refl refl needs.1.1;
  };
  back = λ faults arms fuses t first a r.
      let is : r.replica ≡ j = same_some r.replica j (sym r.there ∙ on) in
      let count : fault_count t (slot_of settings v j) ≡ f = subst (λ (i : ℕ). fault_count t (slot_of settings v i) ≡ f) is (r.rose).count in
      let rose : Rose (slice_index faults (slot_of settings v j)) f = subst (λ (i : ℕ). Rose (slice_index faults (slot_of settings v i)) f) is (r.rose).rose in (
        (r.taker, (r.directory, rose_needs b (slot_of settings v j) f faults t first (r.leaves).faults count rose)),
        rose_comes b (put_frozen settings b tag pair bytes v m true) (with_counts b faults arms fuses) (put_frozen settings (with_counts b faults arms fuses) tag pair bytes v m true) t
            (slot_of settings v j) f refl refl refl first a count r.leaves,
      );
}

failed_by : (settings : Settings) (b : Known) (tag : CoreTag) (pair : Pair) (bytes : List ℕ) (v m f : ℕ) (on : Option ℕ) → replica_on settings v m ≡ on
    → IsStep (put_row settings tag pair bytes (reply.Failed v m f)) b (put_failed_by settings b tag pair bytes v m f on)
failed_by settings b tag pair bytes v m f None e =
    never (put_row settings tag pair bytes (reply.Failed v m f)) b (λ faults arms fuses t first a r. let none : None ≡ Some r.replica = sym e ∙ r.there in absurd cc)
failed_by settings b tag pair bytes v m f (Some j) e =
    kept (put_row settings tag pair bytes (reply.Failed v m f)) b (with_fault (put_frozen settings b tag pair bytes v m true) (slot_of settings v j) f) (NeedsFailed settings b pair bytes v f j) _
    (Decides-and (is_at (taker_of settings b pair (length bytes)) v) _ (tells_at (taker_of settings b pair (length bytes)) v)
    (Decides-and (is_dir_open b pair) _ (tells_open b pair) (tells_rises_to b (slot_of settings v j) f)))
    (failed_row settings b tag pair bytes v m f j e)

abbrev NeedsRowFailed : Known → Pair → ℕ → Type 0
NeedsRowFailed b pair f = (home_of b pair ≡ None) × ((b.directory.frozen ≡ false) × MayRise b 0 f)

row_failed_row : (settings : Settings) (b : Known) (tag : CoreTag) (pair : Pair) (bytes : List ℕ) (f v : ℕ) → taker_of settings b pair (length bytes) ≡ Some v
    → IsRow (put_row settings tag pair bytes (reply.FailedDir f)) b (with_fault (row_pending b tag pair v) 0 f) (NeedsRowFailed b pair f)
row_failed_row settings b tag pair bytes f v taker = record {
  yes = λ needs. record {
    needs = record { volume = v; missing = needs.0; taker = taker };
    before = needs.1.0;
    count = index_set b.faults 0 f needs.1.1.there;
    rose = needs.1.1.rose;
    leaves = rose_leaves b (row_pending b tag pair v) 0 f refl refl needs.1.1;
  };
  back = λ faults arms fuses t first a r.
      let is : (r.needs).volume ≡ v = same_some (r.needs).volume v (sym (r.needs).taker ∙ taker) in
      let leaves : Leaves (with_counts b faults arms fuses) (row_pending (with_counts b faults arms fuses) tag pair v) t =
      subst (λ (w : ℕ). Leaves (with_counts b faults arms fuses) (row_pending (with_counts b faults arms fuses) tag pair w) t) is r.leaves in (
        ((r.needs).missing, (r.before, rose_needs b 0 f faults t first (r.leaves).faults r.count r.rose)),
        rose_comes b (row_pending b tag pair v) (with_counts b faults arms fuses) (row_pending (with_counts b faults arms fuses) tag pair v) t 0 f refl refl refl first a r.count leaves,
      );
}

row_failed_steps : (settings : Settings) (b : Known) (tag : CoreTag) (pair : Pair) (bytes : List ℕ) (f : ℕ) (taker : Option ℕ) → taker_of settings b pair (length bytes) ≡ taker
    → IsStep (put_row settings tag pair bytes (reply.FailedDir f)) b (row_failed_by b tag pair f taker)
row_failed_steps settings b tag pair bytes f None e =
    never (put_row settings tag pair bytes (reply.FailedDir f)) b (λ faults arms fuses t first a r. let none : None ≡ Some (r.needs).volume = sym e ∙ (r.needs).taker in absurd cc)
row_failed_steps settings b tag pair bytes f (Some v) e =
    kept (put_row settings tag pair bytes (reply.FailedDir f)) b (with_fault (row_pending b tag pair v) 0 f) (NeedsRowFailed b pair f) _
    (Decides-and (is_none (home_of b pair)) _ (tells_none (home_of b pair))
    (Decides-and (not b.directory.frozen) _ (tells_unset b.directory.frozen) (tells_rises_to b 0 f)))
    (row_failed_row settings b tag pair bytes f v e)

tells_some : (o : Option ℕ) → Decides (is_some o) ((x : ℕ) × (o ≡ Some x))
tells_some None = (λ h. absurd cc, λ h. absurd (let e : None ≡ Some h.0 = h.1 in cc))
tells_some (Some x) = (λ h. (x, refl), λ h. refl)

pub put_step : (settings : Settings) (b : Known) (tag : CoreTag) (pair : Pair) (bytes : List ℕ) (r : Reply) → r ≢ reply.NoMem
    → IsStep (put_row settings tag pair bytes r) b (next_put settings b tag pair bytes r)
put_step settings b tag pair bytes (reply.Stored v p d c) known =
    kept (put_row settings tag pair bytes (reply.Stored v p d c)) b (stored b tag pair bytes v c) (NeedsStored settings b pair bytes v p d c) _
    (Decides-and (is_at (taker_of settings b pair (length bytes)) v) _ (tells_at (taker_of settings b pair (length bytes)) v)
    (Decides-and (is_dir_open b pair) _ (tells_open b pair)
    (Decides-and (cookie_eq c (cookie_of settings.secret pair.key)) _ (tells_cookie c (cookie_of settings.secret pair.key))
    (Decides-and (p == length (volume_at b v).log + 1) (d == length (settled b.directory.rows pair v)) (Decides-eqb p (length (volume_at b v).log + 1))
    (Decides-eqb d (length (settled b.directory.rows pair v)))))))
    (stored_row settings b tag pair bytes v p d c)
put_step settings b tag pair bytes (reply.Full refused) known =
    kept (put_row settings tag pair bytes (reply.Full refused)) b b _ _
    (Decides-and (refuse_so (map (refusal_of settings b (length bytes)) (tries_of settings b pair)) refused) (list_any wants_room refused)
    (tells_refusals (map (refusal_of settings b (length bytes)) (tries_of settings b pair)) refused) (tells_flag (list_any wants_room refused)))
    (calm (put_row settings tag pair bytes (reply.Full refused)) b _ (λ needs leaves. (needs.0, needs.1, leaves)) (λ faults arms fuses t r. ((r.0, r.1), r.2)))
put_step settings b tag pair bytes (reply.ReadOnly closed) known =
    kept (put_row settings tag pair bytes (reply.ReadOnly closed)) b b _ _
    (tells_refusals (map (refusal_of settings b (length bytes)) (tries_of settings b pair)) (map as_closed closed))
    (calm (put_row settings tag pair bytes (reply.ReadOnly closed)) b _ (λ needs leaves. (needs, leaves)) (λ faults arms fuses t r. (r.0, r.1)))
put_step settings b tag pair bytes reply.ReadOnlyDir known =
    kept (put_row settings tag pair bytes reply.ReadOnlyDir) b b _ _
    (Decides-and (is_none (home_of b pair)) _ (tells_none (home_of b pair))
    (Decides-and (is_some (taker_of settings b pair (length bytes))) b.directory.frozen (tells_some (taker_of settings b pair (length bytes))) (tells_flag b.directory.frozen)))
    (calm (put_row settings tag pair bytes reply.ReadOnlyDir) b _
    (λ needs leaves. (record { volume = needs.1.0.0; missing = needs.0; taker = needs.1.0.1 }, needs.1.1, leaves))
    (λ faults arms fuses t r. ((r.0.missing, ((r.0.volume, r.0.taker), r.1)), r.2)))
put_step settings b tag pair bytes (reply.Failed v m f) known = failed_by settings b tag pair bytes v m f (replica_on settings v m) refl
put_step settings b tag pair bytes (reply.FailedDir f) known = row_failed_steps settings b tag pair bytes f (taker_of settings b pair (length bytes)) refl
put_step settings b tag pair bytes reply.NoMem known = absurd (known refl)
put_step settings b tag pair bytes r known = never (put_row settings tag pair bytes r) b (λ faults arms fuses t first a lie. lie)
