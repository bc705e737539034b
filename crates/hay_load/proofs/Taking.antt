-- What a load told of the lines that it took.
use Rattle.std.proofs.Common.{◌≡◌, inl, inr, ◌<◌, ◌+◌, ℕ, suc, List, [], ◌∷◌, ◌++◌, length, map, take, get_or, Bool, true, false, Some, Result, Err, refl, sym, ap, subst, ◌∙◌}
use Rattle.std.proofs.Common.{arith, append_assoc, length-append}
use Rattle.std.proofs.lemmas.List.{append-nil, map-append}
use Rattle.std.proofs.Math.Seq.{take-suc}
use Rattle.std.proofs.lemmas.Result.{IfErr-at_err}
use Rattle.std.specs.List.{AllByRecursion}
use Rattle.std.specs.Prelude.{if◌then◌else◌, IfErr}
use Rattle.hay_needle.specs.declared.settings.Settings.{Settings}
use Rattle.hay_disk.specs.Disk.{Files}
use Rattle.hay_reply.specs.declared.Refused.{Refused}
use Rattle.hay_reply.specs.declared.Reply.TheVariants.{BadLine}
use Rattle.hay_batch.specs.declared.fault.FullTry.{FullTry}
use Rattle.hay_batch.specs.declared.fault.LoadFault.{LoadFault}
use Rattle.hay_batch.specs.declared.photo.NewPhoto.{NewPhoto}
use Rattle.hay_batch.specs.declared.store.LoadStore.{LoadStore}
use Rattle.hay_batch.specs.Shelves.{MayLeaveDisks, OpensStore, StandsAs, StoredStore}
use Rattle.hay_batch.specs.Stores.{IsDiskFault, IsShaped}
use Rattle.hay_batch.proofs.StoredLaws.{stands_left}
use Rattle.hay_load.specs.declared.reply.LoadReply.{LoadReply}
use Rattle.hay_load.specs.declared.reply.LoadReply.TheVariants.{Other}
use Rattle.hay_load.specs.Answers.{AnswersAll, Remembered, SuitAll, reply_lines}
use Rattle.hay_load.specs.Gathering.{Bad, Batch, Group, OpenBatch, Step, closed, joins, put_step}
use Rattle.hay_load.specs.Loads.{Answered, FailsFirst, LeavesFirst, Loads, Remembers, Suited}
use Rattle.hay_load.specs.Replies.{FitsLoad, load_line, refused_of}

-- MORE TRIES

-- one try more, as a run tells it
pub refused_more : (tries : List FullTry) (i : ℕ) (d : FullTry) (told more : List Refused) (one : Refused) → i < length tries → told ≡ map refused_of (take i tries)
    → one ≡ refused_of (get_or tries i d)
    → more ≡ told ++ one ∷ [] → more ≡ map refused_of (take (i + 1) tries)
refused_more tries i d told more one within are is longer =
    let next : suc i ≡ i + 1 = omega arith in
    longer ∙ ap (λ (l : List Refused). l ++ one ∷ []) are ∙ ap (λ (r : Refused). map refused_of (take i tries) ++ r ∷ []) is
    ∙ sym (map-append refused_of (take i tries) (get_or tries i d ∷ [])) ∙ ap (λ (l : List FullTry). map refused_of l) (sym (take-suc tries i d within))
    ∙ ap (λ n. map refused_of (take n tries)) next

-- MORE GROUPS

pub answers_more : (settings : Settings) (s mid new : StoredStore) (groups more : List Group) (replies others : List LoadReply) → AnswersAll settings s groups replies mid
    → AnswersAll settings mid more others new
    → AnswersAll settings s (groups ++ more) (replies ++ others) new
answers_more settings s mid new [] more [] others first second = subst (λ (x : StoredStore). AnswersAll settings x more others new) first second
answers_more settings s mid new [] more (reply ∷ replies) others first second = absurd first
answers_more settings s mid new (group ∷ groups) more [] others first second = absurd first
answers_more settings s mid new (Bad line ∷ groups) more (reply ∷ replies) others first second = (first.0, answers_more settings s mid new groups more replies others first.1 second)
answers_more settings s mid new (Batch line photos ∷ groups) more (reply ∷ replies) others first second =
    (first.0, first.1, answers_more settings first.0 mid new groups more replies others first.2 second)

lines_more : (groups more : List Group) (replies others : List LoadReply) → length replies ≡ length groups
    → reply_lines (groups ++ more) (replies ++ others) ≡ reply_lines groups replies ++ reply_lines more others
lines_more [] more [] others many = refl
lines_more [] more (reply ∷ replies) others many = absurd (omega (arith, many))
lines_more (group ∷ groups) more [] others many = absurd (omega (arith, many))
lines_more (Bad line ∷ groups) more (reply ∷ replies) others many =
    ap (λ (l : List ℕ). load_line line reply ++ l) (lines_more groups more replies others (let less : length replies ≡ length groups = omega (arith, many) in less))
    ∙ sym (append_assoc (load_line line reply) (reply_lines groups replies) (reply_lines more others))
lines_more (Batch line photos ∷ groups) more (reply ∷ replies) others many =
    ap (λ (l : List ℕ). load_line line reply ++ l) (lines_more groups more replies others (let less : length replies ≡ length groups = omega (arith, many) in less))
    ∙ sym (append_assoc (load_line line reply) (reply_lines groups replies) (reply_lines more others))

pub suit_more : (settings : Settings) (known mid new : Remembered) (groups more : List Group) (replies others : List LoadReply) → SuitAll settings known groups replies mid
    → SuitAll settings mid more others new → SuitAll settings known (groups ++ more) (replies ++ others) new
suit_more settings known mid new [] more [] others first second = subst (λ (x : Remembered). SuitAll settings x more others new) first second
suit_more settings known mid new [] more (reply ∷ replies) others first second = absurd first
suit_more settings known mid new (group ∷ groups) more [] others first second = absurd first
suit_more settings known mid new (Bad line ∷ groups) more (reply ∷ replies) others first second = (first.0, suit_more settings known mid new groups more replies others first.1 second)
suit_more settings known mid new (Batch line photos ∷ groups) more (reply ∷ replies) others first second =
    (first.0, first.1, suit_more settings first.0 mid new groups more replies others first.2 second)

-- so it is of the numbers of more replies
pub fit_more : {X : Type 0} (P : X → Type 0) (xs ys : List X) → AllByRecursion P xs → AllByRecursion P ys → AllByRecursion P (xs ++ ys)
fit_more P [] ys first second = second
fit_more P (x ∷ xs) ys first second = (first.0, fit_more P xs ys first.1 second)

module _ {D : Type 0} (Tells : Type 0) (files : D → Files) where
  pub loads_none : (old new : LoadStore D) (before after : List ℕ) → new ≡ old → after ≡ before → Loads Tells files [] old new before after
  loads_none old new before after same told = record {
    replies = [];
    many = refl;
    fit = tt;
    suited = λ known was. record { known = known; suit = refl; remembers = subst (λ (store : LoadStore D). Remembers store known) (sym same) was };
    told = told ∙ sym (append-nil before);
    answers = λ tells s stands. record { stored = s; answers = refl; stands = subst (λ (store : LoadStore D). StandsAs files store s) (sym same) stands };
  }

  pub loads_bad : (line : ℕ) (old new : LoadStore D) (before after : List ℕ) → new ≡ old → after ≡ before ++ load_line line (Other BadLine) → Loads Tells files (Bad line ∷ []) old new before after
  loads_bad line old new before after same told = record {
    replies = Other BadLine ∷ [];
    many = refl;
    fit = (tt, tt);
    suited = λ known was. record { known = known; suit = (refl, refl); remembers = subst (λ (store : LoadStore D). Remembers store known) (sym same) was };
    told = told ∙ ap (λ (l : List ℕ). before ++ l) (sym (append-nil (load_line line (Other BadLine))));
    answers = λ tells s stands. record { stored = s; answers = (refl, refl); stands = subst (λ (store : LoadStore D). StandsAs files store s) (sym same) stands };
  }

  pub loads_batch : (line : ℕ) (photos : List NewPhoto) (reply : LoadReply) (old new : LoadStore D) (before after : List ℕ)
      → FitsLoad reply → ((known : Remembered) → Remembers old known → Suited old.settings known photos reply new) → after ≡ before ++ load_line line reply
      → (Tells → (s : StoredStore) → StandsAs files old s → Answered files old.settings s photos reply new) → Loads Tells files (Batch line photos ∷ []) old new before after
  loads_batch line photos reply old new before after fits suited told answered = record {
    replies = reply ∷ [];
    many = refl;
    fit = (fits, tt);
    suited = λ known was.
        let a = suited known was in
        record { known = a.known; suit = (a.known, a.suits, refl); remembers = a.remembers };
    told = told ∙ ap (λ (l : List ℕ). before ++ l) (sym (append-nil (load_line line reply)));
    answers = λ tells s stands.
        let a = answered tells s stands in
        record { stored = a.stored; answers = (a.stored, a.answers, refl); stands = a.stands };
  }

  pub loads_more : (groups more : List Group) (old mid new : LoadStore D) (before middle after : List ℕ) → mid.settings ≡ old.settings
      → Loads Tells files groups old mid before middle → Loads Tells files more mid new middle after → Loads Tells files (groups ++ more) old new before after
  loads_more groups more old mid new before middle after same first second = record {
    replies = first.replies ++ second.replies;
    many = (let a = length-append first.replies second.replies in let b = length-append groups more in let m = first.many in let n = second.many in omega (arith, a, b, m, n));
    fit = fit_more FitsLoad first.replies second.replies first.fit second.fit;
    suited = λ known was.
        let a = first.suited known was in
        let b = second.suited a.known a.remembers in
        record {
          known = b.known;
          suit = suit_more old.settings known a.known b.known groups more first.replies second.replies a.suit
              (subst (λ (x : Settings). SuitAll x a.known more second.replies b.known) same b.suit);
          remembers = b.remembers;
        };
    told = second.told ∙ ap (λ (l : List ℕ). l ++ reply_lines more second.replies) first.told ∙ append_assoc before (reply_lines groups first.replies) (reply_lines more second.replies)
        ∙ ap (λ (l : List ℕ). before ++ l) (sym (lines_more groups more first.replies second.replies first.many));
    answers = λ tells s stands.
        let a = first.answers tells s stands in
        let b = second.answers tells a.stored a.stands in
        record {
          stored = b.stored;
          answers = answers_more old.settings s a.stored b.stored groups more first.replies second.replies a.answers
              (subst (λ (x : Settings). AnswersAll x a.stored more second.replies b.stored) same b.answers);
          stands = b.stands;
        };
  }

-- what an opening finds where nothing was changed
pub left_untouched : {D : Type 0} (files : D → Files) (s : StoredStore) (old new : LoadStore D) (image : ℕ → ℕ → List ℕ) → new ≡ old → IsShaped old → StandsAs files old s
    → MayLeaveDisks files new image → OpensStore old.settings image s
left_untouched {D} files s old new image same shape stands leaves = stands_left files s old image shape stands (subst (λ (store : LoadStore D). MayLeaveDisks files store image) same leaves)

-- and so it is of any groups
pub left_first : (settings : Settings) (groups : List Group) (image : ℕ → ℕ → List ℕ) (s : StoredStore) → OpensStore settings image s → LeavesFirst settings groups image s
left_first settings [] image s opens = opens
left_first settings (Bad line ∷ groups) image s opens = opens
left_first settings (Batch line photos ∷ groups) image s opens = inl opens

-- and so it is where more groups follow
pub left_more : (settings : Settings) (groups more : List Group) (image : ℕ → ℕ → List ℕ) (s : StoredStore) → LeavesFirst settings groups image s → LeavesFirst settings (groups ++ more) image s
left_more settings [] more image s left = left_first settings more image s left
left_more settings (Bad line ∷ groups) more image s left = left
left_more settings (Batch line photos ∷ groups) more image s left = left

pub fails_more : {D : Type 0} (fault_count : D → ℕ) (groups more : List Group) (old new : LoadStore D) (before after : List ℕ) → FailsFirst fault_count groups old new before after
    → FailsFirst fault_count (groups ++ more) old new before after
fails_more fault_count groups more old new before after fails = record {
  batch = fails.batch;
  behind = fails.behind ++ more;
  is = ap (λ (l : List Group). l ++ more) fails.is;
  slot = fails.slot;
  faults = fails.faults;
  fails = fails.fails;
  reply = fails.reply;
  fits = fails.fits;
  failed = fails.failed;
  told = fails.told;
}

-- a photo that joins ends no group
pub joined_groups : (number : ℕ) (batch : OpenBatch) (photo : NewPhoto) → joins batch.photos photo ≡ true → (put_step number (Some batch) photo).groups ≡ []
joined_groups number batch photo joined =
    let step : Bool → Step = λ b. if b then record { groups = []; held = Some (record { line = batch.line; photos = batch.photos ++ photo ∷ [] }) } else record
    { groups = closed (Some batch); held = Some (record { line = number; photos = photo ∷ [] }) } in
    ap (λ (b : Bool). (step b).groups) joined

-- one that does not ends the open batch
pub apart_groups : (number : ℕ) (batch : OpenBatch) (photo : NewPhoto) → joins batch.photos photo ≡ false → (put_step number (Some batch) photo).groups ≡ closed (Some batch)
apart_groups number batch photo apart =
    let step : Bool → Step = λ b. if b then record { groups = []; held = Some (record { line = batch.line; photos = batch.photos ++ photo ∷ [] }) } else record
    { groups = closed (Some batch); held = Some (record { line = number; photos = photo ∷ [] }) } in
    ap (λ (b : Bool). (step b).groups) apart

-- a batch without room is no failure of a disk
pub full_is_none : (fault : LoadFault) (tries : List FullTry) → fault ≡ LoadFault.Full tries → IsDiskFault fault → ⊥
full_is_none fault tries is (inl (slot, faults, failed)) = let both : LoadFault.Full tries ≡ LoadFault.Failed slot faults = sym is ∙ failed in absurd cc
full_is_none fault tries is (inr memory) = let both : LoadFault.Full tries ≡ LoadFault.NoMemory = sym is ∙ memory in absurd cc

-- nor is one with a home
known_is_none : (volume : ℕ) → IsDiskFault (LoadFault.Known volume) → ⊥
known_is_none volume (inl (slot, faults, failed)) = absurd cc
known_is_none volume (inr memory) = absurd cc

pub kept_known : {T : Type 0} (r : Result T LoadFault) (volume : ℕ) (P : Type 0) → r ≡ Err (LoadFault.Known volume) → IfErr r (λ (fault : LoadFault). (IsDiskFault fault → ⊥) → P) → P
kept_known r volume P is kept = IfErr-at_err (λ (fault : LoadFault). (IsDiskFault fault → ⊥) → P) is kept (known_is_none volume)
